-- Two files' bytes, one after the other.
use Rattle.std.proofs.Common.{◌≡◌, ℕ, ◌-◌, ◌<◌, List, [], ◌∷◌, ◌++◌, length, ap, subst, arith}
use Rattle.std.proofs.lemmas.List.{length-append}
use Rattle.theory.specs.Banks.{Bank}
use Rattle.theory.specs.Calls.{Plan}
use Rattle.records.specs.Fields.{got}
use Rattle.records.specs.Records.{Sent, read_record}
use Rattle.records.proofs.Shrinks.{Fewer, record_fewer}
use Rattle.files.specs.Plays.{after_call, after_line}
use Rattle.files.proofs.Playing.{after_more}
use Rattle.host.specs.Laws.{played, Entry, entry_line, lines, Run, InTurn}
use Rattle.host.proofs.Grows.{record_stays}
use Rattle.host.proofs.Inducts.{goes_on}

-- a record that is read has bytes
some_bytes : (bytes rest : List ℕ) (sent : Sent) → read_record bytes ≡ got sent rest → 0 < length bytes
some_bytes bytes rest sent e = omega (arith, subst (Fewer (length bytes)) e (record_fewer bytes))

module _ (bank : Bank) (size : ℕ) (second : List ℕ) where
  abbrev before : ℕ
  before = size - length second

  turn : (room : ℕ) (plan after : Plan) (first : List ℕ) (entries : List Entry) → Run bank before room plan first entries after []
      → played bank size room plan (first ++ second) ≡ after_line (lines entries) (played bank size (room - length (lines entries)) after second)
  turn room plan after first [] run =
      let same : room - 0 ≡ room = omega arith in cc
  turn room plan after first (entry ∷ entries) run =
      let sent = run.0 in
      let rest = run.1 in
      let line = entry_line entry in
      let some = some_bytes first rest sent run.3 in
      let l = length-append first second in
      let place : size - length (first ++ second) ≡ before - length first = omega arith in
      let fits : room - length (line ++ lines entries) ≡ (room - length line) - length (lines entries) = omega (arith, length-append line (lines entries)) in
      cc (
        ap entry_line run.4,
        goes_on bank size room plan (first ++ second) (omega arith) run.2 sent (rest ++ second) (record_stays first second sent rest run.3),
        turn (room - length line) (after_call bank plan sent) after rest entries run.5,
        after_more line (lines entries) (played bank size ((room - length line) - length (lines entries)) after second),
      )

pub in_turn : InTurn
in_turn bank size room plan after first second = turn bank size second room plan after first
