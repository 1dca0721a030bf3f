-- What holds of every play, by its records.
use Rattle.std.proofs.Common.{◌≡◌, ℕ, zero, suc, ◌+◌, ◌-◌, ◌<◌, ◌≤◌, List, [], ◌∷◌, length, sym, refl, subst, inl, inr, arith}
use Rattle.std.proofs.lemmas.Bool.{cases_lt}
use Rattle.theory.specs.Banks.{Bank}
use Rattle.theory.specs.Calls.{Plan}
use Rattle.records.specs.declared.fault.ReaderFault.{ReaderFault}
use Rattle.records.specs.Fields.{Read, got, failed}
use Rattle.records.specs.Records.{Sent, read_record}
use Rattle.records.proofs.Shrinks.{Fewer, record_fewer}
use Rattle.files.specs.Plays.{called, after_call, input_ended, report_full, unreadable, Outcome, ends, after_line, line_at, unread_line}
use Rattle.files.proofs.Playing.{play_done, play_full, play_on, play_stop}
use Rattle.files.proofs.Stepped.{step_got, step_failed}
use Rattle.host.specs.Laws.{played}

-- the line of a record's call, where these bytes are left
abbrev pub its_line : Bank → ℕ → Plan → List ℕ → Sent → List ℕ
its_line bank size plan bytes sent = line_at (size - length bytes) (called bank plan sent)

module _ (bank : Bank) (size room : ℕ) (plan : Plan) (bytes : List ℕ) (some : 0 < length bytes) (enough : 20 ≤ room) where
  pub goes_on : (sent : Sent) (rest : List ℕ) → read_record bytes ≡ got sent rest
      → played bank size room plan bytes ≡ after_line (its_line bank size plan bytes sent) (played bank size (room - length (its_line bank size plan bytes sent)) (after_call bank plan sent) rest)
  goes_on sent rest e =
      play_on bank size room plan bytes some enough (called bank plan sent) (after_call bank plan sent) rest
      (step_got bank plan bytes rest sent (called bank plan sent) (after_call bank plan sent) (sym e) refl refl)

  pub stops : (fault : ReaderFault) → read_record bytes ≡ failed fault
      → played bank size room plan bytes ≡ ends (unread_line (size - length bytes) fault) (unreadable (size - length bytes) fault)
  stops fault e = play_stop bank size room plan bytes some enough fault (step_failed bank plan bytes fault (sym e))

-- a property of plays that holds where nothing is left, where there is no room, where a record cannot be read, and of a play
-- with one record more than one that has it
pub record Inductive (bank : Bank) (size : ℕ) (P : ℕ → Plan → List ℕ → Outcome → Type 0) : Type 0 where
  pub at_end : (room : ℕ) (plan : Plan) → P room plan [] (ends [] input_ended)
  pub full : (room : ℕ) (plan : Plan) (bytes : List ℕ) → 0 < length bytes → room < 20 → P room plan bytes (ends [] report_full)
  pub stop : (room : ℕ) (plan : Plan) (bytes : List ℕ) (fault : ReaderFault) → 0 < length bytes → 20 ≤ room → read_record bytes ≡ failed fault
      → P room plan bytes (ends (unread_line (size - length bytes) fault) (unreadable (size - length bytes) fault))
  pub on : (room : ℕ) (plan : Plan) (bytes : List ℕ) (sent : Sent) (rest : List ℕ) (more : Outcome) → 20 ≤ room → read_record bytes ≡ got sent rest → length rest + 2 ≤ length bytes
      → P (room - length (its_line bank size plan bytes sent)) (after_call bank plan sent) rest more → P room plan bytes (after_line (its_line bank size plan bytes sent) more)

-- a play has it
module _ (bank : Bank) (size : ℕ) (P : ℕ → Plan → List ℕ → Outcome → Type 0) (has : Inductive bank size P) where
  -- by what the next record reads as
  by_record : (room : ℕ) (plan : Plan) (bytes : List ℕ) → 0 < length bytes → 20 ≤ room
      → ((r : ℕ) (p : Plan) (rest : List ℕ) → length rest < length bytes → P r p rest (played bank size r p rest))
      → (r : Read Sent) → read_record bytes ≡ r → Fewer (length bytes) r → P room plan bytes (played bank size room plan bytes)
  by_record room plan bytes some enough rest_has (got sent rest) e fewer =
      subst (P room plan bytes) (sym (goes_on bank size room plan bytes some enough sent rest e))
      (has.on room plan bytes sent rest _ enough e fewer (rest_has (room - length (its_line bank size plan bytes sent)) (after_call bank plan sent) rest (omega arith)))
  by_record room plan bytes some enough rest_has (failed fault) e fewer =
      subst (P room plan bytes) (sym (stops bank size room plan bytes some enough fault e)) (has.stop room plan bytes fault some enough e)

  within : (k room : ℕ) (plan : Plan) (bytes : List ℕ) → length bytes ≤ k → P room plan bytes (played bank size room plan bytes)
  within k room plan [] h = subst (P room plan []) (sym (play_done bank size 0 room plan [] refl)) (has.at_end room plan)
  within zero room plan (b ∷ bs) h = absurd (omega arith)
  within (suc k) room plan (b ∷ bs) h = elim (cases_lt room 20) [
    | inl none ↦ subst (P room plan (b ∷ bs)) (sym (play_full bank size room plan (b ∷ bs) (omega arith) none)) (has.full room plan (b ∷ bs) (omega arith) none)
    | inr enough ↦ by_record room plan (b ∷ bs) (omega arith) enough (λ r p rest less. within k r p rest (omega arith)) (read_record (b ∷ bs)) refl (record_fewer (b ∷ bs))
  ]

  pub every_play : (room : ℕ) (plan : Plan) (bytes : List ℕ) → P room plan bytes (played bank size room plan bytes)
  every_play room plan bytes = within (length bytes) room plan bytes (omega arith)
