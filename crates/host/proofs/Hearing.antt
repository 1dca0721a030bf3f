-- A line tells what it is the line of.
use Rattle.std.proofs.Common.{◌≡◌, ℕ, ◌<◌, Ok, Err, Result, refl, ap, lit≤, arith}
use Rattle.theory.specs.Calls.{Refused, number}
use Rattle.theory.specs.Verdicts.{broken, smaller, stable}
use Rattle.records.specs.declared.fault.ReaderFault.{ReaderFault}
use Rattle.records.specs.Faults.{reader_number}
use Rattle.files.specs.Lines.{Said, atom, entered, judged, refusal_line}
use Rattle.files.specs.Plays.{line_at}
use Rattle.host.specs.Laws.{heard_atom, heard_rule, heard_broken, heard_smaller, heard_no, hear, said_of, Fits, LinesTell}
use Rattle.host.proofs.Digits.{one_back, two_back, eight_back}

no_tells : (n offset tally element : ℕ) → n < 100 → offset < 4294967296 → tally < 10 → element < 100
    → hear (refusal_line n offset tally element) ≡ heard_no n offset tally element
no_tells n offset tally element a b c d = cc (two_back n a, eight_back offset b, one_back tally c, two_back element d)

answer_tells : (offset : ℕ) (answer : Result Said Refused) → Fits answer → offset < 4294967296 → hear (line_at offset answer) ≡ said_of offset answer
answer_tells offset (Ok (atom n)) fits small = ap heard_atom (two_back n fits)
answer_tells offset (Ok (entered n)) fits small = ap heard_rule (two_back n fits)
answer_tells offset (Ok (judged (broken n))) fits small = ap heard_broken (two_back n fits)
answer_tells offset (Ok (judged (smaller s))) fits small = ap heard_smaller (eight_back s fits)
answer_tells offset (Ok (judged stable)) fits small = refl
answer_tells offset (Err f) fits small = no_tells (number f.refusal) offset f.tally f.element fits.0 small fits.1 fits.2

fault_small : (fault : ReaderFault) → reader_number fault < 100
fault_small fault = grind arith

pub lines_tell : LinesTell
lines_tell = (
  λ entry fits. answer_tells entry.offset entry.answer fits.0 fits.1,
  λ offset fault small. no_tells (reader_number fault) offset 0 0 (fault_small fault) small (lit≤ tt) (lit≤ tt),
)
