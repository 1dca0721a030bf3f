-- Every line is printable text and then byte 10.
use Rattle.std.proofs.Common.{◌≡◌, ℕ, ◌+◌, ◌%◌, true, ◌++◌, Ok, Err, codes, Result, refl, arith, lit≤}
use Rattle.std.specs.List.{list_all}
use Rattle.std.proofs.lemmas.Bool.Decides.{nat_tests}
use Rattle.theory.specs.Calls.{Refused}
use Rattle.theory.specs.Verdicts.{broken, smaller, stable}
use Rattle.files.specs.Lines.{Said, atom, entered, judged, two_digits, hex_digit, eight_hex, refusal_text, refusal_line}
use Rattle.files.specs.Plays.{line_at}
use Rattle.host.specs.Laws.{printable, ALine, LinesAreText}

digit : (n : ℕ) → printable (48 + n % 10) ≡ true
digit n = grind (arith, nat_tests)

hex : (n : ℕ) → printable (hex_digit (n % 16)) ≡ true
hex n = grind (arith, nat_tests)

two : (n : ℕ) → list_all printable (two_digits n) ≡ true
two n = simp digit

eight : (n : ℕ) → list_all printable (eight_hex n) ≡ true
eight n = simp hex

refusal_plain : (number offset tally element : ℕ) → list_all printable (codes "NO " ++ refusal_text number offset tally element) ≡ true
refusal_plain number offset tally element = simp (digit, hex)

refusal_a_line : (number offset tally element : ℕ) → ALine (refusal_line number offset tally element)
refusal_a_line number offset tally element =
    record { short = lit≤ tt; body = codes "NO " ++ refusal_text number offset tally element; ended = refl; plain = refusal_plain number offset tally element }

a_line : (offset : ℕ) (answer : Result Said Refused) → ALine (line_at offset answer)
a_line offset (Ok (atom n)) = record { short = lit≤ tt; body = codes "ATOM " ++ two_digits n; ended = refl; plain = two n }
a_line offset (Ok (entered n)) = record { short = lit≤ tt; body = codes "RULE " ++ two_digits n; ended = refl; plain = two n }
a_line offset (Ok (judged (broken n))) = record { short = lit≤ tt; body = codes "BROKEN " ++ two_digits n; ended = refl; plain = two n }
a_line offset (Ok (judged (smaller s))) = record { short = lit≤ tt; body = codes "SMALLER " ++ eight_hex s; ended = refl; plain = eight s }
a_line offset (Ok (judged stable)) = record { short = lit≤ tt; body = codes "STABLE"; ended = refl; plain = refl }
a_line offset (Err f) = refusal_a_line _ offset f.tally f.element

pub lines_are_text : LinesAreText
lines_are_text = (a_line, λ offset fault. refusal_a_line _ offset 0 0)
