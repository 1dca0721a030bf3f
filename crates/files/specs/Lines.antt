-- The lines of a report, as bytes.
use Rattle.std.specs.Prelude.{ℕ, ◌+◌, ◌/◌, ◌%◌, cond, List, [], ◌∷◌, ◌++◌, length, take, drop, codes, nat_lt}
use Rattle.theory.specs.Verdicts.{Verdict, broken, smaller, stable}
use Rattle.plans.specs.Refusals.{tally_place, element_place}
use Rattle.judging.specs.Answers.{verdict_of}
use Rattle.files.specs.declared.fault.FileFault.{FileFault}
use Rattle.files.specs.declared.fault.FileFault.TheVariants.{Reader, Plan}
use Rattle.files.specs.declared.fault.Located.{Located}
use Rattle.files.specs.declared.line.Answer.{Answer}
use Rattle.files.specs.declared.line.Answer.TheVariants.{Atom, Entered, Judged}
use Rattle.files.specs.Faults.{fault_number}

-- what a call answers where it is not refused: the new atom's number, the new rule's place, the verdict
pub data Said : Type 0 where
  atom : ℕ → Said
  entered : ℕ → Said
  judged : Verdict → Said

abbrev pub said_of : Answer → Said
said_of (Atom n) = atom n
said_of (Entered place) = entered place
said_of (Judged v) = judged (verdict_of v)

-- two decimal digits
abbrev pub two_digits : ℕ → List ℕ
two_digits n = (48 + n / 10 % 10) ∷ (48 + n % 10) ∷ []

-- 0 to 9, then a to f
abbrev pub hex_digit : ℕ → ℕ
hex_digit d = cond (nat_lt d 10) (48 + d) (87 + d)

-- eight hexadecimal digits
abbrev pub eight_hex : ℕ → List ℕ
eight_hex n =
    hex_digit (n / 268435456 % 16) ∷ hex_digit (n / 16777216 % 16) ∷ hex_digit (n / 1048576 % 16) ∷ hex_digit (n / 65536 % 16)
    ∷ hex_digit (n / 4096 % 16) ∷ hex_digit (n / 256 % 16) ∷ hex_digit (n / 16 % 16) ∷ hex_digit (n % 16) ∷ []

-- every line ends with byte 10
abbrev pub ended : List ℕ → List ℕ
ended text = text ++ 10 ∷ []

abbrev pub verdict_line : Verdict → List ℕ
verdict_line (broken place) = codes "BROKEN " ++ ended (two_digits place)
verdict_line (smaller set) = codes "SMALLER " ++ ended (eight_hex set)
verdict_line stable = ended (codes "STABLE")

abbrev pub said_line : Said → List ℕ
said_line (atom n) = codes "ATOM " ++ ended (two_digits n)
said_line (entered place) = codes "RULE " ++ ended (two_digits place)
said_line (judged v) = verdict_line v

-- the refusal's number, the offset of the record's mark, and the places of the tally and of the element
abbrev pub refusal_text : ℕ → ℕ → ℕ → ℕ → List ℕ
refusal_text number offset tally element =
    two_digits number ++ (32 ∷ (eight_hex offset ++ (32 ∷ (48 + tally % 10) ∷ 32 ∷ two_digits element)))

abbrev pub refusal_line : ℕ → ℕ → ℕ → ℕ → List ℕ
refusal_line number offset tally element = codes "NO " ++ ended (refusal_text number offset tally element)

-- the tally and the element place that enter tested, or zeros
abbrev pub tally_tested : FileFault → ℕ
tally_tested (Reader f) = 0
tally_tested (Plan f) = tally_place f.tested

abbrev pub element_tested : FileFault → ℕ
element_tested (Reader f) = 0
element_tested (Plan f) = element_place f.tested

abbrev pub located_text : Located → List ℕ
located_text l = refusal_text (fault_number l.fault) l.offset (tally_tested l.fault) (element_tested l.fault)

abbrev pub located_line : Located → List ℕ
located_line l = refusal_line (fault_number l.fault) l.offset (tally_tested l.fault) (element_tested l.fault)

-- a text written into a report at an offset, and the rest as it was
abbrev pub written : List ℕ → ℕ → List ℕ → List ℕ
written report at text = take at report ++ (text ++ drop (at + length text) report)
