-- The records of a file: what the bytes that are left read as.
use Rattle.std.specs.Prelude.{◌≡◌, ℕ, zero, suc, Bool, true, false, cond, ◌&&◌, List, [], ◌∷◌, Ok, Err, Result, ◌==◌, ◌≢◌, nat_lt, slice_index}
use Rattle.theory.specs.Rules.{Element, Tally, Rule}
use Rattle.theory.specs.Calls.{relation_coded, sign_coded}
use Rattle.rules.specs.Views.{rule_of}
use Rattle.records.specs.declared.fault.ReaderFault.{ReaderFault}
use Rattle.records.specs.declared.fault.ReaderFault.TheVariants.{UnknownMark, TooManyTallies, TooManyElements, NoMemory}
use Rattle.records.specs.declared.letter.ReadingName.{ReadingName}
use Rattle.records.specs.declared.record.Mark.{Mark}
use Rattle.records.specs.declared.record.Mark.TheVariants.{Name as NA, Rule as RU, Tally as TA, Element as EL, Judge as JU}
use Rattle.records.specs.declared.record.Record.{Record}
use Rattle.records.specs.declared.record.Record.TheVariants.{Name, Rule as WholeRule, Judge}
use Rattle.records.specs.Fields.{Read, got, failed, and_then, read_in, read_slice, read_byte, read_word, read_signed}
use Rattle.records.specs.Letters.{letter_answer}

-- what was answered, unless memory was wanting
abbrev pub Reads : {X A : Type 0} → (X → A) → Result X ReaderFault → List ℕ → Read A → Type 0
Reads view (Ok value) rest should = got (view value) rest ≡ should
Reads view (Err fault) rest should = (fault ≢ NoMemory) → failed fault ≡ should

-- ---- marks: two ASCII bytes
abbrev pub marked : ℕ → ℕ → ℕ → ℕ → Bool
marked a b first second = a == first && b == second

abbrev pub mark_of : ℕ → ℕ → Result Mark ReaderFault
mark_of a b =
    cond (marked a b 78 65) (Ok NA)
    (cond (marked a b 82 85) (Ok RU)
    (cond (marked a b 84 65) (Ok TA)
    (cond (marked a b 69 76) (Ok EL)
    (cond (marked a b 74 85) (Ok JU) (Err UnknownMark)))))

abbrev pub read_mark : List ℕ → Read Mark
read_mark bytes = and_then (read_slice 2 bytes) λ field rest. read_in (λ m. m) (mark_of (slice_index field 0) (slice_index field 1)) rest

abbrev pub same_mark : Mark → Mark → Bool
same_mark NA NA = true
same_mark RU RU = true
same_mark TA TA = true
same_mark EL EL = true
same_mark JU JU = true
same_mark _ _ = false

-- a part of a rule begins with its own mark
abbrev pub is_tally : Mark → Bool
is_tally = same_mark TA

abbrev pub is_element : Mark → Bool
is_element = same_mark EL

abbrev pub expect : (Mark → Bool) → List ℕ → Read (Unit {0})
expect wanted bytes = and_then (read_mark bytes) λ m rest. cond (wanted m) (got tt rest) (failed UnknownMark)

-- ---- rules
-- this many, one after the other
abbrev pub repeated : {A : Type 0} → (List ℕ → Read A) → ℕ → List ℕ → Read (List A)
repeated one zero bytes = got [] bytes
repeated one (suc n) bytes = and_then (one bytes) λ x rest. and_then (repeated one n rest) λ xs rest. got (x ∷ xs) rest

-- the parts behind their count, of which there are at most this many
abbrev pub read_parts : {A : Type 0} → ℕ → ReaderFault → (List ℕ → Read A) → List ℕ → Read (List A)
read_parts most too_many one bytes =
    and_then (read_byte bytes) λ count rest.
    cond (nat_lt most count) (failed too_many) (repeated one count rest)

abbrev pub read_element : List ℕ → Read Element
read_element bytes =
    and_then (expect is_element bytes) λ _ rest.
    and_then (read_word rest) λ ins rest.
    and_then (read_word rest) λ outs rest.
    and_then (read_signed rest) λ weight rest.
    got (record { ins = ins; outs = outs; weight = weight }) rest

abbrev pub read_elements : List ℕ → Read (List Element)
read_elements = read_parts 12 TooManyElements read_element

abbrev pub read_tally : List ℕ → Read Tally
read_tally bytes =
    and_then (expect is_tally bytes) λ _ rest.
    and_then (read_byte rest) λ kind rest.
    and_then (read_byte rest) λ relation rest.
    and_then (read_byte rest) λ sign rest.
    and_then (read_signed rest) λ bound rest.
    and_then (read_elements rest) λ elements rest.
    got (record { kind = kind; relation = relation_coded relation; sign = sign_coded sign; bound = bound; elements = elements }) rest

abbrev pub read_tallies : List ℕ → Read (List Tally)
read_tallies = read_parts 2 TooManyTallies read_tally

abbrev pub read_rule : List ℕ → Read Rule
read_rule bytes =
    and_then (read_word bytes) λ head rest.
    and_then (read_word rest) λ must rest.
    and_then (read_word rest) λ mustnot rest.
    and_then (read_tallies rest) λ tallies rest.
    got (record { head = head; must = must; mustnot = mustnot; tallies = tallies }) rest

-- ---- records
pub data Sent : Type 0 where
  name_sent : List ℕ → Sent
  rule_sent : Rule → Sent
  judge_sent : ReadingName → ℕ → Sent

abbrev pub record_of : Record → Sent
record_of (Name bytes) = name_sent bytes.now
record_of (WholeRule rule) = rule_sent (rule_of rule)
record_of (Judge reading candidate) = judge_sent reading candidate.0

abbrev pub read_name : List ℕ → Read (List ℕ)
read_name bytes = and_then (read_byte bytes) λ size rest. read_slice size rest

abbrev pub read_judge : List ℕ → Read Sent
read_judge bytes =
    and_then (read_byte bytes) λ letter rest.
    and_then (read_in (λ r. r) (letter_answer letter) rest) λ reading rest.
    and_then (read_word rest) λ candidate rest.
    got (judge_sent reading candidate) rest

-- a tally or an element outside a rule is no record
abbrev pub read_marked : Mark → List ℕ → Read Sent
read_marked NA bytes = and_then (read_name bytes) λ name rest. got (name_sent name) rest
read_marked RU bytes = and_then (read_rule bytes) λ rule rest. got (rule_sent rule) rest
read_marked TA bytes = failed UnknownMark
read_marked EL bytes = failed UnknownMark
read_marked JU bytes = read_judge bytes

abbrev pub read_record : List ℕ → Read Sent
read_record bytes = and_then (read_mark bytes) read_marked
