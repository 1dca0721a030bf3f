-- What a reader of reports may rely on: laws above the definition of a play, for files that are not too long and memory
-- enough.
use Rattle.std.specs.Prelude.{◌≡◌, ℕ, ◌+◌, ◌-◌, ◌*◌, ◌%◌, ◌<◌, ◌≤◌, Bool, true, cond, List, [], ◌∷◌, ◌++◌, length, take, drop, Ok, Err, Result, ◌≢◌, slice_index}
use Rattle.std.specs.Str.Parse.{digits_value}
use Rattle.std.specs.List.{AllByRecursion, list_all}
use Rattle.theory.specs.Banks.{Bank}
use Rattle.theory.specs.Calls.{Plan, Refused, number, new_plan, between}
use Rattle.theory.specs.Verdicts.{broken, smaller, stable}
use Rattle.records.specs.declared.fault.ReaderFault.{ReaderFault}
use Rattle.records.specs.Faults.{reader_number}
use Rattle.records.specs.Fields.{got, failed}
use Rattle.records.specs.Records.{marked}
use Rattle.records.specs.Records.{Sent, read_record}
use Rattle.files.specs.Lines.{Said, atom, entered, judged, two_digits, eight_hex}
use Rattle.files.specs.Plays.{called, after_call, Ending, input_ended, input_too_long, report_full, unreadable, Outcome, after_line, line_at, unread_line, play_from}

-- the play of these bytes, the last of a file of this size, with this much room: there are no more records than bytes
abbrev pub played : Bank → ℕ → ℕ → Plan → List ℕ → Outcome
played bank size room plan bytes = play_from bank size (length bytes) room plan bytes

-- ---- a report is a line for each record, in turn
-- a record that was answered: the offset of its mark, and what its call answered
pub record Entry : Type 0 where
  pub offset : ℕ
  pub answer : Result Said Refused

abbrev pub entry_line : Entry → List ℕ
entry_line entry = line_at entry.offset entry.answer

abbrev pub lines : List Entry → List ℕ
lines [] = []
lines (entry ∷ entries) = entry_line entry ++ lines entries

-- These bytes stand at the end of a file of this size, and their first records were answered so: there were 20 bytes of room,
-- the record was read, and its call was made on the plan that the one before left. Then this plan and these bytes are left.
abbrev pub Run : Bank → ℕ → ℕ → Plan → List ℕ → List Entry → Plan → List ℕ → Type 0
Run bank size room plan bytes [] after left = (plan ≡ after) × (bytes ≡ left)
Run bank size room plan bytes (entry ∷ entries) after left =
    (sent : Sent) × (rest : List ℕ) × (20 ≤ room) × (read_record bytes ≡ got sent rest)
    × (entry ≡ record { offset = size - length bytes; answer = called bank plan sent })
    × Run bank size (room - length (entry_line entry)) (after_call bank plan sent) rest entries after left

-- What ended the play, with this much room and these bytes left, and the last line: nothing was left; or there was a record
-- and less room than 20 bytes; or there was room, and a record that cannot be read, and its line is the last.
abbrev pub Ends : Ending → ℕ → ℕ → List ℕ → List ℕ → Type 0
Ends input_ended size room left last = (left ≡ []) × (last ≡ [])
Ends input_too_long size room left last = ⊥
Ends report_full size room left last = (0 < length left) × (room < 20) × (last ≡ [])
Ends (unreadable at fault) size room left last =
    (20 ≤ room) × (read_record left ≡ failed fault) × (at ≡ size - length left) × (last ≡ unread_line at fault)

pub record Reported (bank : Bank) (size room : ℕ) (plan : Plan) (bytes : List ℕ) (play : Outcome) : Type 0 where
  pub entries : List Entry
  pub after : Plan
  pub left : List ℕ
  pub last : List ℕ
  pub run : Run bank size room plan bytes entries after left
  pub text : play.text ≡ lines entries ++ last
  pub ends : Ends play.ending size (room - length (lines entries)) left last

abbrev pub LineByLine : Type 0
LineByLine = (bank : Bank) (size room : ℕ) (plan : Plan) (bytes : List ℕ) → Reported bank size room plan bytes (played bank size room plan bytes)

-- ---- a line has at most 20 bytes: printable ones, and then byte 10
abbrev pub printable : ℕ → Bool
printable byte = between 32 126 byte

pub record ALine (line : List ℕ) : Type 0 where
  pub short : length line ≤ 20
  pub body : List ℕ
  pub ended : line ≡ body ++ 10 ∷ []
  pub plain : list_all printable body ≡ true

abbrev pub LinesAreText : Type 0
LinesAreText =
    ((offset : ℕ) (answer : Result Said Refused) → ALine (line_at offset answer)) × ((offset : ℕ) (fault : ReaderFault) → ALine (unread_line offset fault))

-- ---- the digits of a line, read as a number of base 10 or 16, give the number
abbrev pub one_digit : ℕ → List ℕ
one_digit n = (48 + n % 10) ∷ []

abbrev pub DigitsReadBack : Type 0
DigitsReadBack =
    ((n : ℕ) → n < 10 → digits_value 10 (one_digit n) ≡ n)
    × ((n : ℕ) → n < 100 → digits_value 10 (two_digits n) ≡ n)
    × ((n : ℕ) → n < 4294967296 → digits_value 16 (eight_hex n) ≡ n)

-- two digits for an atom, the place of a rule, a refusal's number and the place of an element; one for that of a tally; eight
-- for a set
abbrev pub Fits : Result Said Refused → Type 0
Fits (Ok (atom n)) = n < 100
Fits (Ok (entered place)) = place < 100
Fits (Ok (judged (broken place))) = place < 100
Fits (Ok (judged (smaller set))) = set < 4294967296
Fits (Ok (judged stable)) = Unit {0}
Fits (Err refused) = (number refused.refusal < 100) × (refused.tally < 10) × (refused.element < 100)

-- ---- and no number is cut to fit its digits: from a plan of at most 32 atoms and 64 rules, as a new one is, the records of a
-- file of at most 65,536 bytes get answers whose numbers fit, and so do their offsets
abbrev pub Small : Plan → Type 0
Small plan = (length plan.names ≤ 32) × (length plan.rules ≤ 64)

abbrev pub EntryFits : Entry → Type 0
EntryFits entry = Fits entry.answer × (entry.offset < 4294967296)

abbrev pub NumbersFit : Type 0
NumbersFit =
    Small new_plan
    × ((bank : Bank) (size room : ℕ) (plan after : Plan) (bytes left : List ℕ) (entries : List Entry) → size ≤ 65536 → Small plan
    → Run bank size room plan bytes entries after left → AllByRecursion EntryFits entries × Small after)

-- ---- a line tells what it is the line of
-- what a line says: a word and its numbers
pub data Heard : Type 0 where
  heard_atom heard_rule heard_broken heard_smaller : ℕ → Heard
  heard_stable heard_nothing : Heard
  heard_no : ℕ → ℕ → ℕ → ℕ → Heard

-- this many bytes of the line, from this one on
abbrev pub field : ℕ → ℕ → List ℕ → List ℕ
field at size line = take size (drop at line)

abbrev pub hear_no : List ℕ → Heard
hear_no line = heard_no (digits_value 10 (field 3 2 line)) (digits_value 16 (field 6 8 line)) (digits_value 10 (field 15 1 line)) (digits_value 10 (field 17 2 line))

-- by the first two bytes: AT, RU, ST, BR, SM or NO
abbrev pub hear_by : ℕ → ℕ → List ℕ → Heard
hear_by a b line =
    cond (marked a b 65 84) (heard_atom (digits_value 10 (field 5 2 line)))
    (cond (marked a b 82 85) (heard_rule (digits_value 10 (field 5 2 line)))
    (cond (marked a b 83 84) heard_stable
    (cond (marked a b 66 82) (heard_broken (digits_value 10 (field 7 2 line)))
    (cond (marked a b 83 77) (heard_smaller (digits_value 16 (field 8 8 line)))
    (cond (marked a b 78 79) (hear_no line) heard_nothing)))))

abbrev pub hear : List ℕ → Heard
hear line = hear_by (slice_index line 0) (slice_index line 1) line

-- what there was to be said of the record at an offset
abbrev pub said_of : ℕ → Result Said Refused → Heard
said_of offset (Ok (atom n)) = heard_atom n
said_of offset (Ok (entered place)) = heard_rule place
said_of offset (Ok (judged (broken place))) = heard_broken place
said_of offset (Ok (judged (smaller set))) = heard_smaller set
said_of offset (Ok (judged stable)) = heard_stable
said_of offset (Err f) = heard_no (number f.refusal) offset f.tally f.element

abbrev pub LinesTell : Type 0
LinesTell =
    ((entry : Entry) → EntryFits entry → hear (entry_line entry) ≡ said_of entry.offset entry.answer)
    × ((offset : ℕ) (fault : ReaderFault) → offset < 4294967296 → hear (unread_line offset fault) ≡ heard_no (reader_number fault) offset 0 0)

-- ---- a record that is answered by a refusal leaves the plan as it was
abbrev pub RefusalsLeaveThePlan : Type 0
RefusalsLeaveThePlan = (bank : Bank) (plan : Plan) (sent : Sent) (refused : Refused) → called bank plan sent ≡ Err refused → after_call bank plan sent ≡ plan

-- ---- two files' bytes, one after the other: where every record of the first is answered, the second is played on the plan that
-- they left, in the room that they left; its offsets are those in the whole
abbrev pub InTurn : Type 0
InTurn = (bank : Bank) (size room : ℕ) (plan after : Plan) (first second : List ℕ) (entries : List Entry)
    → Run bank (size - length second) room plan first entries after []
    → played bank size room plan (first ++ second) ≡ after_line (lines entries) (played bank size (room - length (lines entries)) after second)

-- ---- a report with less room holds the front of one with more, and where it was not full they are the same
abbrev pub FrontsTheLonger : Type 0
FrontsTheLonger = (bank : Bank) (size room more : ℕ) (plan : Plan) (bytes : List ℕ)
    → ((rest : List ℕ) × ((played bank size (room + more) plan bytes).text ≡ (played bank size room plan bytes).text ++ rest))
    × (((played bank size room plan bytes).ending ≢ report_full) → played bank size (room + more) plan bytes ≡ played bank size room plan bytes)

-- ---- ten bytes of room for each byte of the file, and ten more, are always enough
abbrev pub RoomEnough : Type 0
RoomEnough = (bank : Bank) (size room : ℕ) (plan : Plan) (bytes : List ℕ)
    → 10 * length bytes + 10 ≤ room → (played bank size room plan bytes).ending ≢ report_full
