-- Playing a file: the calls that its records make on a new plan, the lines of the report, and what ends it.
use Rattle.std.specs.Prelude.{◌≡◌, ℕ, zero, suc, ◌-◌, cond, List, [], ◌++◌, length, take, drop, Some, None, Ok, Err, Option, Result, ◌==◌, ◌≢◌, nat_lt}
use Rattle.theory.specs.Banks.{Bank, five_kinds}
use Rattle.theory.specs.Readings.{Reading, flp, ferraris}
use Rattle.theory.specs.Calls.{Plan, Refusal, Refused, number, new_plan, name_answer, after_name, enter_answer, after_enter, judge_answer}
use Rattle.records.specs.declared.fault.ReaderFault.{ReaderFault}
use Rattle.records.specs.declared.letter.ReadingName.{ReadingName}
use Rattle.records.specs.declared.letter.ReadingName.TheVariants.{Flp, Ferraris}
use Rattle.records.specs.Faults.{reader_number}
use Rattle.records.specs.Fields.{Read, got, failed}
use Rattle.records.specs.Records.{Sent, name_sent, rule_sent, judge_sent, read_record}
use Rattle.files.specs.declared.play.PlayFault.{PlayFault}
use Rattle.files.specs.declared.play.PlayFault.TheVariants.{InputTooLong, ReportFull, NoMemory, Unreadable}
use Rattle.files.specs.Lines.{Said, atom, entered, judged, said_line, refusal_line}

-- ---- a record's call on a plan over a bank
abbrev pub reading_of : ReadingName → Reading
reading_of Flp = flp
reading_of Ferraris = ferraris

-- a refusal of a call that tests no tally
abbrev pub unplaced : Refusal → Refused
unplaced f = record { refusal = f; tally = 0; element = 0 }

abbrev pub said_as : {A E : Type 0} → (A → Said) → (E → Refused) → Result A E → Result Said Refused
said_as say place (Ok answer) = Ok (say answer)
said_as say place (Err refusal) = Err (place refusal)

abbrev pub called : Bank → Plan → Sent → Result Said Refused
called bank plan (name_sent bytes) = said_as atom unplaced (name_answer plan bytes)
called bank plan (rule_sent rule) = said_as entered (λ f. f) (enter_answer bank plan rule)
called bank plan (judge_sent reading i) = said_as judged unplaced (judge_answer bank (reading_of reading) plan i)

abbrev pub after_call : Bank → Plan → Sent → Plan
after_call bank plan (name_sent bytes) = after_name plan bytes
after_call bank plan (rule_sent rule) = after_enter bank plan rule
after_call bank plan (judge_sent reading i) = plan

-- ---- one record: the call's answer, the plan after it and the bytes that are left; or the reader's fault
pub data Step : Type 0 where
  answered : Result Said Refused → Plan → List ℕ → Step
  unread : ReaderFault → Step

abbrev pub by_record : Bank → Plan → Read Sent → Step
by_record bank plan (got sent rest) = answered (called bank plan sent) (after_call bank plan sent) rest
by_record bank plan (failed fault) = unread fault

unfoldable pub step : Bank → Plan → List ℕ → Step
step bank plan bytes = by_record bank plan (read_record bytes)

-- ---- the report
-- what ends a play: the end of the input, a file of more than 65,536 bytes, fewer than 20 bytes left in the report, or a
-- record at this offset that cannot be read
pub data Ending : Type 0 where
  input_ended input_too_long report_full : Ending
  unreadable : ℕ → ReaderFault → Ending

-- the bytes written, and what ended the play
pub record Outcome : Type 0 where
  pub text : List ℕ
  pub ending : Ending

abbrev pub ends : List ℕ → Ending → Outcome
ends text ending = record { text = text; ending = ending }

abbrev pub after_line : List ℕ → Outcome → Outcome
after_line line more = record { text = line ++ more.text; ending = more.ending }

-- the line of an answer, or of a refusal of the record at this offset
abbrev pub line_at : ℕ → Result Said Refused → List ℕ
line_at offset (Ok said) = said_line said
line_at offset (Err f) = refusal_line (number f.refusal) offset f.tally f.element

abbrev pub unread_line : ℕ → ReaderFault → List ℕ
unread_line offset fault = refusal_line (reader_number fault) offset 0 0

-- at most n records, in a file of this size, with this much room in the report
unfoldable pub play_from : Bank → ℕ → ℕ → ℕ → Plan → List ℕ → Outcome
play_from bank size zero room plan bytes = ends [] input_ended
play_from bank size (suc n) room plan bytes =
    cond (length bytes == 0) (ends [] input_ended)
    (cond (nat_lt room 20) (ends [] report_full)
    (elim (step bank plan bytes) [
      | answered answer after rest ↦
          after_line (line_at (size - length bytes) answer) (play_from bank size n (room - length (line_at (size - length bytes) answer)) after rest)
      | unread fault ↦ ends (unread_line (size - length bytes) fault) (unreadable (size - length bytes) fault)
    ]))

-- a file, with a report of this length; a file has no more records than bytes
abbrev pub playing : List ℕ → ℕ → Outcome
playing file room =
    cond (nat_lt 65536 (length file)) (ends [] input_too_long) (play_from five_kinds (length file) (length file) room new_plan file)

-- ---- what the code answers
-- the number of what ended a play
abbrev pub ending_number : Option PlayFault → ℕ
ending_number None = 0
ending_number (Some InputTooLong) = 12
ending_number (Some ReportFull) = 26
ending_number (Some NoMemory) = 99
ending_number (Some (Unreadable offset fault)) = reader_number fault

-- a text stands at the front of the report, and every byte past it is as it was
abbrev pub over : List ℕ → List ℕ → List ℕ
over text report = text ++ drop (length text) report

-- the report holds what it should, and the number of bytes written and what ended the play are as they should be
pub record Exactly (ending : Ending) (before after : List ℕ) (count : ℕ) (should : Outcome) : Type 0 where
  pub ended : ending ≡ should.ending
  pub bytes : count ≡ length should.text
  pub report : after ≡ over should.text before

-- some text was written
pub record Partly (before after : List ℕ) (count : ℕ) : Type 0 where
  pub text : List ℕ
  pub bytes : count ≡ length text
  pub report : after ≡ over text before

-- what a play leaves: exactly what it should, unless memory was wanting
abbrev pub Plays : Option PlayFault → List ℕ → List ℕ → ℕ → Outcome → Type 0
Plays None before after count should = Exactly input_ended before after count should
Plays (Some InputTooLong) before after count should = Exactly input_too_long before after count should
Plays (Some ReportFull) before after count should = Exactly report_full before after count should
Plays (Some NoMemory) before after count should = Partly before after count
Plays (Some (Unreadable offset fault)) before after count should = Exactly (unreadable offset fault) before after count should

-- and then: the bytes that were written are the front of those that should be, and the file is not too long
pub record IsFront (after : List ℕ) (count : ℕ) (should : Outcome) : Type 0 where
  pub rest : List ℕ
  pub text : should.text ≡ take count after ++ rest
  pub short : should.ending ≢ input_too_long
