-- A play's answer in numbers.
use Rattle.std.specs.Prelude.{◌≡◌, ◌≢◌, ℕ, ◌≤◌, ◌⊎◌, List, ◌++◌, length, Some, None, Option}
use Rattle.files.specs.declared.play.PlayFault.{PlayFault}
use Rattle.files.specs.declared.play.PlayFault.TheVariants.{InputTooLong, ReportFull, NoMemory, Unreadable}
use Rattle.files.specs.Plays.{Ending, input_ended, input_too_long, report_full, unreadable, ending_number, Outcome, over}
use Rattle.files.specs.declared.play.Played.{Played}
use Rattle.host.specs.declared.PlayAnswer.{PlayAnswer}

-- the offset of a record that cannot be read
abbrev pub ending_offset : Option PlayFault → ℕ
ending_offset None = 0
ending_offset (Some InputTooLong) = 0
ending_offset (Some ReportFull) = 0
ending_offset (Some NoMemory) = 0
ending_offset (Some (Unreadable offset fault)) = offset

-- the numbers of what a play gave
pub record Numbers (played : Played) (answer : PlayAnswer) : Type 0 where
  pub written : answer.written ≡ played.written
  pub fault : answer.fault ≡ ending_number played.fault
  pub offset : answer.offset ≡ ending_offset played.fault

-- the fault that tells what ended a play
abbrev pub fault_of : Ending → Option PlayFault
fault_of input_ended = None
fault_of input_too_long = Some InputTooLong
fault_of report_full = Some ReportFull
fault_of (unreadable offset fault) = Some (Unreadable offset fault)

-- the report holds the text that it should, and past it what it held before, and the numbers are those of the play
pub record Told (answer : PlayAnswer) (before after : List ℕ) (should : Outcome) : Type 0 where
  pub report : after ≡ over should.text before
  pub written : answer.written ≡ length should.text
  pub fault : answer.fault ≡ ending_number (fault_of should.ending)
  pub offset : answer.offset ≡ ending_offset (fault_of should.ending)

-- memory was wanting, and the file is not too long: the number is 99; the front of the text that should be was written, and past
-- it the report is as it was
pub record Wanting (answer : PlayAnswer) (before after : List ℕ) (should : Outcome) : Type 0 where
  pub text : List ℕ
  pub rest : List ℕ
  pub front : should.text ≡ text ++ rest
  pub report : after ≡ over text before
  pub written : answer.written ≡ length text
  pub fault : answer.fault ≡ 99
  pub offset : answer.offset ≡ 0
  pub short : should.ending ≢ input_too_long

-- the one or the other, and 99 tells which; what is written has room in the report
pub record Answers (answer : PlayAnswer) (before after : List ℕ) (should : Outcome) : Type 0 where
  pub either : Told answer before after should ⊎ Wanting answer before after should
  pub by_fault : answer.fault ≡ 99 → Wanting answer before after should
  pub within : answer.written ≤ length before
