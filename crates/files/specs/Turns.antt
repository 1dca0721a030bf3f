-- What the parts of a play say of one record; `Plays` has what the whole says.
use Rattle.std.specs.Prelude.{◌≡◌, ℕ, ◌+◌, ◌-◌, ◌<◌, List, [], length, Some, Option, Ok, Err, Result, ◌≢◌}
use Rattle.theory.specs.Banks.{Bank}
use Rattle.theory.specs.Calls.{Refused}
use Rattle.plans.specs.PlanView.{plan_of}
use Rattle.plans.specs.Refusals.{refused_of}
use Rattle.plans.specs.declared.refusal.Refused.{Refused as StoredRefused}
use Rattle.records.specs.declared.fault.ReaderFault.{ReaderFault}
use Rattle.records.specs.declared.fault.ReaderFault.TheVariants.{NoMemory}
use Rattle.files.specs.declared.fault.FileFault.{FileFault}
use Rattle.files.specs.declared.fault.FileFault.TheVariants.{Reader, Plan as OfPlan}
use Rattle.files.specs.declared.fault.Located.{Located}
use Rattle.files.specs.declared.line.Answer.{Answer}
use Rattle.files.specs.declared.play.PlayFault.{PlayFault}
use Rattle.files.specs.declared.play.PlayFault.TheVariants.{InputTooLong, ReportFull, NoMemory as OutOfMemory, Unreadable}
use Rattle.files.specs.declared.report.Report.{Report}
use Rattle.files.specs.declared.session.Session.{Session}
use Rattle.files.specs.Lines.{Said, said_of}
use Rattle.files.specs.Reports.{HasRoom, Wrote}
use Rattle.files.specs.Plays.{Step, answered, unread, step, line_at, unread_line, Outcome, play_from, Plays, IsFront}

-- what the code answered to a call
abbrev pub said_in : Result Answer StoredRefused → Result Said Refused
said_in (Ok answer) = Ok (said_of answer)
said_in (Err f) = Err (refused_of f)

-- ---- a session
-- the bytes that are left, the offset of the first of them, and what they are as a record
abbrev pub rest_of : {B : Type 0} → Session B → List ℕ
rest_of session = session.reader

abbrev pub offset_of : {B : Type 0} → Session B → ℕ
offset_of session = session.size - length (rest_of session)

abbrev pub step_of : {B : Type 0} → Bank → Session B → Step
step_of bank session = step bank (plan_of session.plan) (rest_of session)

-- all that is to come, at the end of this report
abbrev pub to_come : {B : Type 0} → (B → Bank) → Session B → Report → Outcome
to_come meaning session report =
    play_from (meaning session.plan.bank) session.size (length (rest_of session)) (length report.bytes.now - report.written) (plan_of session.plan) (rest_of session)

-- ---- one record
-- it was read, and its call answered; the bank and the file's size are as they were
pub record Answers {B : Type 0} (bank : Bank) (before after : Session B) (answer : Result Said Refused) : Type 0 where
  pub stepped : answered answer (plan_of after.plan) (rest_of after) ≡ step_of bank before
  pub keeps_bank : after.plan.bank ≡ before.plan.bank
  pub keeps_size : after.size ≡ before.size

-- what the code answered, unless memory was wanting
abbrev pub Steps : {B : Type 0} → Bank → Result Answer FileFault → Session B → Session B → Type 0
Steps bank (Ok answer) before after = Answers bank before after (Ok (said_of answer))
Steps bank (Err (OfPlan refused)) before after = Answers bank before after (Err (refused_of refused))
Steps bank (Err (Reader fault)) before after = (fault ≢ NoMemory) → unread fault ≡ step_of bank before

-- a refused record: the play goes on after the line of the plan's refusal, and ends after that of the reader's fault; want of
-- memory has no line, and nothing else is told as that
abbrev pub FaultPut : Result (Unit {0}) PlayFault → Located → Report → Report → Type 0
FaultPut r l before after = elim l.fault [
  | Reader f ↦ elim r [
    | Ok done ↦ ⊥
    | Err e ↦ elim e [
      | InputTooLong ↦ ⊥
      | ReportFull ↦ ⊥
      | OutOfMemory ↦ (f ≡ NoMemory) × Wrote before after []
      | Unreadable offset fault ↦ (offset ≡ l.offset) × (fault ≡ f) × (f ≢ NoMemory) × Wrote before after (unread_line l.offset f)
    ]
  ]
  | OfPlan f ↦ (r ≡ Ok tt) × Wrote before after (line_at l.offset (Err (refused_of f)))
]

-- a record that was read: its call's line was written
pub record GoesOn {B : Type 0} (bank : Bank) (before after : Session B) (report report' : Report) : Type 0 where
  pub answer : Result Said Refused
  pub answers : Answers bank before after answer
  pub wrote : Wrote report report' (line_at (offset_of before) answer)

-- a record that cannot be read: the line of the fault was written
pub record Stops {B : Type 0} (bank : Bank) (session : Session B) (fault : ReaderFault) (report report' : Report) : Type 0 where
  pub stepped : unread fault ≡ step_of bank session
  pub wrote : Wrote report report' (unread_line (offset_of session) fault)

-- one record, where the report has room for a line or has not
abbrev pub RecordPlayed : {B : Type 0} → Bank → Result (Unit {0}) PlayFault → Session B → Session B → Report → Report → Type 0
RecordPlayed bank (Ok done) before after report report' = HasRoom report × GoesOn bank before after report report'
RecordPlayed bank (Err InputTooLong) before after report report' = ⊥
RecordPlayed bank (Err ReportFull) before after report report' = (length report.bytes.now < report.written + 20) × Wrote report report' []
RecordPlayed bank (Err OutOfMemory) before after report report' = Wrote report report' []
RecordPlayed bank (Err (Unreadable at fault)) before after report report' =
    HasRoom report × (at ≡ offset_of before) × Stops bank before fault report report'

-- what a play leaves of the report that it was given, in the same place
pub record Leaves (fault : Option PlayFault) (before after : Report) (should : Outcome) : Type 0 where
  pub place : after.bytes.ghost_name ≡ before.bytes.ghost_name
  pub plays : Plays fault before.bytes.now after.bytes.now after.written should
  pub wanting : fault ≡ Some OutOfMemory → IsFront after.bytes.now after.written should
