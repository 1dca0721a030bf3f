-- One record of a play.
use Rattle.std.proofs.Common.{◌≡◌, List, ℕ, IsErrAnd, Ok, Err, Result, sym, ap, ◌∙◌, subst, ap₂}
use Rattle.std.proofs.lemmas.Result.{err_from_is_err_and}
use Rattle.theory.specs.Banks.{Bank}
use Rattle.theory.specs.Calls.{Plan, Refused}
use Rattle.plans.specs.Refusals.{refused_of}
use Rattle.records.specs.declared.fault.ReaderFault.{ReaderFault}
use Rattle.records.specs.Fields.{got, failed}
use Rattle.records.specs.Records.{Sent, read_record}
use Rattle.files.specs.declared.fault.FileFault.{FileFault}
use Rattle.files.specs.declared.fault.FileFault.TheVariants.{Reader, Plan as OfPlan}
use Rattle.files.specs.declared.play.PlayFault.{PlayFault}
use Rattle.files.specs.declared.play.PlayFault.TheVariants.{InputTooLong, ReportFull, NoMemory as OutOfMemory, Unreadable}
use Rattle.files.specs.declared.report.Report.{Report}
use Rattle.files.specs.declared.session.Session.{Session}
use Rattle.files.specs.Lines.{Said}
use Rattle.files.specs.Plays.{answered, unread, called, after_call, by_record, step}
use Rattle.files.specs.Reports.{HasRoom}
use Rattle.files.specs.Turns.{FaultPut, RecordPlayed, Steps, Stops, offset_of}

-- what a `?` passed on
pub passed_on : {A E : Type 0} (r : Result A E) (e : E) → IsErrAnd r (λ x. x ≡ e) → r ≡ Err e
passed_on r e h = let p = err_from_is_err_and r h in p.1 ∙ ap (λ x. Err x) p.2

module _ (bank : Bank) (plan : Plan) (bytes : List ℕ) where
  pub step_got : (rest : List ℕ) (sent : Sent) (a : Result Said Refused) (p : Plan) → got sent rest ≡ read_record bytes
      → a ≡ called bank plan sent → p ≡ after_call bank plan sent → answered a p rest ≡ step bank plan bytes
  unfolding step
  step_got rest sent a p e said after =
      ap₂ (λ (x : Result Said Refused) (q : Plan). answered x q rest) said after ∙ ap (by_record bank plan) e

  pub step_failed : (f : ReaderFault) → failed f ≡ read_record bytes → unread f ≡ step bank plan bytes
  unfolding step
  step_failed f e = ap (by_record bank plan) e

-- a record that was refused: by the plan, and the play goes on; or by the reader
pub fault_played : {B : Type 0} (bank : Bank) (r : Result (Unit {0}) PlayFault) (offset : ℕ) (fault : FileFault) (before after : Session B) (report report' : Report)
    → offset ≡ offset_of before → FaultPut r (record { offset = offset; fault = fault }) report report' → Steps bank (Err fault) before after → HasRoom report
    → RecordPlayed bank r before after report report'
fault_played bank r offset fault before after report report' at put steps room =
    played r fault (subst (λ (n : ℕ). FaultPut r (record { offset = n; fault = fault }) report report') at put) steps
  where
    played : (r : Result (Unit {0}) PlayFault) (fault : FileFault) → FaultPut r (record { offset = offset_of before; fault = fault }) report report'
        → Steps bank (Err fault) before after → RecordPlayed bank r before after report report'
    played (Ok done) (Reader f) put steps = absurd put
    played (Err InputTooLong) (Reader f) put steps = absurd put
    played (Err ReportFull) (Reader f) put steps = absurd put
    played (Err OutOfMemory) (Reader f) put steps = put.1
    played (Err (Unreadable at g)) (Reader f) put steps =
        (room, put.0, subst (λ (x : ReaderFault). Stops bank before x report report') (sym put.1) (record { stepped = steps put.2; wrote = put.3 }))
    played r (OfPlan f) put steps =
        subst (λ (q : Result (Unit {0}) PlayFault). RecordPlayed bank q before after report report') (sym put.0)
        (room, record { answer = Err (refused_of f); answers = steps; wrote = put.1 })
