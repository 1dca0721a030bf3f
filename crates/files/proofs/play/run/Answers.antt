-- There was no memory for the plan: nothing was written yet, and the file's length was tested.
use Rattle.std.proofs.Common.{◌≡◌, ℕ, ◌++◌, length, take, sym, refl, ap, ◌∙◌, arith, Some, [], Result, subst}
use Rattle.std.specs.Result.{result_err}
use Rattle.std.proofs.lemmas.Bool.{cond-false, le-ltb}
use Rattle.theory.specs.Banks.{five_kinds}
use Rattle.theory.specs.Calls.{new_plan}
use Rattle.files.specs.Plays.{Outcome, play_from, playing}
use Rattle.files.specs.Turns.{Leaves}
use Rattle.files.specs.declared.play.PlayFault.{PlayFault}
use Rattle.files.specs.declared.play.PlayFault.TheVariants.{NoMemory as OutOfMemory}
use Rattle.files.proofs.Stepped.{passed_on}
use Rattle.files.proofs.Playing.{begun_short}
use Rattle.files.proofs.play.run.Goals as goal

pub returns-in_err-plan : goal.returns-in_err-plan
returns-in_err-plan c =
    let file = c.args.file.now in
    let report = c.args.report.now in
    let room = length report.bytes.now in
    let begun : playing file room ≡ play_from five_kinds (length file) (length file) room new_plan file =
    cond-false _ _ _ (le-ltb 65536 (length file) (omega arith)) in
    let nothing : Leaves (Some OutOfMemory) report report (playing file room) = record {
      place = refl;
      plays = record { text = []; bytes = c.requires; report = refl };
      wanting = λ _. record {
        rest = (playing file room).text;
        text = ap (λ (n : ℕ). take n report.bytes.now ++ (playing file room).text) (sym c.requires);
        short = λ long. begun_short five_kinds (length file) (length file) room new_plan file (sym (ap (λ (o : Outcome). o.ending) begun) ∙ long);
      };
    } in
    subst (λ (r : Result (Unit {0}) PlayFault). Leaves (result_err r) report report (playing file room)) (sym (passed_on c.from_residual.result OutOfMemory c.from_residual.ensures.1)) nothing
