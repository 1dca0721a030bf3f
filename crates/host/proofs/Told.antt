-- A play's answer, turned into numbers.
use Rattle.std.proofs.Common.{◌≡◌, ℕ, ◌<◌, List, length, take, drop, Some, None, Option, refl, ap, ◌∙◌, inl, inr, arith}
use Rattle.std.proofs.lemmas.List.{length-append}
use Rattle.std.proofs.lemmas.Grind.{common_steps}
use Rattle.files.specs.declared.play.PlayFault.{PlayFault}
use Rattle.files.specs.declared.play.PlayFault.TheVariants.{InputTooLong, ReportFull, NoMemory, Unreadable}
use Rattle.files.specs.Plays.{Ending, input_ended, input_too_long, report_full, unreadable, ending_number, Outcome, Exactly, Partly, Plays, IsFront}
use Rattle.host.specs.declared.PlayAnswer.{PlayAnswer}
use Rattle.host.specs.Answers.{ending_offset, fault_of, Wanting, Answers}

module _ (answer : PlayAnswer) (before after : List ℕ) (count : ℕ) (should : Outcome) (written : answer.written ≡ count)
    (below : ending_number (fault_of should.ending) < 99) where
  -- exactly what it should be
  told : (e : Ending) → Exactly e before after count should → answer.fault ≡ ending_number (fault_of e) → answer.offset ≡ ending_offset (fault_of e)
      → length after ≡ length before → Answers answer before after should
  told e x fault offset same =
      let f : answer.fault ≡ ending_number (fault_of should.ending) = cc in
      let l = ap length x.report ∙ length-append should.text (drop (length should.text) before) in
      record {
        either = inl (record { report = x.report; written = cc; fault = f; offset = cc });
        by_fault = λ n. absurd (omega arith);
        within = omega arith;
      }

  -- the text that was written is the front that is told of
  wanting : Partly before after count → IsFront after count should → answer.fault ≡ 99 → answer.offset ≡ 0
      → length after ≡ length before → Answers answer before after should
  wanting x front fault offset same =
      let taken : take count after ≡ x.text = grind (arith, common_steps) in
      let l = ap length x.report ∙ length-append x.text (drop (length x.text) before) in
      let it : Wanting answer before after should =
      record {
        text = x.text;
        rest = front.rest;
        front = cc;
        report = x.report;
        written = cc;
        fault = fault;
        offset = offset;
        short = front.short;
      } in
      record { either = inr it; by_fault = λ e. it; within = omega arith }

  pub answers : (fault : Option PlayFault) → Plays fault before after count should → (fault ≡ Some NoMemory → IsFront after count should)
      → answer.fault ≡ ending_number fault → answer.offset ≡ ending_offset fault → length after ≡ length before → Answers answer before after should
  answers None x front number offset same = told input_ended x number offset same
  answers (Some InputTooLong) x front number offset same = told input_too_long x number offset same
  answers (Some ReportFull) x front number offset same = told report_full x number offset same
  answers (Some NoMemory) x front number offset same = wanting x (front refl) number offset same
  answers (Some (Unreadable at fault)) x front number offset same = told (unreadable at fault) x number offset same
