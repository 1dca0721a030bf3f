-- The loop over the records of a file.
use Rattle.std.proofs.Common.{◌≡◌, ◌≢◌, ℕ, ◌-◌, ◌<◌, ◌≤◌, List, [], ◌++◌, length, take, drop, IsErrAnd, Some, None, Ok, Err, Option, Result, sym, refl, ap, ◌∙◌, subst, ap₂, arith, lit≤}
use Rattle.std.specs.Result.{result_err}
use Rattle.std.proofs.lemmas.List.{append-nil, take_at}
use Rattle.theory.specs.Banks.{Bank}
use Rattle.theory.specs.Calls.{Refused}
use Rattle.theory.specs.Verdicts.{broken, smaller, stable}
use Rattle.plans.specs.PlanView.{plan_of}
use Rattle.files.specs.declared.play.PlayFault.{PlayFault}
use Rattle.files.specs.declared.play.PlayFault.TheVariants.{InputTooLong, ReportFull, NoMemory as OutOfMemory, Unreadable}
use Rattle.files.specs.declared.report.Report.{Report}
use Rattle.files.specs.declared.session.Session.{Session}
use Rattle.files.specs.Lines.{Said, atom, entered, judged, written}
use Rattle.files.specs.Plays.{Ending, input_ended, report_full, unreadable, Outcome, ends, after_line, line_at, unread_line, play_from, over, Exactly, Plays}
use Rattle.files.specs.Reports.{HasRoom, Wrote}
use Rattle.files.specs.Turns.{rest_of, offset_of, to_come, GoesOn, RecordPlayed, Leaves}
use Rattle.files.proofs.Joins.{wrote_none, wrote_more}
use Rattle.files.proofs.Stepped.{passed_on}
use Rattle.files.proofs.Playing.{play_done, play_full, play_on, play_stop, begun_short, after_more}

-- no line is longer than 20 bytes
pub line_short : (offset : ℕ) (a : Result Said Refused) → length (line_at offset a) ≤ 20
line_short offset (Ok (atom n)) = lit≤ tt
line_short offset (Ok (entered n)) = lit≤ tt
line_short offset (Ok (judged (broken n))) = lit≤ tt
line_short offset (Ok (judged (smaller s))) = lit≤ tt
line_short offset (Ok (judged stable)) = lit≤ tt
line_short offset (Err f) = lit≤ tt

-- what was written in a report that was empty
wrote_over : (before after : Report) (text : List ℕ) → before.written ≡ 0 → Wrote before after text → after.bytes.now ≡ over text before.bytes.now
wrote_over before after text fresh w = w.bytes ∙ ap (λ (n : ℕ). written before.bytes.now n text) fresh ∙ ap (λ (n : ℕ). text ++ drop n before.bytes.now) (omega arith)

module _ {B : Type 0} (meaning : B → Bank) (first : Session B) (before : Report) where
  -- what was written so far, and that with what is to come it is all
  pub record SoFar (session : Session B) (report : Report) : Type 0 where
    pub text : List ℕ
    pub wrote : Wrote before report text
    pub onward : after_line text (to_come meaning session report) ≡ to_come meaning first before

  module _ (session : Session B) (report : Report) (so : SoFar session report) where
    -- one record more
    pub so_far_more : (session' : Session B) (report' : Report) → 0 < length (rest_of session) → HasRoom report
        → GoesOn (meaning session.plan.bank) session session' report report' → SoFar session' report'
    so_far_more session' report' some room g =
        let line = line_at (offset_of session) g.answer in
        let bank : session'.plan.bank ≡ session.plan.bank = g.answers.keeps_bank in
        let size : session'.size ≡ session.size = g.answers.keeps_size in
        let left : length report'.bytes.now - report'.written ≡ (length report.bytes.now - report.written) - length line =
        (let short = line_short (offset_of session) g.answer in let w = g.wrote in omega arith) in
        let next : to_come meaning session' report' ≡ play_from (meaning session.plan.bank) session.size (length (rest_of session')) ((length report.bytes.now - report.written) - length line) (plan_of session'.plan) (rest_of session') = cc in
        record {
          text = so.text ++ line;
          wrote = wrote_more before report report' so.text line so.wrote g.wrote;
          onward = ap (after_line (so.text ++ line)) next
              ∙ sym (after_more so.text line _)
              ∙ ap (after_line so.text) (sym (play_on (meaning session.plan.bank) session.size (length report.bytes.now - report.written) (plan_of session.plan) (rest_of session) some (omega arith) g.answer (plan_of session'.plan) (rest_of session') g.answers.stepped))
              ∙ so.onward;
        }

    module _ (fresh : before.written ≡ 0) where
      -- the play ends at this record, and no memory was wanting
      ending : (fault : Option PlayFault) (line : List ℕ) (end : Ending) (report' : Report)
          → ((should : Outcome) → Exactly end before.bytes.now report'.bytes.now report'.written should → Plays fault before.bytes.now report'.bytes.now report'.written should)
          → (fault ≢ Some OutOfMemory) → to_come meaning session report ≡ ends line end → Wrote report report' line
          → Leaves fault before report' (to_come meaning first before)
      ending fault line end report' plays other e w =
          let all = wrote_more before report report' so.text line so.wrote w in
          let same : ends (so.text ++ line) end ≡ to_come meaning first before = sym (ap (after_line so.text) e) ∙ so.onward in
          record {
            place = all.place;
            plays = plays (to_come meaning first before) (subst (Exactly end before.bytes.now report'.bytes.now report'.written) same
                (record { ended = refl; bytes = omega arith; report = wrote_over before report' (so.text ++ line) fresh all }));
            wanting = λ is. absurd (other is);
          }

      -- nothing is left
      pub so_far_done : length (rest_of session) ≡ 0 → Leaves None before report (to_come meaning first before)
      so_far_done none =
          ending None [] input_ended report (λ should h. h) (λ e. cc)
          (play_done (meaning session.plan.bank) session.size (length (rest_of session)) _ (plan_of session.plan) (rest_of session) none) (wrote_none report)

      -- memory was wanting: nothing was written for this record
      wanting : (report' : Report) → Wrote report report' [] → Leaves (Some OutOfMemory) before report' (to_come meaning first before)
      wanting report' w =
          let all = wrote_more before report report' so.text [] so.wrote w in
          let text = so.text ++ [] in
          let over : report'.bytes.now ≡ over text before.bytes.now = wrote_over before report' text fresh all in
          let count : report'.written ≡ length text = omega arith in
          let taken : take report'.written report'.bytes.now ≡ text =
          ap₂ (λ (n : ℕ) (bytes : List ℕ). take n bytes) count over ∙ take_at text (drop (length text) before.bytes.now) (length text) refl in
          let more = to_come meaning session report in
          record {
            place = all.place;
            plays = record { text = text; bytes = count; report = over };
            wanting = λ _. record {
              rest = more.text;
              text = sym (ap (λ (o : Outcome). o.text) so.onward) ∙ ap (λ (t : List ℕ). t ++ more.text) (sym (append-nil so.text) ∙ sym taken);
              short = λ long. begun_short (meaning first.plan.bank) first.size _ _ (plan_of first.plan) (rest_of first) long;
            };
          }

      -- the play ends at this record
      pub so_far_ended : (session' : Session B) (report' : Report) (e : PlayFault) → 0 < length (rest_of session)
          → RecordPlayed (meaning session.plan.bank) (Err e) session session' report report'
          → Leaves (Some e) before report' (to_come meaning first before)
      so_far_ended session' report' InputTooLong some h = absurd h
      so_far_ended session' report' ReportFull some h =
          ending (Some ReportFull) [] report_full report' (λ should h. h) (λ e. cc)
          (play_full (meaning session.plan.bank) session.size _ (plan_of session.plan) (rest_of session) some (omega (arith, h.0))) h.1
      so_far_ended session' report' OutOfMemory some h = wanting report' h
      so_far_ended session' report' (Unreadable at f) some h =
          let s = h.2 in
          let bank = meaning session.plan.bank in
          subst (λ (n : ℕ). Leaves (Some (Unreadable n f)) before report' (to_come meaning first before)) (sym h.1)
          (ending (Some (Unreadable (offset_of session) f)) (unread_line (offset_of session) f) (unreadable (offset_of session) f) report' (λ should h. h) (λ e. cc)
          (play_stop bank session.size _ (plan_of session.plan) (rest_of session) some (omega (arith, h.0)) f s.stepped) s.wrote)

      -- what a `?` passed on
      pub so_far_passed_on : (session' : Session B) (report' : Report) (r : Result (Unit {0}) PlayFault) (e : PlayFault) → 0 < length (rest_of session)
          → IsErrAnd r (λ x. x ≡ e) → RecordPlayed (meaning session.plan.bank) (Err e) session session' report report'
          → Leaves (result_err r) before report' (to_come meaning first before)
      so_far_passed_on session' report' r e some by h =
          subst (λ (q : Result (Unit {0}) PlayFault). Leaves (result_err q) before report' (to_come meaning first before)) (sym (passed_on r e by)) (so_far_ended session' report' e some h)
