-- A record more, and the play's end.
use Rattle.std.proofs.Common.{rules, ◌<◌, length, sym, subst, arith}
use Rattle.files.proofs.Playing.{Shorter, step_shorter}
use Rattle.files.proofs.Rounds.{so_far_more, so_far_done, so_far_passed_on}
use Rattle.files.specs.Turns.{rest_of}
use Rattle.plans.specs.PlanView.{plan_of}
use Rattle.files.proofs.session.Session.play_records.Goals as goal

pub loop-self-smaller : goal.loop-self-smaller
loop-self-smaller g c =
    let p = c.in_ok-play_record.ensures in
    subst (Shorter (length (rest_of c.loop-self.self))) (sym p.1.answers.stepped)
    (step_shorter (g.B.Bank.meaning c.loop-self.self.plan.bank) (plan_of c.loop-self.self.plan) (rest_of c.loop-self.self))

pub loop-self-preserved : goal.loop-self-preserved
loop-self-preserved g c = search (rules, so_far_more)

pub returns-in_err-play_record : goal.returns-in_err-play_record
returns-in_err-play_record g c =
    let some : 0 < length (rest_of c.loop-self.self) = omega arith in
    so_far_passed_on _ _ _ c.loop-self.self c.loop-self.report c.loop-self.invariant c.requires c.play_record.new.self c.play_record.new.report
    c.from_residual.result _ some c.from_residual.ensures.1 c.in_err-play_record.ensures

pub returns : goal.returns
returns g c = so_far_done _ _ _ c.loop-self.self c.loop-self.report c.loop-self.invariant c.requires (omega arith)
