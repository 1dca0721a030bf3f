-- A turn of the loop goes by the tests of one item.
use Rattle.std.proofs.Common.{length, None, Err, rules, ap, ◌∙◌, arith}
use Rattle.plans.specs.Refusals.{refusal_in}
use Rattle.plans.proofs.Firsts.{first_turn}
use Rattle.plans.proofs.plan.entry.check_each.Goals as goal

pub loop-item-preserved : goal.loop-item-preserved
loop-item-preserved g c =
    let s = c.in-Some.ensures.steps in
    record {
      places = omega (arith, ap length s.0);
      left = λ tests gives.
          first_turn tests _ c.in-Some.place _ _ c.in-Some.item.now _ s.0 s.1.0 (omega arith) None
          (gives c.in-Some.item c.in-Some.place _ (omega arith) c.in_ok-check.ensures)
          ∙ c.loop-item.invariant.left tests gives;
    }

pub returns-in_err-check : goal.returns-in_err-check
returns-in_err-check g c tests gives =
    let s = c.in-Some.ensures.steps in
    let refused =
    first_turn tests _ c.in-Some.place c.next.new.self.b.start _ c.in-Some.item.now c.next.new.self.a.rest.now s.0 s.1.0 (omega arith) (refusal_in (Err c.in_err-check.field-0.0))
    (gives c.in-Some.item c.in-Some.place _ (omega arith) c.in_err-check.ensures)
    ∙ c.loop-item.invariant.left tests gives in
    search rules
