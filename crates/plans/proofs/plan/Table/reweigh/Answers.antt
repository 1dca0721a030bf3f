-- The rule at the place is lent, and given back as the lent rule was left.
use Rattle.std.proofs.Common.{◌≡◌, ℤ, None, vec_items, sym, refl, ap, ◌∙◌, arith, w32, to_z, of_z}
use borrow.Author.Differences.{ints}
use Rattle.theory.specs.Calls.{at_place, element_in, unless_refused, left_by, weight_refusal, reweighed_rule}
use Rattle.plans.specs.PlanView.{table_of}
use Rattle.plans.proofs.Places.{index_missing, Lent, lent, lent_found}
use Rattle.plans.proofs.Reweighs.{kept_of, plan_back}
use Rattle.plans.proofs.plan.Table.reweigh.Goals as goal
use Rattle.plans.proofs.plan.Table.reweigh.Goals.{After-reweigh_element, at-returns-clause-answer, at-returns-clause-after}

rule_missing : (c : goal.In_default) → at_place c.args.rule (table_of c.args.self.now).rules ≡ None
rule_missing c =
    let rules = c.args.self.now.rules in
    index_missing (vec_items rules) c.args.rule c.len.result (omega (arith, rules.ok.0)) kept_of (sym c.index_of.ensures ∙ c.in_default.is)

pub returns-in_default-clause-answer : goal.returns-in_default-clause-answer
returns-in_default-clause-answer c = rw (rule_missing c) refl

pub returns-in_default-clause-after : goal.returns-in_default-clause-after
returns-in_default-clause-after c = rw (rule_missing c) refl

module _ (c : After-reweigh_element) where
  rule_lent : Lent (vec_items c.args.self.now.rules) c.args.rule c.in-Some.rule_at c.index_mut.result.now
  rule_lent = lent _ _ c.len.result (omega (arith, c.args.self.now.rules.ok.0)) (sym c.index_of.ensures ∙ c.in-Some.is) c.index_mut.ensures.value

  same : to_z w32 (of_z w32 c.args.weight) ≡ c.args.weight
  same = omega (arith, ints)

pub returns-clause-answer : goal.returns-clause-answer
returns-clause-answer c =
    let d = (at-returns-clause-answer c).After-reweigh_element in
    rw (lent_found kept_of (rule_lent d))
    (c.reweigh_element.ensures.answer ∙ ap (λ (w : ℤ). unless_refused (weight_refusal (element_in (kept_of c.index_mut.result.now) c.args.tally c.args.element) w) tt) (same d))

pub returns-clause-after : goal.returns-clause-after
returns-clause-after c =
    let d = (at-returns-clause-after c).After-reweigh_element in
    let before = kept_of c.index_mut.result.now in
    rw (lent_found kept_of (rule_lent d))
    (plan_back (weight_refusal (element_in before c.args.tally c.args.element) c.args.weight) (table_of c.args.self.now).names (rule_lent d)
    c.reweigh_element.new.kept (reweighed_rule c.args.tally c.args.element c.args.weight)
    (c.reweigh_element.ensures.after ∙ ap (λ (w : ℤ). left_by (weight_refusal (element_in before c.args.tally c.args.element) w) before (reweighed_rule c.args.tally c.args.element w before)) (same d)))
