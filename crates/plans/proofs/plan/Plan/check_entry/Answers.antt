-- What the sets give, then what the tallies give, is what enter refuses.
use Rattle.std.proofs.Common.{◌≡◌, List, map, None, Ok, vec_items, refl, sym, ap, ◌∙◌, rules, arith}
use Rattle.std.proofs.lemmas.List.{length-map}
use Rattle.theory.specs.Calls.{first_applying, tally_tests, tallies_tests, enter_refusal}
use Rattle.plans.specs.Refusals.{refusal_in}
use Rattle.rules.specs.Views.{tally_of, rule_of}
use Rattle.rules.specs.declared.Tally.{Tally}
use Rattle.plans.specs.PlanView.{plan_of}
use Rattle.plans.proofs.Firsts.{tests_from-map}
use Rattle.plans.proofs.Untested.{entered_fit}
use Rattle.plans.proofs.Entries.{entry_rest}
use Rattle.plans.proofs.plan.Plan.check_entry.Goals as goal
use Rattle.plans.proofs.plan.Plan.check_entry.Goals.{After-check_each, at-returns-in_err-check_each, at-invariant_of-result, at-returns}

tested : (g : _) (c : After-check_each g) → refusal_in c.check_each.result ≡ enter_refusal (g.B.Bank.meaning c.args.self.now.bank) (plan_of c.args.self.now) (rule_of c.args.rule)
tested g c =
    let bank = g.B.Bank.meaning c.args.self.now.bank in
    let plan = plan_of c.args.self.now in
    let atoms = c.atoms-atoms.result in
    let same = length-map (vec_items c.args.self.now.table.rules) (λ k. rule_of k.rule) in
    c.check_each.ensures (λ t x. tally_tests bank atoms t (tally_of x)) (λ item place r low met. search rules)
    ∙ ap first_applying (tests_from-map (tally_tests bank atoms) tally_of 1 c.deref.result.now)
    ∙ ap (λ (xs : List Tally). first_applying (tallies_tests bank atoms 1 (map tally_of xs))) c.deref.ensures.value
    ∙ entry_rest bank plan (rule_of c.args.rule) (omega arith) atoms c.atoms-atoms.ensures c.in_ok-check_sets.ensures

untested : (g : _) (c : After-check_each g) → c.check_each.result ≡ Ok tt
    → None ≡ enter_refusal (g.B.Bank.meaning c.args.self.now.bank) (plan_of c.args.self.now) (rule_of c.args.rule)
untested g c e = sym (ap refusal_in e) ∙ tested g c

pub returns-in_err-check_each : goal.returns-in_err-check_each
returns-in_err-check_each g c =
    let refused = sym (ap refusal_in c.in_err-check_each.was) ∙ tested g (at-returns-in_err-check_each g c).After-check_each in
    search rules

pub invariant_of-result : goal.invariant_of-result
invariant_of-result g c = record {
  fit = entered_fit (g.B.Bank.meaning c.args.self.now.bank) (plan_of c.args.self.now) (rule_of c.args.rule)
      (untested g (at-invariant_of-result g c).After-check_each c.in_ok-check_each.was);
}

pub returns : goal.returns
returns g c =
    let none = sym (untested g (at-returns g c).After-check_each c.in_ok-check_each.was) in
    (refl, none, omega arith)
