-- What the fields give, then what the elements give.
use Rattle.std.proofs.Common.{List, map, ap, ◌∙◌, rules}
use Rattle.theory.specs.Calls.{first_applying, field_tests, element_tests, elements_tests}
use Rattle.rules.specs.Views.{element_of, tally_of}
use Rattle.rules.specs.declared.Element.{Element}
use Rattle.plans.proofs.Firsts.{first_rest, tests_from-map}
use Rattle.plans.proofs.plan.entry.check_tally.Goals as goal

pub returns : goal.returns
returns g c =
    let t = tally_of c.args.tally.now in
    c.check_each.ensures (λ e x. element_tests c.args.atoms c.args.place e (element_of x)) (λ item place r low met. search rules)
    ∙ ap first_applying (tests_from-map (element_tests c.args.atoms c.args.place) element_of 1 c.deref.result.now)
    ∙ ap (λ (xs : List Element). first_applying (elements_tests c.args.atoms c.args.place 1 (map element_of xs))) c.deref.ensures.value
    ∙ first_rest (field_tests (g.B.Bank.meaning c.args.bank.now) c.args.place t) (elements_tests c.args.atoms c.args.place 1 t.elements) c.in_ok-check_fields.ensures
