-- The index of the rule, as a place.
use Rattle.std.proofs.Common.{◌≡◌, suc, rules, tests, sym, ap, ◌∙◌}
use Rattle.std.specs.Option.{option_map}
use Rattle.std.proofs.lemmas.Iterator.{YieldsList-from_slice}
use Rattle.std.proofs.lemmas.Iterator.Search.{position_from_yields_List}
use Rattle.theory.specs.Verdicts.{first_broken}
use Rattle.judging.proofs.Places.{position-map}
use Rattle.judging.proofs.trial.Trial.first_broken.Goals as goal

pub returns : goal.returns
unfolding first_broken
returns g c =
    let suc_of : c.map.result ≡ option_map suc c.position.result = search rules in
    suc_of
    ∙ ap (option_map suc)
    (position_from_yields_List _ _ _ c.position.result c.position.ensures.ran (YieldsList-from_slice c.args.self.now.rules.now cc) (λ x b q k. search (rules, tests))
    ∙ sym (position-map _ _ c.args.self.now.rules.now))
