-- Each tally of a fit rule is fit, and is a tally of the definitions.
use Rattle.std.proofs.Common.{◌≡◌, true, rules, tests, sym, ◌∙◌}
use Rattle.std.proofs.lemmas.Iterator.{YieldsList-from_slice}
use Rattle.std.proofs.lemmas.Iterator.Adapters.{serves_from_places}
use Rattle.std.proofs.lemmas.Iterator.Search.{all_from_yields_List}
use Rattle.std.proofs.lemmas.List.Folds.{list_all-map}
use Rattle.theory.proofs.Lists.{list_all_map_at}
use Rattle.rules.specs.Fits.{fit_tally}
use Rattle.rules.specs.Views.{tally_of}
use Rattle.judging.proofs.tallies.every_tally.Goals as goal

pub all-requires-clause-callable : goal.all-requires-clause-callable
all-requires-clause-callable g c =
    serves_from_places (YieldsList-from_slice c.args.kept.now.rule.tallies.items cc) (λ x q k. search (rules, tests))
    (λ x k within is. let fit : fit_tally (tally_of x.now) ≡ true = list_all_map_at fit_tally tally_of _ k x.now within is c.args.kept.now.fit in search rules)

pub returns : goal.returns
returns g c =
    all_from_yields_List _ _ _ _ c.all.ensures.ran (YieldsList-from_slice c.args.kept.now.rule.tallies.items cc) (λ x b q k. search (rules, tests))
    ∙ sym (list_all-map _ _ c.args.kept.now.rule.tallies.items)
