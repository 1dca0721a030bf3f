-- The lowest subset, one subset further.
use Rattle.std.proofs.Common.{◌<◌, sym, arith}
use Rattle.std.proofs.lemmas.Bool.{and_from, both_ways}
use Rattle.std.proofs.lemmas.Bool.Decides.{nat_tests}
use Rattle.theory.specs.Sets.{has, contains}
use Rattle.theory.specs.Verdicts.{lowest_inside}
use Rattle.theory.proofs.SetLaws.{contains_from, contains_le, has_none}
use Rattle.theory.proofs.Searches.{lowest_found}
use Rattle.judging.proofs.trial.Trial.lowest_satisfying.Goals as goal

pub loop-subset-init : goal.loop-subset-init
loop-subset-init g c =
    (contains_from c.args.self.now.candidate.0 0 (λ n h. absurd (both_ways (has 0 n) (has_none n) h)), λ k lower. absurd (omega arith))

pub returns-then-satisfies : goal.returns-then-satisfies
unfolding lowest_inside
returns-then-satisfies g c =
    let i = c.args.self.now.candidate.0 in
    let j = c.loop-subset.subset.0 in
    let within = contains_le i j c.loop-subset.invariant.0 in
    let below : j < i = grind (arith, nat_tests) in
    sym (lowest_found _ i j below (and_from (contains i j) _ c.loop-subset.invariant.0 (sym c.if-satisfies.ensures)) c.loop-subset.invariant.1)
