-- The subset is inside the candidate, and nothing below it satisfies the reduct.
use Rattle.std.proofs.Common.{◌≡◌, ℕ, ◌-◌, ◌<◌, true, false}
use Rattle.theory.specs.Sets.{contains}
use Rattle.theory.specs.Verdicts.{fits_inside}
use Rattle.rules.specs.Kept.{rules_of}
use Rattle.judging.proofs.trial.Trial.lowest_satisfying.Given as goal

-- the subset is inside the candidate, and nothing below it is inside and satisfies the reduct
abbrev pub invariant-loop-subset : goal.invariant-loop-subset
invariant-loop-subset g l =
    (contains l.self.candidate.0 l.subset.0 ≡ true)
    × ((k : ℕ) → k < l.subset.0 → fits_inside (g.B.Bank.meaning l.self.bank.now) (g.R.Reading.meaning l.self.reading.now) (rules_of l.self.rules.now) l.self.candidate.0 k ≡ false)

abbrev pub decreases-loop-subset : goal.decreases-loop-subset
decreases-loop-subset g l = l.self.candidate.0 - l.subset.0
