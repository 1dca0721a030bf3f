-- The sum is the total of the elements so far, and near enough for a step.
use Rattle.theory.specs.Verdicts.{counts_at}
use Rattle.judging.proofs.Sums.{SoFar}
use Rattle.judging.proofs.totals.Seen.total.Given as goal

abbrev pub invariant-loop-element : goal.invariant-loop-element
invariant-loop-element g l =
    SoFar (g.B.Bank.meaning l.self.bank.now) l.kind (counts_at (g.R.Reading.meaning l.self.reading.now) l.self.at.candidate.0 l.self.at.subset.0) l.elements l.sum l.element-index
