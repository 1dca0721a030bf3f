-- What is kept while the items are checked.
use Rattle.std.proofs.Common.{◌≡◌, ℕ, suc, ◌+◌, List, length}
use Rattle.theory.specs.Calls.{Test, Refused, first_applying, tests_from}
use Rattle.plans.specs.Tests.{Gives}
use Rattle.plans.proofs.plan.entry.check_each.Given as goal

-- the items that are left decide
abbrev pub invariant-loop-item : goal.invariant-loop-item
invariant-loop-item g l = record {
  places : l.item-iterator.b.start + length l.item-iterator.a.rest.now ≡ suc (length l.fn.items);
  left : (tests : ℕ → g.row.T.Denot → List (Test Refused)) → Gives (goal.F-post g l.fn.check) tests
      → first_applying (tests_from tests l.item-iterator.b.start l.item-iterator.a.rest.now) ≡ first_applying (tests_from tests 1 l.fn.items);
}
