-- The reduct at a candidate, when a set satisfies it, and the verdict.
use Rattle.std.specs.Prelude.{ℕ, zero, suc, Bool, true, false, not, ◌&&◌, ◌||◌, List, Some, None, Option}
use Rattle.std.specs.List.{list_all, position}
use Rattle.std.specs.Option.{option_map}
use Rattle.theory.specs.Sets.{contains, misses}
use Rattle.theory.specs.Banks.{Bank}
use Rattle.theory.specs.Rules.{Element, Tally, Rule, fact, counted, negates, holds_body, holds_rule}
use Rattle.theory.specs.Readings.{Reading}

-- whether the element counts for J, under the reading at the candidate I
abbrev pub counts_at : Reading → ℕ → ℕ → Element → Bool
counts_at r i j e = r.counts i j e.ins e.outs

-- whether the tally passes for J
abbrev pub passed : Bank → Reading → ℕ → ℕ → Tally → Bool
passed bank r i j t = r.passes (negates t.sign) (fact bank t (counted i)) (fact bank t (counts_at r i j))

-- The reduct keeps the rules whose body I holds. J satisfies a kept rule unless J contains its must set, every tally
-- passes and J has no head atom.
abbrev pub satisfies_rule : Bank → Reading → ℕ → ℕ → Rule → Bool
satisfies_rule bank r i j u =
    not (holds_body bank i u)
    || not (contains j u.must && (list_all (passed bank r i j) u.tallies && misses j u.head))

-- J satisfies the reduct
abbrev pub satisfies : Bank → Reading → List Rule → ℕ → ℕ → Bool
satisfies bank r rules i j = list_all (satisfies_rule bank r i j) rules

-- J is inside I and satisfies the reduct
abbrev pub fits_inside : Bank → Reading → List Rule → ℕ → ℕ → Bool
fits_inside bank r rules i j = contains i j && satisfies bank r rules i j

-- the lowest of the n numbers from k on that passes the test
unfoldable pub lowest : (ℕ → Bool) → ℕ → ℕ → Option ℕ
lowest p zero k = None
lowest p (suc n) k = elim (p k) [ true ↦ Some k | false ↦ lowest p n (suc k) ]

-- I does not hold the rule at this place; this proper subset satisfies the reduct; neither
pub data Verdict : Type 0 where
  broken : ℕ → Verdict
  smaller : ℕ → Verdict
  stable : Verdict

-- the lowest proper subset that satisfies the reduct: a proper subset is a smaller number, so those below I are all
unfoldable pub lowest_inside : Bank → Reading → List Rule → ℕ → Option ℕ
lowest_inside bank r rules i = lowest (fits_inside bank r rules i) i 0

-- the first place whose rule I does not hold: places count from 1
unfoldable pub first_broken : Bank → List Rule → ℕ → Option ℕ
first_broken bank rules i = option_map suc (position (λ u. not (holds_rule bank i u)) rules)

abbrev pub by_subset : Option ℕ → Verdict
by_subset (Some j) = smaller j
by_subset None = stable

abbrev pub by_place : Option ℕ → Verdict → Verdict
by_place (Some place) otherwise = broken place
by_place None otherwise = otherwise

abbrev pub verdict : Bank → Reading → List Rule → ℕ → Verdict
verdict bank r rules i = by_place (first_broken bank rules i) (by_subset (lowest_inside bank r rules i))
