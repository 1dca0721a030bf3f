-- Banks: what totals are and how they are stepped, the laws that a bank owes, and the product's bank.
use Rattle.std.specs.Prelude.{◌≡◌, ℕ, ◌+◌, ◌-◌, ◌≤◌, min, cond, ℤ, pos, negsuc, ◌+ℤ◌, neg_ℤ, int_lt, nat_le, unsigned_abs}

-- A bank's meaning, as fixed functions: how many kinds it has (numbered from 1), the empty total of a kind,
-- and the step from a total of a kind and a weight to the next total.
pub record Bank : Type 0 where
  pub size : ℕ
  pub empty : ℕ → ℤ
  pub step : ℕ → ℤ → ℤ → ℤ

-- k is one of the bank's kinds
abbrev pub Kind : Bank → ℕ → Type 0
Kind b k = (1 ≤ k) × (k ≤ b.size)

-- a weight in range
abbrev pub Light : ℤ → Type 0
Light w = unsigned_abs w ≤ 1000000

-- a total from which a step is owed
abbrev pub Near : ℤ → Type 0
Near z = unsigned_abs z ≤ 24000001

-- What a bank owes. The order of two weights has no effect where the total and both totals one step on are in range.
pub record LawfulBank (b : Bank) : Type 0 where
  pub some_kind : 1 ≤ b.size
  pub few_kinds : b.size ≤ 200
  pub empty_near : (k : ℕ) → Kind b k → unsigned_abs (b.empty k) ≤ 12000001
  pub either_order : (k : ℕ) (z v w : ℤ) → Kind b k → Light v → Light w → Near z → Near (b.step k z v) → Near (b.step k z w)
      → b.step k (b.step k z v) w ≡ b.step k (b.step k z w) v
  pub short_step : (k : ℕ) (z w : ℤ) → Kind b k → Light w → Near z → unsigned_abs (b.step k z w) ≤ unsigned_abs z + 1000000

-- ---- the three plain banks, of one kind each
-- how many weights
abbrev pub counting : Bank
counting = record { size = 1; empty = λ k. pos 0; step = λ k z w. z +ℤ pos 1 }

-- their sum
abbrev pub summing : Bank
summing = record { size = 1; empty = λ k. pos 0; step = λ k z w. z +ℤ w }

-- the greater of two numbers
abbrev pub greater : ℤ → ℤ → ℤ
greater z w = cond (int_lt z w) w z

-- the greatest; of no weights it is -12000001, below every bound
abbrev pub topping : Bank
topping = record { size = 1; empty = λ k. negsuc 12000000; step = λ k z w. greater z w }

-- ---- banks made from banks
-- two banks as one: the second's kinds are numbered after the first's, and the first 200 of them all are there
abbrev pub paired : Bank → Bank → Bank
paired a b = record {
  size = min 200 (a.size + b.size);
  empty = λ k. cond (nat_le k a.size) (a.empty k) (b.empty (k - a.size));
  step = λ k z w. cond (nat_le k a.size) (a.step k z w) (b.step (k - a.size) z w);
}

-- totals and weights with their signs changed
abbrev pub mirrored : Bank → Bank
mirrored b = record {
  size = b.size;
  empty = λ k. neg_ℤ (b.empty k);
  step = λ k z w. neg_ℤ (b.step k (neg_ℤ z) (neg_ℤ w));
}

-- only weights above 0 are stepped
abbrev pub gaining : Bank → Bank
gaining b = record {
  size = b.size;
  empty = λ k. b.empty k;
  step = λ k z w. cond (int_lt (pos 0) w) (b.step k z w) z;
}

-- the product's bank: 1 count, 2 sum, 3 max, 4 min (max mirrored), 5 sum of gains
abbrev pub five_kinds : Bank
five_kinds = paired (paired (paired (paired counting summing) topping) (mirrored topping)) (gaining summing)
