-- The laws of sets; after this file nobody opens `has`, `contains`, `misses` or `within`.
use Rattle.std.proofs.Common.{◌≡◌, ℕ, zero, suc, ◌/◌, ◌^◌, ◌<◌, ◌≤◌, true, false, ◌&&◌, eqb, ap, ◌∙◌, pow-suc, arith}
use lib.Bits.{bit_and, and_le_l}
use Rattle.std.proofs.lemmas.Nat.Bits.{bit_at_and, bit_at-suc, bit_at-zero, bit_at_above, same_from_bits}
use Rattle.std.proofs.lemmas.Bool.{eqb-true, eq-eqb, lt-ltb}
use Rattle.std.proofs.lemmas.Bool.Decides.{nat_tests}
use Rattle.theory.specs.Sets.{has, contains, misses, within, SetsByAtoms}

pub has_suc : (s n : ℕ) → has s (suc n) ≡ has (s / 2) n
unfolding has
has_suc s n = ap (λ (x : ℕ). eqb x 1) (bit_at-suc s n)

pub has_and : (a b n : ℕ) → has (bit_and a b) n ≡ (has a n && has b n)
unfolding has
has_and a b n = grind (arith, nat_tests, bit_at_and a b n)

pub has_none : (n : ℕ) → has 0 n ≡ false
unfolding has
has_none n = ap (λ (x : ℕ). eqb x 1) (bit_at-zero n)

-- sets with the same members are one number
pub ext : (a b : ℕ) → ((n : ℕ) → has a n ≡ has b n) → a ≡ b
unfolding has
ext a b h = same_from_bits a b (λ n. grind (arith, nat_tests, h n))

-- a number below 2 ^ k has no member from k on
pub has_high : (s k n : ℕ) → s < 2 ^ k → k ≤ n → has s n ≡ false
unfolding has
has_high s k n h l = ap (λ (x : ℕ). eqb x 1) (bit_at_above s k n h l)

-- `contains` and `misses`, by members
pub contains_all : (s m n : ℕ) → contains s m ≡ true → has m n ≡ true → has s n ≡ true
unfolding contains
contains_all s m n c h = grind (arith, nat_tests, has_and s m n)

pub contains_from : (s m : ℕ) → ((n : ℕ) → has m n ≡ true → has s n ≡ true) → contains s m ≡ true
unfolding contains
contains_from s m f = eq-eqb (bit_and s m) m (ext (bit_and s m) m (λ n. grind (arith, has_and s m n, f n)))

pub misses_none : (s m n : ℕ) → misses s m ≡ true → has m n ≡ true → has s n ≡ true → ⊥
unfolding misses
misses_none s m n c h k = grind (arith, nat_tests, has_and s m n, has_none n)

pub misses_from : (s m : ℕ) → ((n : ℕ) → has m n ≡ true → has s n ≡ true → ⊥) → misses s m ≡ true
unfolding misses
misses_from s m f = eq-eqb (bit_and s m) 0 (ext (bit_and s m) 0 (λ n. grind (arith, has_and s m n, has_none n, f n)))

-- a set inside another is no larger a number
pub contains_le : (s m : ℕ) → contains s m ≡ true → m ≤ s
unfolding contains
contains_le s m c = omega (arith, and_le_l s m, eqb-true (bit_and s m) m c)

pub contains_self : (s : ℕ) → contains s s ≡ true
contains_self s = contains_from s s (λ n h. h)

-- `within`, by members
pub within_below : (k s n : ℕ) → within k s ≡ true → has s n ≡ true → n < k
unfolding within
within_below k s n w h = grind (arith, nat_tests, has_high s k n)

below_within : (k s : ℕ) → ((n : ℕ) → has s n ≡ true → n < k) → s < 2 ^ k
below_within zero s f = omega (arith, ext s 0 (λ n. grind (arith, has_none n, f n)))
below_within (suc k) s f = omega (arith, pow-suc 2 k, below_within k (s / 2) (λ n h. omega (arith, f (suc n) (has_suc s n ∙ h))))

pub within_from : (k s : ℕ) → ((n : ℕ) → has s n ≡ true → n < k) → within k s ≡ true
unfolding within
within_from k s f = lt-ltb s (2 ^ k) (below_within k s f)

pub sets_by_atoms : SetsByAtoms
sets_by_atoms = record {
  contained = λ s m. (λ c n h. contains_all s m n c h, contains_from s m);
  missed = λ s m. (λ c n h k. misses_none s m n c h k, misses_from s m);
  bounded = λ k s. (λ w n h. within_below k s n w h, within_from k s);
  known = ext;
}
