-- A set of atoms is a number: bit n, worth 2 ^ n, marks atom n.
use Rattle.std.specs.Prelude.{◌≡◌, ℕ, ◌/◌, ◌%◌, ◌^◌, ◌<◌, Bool, true, ◌↔◌, ◌==◌, ◌≢◌, bit_and, nat_lt}

-- the set s has the atom n
unfoldable pub has : ℕ → ℕ → Bool
has s n = s / 2 ^ n % 2 == 1

-- the set s contains each atom of m
unfoldable pub contains : ℕ → ℕ → Bool
contains s m = bit_and s m == m

-- the set s has no atom of m
unfoldable pub misses : ℕ → ℕ → Bool
misses s m = bit_and s m == 0

-- each atom of the set s is one of the first n
unfoldable pub within : ℕ → ℕ → Bool
within n s = nat_lt s (2 ^ n)

-- The three tests say what they are named after, atom by atom; and a set is known by its atoms.
pub record SetsByAtoms : Type 0 where
  pub contained : (s m : ℕ) → (contains s m ≡ true) ↔ ((n : ℕ) → has m n ≡ true → has s n ≡ true)
  pub missed : (s m : ℕ) → (misses s m ≡ true) ↔ ((n : ℕ) → has m n ≡ true → has s n ≢ true)
  pub bounded : (k s : ℕ) → (within k s ≡ true) ↔ ((n : ℕ) → has s n ≡ true → n < k)
  pub known : (s t : ℕ) → ((n : ℕ) → has s n ≡ has t n) → s ≡ t
