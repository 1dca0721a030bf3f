-- Readings of a tally at a candidate I and a set J inside it, their laws, and the two that ship.
use Rattle.std.specs.Prelude.{◌≡◌, ℕ, ◌^◌, ◌<◌, Bool, true, cond, not, ◌&&◌, ◌⊎◌}
use Rattle.theory.specs.Sets.{has, contains, misses}
use Rattle.theory.specs.Rules.{as_signed}

-- A reading's meaning, as fixed functions: whether an element counts, from I, J and its in and out sets; and whether
-- a tally passes, from its sign (true: negated), whether its relation holds for I, and whether it holds for J over
-- the elements that the reading counts.
pub record Reading : Type 0 where
  pub counts : ℕ → ℕ → ℕ → ℕ → Bool
  pub passes : Bool → Bool → Bool → Bool

-- What a reading owes, for sets of 32 atoms and J inside I: at J = I an element counts as the plain definition says;
-- where the two facts are equal the tally passes when the plain definition meets it; and whether an element counts
-- depends only on those marks of I and J that lie in its in and out sets.
pub record LawfulReading (r : Reading) : Type 0 where
  pub plainly : (i a b : ℕ) → i < 2 ^ 32 → a < 2 ^ 32 → b < 2 ^ 32 → r.counts i i a b ≡ (contains i a && misses i b)
  pub agreed : (negative f : Bool) → r.passes negative f f ≡ as_signed negative f
  pub local : (i j i' j' a b : ℕ) → i < 2 ^ 32 → i' < 2 ^ 32 → a < 2 ^ 32 → b < 2 ^ 32 → contains i j ≡ true → contains i' j' ≡ true
      → ((n : ℕ) → (has a n ≡ true) ⊎ (has b n ≡ true) → (has i n ≡ has i' n) × (has j n ≡ has j' n))
      → r.counts i j a b ≡ r.counts i' j' a b

-- Faber, Leone and Pfeifer: everything is read in J
abbrev pub flp : Reading
flp = record {
  counts = λ i j a b. contains j a && misses j b;
  passes = λ negative of_i of_j. as_signed negative of_j;
}

-- Ferraris: out sets and negated tallies are read in I
abbrev pub ferraris : Reading
ferraris = record {
  counts = λ i j a b. contains j a && misses i b;
  passes = λ negative of_i of_j. cond negative (not of_i) of_j;
}
