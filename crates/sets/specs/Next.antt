-- The subset that follows another.
use Rattle.std.specs.Prelude.{◌≡◌, ℕ, ◌<◌, ◌≤◌, true}
use Rattle.theory.specs.Sets.{contains}

-- k is a subset of i above its subset j, and none lies between
pub record Next (i j k : ℕ) : Type 0 where
  pub inside : contains i k ≡ true
  pub above : j < k
  pub first : (m : ℕ) → contains i m ≡ true → m < k → m ≤ j
