-- Sets of 32 bits have their atoms among the first 32.
use Rattle.std.proofs.Common.{◌≡◌, ℕ, ◌^◌, ◌<◌, ◌≤◌, true, arith, pow_mono}
use Rattle.std.proofs.lemmas.Bool.{lt-ltb}
use Rattle.theory.specs.Sets.{within}

-- every set has its atoms among the first 32
pub all_within : (n s : ℕ) → 32 ≤ n → s < 4294967296 → within n s ≡ true
unfolding within
all_within n s h f = let p : 2 ^ 32 ≤ 2 ^ n = pow_mono h in lt-ltb s (2 ^ n) (omega arith)
