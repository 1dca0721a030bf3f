-- Numbers of 32 bits, as the code compares them.
use Rattle.std.proofs.Common.{◌≡◌, ◌&&◌, eqb, ℤ, arith, w32, SFits, of_z}
use lib.Signed.{le_z}
use Rattle.std.proofs.lemmas.Int.{ints}
use Rattle.std.proofs.lemmas.Bool.Decides.{nat_tests}

-- numbers are equal when their bits are
pub same : (a b : ℤ) → SFits w32 a → SFits w32 b → eqb (of_z w32 a) (of_z w32 b) ≡ (le_z a b && le_z b a)
same a b f g = grind (arith, ints, nat_tests)
