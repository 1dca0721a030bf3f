-- The next subset: (j - i) & i at w bits is the lowest number inside i above j.
use Rattle.std.proofs.Common.{◌≡◌, ℕ, zero, suc, ◌+◌, ◌-◌, ◌*◌, ◌/◌, ◌%◌, ◌^◌, ◌<◌, ◌≤◌, min, true, ap, ◌∙◌, pow-suc, arith}
use lib.Bits.{bit_and, and_comm, and_step, and_le_l}
use Rattle.std.proofs.lemmas.Bool.{eqb-true}
use Rattle.std.proofs.lemmas.Bool.Decides.{nat_tests}
use Rattle.theory.specs.Sets.{contains}
use Rattle.theory.proofs.SetLaws.{has_and, contains_from, contains_le}
use Rattle.sets.specs.Next.{Next}

-- each atom of j is one of i
abbrev Inside : ℕ → ℕ → Type 0
Inside i j = bit_and i j ≡ j

inside_is : (i j : ℕ) → contains i j ≡ true → Inside i j
unfolding contains
inside_is i j c = eqb-true (bit_and i j) j c

-- what is inside, digit by digit
halves : (i j : ℕ) → Inside i j → Inside (i / 2) (j / 2) × (j % 2 ≤ i % 2)
halves i j e = (omega (arith, and_step i j), omega (arith, and_step i j))

-- one step of `and`, where the half of x is known
step : (i x y : ℕ) → x / 2 ≡ y → bit_and i x ≡ bit_and (i / 2) y * 2 + min (i % 2) (x % 2)
step i x y e = and_step i x ∙ ap (λ (z : ℕ). bit_and (i / 2) z * 2 + min (i % 2) (x % 2)) e

-- the atoms that i lacks are not i's
flat : (w i j : ℕ) → i < 2 ^ w → Inside i j → bit_and i (j + (2 ^ w - 1 - i)) ≡ j
flat zero i j fits e = omega (arith, and_le_l i j, and_le_l i (j + (2 ^ 0 - 1 - i)))
flat (suc w) i j fits e =
    let h = halves i j e in
    let p = pow-suc 2 w in
    let s = step i (j + (2 ^ suc w - 1 - i)) (j / 2 + (2 ^ w - 1 - i / 2)) (omega arith) in
    omega (arith, s, flat w (i / 2) (j / 2) (omega arith) h.0)

-- it is above j
next_more : (w i j : ℕ) → i < 2 ^ w → Inside i j → j < i → j < bit_and i (j + (2 ^ w - i))
next_more zero i j fits e below = absurd (omega arith)
next_more (suc w) i j fits e below =
    let x = j + (2 ^ suc w - i) in
    let h = halves i j e in
    let p = pow-suc 2 w in
    grind (arith, step i x (j / 2 + (2 ^ w - i / 2)), step i x (j / 2 + (2 ^ w - 1 - i / 2)), flat w (i / 2) (j / 2) (omega arith) h.0, next_more w (i / 2) (j / 2) (omega arith) h.0)

-- and no set inside i lies between
next_least : (w i j k : ℕ) → i < 2 ^ w → Inside i j → Inside i k → j < k → bit_and i (j + (2 ^ w - i)) ≤ k
next_least zero i j k fits e f above = omega (arith, and_le_l i k)
next_least (suc w) i j k fits e f above =
    let x = j + (2 ^ suc w - i) in
    let h = halves i j e in
    let m = halves i k f in
    let p = pow-suc 2 w in
    grind (arith, step i x (j / 2 + (2 ^ w - i / 2)), step i x (j / 2 + (2 ^ w - 1 - i / 2)), flat w (i / 2) (j / 2) (omega arith) h.0, next_least w (i / 2) (j / 2) (k / 2) (omega arith) h.0 m.0)

pub and_inside : (x i : ℕ) → contains i (bit_and x i) ≡ true
and_inside x i = contains_from i (bit_and x i) (λ n h. grind (arith, nat_tests, has_and x i n))

-- the number that the code makes
pub next_is : (i j : ℕ) → i < 4294967296 → contains i j ≡ true → (j ≡ i → ⊥) → Next i j (bit_and ((j + (4294967296 - i)) % 4294967296) i)
next_is i j fits c proper =
    let e = inside_is i j c in
    let below : j < i = omega (arith, contains_le i j c, proper) in
    let same : bit_and ((j + (2 ^ 32 - i)) % 2 ^ 32) i ≡ bit_and i (j + (2 ^ 32 - i)) =
    ap (λ (x : ℕ). bit_and x i) (omega arith) ∙ and_comm (j + (2 ^ 32 - i)) i in
    record {
      inside = and_inside ((j + (2 ^ 32 - i)) % 2 ^ 32) i;
      above = omega (arith, same, next_more 32 i j fits e below);
      first = λ m d lower. grind (arith, same, next_least 32 i j m fits e (inside_is i m d));
    }

-- two of its facts, for a search
pub next_above : (i j : ℕ) → i < 4294967296 → contains i j ≡ true → (j ≡ i → ⊥) → j < bit_and ((j + (4294967296 - i)) % 4294967296) i
next_above i j fits c proper = (next_is i j fits c proper).above

pub next_first : (i j m : ℕ) → i < 4294967296 → contains i j ≡ true → (j ≡ i → ⊥) → contains i m ≡ true → m < bit_and ((j + (4294967296 - i)) % 4294967296) i → m ≤ j
next_first i j m fits c proper d lower = (next_is i j fits c proper).first m d lower
