-- A total, one element further.
use Rattle.std.proofs.Common.{◌≡◌, ℕ, ◌+◌, ◌*◌, ◌<◌, ◌≤◌, Bool, true, false, cond, List, map, length, get_or, drop, ℤ, pos, nat_abs, sym, ap, ◌∙◌, arith}
use Rattle.std.proofs.lemmas.Bool.{leb-true}
use Rattle.std.proofs.lemmas.List.{at_drop_all, at_drop_more, get_or_default}
use Rattle.std.specs.List.{list_all}
use Rattle.theory.specs.Banks.{Bank, Kind, LawfulBank}
use Rattle.theory.specs.Rules.{Element, total}
use Rattle.theory.proofs.Lists.{list_all_map_at}
use Rattle.rules.specs.Fits.{light}
use Rattle.rules.specs.Views.{element_of}
use Rattle.rules.specs.declared.Element.{Element as Stored}

abbrev pub blank : Stored
blank = record { ins = record { 0 = 0 }; outs = record { 0 = 0 }; weight = pos 0 }

-- the weight at a place is in range
pub light_at : (es : List Stored) (i : ℕ) → i < length es → list_all light (map element_of es) ≡ true → nat_abs (get_or es i blank).weight ≤ 1000000
light_at es i within all =
    leb-true _ _ (list_all_map_at light element_of es i (get_or es i blank) within (get_or_default es i blank (get_or es i blank) within) all)

module _ (b : Bank) (k : ℕ) (counts : Element → Bool) (es : List Stored) where
  -- the elements from i on bring z to the total, and each before took it at most a weight's range further from zero
  abbrev pub SoFar : ℤ → ℕ → Type 0
  SoFar z i = record {
    whole : total b k counts z (map element_of (drop i es)) ≡ total b k counts (b.empty k) (map element_of es);
    near : nat_abs z ≤ 12000001 + 1000000 * i;
  }

  -- a turn of the loop; t is what the reading answered
  pub one_more : LawfulBank b → Kind b k → length es ≤ 12 → list_all light (map element_of es) ≡ true → (z : ℤ) (i : ℕ) → i < length es → SoFar z i
      → (t : Bool) → t ≡ counts (element_of (get_or es i blank)) → (y : ℤ) → y ≡ cond t (b.step k z (get_or es i blank).weight) z → SoFar y (i + 1)
  unfolding total
  one_more laws kind few all z i within so_far t et y ey =
      record {
        whole = ap (λ (x : ℤ). total b k counts x (map element_of (drop (i + 1) es)))
            (ey ∙ ap (λ (u : Bool). cond u (b.step k z (get_or es i blank).weight) z) et)
            ∙ sym (at_drop_more (λ (xs : List Stored). total b k counts z (map element_of xs)) es i blank within) ∙ so_far.whole;
        near = range t ey;
      }
    where
      range : (t : Bool) → y ≡ cond t (b.step k z (get_or es i blank).weight) z → nat_abs y ≤ 12000001 + 1000000 * (i + 1)
      range true e = omega (arith, ap nat_abs e, laws.short_step k z (get_or es i blank).weight kind (light_at es i within all) (omega (arith, so_far.near)), so_far.near)
      range false e = omega (arith, ap nat_abs e, so_far.near)

  -- after the last element
  pub all_passed : (z : ℤ) (i : ℕ) → length es ≤ i → SoFar z i → z ≡ total b k counts (b.empty k) (map element_of es)
  unfolding total
  all_passed z i over so_far =
      sym (at_drop_all (λ (xs : List Stored). total b k counts z (map element_of xs)) es i over) ∙ so_far.whole
