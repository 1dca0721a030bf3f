-- The two readings that ship keep a reading's laws.
use Rattle.std.proofs.Common.{◌≡◌, ℕ, true, ◌&&◌, sym, refl, ◌∙◌, ap₂, inl, inr}
use Rattle.std.proofs.lemmas.Bool.Decides.{same_from_decides}
use Rattle.theory.specs.Sets.{has, contains, misses}
use Rattle.theory.specs.Readings.{LawfulReading, flp, ferraris}
use Rattle.theory.proofs.SetLaws.{contains_all, contains_from, misses_none, misses_from}

-- sets with the same marks in m contain, and miss, it alike
pub contains_alike : (s r m : ℕ) → ((n : ℕ) → has m n ≡ true → has s n ≡ has r n) → contains s m ≡ contains r m
contains_alike s r m f =
    same_from_decides (contains s m) (contains r m)
    (λ h. contains_from r m (λ n k. sym (f n k) ∙ contains_all s m n h k), λ h. contains_from s m (λ n k. f n k ∙ contains_all r m n h k)) (λ h. h, λ h. h)

pub misses_alike : (s r m : ℕ) → ((n : ℕ) → has m n ≡ true → has s n ≡ has r n) → misses s m ≡ misses r m
misses_alike s r m f =
    same_from_decides (misses s m) (misses r m)
    (λ h. misses_from r m (λ n k l. misses_none s m n h k (f n k ∙ l)), λ h. misses_from s m (λ n k l. misses_none r m n h k (sym (f n k) ∙ l))) (λ h. h, λ h. h)

pub flp_lawful : LawfulReading flp
flp_lawful = record {
  plainly = λ i a b _ _ _. refl;
  agreed = λ negative f. refl;
  local = λ i j i' j' a b _ _ _ _ _ _ f.
      ap₂ ◌&&◌ (contains_alike j j' a (λ n k. (f n (inl k)).1)) (misses_alike j j' b (λ n k. (f n (inr k)).1));
}

pub ferraris_lawful : LawfulReading ferraris
ferraris_lawful = record {
  plainly = λ i a b _ _ _. refl;
  agreed = λ negative f. refl;
  local = λ i j i' j' a b _ _ _ _ _ _ f.
      ap₂ ◌&&◌ (contains_alike j j' a (λ n k. (f n (inl k)).1)) (misses_alike i i' b (λ n k. (f n (inr k)).0));
}
