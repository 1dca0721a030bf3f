-- Places, which count from 1, and indices, which count from 0.
use Rattle.std.proofs.Common.{◌≡◌, ℕ, zero, suc, ◌-◌, ◌<◌, ◌≤◌, Bool, true, false, cond, leb, List, [], ◌∷◌, map, length, get_or, set, Some, None, sym, refl, ap, ◌∙◌, le_of_suc-le-suc, arith}
use Rattle.std.proofs.lemmas.Bool.{leb-true, and_parts, and_from}
use Rattle.std.proofs.lemmas.Bool.Decides.{nat_tests}
use Rattle.std.specs.List.{list_all}
use Rattle.theory.specs.Calls.{between, at_place, changed_at}
use Rattle.plans.specs.Places.{index_of}

module _ {X : Type 0} (xs : List X) (place len : ℕ) (same : length xs ≡ len) where
  -- an index tells the place, and that it is there
  pub index_there : (i : ℕ) → index_of place len ≡ Some i → (place ≡ suc i) × (i < length xs)
  index_there i e = by (between 1 len place) refl e
    where
      by : (b : Bool) → between 1 len place ≡ b → cond b (Some (place - 1)) None ≡ Some i → (place ≡ suc i) × (i < length xs)
      by true t h =
          let at : place - 1 ≡ i = cc in
          let p = and_parts (leb 1 place) (leb place len) t in
          let low = leb-true 1 place p.0 in
          let high = leb-true place len p.1 in (omega arith, omega arith)
      by false t h = absurd cc

  -- no index tells that nothing stands there
  pub index_missing : {A : Type 0} (view : X → A) → index_of place len ≡ None → at_place place (map view xs) ≡ None
  index_missing view e = by place (between 1 len place) refl e
    where
      past : (ys : List X) (k : ℕ) → length ys ≤ k → at_place (suc k) (map view ys) ≡ None
      past [] k h = refl
      past (y ∷ ys) zero h = absurd (omega arith)
      past (y ∷ ys) (suc k) h = past ys k (le_of_suc-le-suc h)

      by : (n : ℕ) (b : Bool) → between 1 len n ≡ b → cond b (Some (n - 1)) None ≡ None → at_place n (map view xs) ≡ None
      by zero b t h = refl
      by (suc n) true t h = absurd cc
      by (suc n) false t h = past xs n (grind (arith, nat_tests))

-- something stands at a place that is there
pub place_some : {X A : Type 0} (view : X → A) (xs : List X) (place i : ℕ) → place ≡ suc i → i < length xs → (a : A) × (at_place place (map view xs) ≡ Some a)
place_some {X} {A} view xs place i at within = let p = by xs i within in (p.0, ap (λ (n : ℕ). at_place n (map view xs)) at ∙ p.1)
  where
    by : (ys : List X) (k : ℕ) → k < length ys → (a : A) × (at_place (suc k) (map view ys) ≡ Some a)
    by [] k h = absurd (omega arith)
    by (y ∷ ys) zero h = (view y, refl)
    by (y ∷ ys) (suc k) h = by ys k (le_of_suc-le-suc h)

-- the item at a place, which is lent by its index
pub record Lent {X : Type 0} (xs : List X) (place i : ℕ) (x : X) : Type 0 where
  pub at : place ≡ suc i
  pub within : i < length xs
  pub is : x ≡ get_or xs i x

pub lent : {X : Type 0} (xs : List X) (place len : ℕ) {i : ℕ} {x : X} → length xs ≡ len → index_of place len ≡ Some i → x ≡ get_or xs i x → Lent xs place i x
lent xs place len {i} {x} same e is = let there = index_there xs place len same i e in record { at = there.0; within = there.1; is = is }

-- what it is seen as through a view, and what all are once it is given back
module _ {X A : Type 0} (view : X → A) {xs : List X} {place i : ℕ} {x : X} (l : Lent xs place i x) where
  pub lent_found : at_place place (map view xs) ≡ Some (view x)
  lent_found = ap (λ (n : ℕ). at_place n (map view xs)) l.at ∙ by xs i l.within ∙ ap (λ (z : X). Some (view z)) (sym l.is)
    where
      by : (ys : List X) (k : ℕ) → k < length ys → at_place (suc k) (map view ys) ≡ Some (view (get_or ys k x))
      by [] k h = absurd (omega arith)
      by (y ∷ ys) zero h = refl
      by (y ∷ ys) (suc k) h = by ys k (le_of_suc-le-suc h)

  pub lent_same : (y : X) → view y ≡ view x → map view (set xs i y) ≡ map view xs
  lent_same y e = by xs i l.within (e ∙ ap view l.is)
    where
      by : (ys : List X) (k : ℕ) → k < length ys → view y ≡ view (get_or ys k x) → map view (set ys k y) ≡ map view ys
      by [] k h same = absurd (omega arith)
      by (z ∷ ys) zero h same = ap (λ (a : A). a ∷ map view ys) same
      by (z ∷ ys) (suc k) h same = ap (λ (rest : List A). view z ∷ rest) (by ys k (le_of_suc-le-suc h) same)

  pub lent_changed : (f : A → A) (y : X) → view y ≡ f (view x) → map view (set xs i y) ≡ changed_at f place (map view xs)
  lent_changed f y e = by xs i l.within (e ∙ ap (λ (z : X). f (view z)) l.is) ∙ ap (λ (n : ℕ). changed_at f n (map view xs)) (sym l.at)
    where
      by : (ys : List X) (k : ℕ) → k < length ys → view y ≡ f (view (get_or ys k x)) → map view (set ys k y) ≡ changed_at f (suc k) (map view ys)
      by [] k h same = absurd (omega arith)
      by (z ∷ ys) zero h same = ap (λ (a : A). a ∷ map view ys) same
      by (z ∷ ys) (suc k) h same = ap (λ (rest : List A). view z ∷ rest) (by ys k (le_of_suc-le-suc h) same)

-- what every one passes, and no change spoils, every one passes then
pub all_changed : {A : Type 0} (p : A → Bool) (f : A → A) → ((x : A) → p x ≡ true → p (f x) ≡ true) → (n : ℕ) (xs : List A) → list_all p xs ≡ true → list_all p (changed_at f n xs) ≡ true
all_changed p f keeps zero xs h = h
all_changed p f keeps (suc n) [] h = h
all_changed p f keeps (suc zero) (x ∷ xs) h =
    let q = and_parts (p x) (list_all p xs) h in and_from (p (f x)) (list_all p xs) (keeps x q.0) q.1
all_changed p f keeps (suc (suc n)) (x ∷ xs) h =
    let q = and_parts (p x) (list_all p xs) h in and_from (p x) (list_all p (changed_at f (suc n) xs)) q.0 (all_changed p f keeps (suc n) xs q.1)

pub length_changed : {A : Type 0} (f : A → A) (n : ℕ) (xs : List A) → length (changed_at f n xs) ≡ length xs
length_changed f zero xs = refl
length_changed f (suc n) [] = refl
length_changed f (suc zero) (x ∷ xs) = refl
length_changed f (suc (suc n)) (x ∷ xs) = let e = length_changed f (suc n) xs in omega arith
