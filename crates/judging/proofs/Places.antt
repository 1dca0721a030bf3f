-- The first place of a list seen through a view.
use Rattle.std.proofs.Common.{◌≡◌, ℕ, Bool, cond, ◌+◌, List, [], ◌∷◌, map, refl, ap}
use Rattle.std.proofs.lemmas.List.{length-map}
use Rattle.std.specs.List.{prefix_len, position}

prefix_len-map : {X A : Type 0} (p : A → Bool) (view : X → A) (xs : List X) → prefix_len p (map view xs) ≡ prefix_len (λ x. p (view x)) xs
prefix_len-map p view [] = refl
prefix_len-map p view (x ∷ xs) = ap (λ (n : ℕ). cond (p (view x)) (1 + n) 0) (prefix_len-map p view xs)

pub position-map : {X A : Type 0} (p : A → Bool) (view : X → A) (xs : List X) → position p (map view xs) ≡ position (λ x. p (view x)) xs
position-map p view xs = simp (prefix_len-map, length-map)
