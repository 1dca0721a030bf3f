-- What a test of each of a list says of one.
use Rattle.std.proofs.Common.{◌≡◌, ℕ, ◌<◌, Bool, true, List, map, length, get_or, arith}
use Rattle.std.proofs.lemmas.List.Folds.{list_all-map, list_all_at}
use Rattle.std.specs.List.{list_all}

-- what holds of each, seen through f, holds of the one at i
pub list_all_map_at : {X A : Type 0} (p : A → Bool) (f : X → A) (xs : List X) (i : ℕ) (x : X) → i < length xs → x ≡ get_or xs i x
    → list_all p (map f xs) ≡ true → p (f x) ≡ true
list_all_map_at p f xs i x within e h = grind (arith, list_all-map p f xs, list_all_at (λ y. p (f y)) xs i x within)
