-- The first test that applies, over lists of tests that are joined.
use Rattle.std.proofs.Common.{◌≡◌, ℕ, suc, Bool, true, false, cond, List, [], ◌∷◌, ◌++◌, map, Some, None, Option, sym, refl, ap, ◌∙◌}
use Rattle.theory.specs.Calls.{Test, first_applying, tests_from}
use Rattle.std.specs.Option.{option_or}

pub first_join : {A : Type 0} (xs ys : List (Test A)) → first_applying (xs ++ ys) ≡ option_or (first_applying xs) (first_applying ys)
first_join [] ys = refl
first_join (x ∷ xs) ys = step x.applies (first_applying xs) (first_applying (xs ++ ys)) (first_join xs ys)
  where
    step : (b : Bool) (f h : Option _) → h ≡ option_or f (first_applying ys) → cond b (Some x.answer) h ≡ option_or (cond b (Some x.answer) f) (first_applying ys)
    step true f h e = refl
    step false f h e = e

pub first_rest : {A : Type 0} (xs ys : List (Test A)) → None ≡ first_applying xs → first_applying ys ≡ first_applying (xs ++ ys)
first_rest xs ys h = ap (λ (o : Option _). option_or o (first_applying ys)) h ∙ sym (first_join xs ys)

-- the tests of a list, those of its first item before those of the rest
pub first_turn : {T A : Type 0} (tests : ℕ → T → List (Test A)) (start place next : ℕ) (items : List T) (x : T) (rest : List T)
    → items ≡ x ∷ rest → place ≡ start → next ≡ suc place → (o : Option A) → o ≡ first_applying (tests place x)
    → option_or o (first_applying (tests_from tests next rest)) ≡ first_applying (tests_from tests start items)
first_turn {T} {A} tests start place next items x rest cut at more o e =
    ap (λ (n : ℕ). option_or o (first_applying (tests_from tests n rest))) more
    ∙ ap (λ (p : Option A). option_or p (first_applying (tests_from tests (suc place) rest))) e
    ∙ sym (first_join (tests place x) (tests_from tests (suc place) rest))
    ∙ ap (λ (n : ℕ). first_applying (tests_from tests n (x ∷ rest))) at
    ∙ ap (λ (xs : List T). first_applying (tests_from tests start xs)) (sym cut)

-- tests of what the items stand for
pub tests_from-map : {X T A : Type 0} (tests : ℕ → T → List (Test A)) (view : X → T) (start : ℕ) (items : List X)
    → tests_from (λ n x. tests n (view x)) start items ≡ tests_from tests start (map view items)
tests_from-map tests view start [] = refl
tests_from-map tests view start (x ∷ items) = ap (λ (ts : List (Test _)). tests start (view x) ++ ts) (tests_from-map tests view (suc start) items)
