-- The test of a name is that of its bytes.
use Rattle.std.proofs.Common.{◌≡◌, Bool, ◌||◌, List, [], ◌∷◌, map, refl, sym, ap, ◌∙◌, rules, tests}
use Rattle.std.specs.List.{list_any}
use Rattle.std.specs.Str.{bytes_eq}
use Rattle.plans.specs.PlanView.{text_of}
use Rattle.std.proofs.lemmas.Iterator.{YieldsList-from_slice}
use Rattle.std.proofs.lemmas.Iterator.Search.{any_from_yields_List}
use Rattle.plans.proofs.plan.names.is_borne.Goals as goal

list_any-map : {X Y : Type 0} (p : Y → Bool) (h : X → Y) (xs : List X) → list_any p (map h xs) ≡ list_any (λ x. p (h x)) xs
list_any-map p h [] = refl
list_any-map p h (x ∷ xs) = ap (λ (b : Bool). p (h x) || b) (list_any-map p h xs)

pub returns : goal.returns
returns c =
    let names = c.args.names.now in
    any_from_yields_List (λ n. bytes_eq (text_of n) c.args.bytes.now) _ _ _ c.any.ensures.ran (YieldsList-from_slice names cc) (λ x b q k. search (rules, tests))
    ∙ sym (list_any-map (λ text. bytes_eq text c.args.bytes.now) text_of names)
