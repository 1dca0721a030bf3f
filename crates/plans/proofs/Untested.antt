-- What is known of a rule where no test of enter applies.
use Rattle.std.proofs.Common.{◌≡◌, ℕ, suc, ◌≤◌, Bool, true, false, cond, leb, List, [], ◌∷◌, ◌++◌, length, Some, None, Option, refl, ◌∙◌}
use Rattle.std.specs.List.{AllByRecursion as All, list_all}
use Rattle.std.specs.Option.{option_or}
use Rattle.std.proofs.lemmas.Bool.{and_from, not-false, ltb-false, le-leb}
use Rattle.theory.specs.Banks.{Bank}
use Rattle.theory.specs.Rules.{Tally, Rule}
use Rattle.theory.specs.Calls.{Test, Plan, first_applying, element_tests, elements_tests, field_tests, tally_tests, tallies_tests, tests_from, rule_tests, refuse_if, rules_full, enter_refusal}
use Rattle.rules.specs.Fits.{light, fit_tally, fit_rule}
use Rattle.plans.proofs.Firsts.{first_join}

-- no test of the list applies
pub none_all : {A : Type 0} (ts : List (Test A)) → None ≡ first_applying ts → All (λ t. t.applies ≡ false) ts
none_all [] h = tt
none_all (t ∷ ts) h = step t.applies h (none_all ts)
  where
    step : (b : Bool) → None ≡ cond b (Some t.answer) (first_applying ts) → (None ≡ first_applying ts → All (λ u. u.applies ≡ false) ts)
        → (b ≡ false) × All (λ u. u.applies ≡ false) ts
    step true e more = absurd cc
    step false e more = (refl, more e)

pub none_joined : {A : Type 0} (xs ys : List (Test A)) → None ≡ first_applying (xs ++ ys) → (None ≡ first_applying xs) × (None ≡ first_applying ys)
none_joined xs ys h = step (first_applying xs) (h ∙ first_join xs ys)
  where
    step : (o : Option _) → None ≡ option_or o (first_applying ys) → (None ≡ o) × (None ≡ first_applying ys)
    step (Some a) e = absurd cc
    step None e = (refl, e)

-- of each item none of the tests at its place applies
none_each : {T A : Type 0} (p : T → Bool) (tests : ℕ → T → List (Test A)) → ((place : ℕ) (x : T) → None ≡ first_applying (tests place x) → p x ≡ true)
    → (start : ℕ) (xs : List T) → None ≡ first_applying (tests_from tests start xs) → list_all p xs ≡ true
none_each p tests each start [] h = refl
none_each p tests each start (x ∷ xs) h =
    let q = none_joined (tests start x) (tests_from tests (suc start) xs) h in
    and_from (p x) (list_all p xs) (each start x q.0) (none_each p tests each (suc start) xs q.1)

pub fields_few : (bank : Bank) (t : ℕ) (x : Tally) → None ≡ first_applying (field_tests bank t x) → length x.elements ≤ 12
fields_few bank t x h = ltb-false 12 (length x.elements) (none_all (field_tests bank t x) h).1.1.1.1.0

tally_fit : (bank : Bank) (atoms t : ℕ) (x : Tally) → None ≡ first_applying (tally_tests bank atoms t x) → fit_tally x ≡ true
tally_fit bank atoms t x h =
    let p = none_joined (field_tests bank t x) (elements_tests atoms t 1 x.elements) h in
    and_from _ (list_all light x.elements) (le-leb (length x.elements) 12 (fields_few bank t x p.0))
    (none_each light (element_tests atoms t) (λ e y k. not-false (light y) (none_all (element_tests atoms t e y) k).1.0) 1 x.elements p.1)

pub entered_fit : (bank : Bank) (plan : Plan) (rule : Rule) → None ≡ enter_refusal bank plan rule → fit_rule rule ≡ true
entered_fit bank plan rule h =
    let before = refuse_if (leb 64 (length plan.rules)) rules_full 0 0 ∷ rule_tests (length plan.names) rule in
    none_each fit_tally (tally_tests bank (length plan.names)) (tally_fit bank (length plan.names)) 1 rule.tallies
    (none_joined before (tallies_tests bank (length plan.names) 1 rule.tallies) h).1
