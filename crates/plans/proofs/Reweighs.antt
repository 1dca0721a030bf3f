-- Reweighing, as the code does it: a rule is lent, then one of its tallies, then one of its elements.
use Rattle.std.proofs.Common.{◌≡◌, ℕ, true, leb, List, map, length, set, ℤ, Some, None, vec_items, Option, refl, ap, arith}
use Rattle.std.proofs.lemmas.Bool.{and_parts, and_from, leb-true, le-leb}
use Rattle.std.specs.List.{list_all}
use Rattle.theory.specs.Rules.{Element, Tally, Rule}
use Rattle.theory.specs.Calls.{Plan, Refusal, at_most_from_zero, changed_at, weighing, reweighed_tally, reweighed_rule, left_by}
use Rattle.rules.specs.Fits.{light, fit_tally, fit_rule}
use Rattle.rules.specs.Kept.{rules_of}
use Rattle.rules.specs.Views.{element_of, relation_of, rule_of, sign_of, tally_of}
use Rattle.std.specs.Vec.{with_item}
use Rattle.rules.specs.declared.Element.{Element as StoredElement}
use Rattle.rules.specs.declared.Tally.{Tally as StoredTally}
use Rattle.rules.specs.declared.Rule.{Rule as StoredRule}
use Rattle.rules.specs.declared.FitRule.{FitRule}
use Rattle.plans.proofs.Places.{Lent, lent_same, lent_changed, all_changed, length_changed}

-- a rule stays fit
pub fit_reweighed : (t e : ℕ) (w : ℤ) → at_most_from_zero 1000000 w ≡ true → (u : Rule) → fit_rule u ≡ true → fit_rule (reweighed_rule t e w u) ≡ true
fit_reweighed t e w near u h = all_changed fit_tally (reweighed_tally e w) keeps t u.tallies h
  where
    keeps : (x : Tally) → fit_tally x ≡ true → fit_tally (reweighed_tally e w x) ≡ true
    keeps x k =
        let p = and_parts (leb (length x.elements) 12) (list_all light x.elements) k in
        let l = length_changed (weighing w) e x.elements in
        let few = leb-true (length x.elements) 12 p.0 in
        and_from _ (list_all light (changed_at (weighing w) e x.elements)) (le-leb (length (changed_at (weighing w) e x.elements)) 12 (omega arith))
        (all_changed light (weighing w) (λ y m. near) e x.elements p.1)

module _ (rule : StoredRule) {t i : ℕ} {x : StoredTally} (l : Lent (vec_items rule.tallies) t i x) where
  abbrev with_tallies : List Tally → Rule
  with_tallies tallies = record { head = rule.head.0; must = rule.must.0; mustnot = rule.must_not.0; tallies = tallies }

  -- the rule with a tally given back as it was
  pub rule_back : with_tallies (map tally_of (set (vec_items rule.tallies) i x)) ≡ rule_of rule
  rule_back = ap with_tallies (lent_same tally_of l x refl)

  -- and with one given back with a weight written
  module _ {e j : ℕ} {y : StoredElement} (m : Lent (vec_items x.elements) e j y) where
    pub rule_written : (w z : ℤ) → z ≡ w
        → with_tallies (map tally_of (set (vec_items rule.tallies) i (record x { elements = with_item x.elements j (record y { weight = z }) }))) ≡ reweighed_rule t e w (rule_of rule)
    rule_written w z same =
        ap with_tallies
        (lent_changed tally_of l (reweighed_tally e w) _
        (ap (λ (elements : List Element). record { kind = x.kind; relation = relation_of x.relation; sign = sign_of x.sign; bound = x.bound; elements = elements })
        (lent_changed element_of m (weighing w) _ (ap (λ (v : ℤ). weighing v (element_of y)) same))))

-- what is kept, as a rule
abbrev pub kept_of : FitRule → Rule
kept_of kept = rule_of kept.rule

abbrev with_rules : List (List ℕ) → List Rule → Plan
with_rules names rules = record { names = names; rules = rules }

-- the plan with a rule that was lent and given back
pub plan_back : (o : Option Refusal) (names : List (List ℕ)) {kept : List FitRule} {place i : ℕ} {x : FitRule} → Lent kept place i x
    → (y : FitRule) (change : Rule → Rule) → rule_of y.rule ≡ left_by o (rule_of x.rule) (change (rule_of x.rule))
    → ◌≡◌ {A = Plan} (record { names = names; rules = rules_of (set kept i y) })
    (left_by o (record { names = names; rules = rules_of kept }) (record { names = names; rules = changed_at change place (rules_of kept) }))
plan_back (Some f) names l y change e = ap (with_rules names) (lent_same kept_of l y e)
plan_back None names l y change e = ap (with_rules names) (lent_changed kept_of l change y e)
