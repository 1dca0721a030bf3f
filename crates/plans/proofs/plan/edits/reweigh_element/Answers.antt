-- A tally of the rule that is lent is lent, then an element of that.
use Rattle.std.proofs.Common.{◌≡◌, suc, ◌<◌, map, length, get_or, Some, vec_items, sym, refl, ap, ◌∙◌, arith, w32, to_z, of_z}
use borrow.Author.Differences.{ints}
use Rattle.theory.specs.Rules.{Element}
use Rattle.theory.specs.Calls.{at_most_from_zero, at_place}
use Rattle.rules.specs.Fits.{fit_rule}
use Rattle.rules.specs.Views.{element_of, tally_of, rule_of}
use Rattle.rules.specs.declared.Element.{Element as StoredElement}
use Rattle.plans.proofs.Places.{index_there, index_missing, place_some, Lent, lent, lent_found}
use Rattle.plans.proofs.Reweighs.{fit_reweighed, rule_back, rule_written}
use Rattle.plans.proofs.plan.edits.reweigh_element.Goals as goal
use Rattle.plans.proofs.plan.edits.reweigh_element.Goals.{After-len-2, After-is_near, at-returns-in_default-index_of, at-returns-then-not-is_near-clause-answer, at-invariant_of-kept-2, at-returns}

-- no tally stands there
pub returns-in_default : goal.returns-in_default
returns-in_default c =
    let tallies = c.args.kept.now.rule.tallies in
    let gone = index_missing (vec_items tallies) c.args.tally c.len.result (omega (arith, tallies.ok.0)) tally_of (sym c.index_of.ensures ∙ c.in_default.is) in
    record { answer = rw gone refl; after = rw gone refl }

-- the tally is lent
module _ (c : After-len-2) where
  tally_lent : Lent (vec_items c.args.kept.now.rule.tallies) c.args.tally c.in-Some.tally_at c.index_mut-found.result.now
  tally_lent = lent _ _ c.len.result (omega (arith, c.args.kept.now.rule.tallies.ok.0)) (sym c.index_of.ensures ∙ c.in-Some.is) c.index_mut-found.ensures.value

  tally_found : at_place c.args.tally (map tally_of (vec_items c.args.kept.now.rule.tallies)) ≡ Some (tally_of c.index_mut-found.result.now)
  tally_found = lent_found tally_of tally_lent

-- and the element is there
module _ (c : After-is_near) where
  element_there : (c.args.element ≡ suc c.in-Some-index_of.element_at) × (c.in-Some-index_of.element_at < length (vec_items c.index_mut-found.result.now.elements))
  element_there =
      let elements = c.index_mut-found.result.now.elements in
      index_there (vec_items elements) c.args.element c.len-2.result (omega (arith, elements.ok.0)) c.in-Some-index_of.element_at (sym c.index_of-2.ensures ∙ c.in-Some-index_of.is)

  element_found : (x : Element) × (at_place c.args.element (map element_of (vec_items c.index_mut-found.result.now.elements)) ≡ Some x)
  element_found = place_some element_of (vec_items c.index_mut-found.result.now.elements) c.args.element c.in-Some-index_of.element_at element_there.0 element_there.1

  same : to_z w32 (of_z w32 c.args.weight) ≡ c.args.weight
  same = omega (arith, ints)

  near : at_most_from_zero 1000000 c.args.weight ≡ c.is_near.result
  near = ap (at_most_from_zero 1000000) (sym same) ∙ sym c.is_near.ensures

element_lent : (c : After-is_near) {y : StoredElement} → y ≡ get_or (vec_items c.index_mut-found.result.now.elements) c.in-Some-index_of.element_at y
    → Lent (vec_items c.index_mut-found.result.now.elements) c.args.element c.in-Some-index_of.element_at y
element_lent c is = record { at = (element_there c).0; within = (element_there c).1; is = is }

pub returns-in_default-index_of : goal.returns-in_default-index_of
returns-in_default-index_of c =
    let d = (at-returns-in_default-index_of c).After-len-2 in
    let elements = c.index_mut-found.result.now.elements in
    let gone = index_missing (vec_items elements) c.args.element c.len-2.result (omega (arith, elements.ok.0)) element_of (sym c.index_of-2.ensures ∙ c.in_default-index_of.is) in
    record { answer = rw (tally_found d, gone) refl; after = rw (tally_found d, gone) (rule_back c.args.kept.now.rule (tally_lent d)) }

pub returns-then-not-is_near-clause-answer : goal.returns-then-not-is_near-clause-answer
returns-then-not-is_near-clause-answer c =
    let d = (at-returns-then-not-is_near-clause-answer c).After-len-2 in
    let f = (at-returns-then-not-is_near-clause-answer c).After-is_near in
    rw (tally_found d, (element_found f).1, near f ∙ c.if-not-is_near.true) refl

pub invariant_of-kept-2 : goal.invariant_of-kept-2
invariant_of-kept-2 c =
    let d = (at-invariant_of-kept-2 c).After-len-2 in
    let f = (at-invariant_of-kept-2 c).After-is_near in
    record {
      fit = ap fit_rule (rule_written c.args.kept.now.rule (tally_lent d) (element_lent f c.index_mut.ensures.value) c.args.weight _ (same f))
          ∙ fit_reweighed c.args.tally c.args.element c.args.weight (near f ∙ c.if-not-is_near.false) (rule_of c.args.kept.now.rule) c.args.kept.now.fit;
    }

pub returns : goal.returns
returns c =
    let d = (at-returns c).After-len-2 in
    let f = (at-returns c).After-is_near in
    let found = (element_found f).1 in
    let close = near f ∙ c.if-not-is_near.false in
    record {
      answer = rw (tally_found d, found, close) refl;
      after = rw (tally_found d, found, close) (rule_written c.args.kept.now.rule (tally_lent d) (element_lent f c.index_mut.ensures.value) c.args.weight _ (same f));
    }
