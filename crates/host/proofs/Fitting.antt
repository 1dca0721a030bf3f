-- No number of a report is cut to fit its digits.
use Rattle.std.proofs.Common.{◌≡◌, ℕ, zero, suc, ◌+◌, ◌-◌, ◌^◌, ◌<◌, ◌≤◌, Bool, leb, rules, List, [], ◌∷◌, ◌++◌, length, Some, None, Ok, sym, subst, arith, lit≤}
use native.Mathlib.Nat.{pow-le-pow_right}
use Rattle.std.proofs.lemmas.List.{length-append}
use Rattle.std.proofs.lemmas.Bool.{leb-false}
use Rattle.std.proofs.lemmas.Bool.Decides.{nat_tests}
use Rattle.std.specs.List.{AllByRecursion}
use Rattle.theory.specs.Banks.{Bank}
use Rattle.theory.specs.Readings.{Reading}
use Rattle.theory.specs.Rules.{Element, Tally, Rule}
use Rattle.theory.specs.Sets.{within}
use Rattle.theory.specs.Verdicts.{first_broken, lowest, lowest_inside, fits_inside, verdict}
use Rattle.theory.specs.Calls.{Plan, Refusal, Refused, number, rules_full, Test, first_applying, text_tests, atom_tests, name_refusal, element_tests, elements_tests, field_tests, tally_tests, tallies_tests, rule_tests, refuse_if, enter_refusal, judge_tests}
use Rattle.plans.proofs.Firsts.{first_join}
use Rattle.plans.proofs.Untested.{none_all, fields_few}
use Rattle.plans.proofs.Entries.{sets_few}
use Rattle.records.specs.Records.{Sent, name_sent, rule_sent, judge_sent}
use Rattle.files.specs.Lines.{judged}
use Rattle.files.specs.Plays.{called, after_call, reading_of}
use Rattle.host.specs.Laws.{Entry, entry_line, Run, Small, Fits, EntryFits, NumbersFit}

-- ---- answers and refusals
number_small : (f : Refusal) → number f < 100
number_small f = grind arith

-- ---- the places of enter's refusals
abbrev Placed : Refused → Type 0
Placed f = (f.tally < 10) × (f.element < 100)

module _ {A : Type 0} (P : A → Type 0) where
  -- the first of these tests that applies, if one does, answers with what has the property
  abbrev First : List (Test A) → Type 0
  First ts = (f : A) → Some f ≡ first_applying ts → P f

  -- it does of two lists of tests, if it does of each
  first_of : (xs ys : List (Test A)) → First xs → (None ≡ first_applying xs → First ys) → First (xs ++ ys)
  first_of xs ys left right f e = grind (arith, first_join xs ys)

  -- and of tests that all answer so
  first_all : (ts : List (Test A)) → AllByRecursion (λ t. P t.answer) ts → First ts
  first_all [] h f e = cc
  first_all (t ∷ ts) h f e = grind (arith, first_all ts h.1 f)

elements_placed : (atoms t e : ℕ) (xs : List Element) → t < 10 → e + length xs ≤ 100 → First Placed (elements_tests atoms t e xs)
elements_placed atoms t e [] low few = first_all Placed [] tt
elements_placed atoms t e (x ∷ xs) low few =
    first_of Placed (element_tests atoms t e x) (elements_tests atoms t (suc e) xs)
    (first_all Placed (element_tests atoms t e x) (search (rules, arith))) (λ none. elements_placed atoms t (suc e) xs low (omega arith))

tally_placed : (bank : Bank) (atoms t : ℕ) (x : Tally) → t < 10 → First Placed (tally_tests bank atoms t x)
tally_placed bank atoms t x low =
    first_of Placed (field_tests bank t x) (elements_tests atoms t 1 x.elements)
    (first_all Placed (field_tests bank t x) (search (rules, arith)))
    (λ none. elements_placed atoms t 1 x.elements low (omega (arith, fields_few bank t x none)))

tallies_placed : (bank : Bank) (atoms t : ℕ) (xs : List Tally) → t + length xs ≤ 10 → First Placed (tallies_tests bank atoms t xs)
tallies_placed bank atoms t [] few = first_all Placed [] tt
tallies_placed bank atoms t (x ∷ xs) few =
    first_of Placed (tally_tests bank atoms t x) (tallies_tests bank atoms (suc t) xs)
    (tally_placed bank atoms t x (omega arith)) (λ none. tallies_placed bank atoms (suc t) xs (omega arith))

enter_placed : (bank : Bank) (plan : Plan) (rule : Rule) (f : Refused) → Some f ≡ enter_refusal bank plan rule → Placed f
enter_placed bank plan rule =
    let atoms = length plan.names in
    let full = refuse_if (leb 64 (length plan.rules)) rules_full 0 0 ∷ [] in
    first_of Placed full (rule_tests atoms rule ++ tallies_tests bank atoms 1 rule.tallies) (first_all Placed full (search rules))
    (λ room. first_of Placed (rule_tests atoms rule) (tallies_tests bank atoms 1 rule.tallies) (first_all Placed (rule_tests atoms rule) (search rules))
    (λ none. tallies_placed bank atoms 1 rule.tallies (omega (arith, sets_few atoms rule none))))

-- ---- room for one more
name_room : (plan : Plan) (bytes : List ℕ) → None ≡ name_refusal plan bytes → length plan.names < 32
name_room plan bytes e = leb-false 32 (length plan.names) (none_all (text_tests bytes ++ atom_tests plan.names bytes) e).1.1.1.0

rule_room : (bank : Bank) (plan : Plan) (rule : Rule) → None ≡ enter_refusal bank plan rule → length plan.rules < 64
rule_room bank plan rule e =
    leb-false 64 (length plan.rules)
    (none_all (refuse_if (leb 64 (length plan.rules)) rules_full 0 0 ∷ rule_tests (length plan.names) rule ++ tallies_tests bank (length plan.names) 1 rule.tallies) e).0

-- ---- the numbers of a verdict
lowest_below : (p : ℕ → Bool) (n k s : ℕ) → Some s ≡ lowest p n k → s < k + n
unfolding lowest
lowest_below p zero k s e = cc
lowest_below p (suc n) k s e = grind (arith, lowest_below p n (suc k) s)

broken_below : (bank : Bank) (rules : List Rule) (i n : ℕ) → Some n ≡ first_broken bank rules i → n < 1 + length rules
unfolding first_broken
broken_below bank rules i n e = grind (arith, nat_tests)

inside_below : (bank : Bank) (reading : Reading) (rules : List Rule) (i s : ℕ) → Some s ≡ lowest_inside bank reading rules i → s < 0 + i
unfolding lowest_inside
inside_below bank reading rules i s e = lowest_below (fits_inside bank reading rules i) i 0 s e

verdict_fits : (bank : Bank) (reading : Reading) (rules : List Rule) (i : ℕ) → length rules ≤ 64 → i < 4294967296 → Fits (Ok (judged (verdict bank reading rules i)))
verdict_fits bank reading rules i few small = grind (arith, broken_below bank rules i, inside_below bank reading rules i)

-- a candidate that is judged has marks of named atoms only
candidate_small : (plan : Plan) (i : ℕ) → Small plan → None ≡ first_applying (judge_tests plan i) → i < 4294967296
unfolding within
candidate_small plan i small e =
    let most : 2 ^ length plan.names ≤ 4294967296 = pow-le-pow_right {n = 2} (lit≤ tt) small.0 in
    grind (arith, nat_tests, (none_all (judge_tests plan i) e).0)

-- what a call leaves, and what it answers
small_after : (bank : Bank) (plan : Plan) (sent : Sent) → Small plan → Small (after_call bank plan sent)
small_after bank plan (name_sent bytes) small = grind (arith, name_room plan bytes, length-append plan.names (bytes ∷ []))
small_after bank plan (rule_sent rule) small = grind (arith, rule_room bank plan rule, length-append plan.rules (rule ∷ []))
small_after bank plan (judge_sent reading i) small = small

answer_fits : (bank : Bank) (plan : Plan) (sent : Sent) → Small plan → Fits (called bank plan sent)
answer_fits bank plan (name_sent bytes) small = grind (arith, name_room plan bytes, number_small)
answer_fits bank plan (rule_sent rule) small = grind (arith, rule_room bank plan rule, number_small, enter_placed bank plan rule)
answer_fits bank plan (judge_sent reading i) small = grind (arith, number_small, verdict_fits bank (reading_of reading) plan.rules i small.1, candidate_small plan i small)

-- ---- the answers of a run
entries_fit : (bank : Bank) (size room : ℕ) (plan after : Plan) (bytes left : List ℕ) (entries : List Entry) → size ≤ 65536 → Small plan
    → Run bank size room plan bytes entries after left → AllByRecursion EntryFits entries × Small after
entries_fit bank size room plan after bytes left [] short small run = (tt, subst Small run.0 small)
entries_fit bank size room plan after bytes left (entry ∷ entries) short small run =
    let sent = run.0 in
    let more = entries_fit bank size (room - length (entry_line entry)) (after_call bank plan sent) after run.1 left entries short (small_after bank plan sent small) run.5 in
    ((subst EntryFits (sym run.4) (answer_fits bank plan sent small, omega arith), more.0), more.1)

pub numbers_fit : NumbersFit
numbers_fit = ((lit≤ tt, lit≤ tt), entries_fit)
