-- A plan, and what its calls answer and leave: name, enter, withdraw, reweigh and judge, with the tests that refuse, in
-- their order.
use Rattle.std.specs.Prelude.{◌≡◌, ℕ, zero, suc, ◌-◌, Bool, true, false, cond, not, ◌&&◌, ◌||◌, ◌↔◌, List, [], ◌∷◌, ◌++◌, length, take, drop, ℤ, Some, None, Ok, Err, Option, Result, ◌==◌, count_ones, nat_le, nat_lt, unsigned_abs}
use Rattle.std.specs.List.{ContainsAt as Has, list_all, list_any}
use Rattle.std.specs.Str.{bytes_eq}
use Rattle.theory.specs.Sets.{within}
use Rattle.theory.specs.Banks.{Bank}
use Rattle.theory.specs.Rules.{Element, Relation, equal, unequal, below, above, at_most, at_least, unread, Sign, plain, negated, unsigned, Tally, Rule, has_kind}
use Rattle.theory.specs.Readings.{Reading}
use Rattle.theory.specs.Verdicts.{Verdict, verdict}

-- the names of its atoms, each a list of bytes, in the order of naming; and its rules, in their places
pub record Plan : Type 0 where
  pub names : List (List ℕ)
  pub rules : List Rule

abbrev pub new_plan : Plan
new_plan = record { names = []; rules = [] }

-- ---- refusals
pub data Refusal : Type 0 where
  name_length name_byte name_borne atoms_full : Refusal
  rules_full unnamed_mark too_many_tallies too_many_elements : Refusal
  no_kind no_relation no_sign far_bound heavy_weight : Refusal
  no_such_place too_many_marks : Refusal

abbrev pub number : Refusal → ℕ
number name_length = 4
number name_byte = 5
number no_kind = 6
number no_relation = 7
number no_sign = 8
number too_many_tallies = 9
number too_many_elements = 9
number heavy_weight = 10
number far_bound = 11
number name_borne = 20
number atoms_full = 21
number unnamed_mark = 22
number rules_full = 23
number no_such_place = 24
number too_many_marks = 25

-- a refusal by enter, with the place of the tally and of the element that was being tested, counted from 1, or 0
pub record Refused : Type 0 where
  pub refusal : Refusal
  pub tally : ℕ
  pub element : ℕ

-- a test that a call makes: whether it applies, and what is answered then
pub record Test (A : Type 0) : Type 0 where
  pub applies : Bool
  pub answer : A

-- the answer of the first test that applies
abbrev pub first_applying : {A : Type 0} → List (Test A) → Option A
first_applying [] = None
first_applying (t ∷ ts) = cond t.applies (Some t.answer) (first_applying ts)

-- a call is refused by the first test that applies, else it answers
abbrev pub unless_refused : {A B : Type 0} → Option B → A → Result A B
unless_refused (Some refusal) answer = Err refusal
unless_refused None answer = Ok answer

-- and a refused call leaves what it was given as it was
abbrev pub left_by : {A B : Type 0} → Option B → A → A → A
left_by (Some refusal) before after = before
left_by None before after = after

-- ---- name: a length from 1 to 16; ASCII letters, digits and hyphens; a name that no atom bears; at most 32 atoms
abbrev pub between : ℕ → ℕ → ℕ → Bool
between low high n = nat_le low n && nat_le n high

-- 0 to 9, A to Z, a to z, or the hyphen
abbrev pub is_name_byte : ℕ → Bool
is_name_byte b = between 48 57 b || between 65 90 b || between 97 122 b || b == 45

-- one of the names agrees with the bytes in length and in every byte
abbrev pub borne : List (List ℕ) → List ℕ → Bool
borne names bytes = list_any (λ name. bytes_eq name bytes) names

-- A name is borne exactly when one of the names is the same list of bytes: nothing of it is cut off or passed over.
abbrev pub NamesByBytes : Type 0
NamesByBytes = (names : List (List ℕ)) (bytes : List ℕ) → (borne names bytes ≡ true) ↔ Has names bytes

-- the two tests that look at the bytes alone, then the two that look at the atoms
abbrev pub text_tests : List ℕ → List (Test Refusal)
text_tests bytes =
    record { applies = not (between 1 16 (length bytes)); answer = name_length }
    ∷ record { applies = not (list_all is_name_byte bytes); answer = name_byte }
    ∷ []

abbrev pub atom_tests : List (List ℕ) → List ℕ → List (Test Refusal)
atom_tests names bytes =
    record { applies = borne names bytes; answer = name_borne }
    ∷ record { applies = nat_le 32 (length names); answer = atoms_full }
    ∷ []

abbrev pub name_refusal : Plan → List ℕ → Option Refusal
name_refusal plan bytes = first_applying (text_tests bytes ++ atom_tests plan.names bytes)

-- the new atom's number, counted from 0
abbrev pub name_answer : Plan → List ℕ → Result ℕ Refusal
name_answer plan bytes = unless_refused (name_refusal plan bytes) (length plan.names)

abbrev pub after_name : Plan → List ℕ → Plan
after_name plan bytes =
    left_by (name_refusal plan bytes) plan (record { names = plan.names ++ bytes ∷ []; rules = plan.rules })

-- ---- enter: the tests in their order, each with the tally and element place being tested
abbrev pub known_relation : Relation → Bool
known_relation equal = true
known_relation unequal = true
known_relation below = true
known_relation above = true
known_relation at_most = true
known_relation at_least = true
known_relation (unread c) = false

abbrev pub known_sign : Sign → Bool
known_sign plain = true
known_sign negated = true
known_sign (unsigned c) = false

-- at most this far from zero
abbrev pub at_most_from_zero : ℕ → ℤ → Bool
at_most_from_zero far z = nat_le (unsigned_abs z) far

abbrev pub refuse_if : Bool → Refusal → ℕ → ℕ → Test Refused
refuse_if applies refusal tally element =
    record { applies = applies; answer = record { refusal = refusal; tally = tally; element = element } }

abbrev pub element_tests : ℕ → ℕ → ℕ → Element → List (Test Refused)
element_tests atoms t e x =
    refuse_if (not (within atoms x.ins && within atoms x.outs)) unnamed_mark t e
    ∷ refuse_if (not (at_most_from_zero 1000000 x.weight)) heavy_weight t e
    ∷ []

-- the tests at each place of a list, from this place on
abbrev pub tests_from : {A B : Type 0} → (ℕ → A → List (Test B)) → ℕ → List A → List (Test B)
tests_from tests place [] = []
tests_from tests place (x ∷ xs) = tests place x ++ tests_from tests (suc place) xs

abbrev pub elements_tests : ℕ → ℕ → ℕ → List Element → List (Test Refused)
elements_tests atoms t e xs = tests_from (element_tests atoms t) e xs

-- a tally's own fields
abbrev pub field_tests : Bank → ℕ → Tally → List (Test Refused)
field_tests bank t x =
    refuse_if (not (has_kind bank x.kind)) no_kind t 0
    ∷ refuse_if (not (known_relation x.relation)) no_relation t 0
    ∷ refuse_if (not (known_sign x.sign)) no_sign t 0
    ∷ refuse_if (not (at_most_from_zero 12000000 x.bound)) far_bound t 0
    ∷ refuse_if (nat_lt 12 (length x.elements)) too_many_elements t 0
    ∷ []

abbrev pub tally_tests : Bank → ℕ → ℕ → Tally → List (Test Refused)
tally_tests bank atoms t x = field_tests bank t x ++ elements_tests atoms t 1 x.elements

abbrev pub tallies_tests : Bank → ℕ → ℕ → List Tally → List (Test Refused)
tallies_tests bank atoms t xs = tests_from (tally_tests bank atoms) t xs

-- the rule's three sets and the number of its tallies
abbrev pub rule_tests : ℕ → Rule → List (Test Refused)
rule_tests atoms rule =
    refuse_if (not (within atoms rule.head && (within atoms rule.must && within atoms rule.mustnot))) unnamed_mark 0 0
    ∷ refuse_if (nat_lt 2 (length rule.tallies)) too_many_tallies 0 0
    ∷ []

abbrev pub enter_refusal : Bank → Plan → Rule → Option Refused
enter_refusal bank plan rule =
    first_applying
    (refuse_if (nat_le 64 (length plan.rules)) rules_full 0 0
    ∷ rule_tests (length plan.names) rule ++ tallies_tests bank (length plan.names) 1 rule.tallies)

-- the new rule's place, counted from 1
abbrev pub enter_answer : Bank → Plan → Rule → Result ℕ Refused
enter_answer bank plan rule = unless_refused (enter_refusal bank plan rule) (suc (length plan.rules))

abbrev pub after_enter : Bank → Plan → Rule → Plan
after_enter bank plan rule =
    left_by (enter_refusal bank plan rule) plan (record { names = plan.names; rules = plan.rules ++ rule ∷ [] })

-- ---- withdraw: the rule at a place goes, and later rules move up; places count from 1, so none is 0
abbrev pub has_place : {A : Type 0} → List A → ℕ → Bool
has_place xs place = between 1 (length xs) place

abbrev pub withdrawn : {A : Type 0} → ℕ → List A → List A
withdrawn place xs = take (place - 1) xs ++ drop place xs

abbrev pub withdraw_refusal : Plan → ℕ → Option Refusal
withdraw_refusal plan place =
    first_applying (record { applies = not (has_place plan.rules place); answer = no_such_place } ∷ [])

abbrev pub withdraw_answer : Plan → ℕ → Result (Unit {0}) Refusal
withdraw_answer plan place = unless_refused (withdraw_refusal plan place) tt

abbrev pub after_withdraw : Plan → ℕ → Plan
after_withdraw plan place =
    left_by (withdraw_refusal plan place) plan (record { names = plan.names; rules = withdrawn place plan.rules })

-- ---- reweigh: the weight of the element at these places becomes the given one, and nothing else changes
-- what stands at a place, if anything does
abbrev pub at_place : {A : Type 0} → ℕ → List A → Option A
at_place zero xs = None
at_place (suc n) [] = None
at_place (suc zero) (x ∷ xs) = Some x
at_place (suc (suc n)) (x ∷ xs) = at_place (suc n) xs

-- the list with what stands at a place changed
abbrev pub changed_at : {A : Type 0} → (A → A) → ℕ → List A → List A
changed_at f zero xs = xs
changed_at f (suc n) [] = []
changed_at f (suc zero) (x ∷ xs) = f x ∷ xs
changed_at f (suc (suc n)) (x ∷ xs) = x ∷ changed_at f (suc n) xs

-- the element at a tally's and an element's place of a rule, and at a rule's too of a list of them
abbrev pub element_in : Rule → ℕ → ℕ → Option Element
element_in rule t e = elim (at_place t rule.tallies) [ Some tally ↦ at_place e tally.elements | None ↦ None ]

abbrev pub element_at : List Rule → ℕ → ℕ → ℕ → Option Element
element_at rules r t e = elim (at_place r rules) [ Some rule ↦ element_in rule t e | None ↦ None ]

-- the element, the tally and the rule with the new weight
abbrev pub weighing : ℤ → Element → Element
weighing w x = record { ins = x.ins; outs = x.outs; weight = w }

abbrev pub reweighed_tally : ℕ → ℤ → Tally → Tally
reweighed_tally e w t =
    record { kind = t.kind; relation = t.relation; sign = t.sign; bound = t.bound; elements = changed_at (weighing w) e t.elements }

abbrev pub reweighed_rule : ℕ → ℕ → ℤ → Rule → Rule
reweighed_rule t e w u =
    record { head = u.head; must = u.must; mustnot = u.mustnot; tallies = changed_at (reweighed_tally e w) t u.tallies }

abbrev pub is_missing : {A : Type 0} → Option A → Bool
is_missing (Some a) = false
is_missing None = true

-- the tests, where this element was found or none was
abbrev pub weight_refusal : Option Element → ℤ → Option Refusal
weight_refusal found w =
    first_applying
    (record { applies = is_missing found; answer = no_such_place }
    ∷ record { applies = not (at_most_from_zero 1000000 w); answer = heavy_weight }
    ∷ [])

abbrev pub reweigh_refusal : Plan → ℕ → ℕ → ℕ → ℤ → Option Refusal
reweigh_refusal plan r t e w = weight_refusal (element_at plan.rules r t e) w

abbrev pub reweigh_answer : Plan → ℕ → ℕ → ℕ → ℤ → Result (Unit {0}) Refusal
reweigh_answer plan r t e w = unless_refused (reweigh_refusal plan r t e w) tt

abbrev pub after_reweigh : Plan → ℕ → ℕ → ℕ → ℤ → Plan
after_reweigh plan r t e w =
    left_by (reweigh_refusal plan r t e w) plan
    (record { names = plan.names; rules = changed_at (reweighed_rule t e w) r plan.rules })

-- ---- judge, which leaves the plan as it was
abbrev pub judge_tests : Plan → ℕ → List (Test Refusal)
judge_tests plan i =
    record { applies = not (within (length plan.names) i); answer = unnamed_mark }
    ∷ record { applies = nat_lt 20 (count_ones i); answer = too_many_marks }
    ∷ []

abbrev pub judge_answer : Bank → Reading → Plan → ℕ → Result Verdict Refusal
judge_answer bank reading plan i =
    unless_refused (first_applying (judge_tests plan i)) (verdict bank reading plan.rules i)

-- ---- the codes of a file
-- 1 is =, 2 ≠, 3 <, 4 >, 5 ≤ and 6 ≥
abbrev pub relation_coded : ℕ → Relation
relation_coded c =
    cond (c == 1) equal
    (cond (c == 2) unequal
    (cond (c == 3) below
    (cond (c == 4) above
    (cond (c == 5) at_most
    (cond (c == 6) at_least (unread c))))))

-- 0 is plain and 1 negated
abbrev pub sign_coded : ℕ → Sign
sign_coded c = cond (c == 0) plain (cond (c == 1) negated (unsigned c))
