-- A refusal of the code as the refusal of the definitions, which give its number and its places.
use Rattle.std.specs.Prelude.{ℕ, Some, None, Ok, Err, Option, Result}
use Rattle.theory.specs.Calls as calls
use Rattle.plans.specs.declared.refusal.Refusal.{Refusal}
use Rattle.plans.specs.declared.refusal.Refusal.TheVariants.{NameLength, NameByte, NameBorne, AtomsFull, RulesFull, UnnamedMark, TooManyTallies, TooManyElements, NoKind, NoRelation, NoSign, FarBound, HeavyWeight, NoSuchPlace, TooManyMarks}
use Rattle.plans.specs.declared.refusal.Tested.{Tested}
use Rattle.plans.specs.declared.refusal.Tested.TheVariants.{Rule, Tally, Element}
use Rattle.plans.specs.declared.refusal.Refused.{Refused}

abbrev pub refusal_of : Refusal → calls.Refusal
refusal_of NameLength = calls.name_length
refusal_of NameByte = calls.name_byte
refusal_of NameBorne = calls.name_borne
refusal_of AtomsFull = calls.atoms_full
refusal_of RulesFull = calls.rules_full
refusal_of UnnamedMark = calls.unnamed_mark
refusal_of TooManyTallies = calls.too_many_tallies
refusal_of TooManyElements = calls.too_many_elements
refusal_of NoKind = calls.no_kind
refusal_of NoRelation = calls.no_relation
refusal_of NoSign = calls.no_sign
refusal_of FarBound = calls.far_bound
refusal_of HeavyWeight = calls.heavy_weight
refusal_of NoSuchPlace = calls.no_such_place
refusal_of TooManyMarks = calls.too_many_marks

-- the places of the tally and of the element that were being tested, or 0
abbrev pub tally_place : Tested → ℕ
tally_place Rule = 0
tally_place (Tally t) = t
tally_place (Element t e) = t

abbrev pub element_place : Tested → ℕ
element_place Rule = 0
element_place (Tally t) = 0
element_place (Element t e) = e

abbrev pub refused_of : Refused → calls.Refused
refused_of f = record { refusal = refusal_of f.refusal; tally = tally_place f.tested; element = element_place f.tested }

-- an answer of name, and one of enter
abbrev pub name_answer_of : Result ℕ Refusal → Result ℕ calls.Refusal
name_answer_of (Ok atom) = Ok atom
name_answer_of (Err f) = Err (refusal_of f)

abbrev pub enter_answer_of : Result ℕ Refused → Result ℕ calls.Refused
enter_answer_of (Ok place) = Ok place
enter_answer_of (Err f) = Err (refused_of f)

-- an answer of withdraw or of reweigh
abbrev pub edit_answer_of : Result (Unit {0}) Refusal → Result (Unit {0}) calls.Refusal
edit_answer_of (Ok done) = Ok done
edit_answer_of (Err f) = Err (refusal_of f)

-- what a test of enter refuses, if it does
abbrev pub refusal_in : Result (Unit {0}) Refused → Option calls.Refused
refusal_in (Ok done) = None
refusal_in (Err f) = Some (refused_of f)
