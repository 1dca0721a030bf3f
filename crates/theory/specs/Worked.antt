-- Worked verdicts, computed from the definitions.
use Rattle.std.specs.Prelude.{◌≡◌, ℕ, List, [], ◌∷◌, ℤ, pos, negsuc}
use Rattle.theory.specs.Banks.{five_kinds}
use Rattle.theory.specs.Rules.{Element, Relation, Sign, plain, negated, Tally, Rule, below, at_most}
use Rattle.theory.specs.Readings.{flp, ferraris}
use Rattle.theory.specs.Verdicts.{broken, smaller, stable, verdict}

-- an element with an in set and one with an out set, a tally, a rule
abbrev pub with : ℕ → ℤ → Element
with set weight = record { ins = set; outs = 0; weight = weight }

abbrev pub without : ℕ → ℤ → Element
without set weight = record { ins = 0; outs = set; weight = weight }

abbrev pub tally : ℕ → Relation → Sign → ℤ → List Element → Tally
tally kind relation sign bound elements =
    record { kind = kind; relation = relation; sign = sign; bound = bound; elements = elements }

abbrev pub rule : ℕ → ℕ → List Tally → Rule
rule head must tallies = record { head = head; must = must; mustnot = 0; tallies = tallies }

-- atom 0 or atom 1
abbrev pub choice : List Rule
choice = rule 3 0 [] ∷ []

-- each of two atoms if the other
abbrev pub circle : List Rule
circle = rule 1 2 [] ∷ rule 2 1 [] ∷ []

-- atom 0 unless fewer than one of atom 0
abbrev pub not_fewer : List Rule
not_fewer = rule 1 0 (tally 1 below negated (pos 1) (with 1 (pos 1) ∷ []) ∷ []) ∷ []

-- atom 0 if none of the one element counts, which counts where atom 0 is missing
abbrev pub none_without : List Rule
none_without = rule 1 0 (tally 1 at_most plain (pos 0) (without 1 (pos 1) ∷ []) ∷ []) ∷ []

-- atom 0 if the greatest of no weights lies below -12000000
abbrev pub empty_greatest : List Rule
empty_greatest = rule 1 0 (tally 3 below plain (negsuc 11999999) [] ∷ []) ∷ []

pub record Worked : Type 0 where
  pub choice_both : verdict five_kinds flp choice 3 ≡ smaller 1
  pub choice_one : verdict five_kinds flp choice 2 ≡ stable
  pub circle_both : verdict five_kinds ferraris circle 3 ≡ smaller 0
  pub not_fewer_flp : verdict five_kinds flp not_fewer 1 ≡ smaller 0
  pub not_fewer_ferraris : verdict five_kinds ferraris not_fewer 1 ≡ stable
  pub none_without_flp : verdict five_kinds flp none_without 1 ≡ smaller 0
  pub none_without_ferraris : verdict five_kinds ferraris none_without 1 ≡ stable
  pub empty_greatest_one : verdict five_kinds flp empty_greatest 1 ≡ stable
  pub empty_greatest_none : verdict five_kinds flp empty_greatest 0 ≡ broken 1
