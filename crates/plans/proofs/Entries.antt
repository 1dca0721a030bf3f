-- The tests of enter, where there is room and no test of the rule's sets applies.
use Rattle.std.proofs.Common.{◌≡◌, ℕ, ◌<◌, ◌≤◌, ◌++◌, length, None, sym, ap, ◌∙◌}
use Rattle.std.proofs.lemmas.Bool.{cond-false, lt-leb, ltb-false}
use Rattle.theory.specs.Banks.{Bank}
use Rattle.theory.specs.Rules.{Rule}
use Rattle.theory.specs.Calls.{Plan, first_applying, rule_tests, tallies_tests, enter_refusal}
use Rattle.plans.proofs.Firsts.{first_rest}
use Rattle.plans.proofs.Untested.{none_all}

-- what the rule's tallies give is what is refused
pub entry_rest : (bank : Bank) (plan : Plan) (rule : Rule) → length plan.rules < 64 → (atoms : ℕ) → atoms ≡ length plan.names
    → None ≡ first_applying (rule_tests atoms rule) → first_applying (tallies_tests bank atoms 1 rule.tallies) ≡ enter_refusal bank plan rule
entry_rest bank plan rule room atoms same none =
    first_rest (rule_tests atoms rule) (tallies_tests bank atoms 1 rule.tallies) none
    ∙ ap (λ (n : ℕ). first_applying (rule_tests n rule ++ tallies_tests bank n 1 rule.tallies)) same
    ∙ sym (cond-false _ _ _ (lt-leb 64 (length plan.rules) room))

pub sets_few : (atoms : ℕ) (rule : Rule) → None ≡ first_applying (rule_tests atoms rule) → length rule.tallies ≤ 2
sets_few atoms rule h = ltb-false 2 (length rule.tallies) (none_all (rule_tests atoms rule) h).1.0
