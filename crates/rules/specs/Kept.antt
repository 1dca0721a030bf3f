-- The rules that a plan keeps, as the rules of the definitions.
use Rattle.std.specs.Prelude.{List, map}
use Rattle.theory.specs.Rules.{Rule}
use Rattle.rules.specs.Views.{rule_of}
use Rattle.rules.specs.declared.FitRule.{FitRule}

abbrev pub rules_of : List FitRule → List Rule
rules_of kept = map (λ k. rule_of k.rule) kept
