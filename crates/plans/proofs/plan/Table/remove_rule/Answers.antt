-- The rules without the one that is taken out.
use Rattle.std.proofs.Common.{◌≡◌, ℕ, suc, List, ◌++◌, take, drop, vec_items, sym, ap, ◌∙◌, ap₂, rules, arith}
use Rattle.std.proofs.lemmas.List.{map-append, take-map, drop-map}
use Rattle.theory.specs.Calls.{withdrawn}
use Rattle.theory.specs.Rules.{Rule}
use Rattle.rules.specs.Kept.{rules_of}
use Rattle.plans.proofs.Reweighs.{kept_of}
use Rattle.plans.proofs.plan.Table.remove_rule.Goals as goal

pub returns : goal.returns
returns c =
    let kept = vec_items c.args.self.now.rules in
    let at = c.args.at in
    let left : rules_of (vec_items c.remove-withdrawn.new.self) ≡ withdrawn (suc at) (rules_of kept) =
    ap rules_of c.remove-withdrawn.ensures.items ∙ map-append kept_of (take at kept) (drop (suc at) kept)
    ∙ ap₂ (λ (xs ys : List Rule). xs ++ ys) (sym (take-map kept_of at kept)) (sym (drop-map kept_of (suc at) kept))
    ∙ ap (λ (n : ℕ). take n (rules_of kept) ++ drop (suc at) (rules_of kept)) (omega arith) in
    search rules
