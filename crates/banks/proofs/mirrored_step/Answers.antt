-- A step with the signs changed, and changed back.
use mathlib.Core.Path.{◌≡◌, ap, ap₂, ◌∙◌}
use Prim.Native.Nat.{◌≤◌}
use native.Mathlib.Omega.{arith}
use borrow.Author.Differences.{ints}
use lib.IntN.{ℤ, neg_ℤ, nat_abs}
use Rattle.theory.specs.Banks.{Light, Near}
use Rattle.banks.proofs.Turned.{turned}
use Rattle.banks.proofs.mirrored_step.Goals as goal

-- the step below is from the total and the weight with their signs changed
stepped : (g : _) (c : goal.After-step g) → (c.step.result ≡ (g.B.Bank.meaning c.args.below.now).step c.args.kind (neg_ℤ c.args.total) (neg_ℤ c.args.weight)) × (nat_abs c.step.result ≤ 25000001)
stepped g c =
    let l = g.met.B.Bank.lawful c.args.below.now in
    let t = turned c.args.total (omega arith) in
    let w = turned c.args.weight (omega arith) in
    let n : Near (neg_ℤ c.args.total) = omega (arith, ints) in
    let q : Light (neg_ℤ c.args.weight) = omega (arith, ints) in
    let e = c.step.ensures ∙ ap₂ (λ (z v : ℤ). (g.B.Bank.meaning c.args.below.now).step c.args.kind z v) t w in
    (e, omega (arith, ints, e, l.short_step c.args.kind (neg_ℤ c.args.total) (neg_ℤ c.args.weight) c.requires.kinds q n))

pub overflow_sub-result : goal.overflow_sub-result
overflow_sub-result g c = omega (arith, ints, stepped g c)

pub returns : goal.returns
returns g c =
    let s = stepped g c in
    turned c.step.result (omega (arith, s)) ∙ ap neg_ℤ s.0
