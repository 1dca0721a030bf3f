-- A total, element by element.
use Rattle.std.proofs.Common.{true, false, get_or, ◌∙◌, arith, w32, SFits, rules}
use Rattle.std.proofs.lemmas.Int.{ints, to_z-of_z}
use Rattle.judging.proofs.Sums.{blank, all_passed, light_at, one_more}
use Rattle.judging.proofs.totals.Seen.total.Goals as goal
use Rattle.judging.proofs.totals.Seen.total.Goals.{then-counts, else-counts}

pub step-sum-requires-clause-weights : goal.step-sum-requires-clause-weights
step-sum-requires-clause-weights g c =
    let l = light_at c.args.elements.now c.loop-element.element-index c.loop-element-test.true c.requires.weights in
    omega (arith, ints)

pub loop-element-preserved : goal.loop-element-preserved
loop-element-preserved g c =
    let light = light_at c.args.elements.now c.loop-element.element-index c.loop-element-test.true c.requires.weights in
    let weight_fits : SFits w32 (get_or c.args.elements.now c.loop-element.element-index blank).weight = omega (arith, ints) in
    let turn = one_more (g.B.Bank.meaning c.args.self.now.bank.now) c.args.kind _ c.args.elements.now (g.met.B.Bank.lawful c.args.self.now.bank.now)
    c.requires.kinds c.requires.few c.requires.weights _ c.loop-element.element-index c.loop-element-test.true c.loop-element.invariant in
    elim c.if-counts.branch [
      | then-counts w ↦
          let result_fits : SFits w32 w.step-sum.result = search rules in
          turn true w.if-counts.ensures _ (w.sum-is ∙ simp to_z-of_z (w.step-sum.ensures ∙ simp to_z-of_z))
      | else-counts w ↦ turn false w.if-counts.ensures _ w.sum-is
    ]

pub returns : goal.returns
returns g c = all_passed _ _ _ _ _ c.loop-element.element-index c.loop-element-test.false c.loop-element.invariant
