use Rattle.std.proofs.Common.{arith}
use Rattle.cuboid_planner.proofs.CostLemmas.{mended_more, mended_low}
use Rattle.cuboid_planner.proofs.costs.mend.Goals as goal

pub loop-k-preserved : goal.loop-k-preserved
loop-k-preserved c =
    let k_in = c.loop-k-test.true in
    mended_more c.args.sizes.now c.args.choice.now c.args.costs.now c.loop-k.costs c.loop-k.k c.mended.result _ (omega (arith, k_in)) (omega (arith, k_in, c.requires.0, c.loop-k.invariant.long)) c.loop-k.invariant c.mended.ensures

pub returns-clause-mended : goal.returns-clause-mended
returns-clause-mended c = λ k k_in. c.loop-k.invariant.done k (omega (arith, k_in, c.loop-k-test.false))

pub returns-clause-low : goal.returns-clause-low
returns-clause-low c = mended_low c.args.sizes.now c.args.choice.now c.args.costs.now c.loop-k.costs c.loop-k.k c.requires c.loop-k.invariant (omega (arith, c.loop-k-test.false))
