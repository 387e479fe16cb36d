use Rattle.std.proofs.Common.{arith}
use Rattle.cuboid_planner.proofs.CostLemmas.{saved_more}
use Rattle.cuboid_planner.proofs.costs.benefit.Goals as goal

pub loop-k-preserved : goal.loop-k-preserved
loop-k-preserved c =
    let k_in = c.loop-k-test.true in
    record {
      few = omega (arith, c.loop-k.invariant.few, c.saving-sum.ensures.low, c.requires.low.1 c.loop-k.k (omega (arith, k_in)));
      saved = λ picks h. saved_more c.args.sizes.now picks c.args.costs.now h c.loop-k.k _ (omega (arith, k_in)) c.args.choice.now c.loop-k.sum c.saving-sum.result (c.loop-k.invariant.saved picks h) c.saving-sum.ensures.value;
    }
