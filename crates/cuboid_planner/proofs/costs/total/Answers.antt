use Rattle.std.proofs.Common.{arith, ap, ◌∙◌, sum_by}
use Rattle.std.proofs.lemmas.List.{take_all}
use Rattle.cuboid_planner.specs.declared.cuboid.Size.{Size}
use Rattle.cuboid_planner.specs.Costs.{cost}
use Rattle.cuboid_planner.proofs.CostLemmas.{cost_more}
use Rattle.cuboid_planner.proofs.costs.total.Goals as goal

abbrev nothing : Size
nothing = record { mask = record { 0 = 0 }; rows = 0 }

pub loop-k-preserved : goal.loop-k-preserved
loop-k-preserved c =
    let k_in = c.loop-k-test.true in
    record {
      few = omega (arith, c.loop-k.invariant.few, c.requires.low.1 c.loop-k.k (omega (arith, k_in)));
      all = λ picks h. cost_more c.args.sizes.now picks c.args.costs.now h c.loop-k.k nothing (omega (arith, k_in)) c.loop-k.sum (c.loop-k.invariant.all picks h);
    }

pub returns : goal.returns
returns c = λ picks h. c.loop-k.invariant.all picks h ∙ ap (sum_by (λ (s : Size). cost c.args.sizes.now picks s.mask)) (take_all c.loop-k.k c.args.sizes.now (omega (arith, c.loop-k-test.false)))
