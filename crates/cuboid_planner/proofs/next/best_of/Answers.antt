use Rattle.std.proofs.Common.{◌≡◌, ℕ, length, sym, subst, arith}
use Rattle.cuboid_planner.specs.Sizes.{size_at}
use Rattle.cuboid_planner.specs.Costs.{benefit}
use Rattle.cuboid_planner.specs.Best.{IsBestSoFar}
use Rattle.cuboid_planner.proofs.next.best_of.Goals as goal

pub loop-place-preserved : goal.loop-place-preserved
loop-place-preserved c = record {
  best = λ picks h. c.better-best.ensures.best (λ k. benefit c.args.sizes.now picks (size_at c.args.sizes.now k)) (sym (c.benefit-benefit.ensures picks h)) (c.loop-place.invariant.best picks h);
  inside = c.better-best.ensures.inside c.loop-place.invariant.inside;
}

pub returns-clause-best : goal.returns-clause-best
returns-clause-best c = λ picks h.
    let end : c.loop-place.place ≡ length c.args.sizes.now = omega (arith, c.loop-place-test.false, c.loop-place.auto.place-end) in
    subst (λ (n : ℕ). IsBestSoFar (λ k. benefit c.args.sizes.now picks (size_at c.args.sizes.now k)) n c.loop-place.best) end (c.loop-place.invariant.best picks h)
