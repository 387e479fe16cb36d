use Rattle.std.proofs.Common.{◌<◌, List}
use Rattle.std.specs.Prelude.{IfSome}
use Rattle.cuboid_planner.specs.declared.cuboid.Pick.{Pick}
use Rattle.cuboid_planner.specs.Sizes.{size_at}
use Rattle.cuboid_planner.specs.Costs.{benefit}
use Rattle.cuboid_planner.specs.Kept.{HasCosts}
use Rattle.cuboid_planner.specs.Best.{IsBestSoFar}
use Rattle.cuboid_planner.proofs.next.best_of.Given as goal

abbrev pub invariant-loop-place : goal.invariant-loop-place
invariant-loop-place l = record {
  best : (picks : List Pick) → HasCosts l.sizes picks l.costs → IsBestSoFar (λ k. benefit l.sizes picks (size_at l.sizes k)) l.place l.best;
  inside : IfSome l.best (λ b. b.place < l.place);
}
