use Rattle.std.proofs.Common.{◌≡◌, ◌≤◌, ◌*◌, List, take, sum_by}
use Rattle.cuboid_planner.specs.declared.cuboid.Pick.{Pick}
use Rattle.cuboid_planner.specs.Sizes.{most_rows}
use Rattle.cuboid_planner.specs.Costs.{cost}
use Rattle.cuboid_planner.specs.Kept.{HasCosts}
use Rattle.cuboid_planner.proofs.costs.total.Given as goal

abbrev pub invariant-loop-k : goal.invariant-loop-k
invariant-loop-k l = record {
  few : l.sum ≤ l.k * most_rows;
  all : (picks : List Pick) → HasCosts l.sizes picks l.costs → l.sum ≡ sum_by (λ s. cost l.sizes picks s.mask) (take l.k l.sizes);
}
