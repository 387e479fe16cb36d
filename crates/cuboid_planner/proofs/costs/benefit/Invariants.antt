use Rattle.std.proofs.Common.{◌≡◌, ◌≤◌, ◌*◌, List, take, sum_by}
use Rattle.cuboid_planner.specs.declared.cuboid.Pick.{Pick}
use Rattle.cuboid_planner.specs.Sizes.{most_rows}
use Rattle.cuboid_planner.specs.Costs.{saving}
use Rattle.cuboid_planner.specs.Kept.{HasCosts}
use Rattle.cuboid_planner.proofs.costs.benefit.Given as goal

abbrev pub invariant-loop-k : goal.invariant-loop-k
invariant-loop-k l = record {
  few : l.sum ≤ l.k * most_rows;
  saved : (picks : List Pick) → HasCosts l.sizes picks l.costs → l.sum ≡ sum_by (saving l.sizes picks l.choice) (take l.k l.sizes);
}
