use Rattle.std.proofs.Common.{◌≡◌, length}
use Rattle.cuboid_planner.specs.Kept.{HasCosts, AreLow}
use Rattle.cuboid_planner.specs.Picks.{ArePicks}
use Rattle.cuboid_planner.proofs.plan.greedy.Given as goal

abbrev pub invariant-loop-turn : goal.invariant-loop-turn
invariant-loop-turn l = record {
  each : ArePicks l.sizes l.picks.items;
  count : length l.picks.items ≡ l._turn;
  costs : HasCosts l.sizes l.picks.items l.costs;
  low : AreLow l.sizes l.costs;
}
