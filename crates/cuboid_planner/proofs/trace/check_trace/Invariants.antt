use Rattle.std.proofs.Common.{take}
use Rattle.cuboid_planner.specs.Kept.{HasCosts, AreLow}
use Rattle.cuboid_planner.specs.Picks.{IsTrace}
use Rattle.cuboid_planner.proofs.trace.check_trace.Given as goal

abbrev pub invariant-loop-place : goal.invariant-loop-place
invariant-loop-place l = record {
  low : AreLow l.sizes l.costs;
  costs : HasCosts l.sizes (take l.place l.picks) l.costs;
  trace : IsTrace l.sizes (take l.place l.picks);
}
