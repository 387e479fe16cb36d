use Rattle.std.proofs.Common.{◌≡◌, ◌≤◌, ◌-◌, length, take}
use Rattle.flat_join.specs.Joins.{fact_of}
use Rattle.flat_join.specs.Prepared.{flat_rows_of}
use Rattle.step_compute.specs.Watched.{Looked}
use Rattle.step_compute.proofs.flat.in_parts.Given as goal

abbrev pub invariant-loop-start : goal.invariant-loop-start
invariant-loop-start g l = record {
  within : l.start ≤ length (fact_of l.join.tables);
  flat : l.flat ≡ flat_rows_of l.join (take l.start (fact_of l.join.tables));
  looked : Looked g.W.Watch.seen g.W.Watch.there g.W.Watch.held g.W.Watch.place l.fn.watch l.watch;
}

abbrev pub decreases-loop-start : goal.decreases-loop-start
decreases-loop-start g l = length (fact_of l.join.tables) - l.start
