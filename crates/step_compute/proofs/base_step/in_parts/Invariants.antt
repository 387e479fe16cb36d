use Rattle.std.proofs.Common.{◌≤◌, ◌-◌, length, take}
use Rattle.layer_builder.specs.Pieces.{AreBases}
use Rattle.step_compute.specs.Watched.{Looked}
use Rattle.step_compute.proofs.base_step.in_parts.Given as goal

abbrev pub invariant-loop-start : goal.invariant-loop-start
invariant-loop-start g l = record {
  within : l.start ≤ length l.rows;
  tables : AreBases l.aggs l.dicts (take l.start l.rows) l.tables.items;
  looked : Looked g.W.Watch.seen g.W.Watch.there g.W.Watch.held g.W.Watch.place l.fn.watch l.watch;
}

abbrev pub decreases-loop-start : goal.decreases-loop-start
decreases-loop-start g l = length l.rows - l.start
