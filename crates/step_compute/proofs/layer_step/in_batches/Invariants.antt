use Rattle.std.proofs.Common.{◌≡◌, ◌≤◌, ◌-◌, length, take}
use Rattle.std.specs.Prelude.{map}
use Rattle.step_compute.specs.Wants.{made_of}
use Rattle.step_compute.specs.Watched.{Looked}
use Rattle.step_compute.proofs.layer_step.in_batches.Given as goal

abbrev pub invariant-loop-start : goal.invariant-loop-start
invariant-loop-start g l = record {
  within : l.start ≤ length l.wants;
  tables : l.tables.items ≡ map (made_of l.parents) (take l.start l.wants);
  looked : Looked g.W.Watch.seen g.W.Watch.there g.W.Watch.held g.W.Watch.place l.fn.watch l.watch;
}

abbrev pub decreases-loop-start : goal.decreases-loop-start
decreases-loop-start g l = length l.wants - l.start
