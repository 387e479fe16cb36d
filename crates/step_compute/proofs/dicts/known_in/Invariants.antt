use Rattle.std.proofs.Common.{◌≡◌, take}
use Rattle.step_compute.specs.Values.{known_in}
use Rattle.step_compute.specs.Watched.{Looked}
use Rattle.step_compute.proofs.dicts.known_in.Given as goal

abbrev pub invariant-loop-i : goal.invariant-loop-i
invariant-loop-i g l = record {
  values : l.values.items ≡ known_in (take l.i l.rows) l.place;
  looked : Looked g.W.Watch.seen g.W.Watch.there g.W.Watch.held g.W.Watch.place l.fn.watch l.watch;
}
