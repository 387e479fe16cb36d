use Rattle.std.proofs.Common.{◌≡◌, ◌++◌, map, take}
use Rattle.dim_dictionary.specs.Dictionaries.{dictionary_of}
use Rattle.step_compute.specs.Values.{known_in}
use Rattle.step_compute.specs.Watched.{Looked}
use Rattle.step_compute.proofs.dicts.push_distinct.Given as goal

abbrev pub invariant-loop-place : goal.invariant-loop-place
invariant-loop-place g l = record {
  dicts : l.dicts.items ≡ l.fn.dicts.items ++ map (λ place. dictionary_of (known_in l.rows place)) (take l.place-index l.places);
  looked : Looked g.W.Watch.seen g.W.Watch.there g.W.Watch.held g.W.Watch.place l.fn.watch l.watch;
}
