use Rattle.std.proofs.Common.{◌≡◌, ◌++◌, map}
use Rattle.std.specs.List.{range_with_len}
use Rattle.dim_dictionary.specs.Dictionaries.{dictionary_of}
use Rattle.step_compute.specs.Values.{values_in}
use Rattle.step_compute.specs.Watched.{Looked}
use Rattle.step_compute.proofs.dicts.push_rowkey.Given as goal

abbrev pub invariant-loop-place : goal.invariant-loop-place
invariant-loop-place g l = record {
  dicts : l.dicts.items ≡ l.fn.dicts.items ++ map (λ place. dictionary_of (values_in l.rows place)) (range_with_len 0 l.place);
  looked : Looked g.W.Watch.seen g.W.Watch.there g.W.Watch.held g.W.Watch.place l.fn.watch l.watch;
}
