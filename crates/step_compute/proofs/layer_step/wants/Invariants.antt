use Rattle.std.proofs.Common.{◌≡◌}
use Rattle.std.specs.Prelude.{filter, map}
use Rattle.std.specs.List.{range_with_len}
use Rattle.step_compute.specs.Values.{is_in_layer}
use Rattle.step_compute.specs.Wants.{want_of}
use Rattle.step_compute.proofs.layer_step.wants.Given as goal

abbrev pub invariant-loop-place : goal.invariant-loop-place
invariant-loop-place l = l.wants.items ≡ map (want_of l.tree l.parents) (filter (is_in_layer l.tree l.dims) (range_with_len 0 l.place))
