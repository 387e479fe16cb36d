use Rattle.std.proofs.Common.{◌≡◌}
use Rattle.std.specs.Prelude.{filter, map}
use Rattle.std.specs.List.{range_with_len}
use Rattle.agg_group.specs.Mask.{mask_at}
use Rattle.step_codec.specs.Layouts.{is_in_layer}
use Rattle.step_codec.proofs.layers.masks_in_layer.Given as goal

abbrev pub invariant-loop-place : goal.invariant-loop-place
invariant-loop-place l = l.found.items ≡ map (mask_at l.tree) (filter (is_in_layer l.tree l.dims) (range_with_len 0 l.place))
