use Rattle.std.proofs.Common.{◌≡◌, false, ◌&&◌}
use Rattle.std.specs.List.{list_any, range_with_len}
use Rattle.cuboid_tree.specs.Tree.{is_child, is_of_layer}
use Rattle.step_codec.proofs.layers.is_above_layer.Given as goal

abbrev pub invariant-loop-place : goal.invariant-loop-place
invariant-loop-place l = list_any (λ i. is_of_layer l.tree l.dims i && is_child l.tree l.parent i) (range_with_len 0 l.place) ≡ false
