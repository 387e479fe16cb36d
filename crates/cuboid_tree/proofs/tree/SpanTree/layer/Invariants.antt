use Rattle.std.proofs.Common.{◌≡◌, ◌-◌, length, take}
use Rattle.std.specs.Prelude.{slice_get}
use Rattle.cuboid_tree.specs.Tree.{layer_of}
use Rattle.cuboid_tree.proofs.tree.SpanTree.layer.Given as goal

abbrev pub invariant-loop-next : goal.invariant-loop-next
invariant-loop-next l =
    (l.layer.items ≡ take (length l.layer.items) (layer_of l.self l.dims)) × (l.next ≡ slice_get (layer_of l.self l.dims) (length l.layer.items))

abbrev pub decreases-loop-next : goal.decreases-loop-next
decreases-loop-next l = length (layer_of l.self l.dims) - length l.layer.items
