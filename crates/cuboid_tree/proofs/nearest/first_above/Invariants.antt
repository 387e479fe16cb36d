use Rattle.std.proofs.Common.{◌≡◌, ◌+◌, ◌-◌, ◌≤◌, ℕ, length}
use Rattle.std.specs.Prelude.{unwrap_or}
use Rattle.cuboid_tree.specs.Links.{first_from, in_layer_from, is_above_in}
use Rattle.cuboid_tree.proofs.nearest.first_above.Given as goal

abbrev pub invariant-loop-next : goal.invariant-loop-next
invariant-loop-next l =
    (j : ℕ) × (l.i + 1 ≤ j) × (l.next ≡ in_layer_from l.masks l.dims j)
    × (first_from (is_above_in l.masks l.dims l.i) (l.i + 1) (length l.masks) ≡ first_from (is_above_in l.masks l.dims l.i) j (length l.masks))

abbrev pub decreases-loop-next : goal.decreases-loop-next
decreases-loop-next l = length l.masks - unwrap_or l.next (length l.masks)
