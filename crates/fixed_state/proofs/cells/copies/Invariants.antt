use Rattle.std.proofs.Common.{◌≡◌, map, take}
use Rattle.std.specs.Arc.{arc_value}
use Rattle.fixed_state.specs.Ready.{cells_in}
use Rattle.fixed_state.proofs.cells.copies.Given as goal

abbrev pub invariant-loop-segment : goal.invariant-loop-segment
invariant-loop-segment l = l.copied.items ≡ map (λ segment. cells_in (arc_value segment)) (take l.segment-index l.segments)
