use Rattle.std.proofs.Common.{◌≡◌, map, take}
use Rattle.fixed_state.proofs.cells.refs_of.Given as goal

abbrev pub invariant-loop-segment : goal.invariant-loop-segment
invariant-loop-segment l = map (λ cells. cells.now) l.lists.items ≡ take l.segment-index l.segments
