use Rattle.std.proofs.Common.{get_or, take}
use Rattle.std.specs.List.{list_any}
use Rattle.cell_store.specs.Lanes.{AreLanes}
use Rattle.cell_store.specs.Selects.{is_in}
use Rattle.cell_store.proofs.lanes.lanes_in_spans.Given as goal

abbrev pub invariant-loop-span : goal.invariant-loop-span
invariant-loop-span l = AreLanes (λ place. list_any (is_in (get_or l.ids place 0)) (take l.span-index l.spans)) l.at l.lanes
