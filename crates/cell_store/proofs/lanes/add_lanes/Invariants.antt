use Rattle.std.proofs.Common.{◌≡◌, ◌+◌}
use Rattle.cell_store.specs.Columns.{lists_of}
use Rattle.cell_store.specs.Lanes.{passing_below}
use Rattle.cell_store.proofs.lanes.add_lanes.Given as goal

abbrev pub invariant-loop-lane : goal.invariant-loop-lane
invariant-loop-lane l = l.places.items ≡ passing_below l.tests (lists_of l.columns) (l.at + l.lane)
