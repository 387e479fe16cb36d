use Rattle.std.proofs.Common.{◌≡◌}
use Rattle.cell_store.specs.Columns.{lists_of}
use Rattle.cell_store.specs.Lanes.{passing_below}
use Rattle.cell_store.proofs.select.add_each.Given as goal

abbrev pub invariant-loop-place : goal.invariant-loop-place
invariant-loop-place l = l.places.items ≡ passing_below l.tests (lists_of l.columns) l.place
