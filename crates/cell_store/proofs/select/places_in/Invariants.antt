use Rattle.std.proofs.Common.{◌≡◌, ◌*◌}
use Rattle.cell_store.specs.Columns.{lists_of}
use Rattle.cell_store.specs.Lanes.{passing_below}
use Rattle.cell_store.proofs.select.places_in.Given as goal

abbrev pub invariant-loop-eight : goal.invariant-loop-eight
invariant-loop-eight l = l.places.items ≡ passing_below l.tests (lists_of l.columns) (l.eight * 8)
