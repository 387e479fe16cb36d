use Rattle.std.proofs.Common.{take}
use Rattle.std.specs.List.{list_all}
use Rattle.cell_store.specs.Columns.{key_at, lists_of}
use Rattle.cell_store.specs.Lanes.{AreLanes}
use Rattle.cell_store.specs.Selects.{passes_test}
use Rattle.cell_store.proofs.lanes.lanes_passing.Given as goal

abbrev pub invariant-loop-test : goal.invariant-loop-test
invariant-loop-test l = AreLanes (λ place. list_all (passes_test (key_at (lists_of l.columns) place)) (take l.test-index l.tests)) l.at l.lanes
