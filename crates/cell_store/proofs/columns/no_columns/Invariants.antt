use Rattle.std.proofs.Common.{◌≡◌, [], replicate}
use Rattle.cell_store.specs.Columns.{lists_of}
use Rattle.cell_store.proofs.columns.no_columns.Given as goal

abbrev pub invariant-loop : goal.invariant-loop
invariant-loop l = lists_of l.columns.items ≡ replicate l.counter []
