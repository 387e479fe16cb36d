use Rattle.std.proofs.Common.{◌≡◌}
use Rattle.std.specs.List.{AllWithin}
use Rattle.cell_store.specs.Columns.{HasRoom, lists_of}
use Rattle.cell_store.proofs.columns.reserve_each.Given as goal

abbrev pub invariant-loop-column : goal.invariant-loop-column
invariant-loop-column l = record {
  same : lists_of l.columns ≡ lists_of l.initial.columns;
  room : AllWithin HasRoom l.columns 0 l.column-index;
}
