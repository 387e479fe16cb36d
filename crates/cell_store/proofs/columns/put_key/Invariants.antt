use Rattle.std.proofs.Common.{◌≡◌, ◌++◌, drop, length, take}
use Rattle.std.specs.List.{AllWithin}
use Rattle.cell_store.specs.Columns.{HasRoom, lists_of, with_key}
use Rattle.cell_store.proofs.columns.put_key.Given as goal

-- the columns so far have their number, and the others have room
abbrev pub invariant-loop-d : goal.invariant-loop-d
invariant-loop-d l = record {
  lists : lists_of l.columns ≡ with_key (take l.d (lists_of l.initial.columns)) (take l.d l.key) ++ drop l.d (lists_of l.initial.columns);
  room : AllWithin HasRoom l.columns l.d (length l.columns);
}
