use Rattle.std.proofs.Common.{◌≡◌, ◌++◌, drop, take}
use Rattle.std.specs.Prelude.{All}
use Rattle.cell_store.specs.Cells.{IsCellTable}
use Rattle.cell_merge.specs.Merges.{renumbered_parts}
use Rattle.cell_merge.proofs.merging.renumbered_parts.Given as goal

abbrev pub invariant-loop-i : goal.invariant-loop-i
invariant-loop-i g l = record {
  rows : l.rows.items ++ renumbered_parts (drop l.i l.remaps) (drop l.i l.parts) ≡ renumbered_parts l.remaps l.parts;
  tables : All (λ part. IsCellTable part.mask part.forms part.rows) (take l.i l.parts);
}
