use Rattle.std.proofs.Common.{◌≡◌, ◌+◌, ◌++◌, map, take}
use Rattle.cell_gather.specs.Keys.{kept_numbers}
use Rattle.cell_gather.proofs.rows.add_rows.Given as goal

abbrev pub invariant-loop-i : goal.invariant-loop-i
invariant-loop-i g l = record {
  rows : l.rows.items ≡ l.initial.rows.items ++ map (λ row. (kept_numbers l.keeps row.0, row.1)) (take l.i l.table.rows);
  steps : l.steps ≡ l.initial.steps + l.i;
}
