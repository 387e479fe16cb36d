use Rattle.std.proofs.Common.{◌≡◌, ◌++◌, map, take}
use Rattle.cell_merge.specs.Renumbered.{renumbered_row}
use Rattle.cell_merge.proofs.renumbering.add_renumbered.Given as goal

abbrev pub invariant-loop-i : goal.invariant-loop-i
invariant-loop-i g l = l.rows.items ≡ l.initial.rows.items ++ map (renumbered_row l.remaps l.table.mask l.table.forms) (take l.i l.table.rows)
