use Rattle.std.proofs.Common.{◌≡◌, map, take}
use Rattle.std.specs.Arc.{arc_value}
use Rattle.cube_val.proofs.form.TableSet.copy.Given as goal

abbrev pub invariant-loop-table : goal.invariant-loop-table
invariant-loop-table l = map arc_value l.tables.items ≡ take l.table-index (map arc_value l.table-items)
