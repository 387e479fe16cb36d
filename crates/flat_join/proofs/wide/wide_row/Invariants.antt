use Rattle.std.proofs.Common.{◌≡◌, take}
use Rattle.flat_join.specs.Joins.{wide_row}
use Rattle.flat_join.proofs.wide.wide_row.Given as goal

abbrev pub invariant-loop-column : goal.invariant-loop-column
invariant-loop-column l = l.vals.items ≡ wide_row (take l.column-index l.columns) l.fact l.found
