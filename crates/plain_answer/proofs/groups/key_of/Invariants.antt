use Rattle.std.proofs.Common.{◌≡◌, map, take}
use Rattle.plain_answer.specs.Aggregates.{cell}
use Rattle.plain_answer.proofs.groups.key_of.Given as goal

abbrev pub invariant-loop-column : goal.invariant-loop-column
invariant-loop-column l = l.key ≡ map (cell l.row) (take l.column-index l.columns)
