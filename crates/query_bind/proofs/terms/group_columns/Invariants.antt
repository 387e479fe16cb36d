use Rattle.std.proofs.Common.{◌≡◌, take, map}
use Rattle.query_bind.specs.Asks.{column_number}
use Rattle.query_bind.proofs.terms.group_columns.Given as goal

abbrev pub invariant-loop-column : goal.invariant-loop-column
invariant-loop-column l = l.numbers ≡ map (column_number l.scope.parts.now l.scope.query.now) (take l.column-index l.columns)
