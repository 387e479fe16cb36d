use Rattle.std.proofs.Common.{◌≡◌, ◌++◌, take}
use Rattle.std.specs.List.{flat_map}
use Rattle.query_bind.specs.Needs.{column_bits}
use Rattle.query_bind.proofs.needs.push_group.Given as goal

abbrev pub invariant-loop-column : goal.invariant-loop-column
invariant-loop-column l = l.bits.items ≡ l.initial.bits.items ++ flat_map (column_bits l.scope.parts.now l.scope.query.now) (take l.column-index l.group)
