use Rattle.std.proofs.Common.{◌≡◌, map, take}
use Rattle.std.specs.List.{filter_map}
use Rattle.plain_answer.specs.Aggregates.{cell, known}
use Rattle.plain_answer.proofs.aggregates.known_values.Given as goal

abbrev pub invariant-loop-row : goal.invariant-loop-row
invariant-loop-row l = map (λ v. v.now) l.values.items ≡ filter_map (λ row. known (cell row l.column)) (map (λ row. row.now) (take l.row-index l.rows))
