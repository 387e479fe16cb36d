use Rattle.std.proofs.Common.{◌≡◌, filter, map, take}
use Rattle.std.specs.Ordering.{eq_by_cmp}
use Rattle.cube_val.specs.Order.{row_cmp}
use Rattle.plain_answer.specs.Answers.{key_of}
use Rattle.plain_answer.proofs.groups.rows_at.Given as goal

abbrev pub invariant-loop-row : goal.invariant-loop-row
invariant-loop-row l = map (λ row. row.now) l.found.items ≡ filter (λ row. eq_by_cmp row_cmp l.key (key_of l.columns row)) (map (λ row. row.now) (take l.row-index l.rows))
