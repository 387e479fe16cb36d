use Rattle.std.proofs.Common.{◌≡◌, map, take}
use Rattle.plain_answer.specs.Answers.{row_of_group}
use Rattle.plain_answer.proofs.grouped_table.rows.Given as goal

abbrev pub invariant-loop-group : goal.invariant-loop-group
invariant-loop-group l = l.rows ≡ map (row_of_group l.columns l.outs) (take l.group-index l.groups)
