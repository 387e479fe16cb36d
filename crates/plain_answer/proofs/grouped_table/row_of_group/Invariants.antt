use Rattle.std.proofs.Common.{◌≡◌, map, take}
use Rattle.plain_answer.specs.Answers.{group_value}
use Rattle.plain_answer.proofs.grouped_table.row_of_group.Given as goal

abbrev pub invariant-loop-out : goal.invariant-loop-out
invariant-loop-out l = l.row ≡ map (λ out. group_value l.columns l.group out.term) (take l.out-index l.outs)
