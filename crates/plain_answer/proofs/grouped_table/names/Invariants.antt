use Rattle.std.proofs.Common.{◌≡◌, map, take}
use Rattle.plain_answer.proofs.grouped_table.names.Given as goal

abbrev pub invariant-loop-out : goal.invariant-loop-out
invariant-loop-out l = l.names ≡ map (λ out. out.name) (take l.out-index l.outs)
