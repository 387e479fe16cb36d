use Rattle.std.proofs.Common.{◌≡◌, map, take}
use Rattle.plain_answer.specs.Answers.{key_of}
use Rattle.plain_answer.proofs.groups.keys_of.Given as goal

abbrev pub invariant-loop-row : goal.invariant-loop-row
invariant-loop-row l = l.keys.items ≡ map (key_of l.columns) (map (λ row. row.now) (take l.row-index l.rows))
