use Rattle.std.proofs.Common.{◌≡◌, take}
use Rattle.plain_answer.proofs.answer.copy_row.Given as goal

abbrev pub invariant-loop-v : goal.invariant-loop-v
invariant-loop-v l = l.copies ≡ take l.v-index l.row
