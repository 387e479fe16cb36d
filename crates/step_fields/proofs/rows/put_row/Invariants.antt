use Rattle.std.proofs.Common.{◌≡◌, ◌++◌, take}
use Rattle.step_fields.specs.Spelling.{row_text}
use Rattle.step_fields.proofs.rows.put_row.Given as goal

abbrev pub invariant-loop-v : goal.invariant-loop-v
invariant-loop-v l = l.out.items ≡ l.fn.out.items ++ row_text (take l.v-index l.v-items)
