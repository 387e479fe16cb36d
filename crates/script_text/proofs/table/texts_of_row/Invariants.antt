use Rattle.std.proofs.Common.{◌≡◌, map, take}
use Rattle.script_text.specs.Blocks.{out_text}
use Rattle.script_text.proofs.table.texts_of_row.Given as goal

abbrev pub invariant-loop-v : goal.invariant-loop-v
invariant-loop-v l = map (λ text. text.items) l.texts.items ≡ map out_text (take l.v-index l.row)
