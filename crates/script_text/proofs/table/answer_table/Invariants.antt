use Rattle.std.proofs.Common.{map, take}
use Rattle.script_text.specs.Blocks.{out_text, table_text}
use Rattle.script_text.specs.Writing.{HasWritten}
use Rattle.script_text.proofs.table.answer_table.Given as goal

abbrev pub invariant-loop-row : goal.invariant-loop-row
invariant-loop-row l = HasWritten (table_text l.table.names (map (λ row. map out_text row) (take l.row-index l.row-items))) l.writer
