use Rattle.std.proofs.Common.{map, take}
use Rattle.script_text.specs.Blocks.{segment_fields, segments_header, table_text}
use Rattle.script_text.specs.Writing.{HasWritten}
use Rattle.script_text.proofs.table.segments_table.Given as goal

abbrev pub invariant-loop-segment : goal.invariant-loop-segment
invariant-loop-segment l = HasWritten (table_text segments_header (map segment_fields (take l.segment-index l.segments))) l.writer
