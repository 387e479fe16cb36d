use Rattle.std.proofs.Common.{◌≡◌, [], arith, map, take}
use Rattle.std.proofs.lemmas.List.{take_all}
use Rattle.script_text.specs.Blocks.{segment_fields, segments_header, table_text}
use Rattle.script_text.proofs.Writers.{rows_more, written_all, written_header}
use Rattle.script_text.proofs.table.segments_table.Goals as goal

pub loop-segment-init : goal.loop-segment-init
loop-segment-init c =
    let h = rw (c.as_slice.ensures, c.as_slice-2.ensures, c.as_slice-3.ensures, c.as_slice-4.ensures) at (c.in_ok-put_line.ensures [] c.writer_of-writer.ensures) in
    written_header segments_header c.put_line.new.writer h

pub loop-segment-preserved : goal.loop-segment-preserved
loop-segment-preserved c =
    rw (← rows_more segments_header segment_fields c.args.segments.now c.loop-segment.segment-index c.segment-item.result c.segment-item.is c.loop-segment-test.true)
    (c.in_ok-put_segment.ensures (table_text segments_header (map segment_fields (take c.loop-segment.segment-index c.args.segments.now))) c.loop-segment.invariant)

pub returns : goal.returns
returns c =
    let all : take c.loop-segment.segment-index c.args.segments.now ≡ c.args.segments.now = take_all _ _ (omega arith) in
    written_all c.text_of.result c.loop-segment.writer (table_text segments_header (map segment_fields c.args.segments.now)) c.text_of.ensures
    (rw all at c.loop-segment.invariant)
