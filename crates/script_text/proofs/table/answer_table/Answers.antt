use Rattle.std.proofs.Common.{◌≡◌, [], arith, map, take}
use Rattle.std.proofs.lemmas.List.{take_all}
use Rattle.script_text.specs.Blocks.{out_text, table_text}
use Rattle.script_text.proofs.Writers.{rows_more, written_all, written_header}
use Rattle.script_text.proofs.table.answer_table.Goals as goal

pub loop-row-init : goal.loop-row-init
loop-row-init c =
    let h = rw (c.deref.ensures.value, c.in_ok-names.ensures, c.as_slice.ensures) at (c.in_ok-put_line.ensures [] c.writer_of-writer.ensures) in
    written_header c.args.table.now.names c.put_line.new.writer h

pub loop-row-preserved : goal.loop-row-preserved
loop-row-preserved c =
    rw (← rows_more c.args.table.now.names (λ row. map out_text row) c.as_slice-row-items.result.now c.loop-row.row-index c.row-item.result c.row-item.is c.loop-row-test.true)
    (c.in_ok-put_row.ensures (table_text c.args.table.now.names (map (λ row. map out_text row) (take c.loop-row.row-index c.as_slice-row-items.result.now))) c.loop-row.invariant)

pub returns : goal.returns
returns c =
    let all : take c.loop-row.row-index c.as_slice-row-items.result.now ≡ c.as_slice-row-items.result.now = take_all _ _ (omega arith) in
    written_all c.text_of.result c.loop-row.writer (table_text c.args.table.now.names (map (λ row. map out_text row) c.args.table.now.rows)) c.text_of.ensures
    (rw (all, c.as_slice-row-items.ensures) at c.loop-row.invariant)
