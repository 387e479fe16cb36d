use Rattle.std.proofs.Common.{◌++◌, List, ℕ, ap, ◌∙◌}
use Rattle.cube_fields.specs.Cells.{table_text}
use Rattle.cube_fields.proofs.Puts.{put_more}
use Rattle.cube_fields.proofs.put.put_each_table.Goals as goal

pub loop-table-preserved : goal.loop-table-preserved
loop-table-preserved g c =
    c.in_ok-put_table.ensures ∙ ap (λ (t : List ℕ). t ++ table_text c.table-item.result) c.loop-table.invariant
    ∙ put_more table_text c.args.tables.now c.loop-table.table-index c.table-item.result c.args.out.now.items c.loop-table-test.true c.table-item.is
