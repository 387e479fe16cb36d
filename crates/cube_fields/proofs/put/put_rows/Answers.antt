use Rattle.std.proofs.Common.{◌++◌, ◌∙◌, [], List, ℕ, ap, arith}
use Rattle.std.proofs.lemmas.Option.{slice_get-get_or}
use Rattle.cell_store.specs.Selects.{row_at}
use Rattle.cube_fields.specs.Cells.{row_text}
use Rattle.cube_fields.proofs.Puts.{put_at}
use Rattle.cube_fields.proofs.put.put_rows.Goals as goal

pub loop-i-preserved : goal.loop-i-preserved
loop-i-preserved g c =
    let rows = c.args.table.now.rows in
    let i = c.loop-i.i in
    c.in_ok-put_row_at.ensures ∙ ap (λ (t : List ℕ). t ++ row_text (row_at rows i)) c.loop-i.invariant
    ∙ put_at row_text rows i (row_at rows i) c.args.out.now.items (slice_get-get_or rows i ([], []) (omega arith))
