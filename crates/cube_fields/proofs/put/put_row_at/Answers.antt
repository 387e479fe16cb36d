use Rattle.std.proofs.Common.{◌≡◌, ◌++◌, [], List, ℕ, subst, sym}
use Rattle.std.specs.Prelude.{All, OnOk}
use Rattle.std.proofs.lemmas.Option.{get_or_from_slice_get}
use Rattle.cell_store.specs.Selects.{row_at}
use Rattle.cell_store.specs.declared.cell.Cell.{Cell}
use Rattle.cube_fields.specs.Cells.{IsShortCell, row_text}
use Rattle.cube_fields.proofs.Puts.{all_at}
use Rattle.cube_fields.proofs.put.put_row_at.Goals as goal

abbrev Row : Type 0
Row = List ℕ × List Cell

pub put_row-requires : goal.put_row-requires
put_row-requires g c =
    all_at (λ (row : Row). All IsShortCell row.1) c.args.table.now.rows c.args.i (c.row-cells.new.key, c.row-cells.result.now) c.requires.short c.row-cells.ensures.row

pub returns : goal.returns
returns g c =
    let read : Row = (c.row-cells.new.key, c.row-cells.result.now) in
    let here : row_at c.args.table.now.rows c.args.i ≡ read = get_or_from_slice_get c.args.table.now.rows c.args.i read ([], []) c.row-cells.ensures.row in
    subst (λ (r : Row). OnOk c.put_row.result (c.put_row.new.out.items ≡ c.args.out.now.items ++ row_text r)) (sym here) c.put_row.ensures
