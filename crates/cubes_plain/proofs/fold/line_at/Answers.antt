use Rattle.std.proofs.Common.{◌≡◌, [], List, ℕ, subst, sym}
use Rattle.std.specs.Prelude.{IfOk}
use Rattle.std.proofs.lemmas.Option.{get_or_from_slice_get, slice_get_within}
use Rattle.cell_store.specs.Selects.{row_at}
use Rattle.cell_store.specs.declared.cell.Cell.{Cell}
use Rattle.cubes_plain.specs.Cuboids.{IsSumRow, row_line}
use Rattle.cubes_plain.proofs.fold.line_at.Goals as goal

abbrev Row : Type 0
Row = List ℕ × List Cell

pub row_line-requires-clause-row : goal.row_line-requires-clause-row
row_line-requires-clause-row g c =
    let rows = c.args.cuboid.now.rows in
    let i = c.args.i in
    let read : Row = (c.row-cells.new.key, c.row-cells.result.now) in
    subst (λ (r : Row). IsSumRow c.args.dict.now r) (get_or_from_slice_get rows i read read c.row-cells.ensures.row) (c.requires.rows i read (slice_get_within rows i read c.row-cells.ensures.row))

pub returns : goal.returns
returns g c =
    let rows = c.args.cuboid.now.rows in
    let i = c.args.i in
    let read : Row = (c.row-cells.new.key, c.row-cells.result.now) in
    let here : row_at rows i ≡ read = get_or_from_slice_get rows i read ([], []) c.row-cells.ensures.row in
    subst (λ (r : Row). IfOk c.row_line.result (λ line. line.items ≡ row_line c.args.dict.now r)) (sym here) c.row_line.ensures
