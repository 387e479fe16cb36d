use Rattle.std.proofs.Common.{◌≡◌, ◌<◌, ◌∙◌, ap, arith, length, sym}
use Rattle.std.specs.Prelude.{slice_index}
use Rattle.cell_store.specs.Cells.{CellRows}
use Rattle.cell_store.specs.Columns.{lists_of}
use Rattle.cell_store.specs.Selects.{row_at}
use Rattle.cell_store.proofs.ColumnLemmas.{Row, length-column, length-lists_of, length-rows_of, number_of, row_here, width_here}
use Rattle.cell_store.proofs.table.CellTable.id.Goals as goal

pub id_at-requires : goal.id_at-requires
id_at-requires c =
    let t = c.self.inside in
    let lists = lists_of t.columns.items in
    let width = length t.forms.items in
    let rows : t.count ≡ length c.args.self.now.rows = sym (length-rows_of t.count lists width t.cells.items) ∙ ap (λ (v : CellRows). length v.rows) c.self.view_is in
    let lt : c.args.place < t.count = omega arith in
    let key : length lists ≡ length (row_at c.args.self.now.rows c.args.place).0 =
    sym (width_here t.count lists width t.cells.items c.args.place lt) ∙ ap (λ (v : CellRows). length (row_at v.rows c.args.place).0) c.self.view_is in
    let column : c.args.column < length t.columns.items = omega (arith, length-lists_of t.columns.items) in
    omega (arith, length-column t.columns.items t.count c.args.column c.index.result.now c.self.invariant.each column c.index.ensures)

pub returns : goal.returns
returns c =
    let t = c.self.inside in
    let lists = lists_of t.columns.items in
    let width = length t.forms.items in
    let rows : t.count ≡ length c.args.self.now.rows = sym (length-rows_of t.count lists width t.cells.items) ∙ ap (λ (v : CellRows). length v.rows) c.self.view_is in
    let lt : c.args.place < t.count = omega arith in
    let key : length lists ≡ length (row_at c.args.self.now.rows c.args.place).0 =
    sym (width_here t.count lists width t.cells.items c.args.place lt) ∙ ap (λ (v : CellRows). length (row_at v.rows c.args.place).0) c.self.view_is in
    let column : c.args.column < length t.columns.items = omega (arith, length-lists_of t.columns.items) in
    c.id_at.ensures ∙ number_of t.columns.items c.args.place c.args.column c.index.result.now column c.index.ensures
    ∙ sym (ap (λ (r : Row). slice_index r.0 c.args.column) (row_here t.count lists width t.cells.items c.args.place lt))
    ∙ ap (λ (v : CellRows). slice_index (row_at v.rows c.args.place).0 c.args.column) c.self.view_is
