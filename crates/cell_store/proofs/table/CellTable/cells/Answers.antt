use Rattle.std.proofs.Common.{◌≡◌, ◌<◌, ◌∙◌, ap, arith, length, sym}
use Rattle.cell_store.specs.Cells.{CellRows}
use Rattle.cell_store.specs.Columns.{cells_at, lists_of}
use Rattle.cell_store.specs.Selects.{row_at}
use Rattle.cell_store.proofs.ColumnLemmas.{Row, cells_fit, length-rows_of, row_here}
use Rattle.cell_store.proofs.table.CellTable.cells.Goals as goal

pub cells_at-requires : goal.cells_at-requires
cells_at-requires c =
    let t = c.self.inside in
    let width = length t.forms.items in
    let rows : t.count ≡ length c.args.self.now.rows = sym (length-rows_of t.count (lists_of t.columns.items) width t.cells.items) ∙ ap (λ (v : CellRows). length v.rows) c.self.view_is in
    let lt : c.args.place < t.count = omega arith in
    let size : c.len.result ≡ width = c.len.ensures ∙ t.forms.ok.0 in
    rw (size, c.as_slice.ensures.value) (omega (arith, cells_fit c.args.place t.count width lt, c.self.invariant.whole))

pub returns : goal.returns
returns c =
    let t = c.self.inside in
    let width = length t.forms.items in
    let rows : t.count ≡ length c.args.self.now.rows = sym (length-rows_of t.count (lists_of t.columns.items) width t.cells.items) ∙ ap (λ (v : CellRows). length v.rows) c.self.view_is in
    let lt : c.args.place < t.count = omega arith in
    let size : c.len.result ≡ width = c.len.ensures ∙ t.forms.ok.0 in
    c.cells_at.ensures ∙ (λ i. cells_at (size i) (c.as_slice.ensures.value i) c.args.place)
    ∙ sym (ap (λ (r : Row). r.1) (row_here t.count (lists_of t.columns.items) width t.cells.items c.args.place lt))
    ∙ ap (λ (v : CellRows). (row_at v.rows c.args.place).1) c.self.view_is
