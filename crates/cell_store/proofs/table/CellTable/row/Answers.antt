use Rattle.std.proofs.Common.{◌≡◌, ◌<◌, ◌∙◌, [], ap, arith, get_or, length, sym}
use Rattle.std.specs.Prelude.{Some}
use Rattle.std.proofs.lemmas.List.{get_or_default}
use Rattle.std.proofs.lemmas.Option.{slice_get-get_or}
use Rattle.cell_store.specs.Cells.{CellRows}
use Rattle.cell_store.specs.Columns.{key_at, lists_of}
use Rattle.cell_store.specs.Selects.{row_at}
use Rattle.cell_store.proofs.ColumnLemmas.{Row, length-column, length-rows_of, row_here}
use Rattle.cell_store.proofs.table.CellTable.row.Goals as goal

pub read_key-requires-clause-in_range : goal.read_key-requires-clause-in_range
read_key-requires-clause-in_range g c =
    let t = c.self.inside in
    let rows : t.count ≡ length c.args.self.now.rows =
    sym (length-rows_of t.count (lists_of t.columns.items) (length t.forms.items) t.cells.items) ∙ ap (λ (v : CellRows). length v.rows) c.self.view_is in
    let lt : c.args.i < t.count = omega arith in
    rw c.as_slice.ensures.value (λ k d low. omega (arith, length-column t.columns.items t.count k (get_or t.columns.items k d) c.self.invariant.each low (get_or_default t.columns.items k d (get_or t.columns.items k d) low)))

pub returns-clause-row : goal.returns-clause-row
returns-clause-row g c =
    let t = c.self.inside in
    let rows = c.args.self.now.rows in
    let i = c.args.i in
    let size : t.count ≡ length rows =
    sym (length-rows_of t.count (lists_of t.columns.items) (length t.forms.items) t.cells.items) ∙ ap (λ (v : CellRows). length v.rows) c.self.view_is in
    let lt : i < t.count = omega arith in
    let key : (row_at rows i).0 ≡ c.read_key.new.key =
    sym (ap (λ (v : CellRows). (row_at v.rows i).0) c.self.view_is)
    ∙ ap (λ (r : Row). r.0) (row_here t.count (lists_of t.columns.items) (length t.forms.items) t.cells.items i lt)
    ∙ sym (c.read_key.ensures ∙ ap (λ l. key_at (lists_of l) i) c.as_slice.ensures.value) in
    let cells : (row_at rows i).1 ≡ c.cells.result.now = sym c.cells.ensures in
    slice_get-get_or rows i ([], []) (omega arith) ∙ (λ j. Some (key j, cells j))
