use Rattle.std.proofs.Common.{◌≡◌, ◌∙◌, Bool, List, ℕ, ap, arith, get_or, length, subst, sym}
use Rattle.std.specs.Prelude.{IfOk}
use Rattle.std.specs.List.{filter, range_with_len}
use Rattle.std.proofs.lemmas.List.{get_or_default}
use Rattle.cell_store.specs.Cells.{CellRows}
use Rattle.cell_store.specs.Columns.{key_at, lists_of, rows_of}
use Rattle.cell_store.specs.Selects.{passes, places_of, row_at}
use Rattle.cell_store.proofs.ColumnLemmas.{Row, length-column, length-rows_of, row_here}
use Rattle.cell_store.proofs.SelectLemmas.{filter-range_same}
use Rattle.cell_store.proofs.table.CellTable.places_of.Goals as goal

pub places_in-requires-clause-in_range : goal.places_in-requires-clause-in_range
places_in-requires-clause-in_range c =
    let t = c.self.inside in
    rw c.as_slice.ensures.value (λ k d lt. omega (arith, length-column t.columns.items t.count k (get_or t.columns.items k d) c.self.invariant.each lt (get_or_default t.columns.items k d (get_or t.columns.items k d) lt)))

pub returns : goal.returns
returns c =
    let t = c.self.inside in
    let tests = c.args.tests.now in
    let lists = lists_of t.columns.items in
    let width = length t.forms.items in
    let by_columns : ℕ → Bool = λ place. passes tests (key_at lists place) in
    let by_rows : ℕ → Bool = λ place. passes tests (row_at (rows_of t.count lists width t.cells.items) place).0 in
    let same : filter by_columns (range_with_len 0 t.count) ≡ places_of tests c.args.self.now.rows =
    filter-range_same by_columns by_rows t.count (λ k lt. sym (ap (λ (r : Row). passes tests r.0) (row_here t.count lists width t.cells.items k lt)))
    ∙ ap (λ n. filter by_rows (range_with_len 0 n)) (sym (length-rows_of t.count lists width t.cells.items))
    ∙ ap (λ (v : CellRows). places_of tests v.rows) c.self.view_is in
    subst (λ (l : List ℕ). IfOk c.places_in.result (λ places. places.items ≡ l)) same (rw c.as_slice.ensures.value at c.places_in.ensures)
