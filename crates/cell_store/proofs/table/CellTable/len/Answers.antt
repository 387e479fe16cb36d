use Rattle.std.proofs.Common.{◌∙◌, ap, length, sym}
use Rattle.cell_store.specs.Cells.{CellRows}
use Rattle.cell_store.specs.Columns.{lists_of}
use Rattle.cell_store.proofs.ColumnLemmas.{length-rows_of}
use Rattle.cell_store.proofs.table.CellTable.len.Goals as goal

pub returns-clause-len : goal.returns-clause-len
returns-clause-len c =
    let t = c.self.inside in
    sym (length-rows_of t.count (lists_of t.columns.items) (length t.forms.items) t.cells.items) ∙ ap (λ (v : CellRows). length v.rows) c.self.view_is
