use Rattle.std.proofs.Common.{◌≡◌, ◌++◌, ◌∷◌, ◌∙◌, [], List, ℕ, ap, sym}
use Rattle.std.proofs.lemmas.Option.{get_or_from_slice_get}
use Rattle.cell_store.specs.Selects.{row_at}
use Rattle.cell_store.specs.declared.cell.Cell.{Cell}
use Rattle.cell_gather.specs.Keys.{kept_numbers}
use Rattle.cell_gather.proofs.rows.add_row.Goals as goal

abbrev Row : Type 0
Row = List ℕ × List Cell

pub returns-clause-row : goal.returns-clause-row
returns-clause-row g c =
    let read : Row = (c.row-cells.new.key, c.row-cells.result.now) in
    let here : row_at c.args.table.now.rows c.args.i ≡ read = get_or_from_slice_get c.args.table.now.rows c.args.i read ([], []) c.row-cells.ensures.row in
    c.in_ok-push.ensures.items ∙ ap (λ (r : Row). c.args.rows.now.items ++ r ∷ []) (c.new.ensures ∙ ap (λ (k : List ℕ). let r : Row = (k, c.row-cells.result.now) in r) c.in_ok-kept_numbers.ensures)
    ∙ ap (λ (r : Row). c.args.rows.now.items ++ (kept_numbers c.args.keeps.now r.0, r.1) ∷ []) (sym here)
