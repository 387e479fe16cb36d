use Rattle.std.proofs.Common.{◌≡◌, ◌∙◌, [], ap, arith, length}
use Rattle.cell_store.specs.Cells.{cell_of_items, form_of, items_of, merged_cell}
use Rattle.cell_store.proofs.KindFacts.{items-of}
use Rattle.cell_merge.proofs.CellFacts.{merged_into_none}
use Rattle.cell_merge.proofs.renumbering.copied.Goals as goal

pub merge-requires : goal.merge-requires
merge-requires c =
    let none : items_of c.in_ok-copy.copy ≡ length {A = Rattle.cell_store.specs.declared.cell.RowItem.RowItem} [] = ap items_of c.in_ok-copy.ensures ∙ items-of c.form.result [] in
    omega (arith, none, c.requires)

pub returns : goal.returns
returns c =
    c.in_ok-merge.ensures.ok
    ∙ ap (λ copy. merged_cell copy c.args.cell.now) (c.in_ok-copy.ensures ∙ ap (λ f. cell_of_items f []) c.form.ensures)
    ∙ merged_into_none c.args.cell.now
