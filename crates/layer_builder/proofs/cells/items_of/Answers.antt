use Rattle.std.proofs.Common.{◌≡◌, ◌+◌, ◌∷◌, ◌++◌, ◌∙◌, [], List, None, Some, ap, map, sym, take}
use Rattle.std.specs.Prelude.{Option}
use Rattle.std.specs.List.{cons_option, filter_map}
use Rattle.std.proofs.lemmas.List.{append-nil}
use Rattle.std.proofs.lemmas.List.Elements.{filter_map-append}
use Rattle.plain_answer.proofs.LoopLemmas.{none_from}
use Rattle.cell_store.specs.declared.cell.RowItem.{RowItem}
use Rattle.cube_val.specs.declared.val.Val.{Val}
use Rattle.layer_builder.specs.Base.{dict_at, item_of, value_at}
use Rattle.layer_builder.proofs.RunFacts.{vals_at}
use Rattle.layer_builder.proofs.ValueFacts.{column_more}
use Rattle.layer_builder.proofs.cells.items_of.Goals as goal
use Rattle.layer_builder.proofs.cells.items_of.Goals.{in-Some+in_ok-push, in_default}

pub loop-row-preserved : goal.loop-row-preserved
loop-row-preserved c =
    let take_item : List Val → Option RowItem = λ row. item_of c.args.kind (dict_at c.args.dicts.now c.args.place) (value_at c.args.column row) in
    let rows = c.args.rows.now in
    let i = c.loop-row.row-index in
    let row = c.row-item.result in
    let own : c.row.inside.vals.now ≡ row.1 = ap (λ r. r.1) c.row.view_is in
    let item : c.item_at.result ≡ take_item row.1 = c.item_at.ensures ∙ ap take_item own in
    let front : List RowItem = filter_map take_item (map vals_at (take i rows)) in
    let more : filter_map take_item (map vals_at (take (i + 1) rows)) ≡ front ++ cons_option (take_item row.1) []
    = ap (filter_map take_item) (column_more vals_at rows i row c.loop-row-test.true c.row-item.is) ∙ filter_map-append take_item (map vals_at (take i rows)) (row.1 ∷ []) in
    elim c.match-item_at.branch [
      | in-Some+in_ok-push w ↦
          let some : take_item row.1 ≡ Some w.in-Some.item = sym item ∙ w.in-Some.is in
          ap (λ v. v.items) w.items-is ∙ w.in_ok-push.ensures.items ∙ ap (λ l. l ++ w.in-Some.item ∷ []) c.loop-row.invariant ∙ sym (more ∙ ap (λ o. front ++ cons_option o []) some)
      | in_default w ↦
          let none : take_item row.1 ≡ None = sym item ∙ none_from _ w.in_default.not-Some in
          ap (λ v. v.items) w.items-is ∙ c.loop-row.invariant ∙ sym (append-nil front) ∙ sym (more ∙ ap (λ o. front ++ cons_option o []) none)
    ]
