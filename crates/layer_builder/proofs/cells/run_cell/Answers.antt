use Rattle.std.proofs.Common.{◌≡◌, ◌∙◌, List, ap, arith, length, map, subst, sym}
use Rattle.std.specs.Prelude.{IsTrue}
use Rattle.std.specs.List.{filter_map}
use Rattle.std.proofs.lemmas.List.{length-map}
use Rattle.std.proofs.lemmas.Result.{IfOk-weaker}
use Rattle.cell_gather.proofs.RowFacts.{length-filter_map}
use Rattle.cell_store.specs.Cells.{cell_of_items}
use Rattle.cell_store.specs.declared.cell.Cell.{Cell}
use Rattle.cell_store.specs.declared.cell.RowItem.{RowItem}
use Rattle.cube_val.specs.declared.val.Val.{Val}
use Rattle.measure_laws.specs.declared.kinds.ItemKind.{ItemKind}
use Rattle.measure_laws.specs.Kinds.{are_ids, item_kind}
use Rattle.plain_answer.specs.Kinds.{form_of_kind}
use Rattle.layer_builder.specs.Base.{dict_at, item_of, value_at}
use Rattle.layer_builder.proofs.RunFacts.{vals_at}
use Rattle.layer_builder.proofs.cells.run_cell.Goals as goal

pub items_of-requires : goal.items_of-requires
items_of-requires c = λ h. c.requires.place (subst (λ (k : ItemKind). IsTrue (are_ids k)) (c.item_kind.ensures ∙ ap item_kind c.form-form.ensures) h)

pub of_items-requires : goal.of_items-requires
of_items-requires c =
    let take_item = λ (row : List Val). item_of c.item_kind.result (dict_at c.args.dicts.now c.args.place) (value_at c.args.agg.column row) in
    let rows = map vals_at c.args.rows.now in
    omega (arith, ap length c.deref.ensures.value, ap length c.in_ok-items.ensures, length-filter_map take_item rows, length-map c.args.rows.now vals_at, c.requires.few)

pub returns : goal.returns
returns c =
    let rows = map vals_at c.args.rows.now in
    let form = c.form-form.ensures in
    let kind : c.item_kind.result ≡ item_kind (form_of_kind c.args.agg.kind) = c.item_kind.ensures ∙ ap item_kind form in
    let items : c.deref.result.now ≡ filter_map (λ row. item_of (item_kind (form_of_kind c.args.agg.kind)) (dict_at c.args.dicts.now c.args.place) (value_at c.args.agg.column row)) rows
    = c.deref.ensures.value ∙ c.in_ok-items.ensures ∙ ap (λ (k : ItemKind). filter_map (λ row. item_of k (dict_at c.args.dicts.now c.args.place) (value_at c.args.agg.column row)) rows) kind in
    IfOk-weaker c.of_items.result _ _ (λ cell h. h ∙ (λ i. cell_of_items (form i) (items i))) c.of_items.ensures
