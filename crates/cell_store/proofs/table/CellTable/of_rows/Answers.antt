use Rattle.std.proofs.Common.{◌≡◌, ◌++◌, ◌∷◌, ◌∙◌, [], List, ℕ, ap, append-nil, append_assoc, length, map, subst, sym}
use Rattle.std.specs.List.Sorted.{IsStrictlySortedBy}
use Rattle.std.proofs.lemmas.List.{nil_from_length}
use Rattle.agg_group.specs.declared.mask.Mask.{Mask}
use Rattle.agg_group.specs.Mask.{count_of}
use Rattle.measure_laws.specs.declared.measure.MeasureForm.{MeasureForm}
use Rattle.cell_store.specs.Cells.{ItemsAreFew, form_of, key_cmp}
use Rattle.cell_store.proofs.ColumnLemmas.{Row}
use Rattle.cell_store.proofs.TableLemmas.{IsNext, next_row}
use Rattle.cell_store.proofs.table.CellTable.of_rows.Goals as goal

next : (c : goal.After-as_slice) → IsNext c.args.mask c.args.forms.now c.loop-row.table.rows c.in-Some.row
next c =
    next_row c.args.mask c.args.forms.now c.loop-row.table.rows c.in-Some.row c.next.new.self.rest.items c.args.rows.items c.requires
    (ap (λ (l : List Row). c.loop-row.table.rows ++ l) (sym c.in-Some.ensures.steps.0) ∙ c.loop-row.invariant.rows)

key : (c : goal.After-as_slice) → c.as_slice.result.now ≡ c.in-Some.row.0
key c = c.as_slice.ensures.value ∙ ap (λ (r : Row). r.0) c.row.view_is

pub push-requires-clause-width : goal.push-requires-clause-width
push-requires-clause-width c = ap (λ (k : List ℕ). length k) (key c) ∙ (next c).width ∙ ap (λ (m : Mask). count_of m) (sym c.loop-row.invariant.mask)

pub push-requires-clause-forms : goal.push-requires-clause-forms
push-requires-clause-forms c = ap (λ (r : Row). map form_of r.1) c.row.view_is ∙ (next c).formed ∙ sym c.loop-row.invariant.forms

pub push-requires-clause-rising : goal.push-requires-clause-rising
push-requires-clause-rising c =
    subst (λ (k : List ℕ). IsStrictlySortedBy key_cmp (map (λ (r : Row). r.0) c.loop-row.table.rows ++ k ∷ [])) (sym (key c)) (next c).rising

pub push-requires-clause-few : goal.push-requires-clause-few
push-requires-clause-few c =
    let row : (let r : Row = (c.as_slice.result.now, c.row.inside.cells.items) in r) ≡ c.in-Some.row = λ i. (key c i, (c.row.view_is i).1) in
    subst (λ (f : List MeasureForm). ItemsAreFew f (c.loop-row.table.rows ++ (c.as_slice.result.now, c.row.inside.cells.items) ∷ [])) (sym c.loop-row.invariant.forms)
    (subst (λ (r : Row). ItemsAreFew c.args.forms.now (c.loop-row.table.rows ++ r ∷ [])) (sym row) (next c).few)

pub loop-row-init : goal.loop-row-init
loop-row-init c = record {
  mask = c.in_ok-table.ensures.mask;
  forms = c.in_ok-table.ensures.forms;
  rows = ap (λ (l : List Row). l ++ c.into_iter-row-iterator.result.rest.items) c.in_ok-table.ensures.rows ∙ c.into_iter-row-iterator.ensures.into_iter_gives.0;
}

pub loop-row-preserved : goal.loop-row-preserved
loop-row-preserved c =
    let T = c.loop-row.table.rows in
    let rest = c.next.new.self.rest.items in
    let row : (let r : Row = (c.as_slice.result.now, c.row.inside.cells.items) in r) ≡ c.in-Some.row = λ i. ((c.as_slice.ensures.value ∙ ap (λ (r : Row). r.0) c.row.view_is) i, (c.row.view_is i).1) in
    record {
      mask = c.push.ensures.mask ∙ c.loop-row.invariant.mask;
      forms = c.push.ensures.forms ∙ c.loop-row.invariant.forms;
      rows =
          ap (λ (l : List Row). l ++ rest) (c.in_ok-push.ensures.ok ∙ ap (λ (r : Row). T ++ r ∷ []) row) ∙ append_assoc T (c.in-Some.row ∷ []) rest
          ∙ ap (λ (l : List Row). T ++ l) (sym c.in-Some.ensures.steps.0) ∙ c.loop-row.invariant.rows;
    }

pub returns : goal.returns
returns c =
    let items = c.loop-row.row-iterator.rest in
    let none : items.items ≡ [] = nil_from_length items.items (sym items.ok.0 ∙ c.in-None.ensures.steps.0) in
    record {
      mask = c.loop-row.invariant.mask;
      forms = c.loop-row.invariant.forms;
      rows = sym (append-nil c.loop-row.table.rows) ∙ ap (λ (l : List Row). c.loop-row.table.rows ++ l) (sym none) ∙ c.loop-row.invariant.rows;
    }
