use Rattle.std.proofs.Common.{◌≡◌, ◌<◌, ◌+◌, ◌∷◌, ◌++◌, ◌∙◌, [], ℕ, List, ap, append_assoc, arith, drop, length, map, sym, take}
use Rattle.std.specs.List.{prefix_len}
use Rattle.std.proofs.lemmas.List.{drop-drop, length-drop, take_rest}
use Rattle.std.proofs.lemmas.List.Elements.{All-drop}
use Rattle.measure_laws.specs.Measures.{most_items}
use Rattle.cell_store.specs.Cells.{form_of}
use Rattle.cell_store.specs.declared.cell.Cell.{Cell}
use Rattle.cell_gather.specs.Gathers.{gathered}
use Rattle.cell_gather.specs.Runs.{has_key}
use Rattle.cell_gather.proofs.LoopFacts.{forms_of_merged, front_at, items_stay, keys_rise, merged_of, run_forms}
use Rattle.cell_gather.proofs.table.gather_sorted.Goals as goal

abbrev Row : Type 0
Row = List ℕ × List Cell

pub push-requires-clause-forms : goal.push-requires-clause-forms
push-requires-clause-forms c =
    let forms = c.args.forms.now in
    let rows = c.args.rows.now in
    let start = c.loop-start.start in
    let n = c.run_len-n.result in
    let cells : c.in_ok-cells.cells.items ≡ merged_of forms (take n (drop start rows)) = c.in_ok-cells.ensures ∙ ap (λ (l : List Row). merged_of forms (take n l)) (take_rest rows start) in
    ap (map form_of) cells ∙ forms_of_merged forms (take n (drop start rows)) (run_forms forms rows start n c.requires.forms) ∙ sym c.loop-start.invariant.forms

pub push-requires-clause-rising : goal.push-requires-clause-rising
push-requires-clause-rising c =
    let forms = c.args.forms.now in
    let rows = c.args.rows.now in
    let start = c.loop-start.start in
    let n = c.run_len-n.result in
    let first = c.index-rows-start.result in
    let named : c.deref.result.now ≡ first.0 = c.deref.ensures.value ∙ ap (λ r. r.0) c.first.view_is in
    let key : c.deref-in-loop-start.result.now ≡ first.0 = c.deref-in-loop-start.ensures.value ∙ ap (λ r. r.0) c.first.view_is in
    let size : n ≡ prefix_len (has_key first.0) (drop start rows) = c.run_len-n.ensures ∙ (λ i. prefix_len (has_key (named i)) (take_rest rows start i)) in
    let front = front_at forms rows start first n c.requires.sorted c.loop-start-test.true c.index-rows-start.is size in
    let table = c.loop-start.table.rows in
    rw key (keys_rise forms rows table (gathered forms (λ key. key) (drop n (drop start rows))) first.0 (merged_of forms (take n (drop start rows)))
    (ap (λ l. table ++ l) (sym front.groups) ∙ c.loop-start.invariant.rows))

pub push-requires-clause-few : goal.push-requires-clause-few
push-requires-clause-few c k lt =
    let forms = c.args.forms.now in
    let rows = c.args.rows.now in
    let start = c.loop-start.start in
    let n = c.run_len-n.result in
    let first = c.index-rows-start.result in
    let cells : c.in_ok-cells.cells.items ≡ merged_of forms (take n (drop start rows)) = c.in_ok-cells.ensures ∙ ap (λ (l : List Row). merged_of forms (take n l)) (take_rest rows start) in
    let below : k < length forms = rw c.loop-start.invariant.forms at lt in
    let stay = items_stay forms c.loop-start.table.rows (drop start rows) c.deref-in-loop-start.result.now n k most_items
    (All-drop (λ row. map form_of row.1 ≡ forms) start rows c.requires.forms) (c.loop-start.invariant.few k below) in
    rw cells (omega arith)

pub loop-start-smaller : goal.loop-start-smaller
loop-start-smaller c =
    let forms = c.args.forms.now in
    let rows = c.args.rows.now in
    let start = c.loop-start.start in
    let n = c.run_len-n.result in
    let first = c.index-rows-start.result in
    let named : c.deref.result.now ≡ first.0 = c.deref.ensures.value ∙ ap (λ r. r.0) c.first.view_is in
    let size : n ≡ prefix_len (has_key first.0) (drop start rows) = c.run_len-n.ensures ∙ (λ i. prefix_len (has_key (named i)) (take_rest rows start i)) in
    let front = front_at forms rows start first n c.requires.sorted c.loop-start-test.true c.index-rows-start.is size in
    omega (arith, front.some)

pub loop-start-preserved : goal.loop-start-preserved
loop-start-preserved c =
    let forms = c.args.forms.now in
    let rows = c.args.rows.now in
    let start = c.loop-start.start in
    let n = c.run_len-n.result in
    let first = c.index-rows-start.result in
    let table = c.loop-start.table.rows in
    let named : c.deref.result.now ≡ first.0 = c.deref.ensures.value ∙ ap (λ r. r.0) c.first.view_is in
    let key : c.deref-in-loop-start.result.now ≡ first.0 = c.deref-in-loop-start.ensures.value ∙ ap (λ r. r.0) c.first.view_is in
    let size : n ≡ prefix_len (has_key first.0) (drop start rows) = c.run_len-n.ensures ∙ (λ i. prefix_len (has_key (named i)) (take_rest rows start i)) in
    let front = front_at forms rows start first n c.requires.sorted c.loop-start-test.true c.index-rows-start.is size in
    let cells : c.in_ok-cells.cells.items ≡ merged_of forms (take n (drop start rows)) = c.in_ok-cells.ensures ∙ ap (λ (l : List Row). merged_of forms (take n l)) (take_rest rows start) in
    let made : List ℕ × List Cell = (first.0, merged_of forms (take n (drop start rows))) in
    let pushed : c.push.new.self.rows ≡ table ++ made ∷ [] = c.in_ok-push.ensures.ok ∙ (λ i. table ++ (key i, cells i) ∷ []) in
    let more : drop n (drop start rows) ≡ drop (start + n) rows = drop-drop n start rows in
    let long = length-drop start rows in
    record {
      within = omega (arith, front.within);
      few = λ k lt.
          let stay = items_stay forms table (drop start rows) first.0 n k most_items (All-drop (λ row. map form_of row.1 ≡ forms) start rows c.requires.forms) (c.loop-start.invariant.few k lt) in
          rw (pushed, sym more) stay;
      mask = c.push.ensures.mask ∙ c.loop-start.invariant.mask;
      forms = c.push.ensures.forms ∙ c.loop-start.invariant.forms;
      rows = (λ i. pushed i ++ gathered forms (λ key. key) (sym more i)) ∙ append_assoc table (made ∷ []) (gathered forms (λ key. key) (drop n (drop start rows)))
          ∙ ap (λ l. table ++ l) (sym front.groups) ∙ c.loop-start.invariant.rows;
    }
