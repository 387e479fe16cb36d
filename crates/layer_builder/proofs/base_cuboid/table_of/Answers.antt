use Rattle.std.proofs.Common.{◌≡◌, ◌+◌, ◌∷◌, ◌++◌, ◌∙◌, [], List, ap, append_assoc, arith, drop, length, map, sym, take}
use Rattle.std.specs.List.{prefix_len}
use Rattle.std.proofs.lemmas.List.{drop-drop, length-drop, length-take, take_rest}
use Rattle.agg_group.specs.Mask.{count_of}
use Rattle.measure_laws.specs.Measures.{most_items}
use Rattle.cell_store.specs.Cells.{form_of}
use Rattle.cell_gather.specs.Gathers.{cells_of}
use Rattle.cell_gather.proofs.RowFacts.{forms-cells}
use Rattle.cell_gather.proofs.TableFacts.{Row}
use Rattle.layer_builder.specs.Base.{measures_from}
use Rattle.layer_builder.specs.Runs.{cells_by_key, has_key}
use Rattle.layer_builder.proofs.BaseFacts.{forms_from}
use Rattle.layer_builder.proofs.MaskFacts.{count_base}
use Rattle.layer_builder.proofs.RunFacts.{Keyed, front_at, items_few, keys_rise, vals_at}
use Rattle.layer_builder.proofs.base_cuboid.table_of.Goals as goal

pub run_cells-requires-clause-few : goal.run_cells-requires-clause-few
run_cells-requires-clause-few c = omega (arith, length-take {A = Keyed}, length-drop {A = Keyed}, c.requires.few)

pub push-requires-clause-width : goal.push-requires-clause-width
push-requires-clause-width c =
    let first = c.index-rows-start.result in
    let key : c.as_slice-key.result.now ≡ first.0 = c.as_slice-key.ensures ∙ ap (λ r. r.0) c.first.view_is in
    let size : length first.0 ≡ c.args.width = ap (λ (r : Keyed). length r.0) c.index-rows-start.is ∙ c.requires.widths c.loop-start.start first c.loop-start-test.true in
    ap length key ∙ size ∙ sym (ap count_of c.loop-start.invariant.mask ∙ count_base c.args.width c.requires.dims)

pub push-requires-clause-forms : goal.push-requires-clause-forms
push-requires-clause-forms c =
    let ms = measures_from c.args.dicts.now c.args.width c.args.aggs.now in
    ap (map form_of) c.in_ok-cells.ensures ∙ forms-cells ms _ ∙ forms_from c.args.dicts.now c.args.width c.args.aggs.now ∙ sym (c.loop-start.invariant.forms ∙ c.requires.forms)

pub push-requires-clause-rising : goal.push-requires-clause-rising
push-requires-clause-rising c =
    let ms = measures_from c.args.dicts.now c.args.width c.args.aggs.now in
    let rows = c.args.rows.now in
    let start = c.loop-start.start in
    let n = c.run_len-n.result in
    let first = c.index-rows-start.result in
    let key : c.as_slice-key.result.now ≡ first.0 = c.as_slice-key.ensures ∙ ap (λ r. r.0) c.first.view_is in
    let size : n ≡ prefix_len (has_key first.0) (drop start rows) = c.run_len-n.ensures ∙ (λ i. prefix_len (has_key (key i)) (take_rest rows start i)) in
    let front = front_at ms rows start first n c.requires.sorted c.loop-start-test.true c.index-rows-start.is size in
    let table = c.loop-start.table.rows in
    rw key (keys_rise ms rows table (cells_by_key ms (drop n (drop start rows))) first.0 (cells_of ms (map vals_at (take n (drop start rows))))
    (ap (λ l. table ++ l) (sym front.groups) ∙ c.loop-start.invariant.rows))

pub push-requires-clause-few : goal.push-requires-clause-few
push-requires-clause-few c k lt =
    let ms = measures_from c.args.dicts.now c.args.width c.args.aggs.now in
    let rows = c.args.rows.now in
    let start = c.loop-start.start in
    let n = c.run_len-n.result in
    let first = c.index-rows-start.result in
    let key : c.as_slice-key.result.now ≡ first.0 = c.as_slice-key.ensures ∙ ap (λ r. r.0) c.first.view_is in
    let size : n ≡ prefix_len (has_key first.0) (drop start rows) = c.run_len-n.ensures ∙ (λ i. prefix_len (has_key (key i)) (take_rest rows start i)) in
    let front = front_at ms rows start first n c.requires.sorted c.loop-start-test.true c.index-rows-start.is size in
    let table = c.loop-start.table.rows in
    let cells : c.in_ok-cells.cells.items ≡ cells_of ms (map vals_at (take n (drop start rows))) = c.in_ok-cells.ensures ∙ ap (λ (l : List Keyed). cells_of ms (map vals_at (take n l))) (take_rest rows start) in
    let made : Row = (first.0, cells_of ms (map vals_at (take n (drop start rows)))) in
    rw (key, cells) (items_few ms rows table (cells_by_key ms (drop n (drop start rows))) made k most_items (ap (λ l. table ++ l) (sym front.groups) ∙ c.loop-start.invariant.rows) c.requires.few)

pub overflow_add-start : goal.overflow_add-start
overflow_add-start c =
    let ms = measures_from c.args.dicts.now c.args.width c.args.aggs.now in
    let rows = c.args.rows.now in
    let start = c.loop-start.start in
    let n = c.run_len-n.result in
    let first = c.index-rows-start.result in
    let key : c.as_slice-key.result.now ≡ first.0 = c.as_slice-key.ensures ∙ ap (λ r. r.0) c.first.view_is in
    let size : n ≡ prefix_len (has_key first.0) (drop start rows) = c.run_len-n.ensures ∙ (λ i. prefix_len (has_key (key i)) (take_rest rows start i)) in
    let front = front_at ms rows start first n c.requires.sorted c.loop-start-test.true c.index-rows-start.is size in
    let long = length-drop start rows in
    omega (arith, front.within, c.requires.few)

pub loop-start-smaller : goal.loop-start-smaller
loop-start-smaller c =
    let ms = measures_from c.args.dicts.now c.args.width c.args.aggs.now in
    let rows = c.args.rows.now in
    let start = c.loop-start.start in
    let n = c.run_len-n.result in
    let first = c.index-rows-start.result in
    let key : c.as_slice-key.result.now ≡ first.0 = c.as_slice-key.ensures ∙ ap (λ r. r.0) c.first.view_is in
    let size : n ≡ prefix_len (has_key first.0) (drop start rows) = c.run_len-n.ensures ∙ (λ i. prefix_len (has_key (key i)) (take_rest rows start i)) in
    let front = front_at ms rows start first n c.requires.sorted c.loop-start-test.true c.index-rows-start.is size in
    omega (arith, front.some)

pub loop-start-preserved : goal.loop-start-preserved
loop-start-preserved c =
    let ms = measures_from c.args.dicts.now c.args.width c.args.aggs.now in
    let rows = c.args.rows.now in
    let start = c.loop-start.start in
    let n = c.run_len-n.result in
    let first = c.index-rows-start.result in
    let table = c.loop-start.table.rows in
    let key : c.as_slice-key.result.now ≡ first.0 = c.as_slice-key.ensures ∙ ap (λ r. r.0) c.first.view_is in
    let size : n ≡ prefix_len (has_key first.0) (drop start rows) = c.run_len-n.ensures ∙ (λ i. prefix_len (has_key (key i)) (take_rest rows start i)) in
    let front = front_at ms rows start first n c.requires.sorted c.loop-start-test.true c.index-rows-start.is size in
    let cells : c.in_ok-cells.cells.items ≡ cells_of ms (map vals_at (take n (drop start rows))) = c.in_ok-cells.ensures ∙ ap (λ (l : List Keyed). cells_of ms (map vals_at (take n l))) (take_rest rows start) in
    let made : Row = (first.0, cells_of ms (map vals_at (take n (drop start rows)))) in
    let pushed : c.push.new.self.rows ≡ table ++ made ∷ [] = c.in_ok-push.ensures.ok ∙ (λ i. table ++ (key i, cells i) ∷ []) in
    let more : drop n (drop start rows) ≡ drop (start + n) rows = drop-drop n start rows in
    let long = length-drop start rows in
    record {
      within = omega (arith, front.within);
      mask = c.push.ensures.mask ∙ c.loop-start.invariant.mask;
      forms = c.push.ensures.forms ∙ c.loop-start.invariant.forms;
      rows = (λ i. pushed i ++ cells_by_key ms (sym more i)) ∙ append_assoc table (made ∷ []) (cells_by_key ms (drop n (drop start rows)))
          ∙ ap (λ l. table ++ l) (sym front.groups) ∙ c.loop-start.invariant.rows;
    }
