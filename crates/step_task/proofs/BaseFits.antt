-- The base cuboid of flat rows is a valid table.
use Rattle.std.proofs.Common.{◌≡◌, ◌≤◌, ◌<◌, ◌+◌, ◌-◌, ◌^◌, ◌∙◌, ℕ, Bool, true, false, List, [], ◌∷◌, length, map, Some, refl, sym, ap, subst, arith}
use Rattle.std.specs.Prelude.{drop, slice_get, sum_by, take}
use Rattle.std.specs.List.{AllByRecursion, list_all}
use Rattle.std.proofs.lemmas.List.{length-map}
use Rattle.std.proofs.lemmas.List.Sums.{sum_by-cons}
use Rattle.agg_group.specs.declared.mask.Mask.{Mask}
use Rattle.agg_group.specs.Mask.{mask_at}
use Rattle.agg_group.proofs.BuiltLemmas.{last_is_base}
use Rattle.byte_frame.specs.Spelling.{EachFits}
use Rattle.cell_gather.specs.Gathers.{aggregated, cells_of, gathered}
use Rattle.cell_gather.proofs.GatherFacts.{rows_gathered}
use Rattle.cell_store.specs.Cells.{CellRows}
use Rattle.cell_store.specs.declared.cell.Cell.TheVariants.{Count}
use Rattle.cube_desc.specs.Cube.{Cube}
use Rattle.cube_desc.specs.Kept.{dict_places, distinct_places, kept_behind}
use Rattle.cube_desc.specs.Sound.{IsSound, columns_at}
use Rattle.cube_desc.specs.declared.kept.Kept.{Kept}
use Rattle.cube_desc.proofs.KeptFacts.{HasItems, IsKept, all_kept}
use Rattle.cube_fields.specs.Cells.{FitsCells, FitsId, FitsTable, are_ordered, count_in, measures_of, sizes_in}
use Rattle.cube_fields.specs.Dicts.{FitsDict}
use Rattle.cube_fields.specs.declared.forms.Extremes.{Extremes}
use Rattle.cube_fields.specs.declared.forms.CellTableForm.{CellTableForm}
use Rattle.cube_val.specs.declared.form.ColDesc.{ColDesc}
use Rattle.cube_val.specs.Limits.{row_limit}
use Rattle.cube_val.specs.declared.val.Val.{Val}
use Rattle.layer_builder.specs.Base.{base_mask, base_rows, dict_at, key_in, key_width, measures_from}
use Rattle.layer_builder.proofs.BaseFacts.{forms_from as measured_forms}
use Rattle.measure_laws.specs.declared.kinds.ItemKind.{ItemKind}
use Rattle.measure_laws.specs.declared.kinds.ItemKind.TheVariants.{Rows, Values, Numbers, Ids}
use Rattle.measure_laws.specs.declared.measure.MeasureForm.TheVariants as measure
use Rattle.measure_laws.specs.Kinds.{are_rows, counts_rows, item_kind}
use Rattle.plain_answer.specs.Aggregates.{cell}
use Rattle.plain_answer.specs.Kinds.{form_of_kind}
use Rattle.plain_answer.specs.declared.ask.Agg.{Agg}
use Rattle.plain_answer.proofs.KindFacts.{kept_form}
use Rattle.step_codec.specs.Bodies.{FitsHolding, holds, is_in}
use Rattle.step_codec.specs.Layouts.{base_mask as last_mask, dict_form, fields_of, size_limit, table_form}
use Rattle.step_codec.specs.declared.layout.DictColumn.{DictColumn}
use Rattle.step_fields.specs.Fits.{FitsRow}
use Rattle.step_files.specs.Cubes.{dict_column, extremes_of, flat_columns, layout_of}
use Rattle.step_files.specs.Tasks.{FitsFlat}
use Rattle.step_files.proofs.ShortFacts.{each_length}
use Rattle.step_compute.specs.Columns.{agg_of, kept_aggs}
use Rattle.step_compute.specs.Values.{base_value}
use Rattle.step_compute.proofs.ColumnFacts.{places_counted}
use Rattle.step_task.proofs.BaseMask.{sizes_in_base}
use Rattle.step_task.proofs.CellFits.{form_in}
use Rattle.step_task.proofs.ExtremeFacts.{all_pairs, are_extremes_at, fields_forms, forms_kept, mapped_at}
use Rattle.step_task.proofs.GroupFits.{AreExtremes, Ordered, Row, both_parts, grouped_fits}
use Rattle.step_task.proofs.RowFits.{Held, TakesAll, at_back, at_front, cells_fit, dict_small, held_at, key_fits, pair_ordered, takes_all}

-- the forms of the cells are those of the measures
forms_are : (sizes : List ℕ) (c : Cube) (ks : List Kept) → map form_in (fields_of sizes (forms_kept ks)) ≡ map (λ (agg : Agg). form_of_kind agg.kind) (map (agg_of c) ks)
forms_are sizes c ks = fields_forms sizes (forms_kept ks) ∙ by ks
  where
    by : (ks : List Kept) → forms_kept ks ≡ map (λ (agg : Agg). form_of_kind agg.kind) (map (agg_of c) ks)
    by [] = refl
    by (k ∷ ks) = let own = kept_form k.form in let rest = by ks in λ i. sym own i ∷ rest i

-- none of them counts rows
no_rows : (c : Cube) → IsSound c → AllByRecursion (λ (k : Kept). counts_rows k.form ≡ false) (kept_behind c)
no_rows c s = each (kept_behind c) (all_kept c s)
  where
    no_row : (cols : List ColDesc) (k : ItemKind) (i : ℕ) → HasItems cols k i → are_rows k ≡ false
    no_row cols Rows i h = absurd h
    no_row cols Values i h = refl
    no_row cols Numbers i h = refl
    no_row cols Ids i h = refl

    each : (ks : List Kept) → AllByRecursion (IsKept c) ks → AllByRecursion (λ (k : Kept). counts_rows k.form ≡ false) ks
    each [] all = tt
    each (k ∷ ks) all = (no_row (columns_at c.tables 0) (item_kind k.form) all.0.column all.0.items, each ks all.1)

all_true : {X : Type 0} (test : X → Bool) (xs : List X) → AllByRecursion (λ x. test x ≡ true) xs → list_all test xs ≡ true
all_true test [] all = refl
all_true test (x ∷ xs) all = let rest = all_true test xs all.1 in let one = all.0 in cc

module _ (c : Cube) (s : IsSound c) (dicts : List (List Val)) (small : (i : ℕ) → length (dict_at dicts i) < 2 ^ 32) (few : length c.rowkey ≤ 64) where
  abbrev width : ℕ
  width = length c.rowkey

  abbrev sizes : List ℕ
  sizes = map length dicts

  abbrev columns : List DictColumn
  columns = map (dict_column (flat_columns c)) (dict_places c)

  abbrev kept : List Kept
  kept = kept_behind c

  abbrev form : CellTableForm
  form = record { sizes = take width sizes; cells = fields_of (drop width sizes) (forms_kept kept); extremes = extremes_of kept; most = row_limit }

  abbrev one : List Val → Row
  one row = (key_in dicts width row, Count 1 ∷ cells_of (measures_from dicts width (map (agg_of c) kept)) (row ∷ []))

  module _ (len : length dicts ≡ length columns) where
    place_held : (row : List Val) → holds columns dicts row ≡ true → (i : ℕ) → i < width → is_in (dict_at dicts i) (cell row i) ≡ true
    place_held row held i lt =
        let at : slice_get (dict_places c) i ≡ Some i = at_front 0 width i (distinct_places c) lt ∙ (let same : 0 + i ≡ i = omega arith in ap Some same) in
        held_at columns dicts row i (dict_column (flat_columns c) i) len held (mapped_at (dict_column (flat_columns c)) (dict_places c) i i at)

    measure_held : (row : List Val) → holds columns dicts row ≡ true → Held dicts row c width kept
    unfolding distinct_places
    measure_held row held i place e =
        held_at columns dicts row (width + i) (dict_column (flat_columns c) place) len held
        (mapped_at (dict_column (flat_columns c)) (dict_places c) (width + i) place (at_back 0 width i (distinct_places c) ∙ e))

    takes : (row : List Val) → FitsRow (flat_columns c) row → holds columns dicts row ≡ true → TakesAll dicts row c width kept
    takes row fits held = takes_all dicts row c s small fits width kept (all_kept c s) (measure_held row held)

    row_key : (row : List Val) → holds columns dicts row ≡ true → EachFits FitsId (sizes_in form.sizes (base_mask width)) (one row).0
    row_key row held =
        subst (λ (ks : List ℕ). EachFits FitsId ks (key_in dicts width row)) (sym (sizes_in_base width (take width sizes) few))
        (key_fits dicts width row small (place_held row held))

    row_cells : (row : List Val) → FitsRow (flat_columns c) row → holds columns dicts row ≡ true → FitsCells form.most form.cells (one row).1
    row_cells row fits held = cells_fit dicts row c width row_limit kept (no_rows c s) (takes row fits held) (omega arith)

    row_order : (row : List Val) → FitsRow (flat_columns c) row → holds columns dicts row ≡ true → Ordered form.extremes (one row).1
    row_order row fits held =
        all_true (are_ordered (one row).1) form.extremes
        (all_pairs (λ (e : Extremes). are_ordered (one row).1 e ≡ true) kept (λ i j pair. pair_ordered dicts row c width kept (Count 1) i j (takes row fits held) pair))

    all_keys : (rows : List (List Val)) → list_all (holds columns dicts) rows ≡ true → AllByRecursion (λ (row : Row). EachFits FitsId (sizes_in form.sizes (base_mask width)) row.0) (map one rows)
    all_keys [] held = tt
    all_keys (row ∷ rows) held = let h = both_parts (holds columns dicts row) (list_all (holds columns dicts) rows) held in (row_key row h.0, all_keys rows h.1)

    all_cells : (rows : List (List Val)) → AllByRecursion (FitsRow (flat_columns c)) rows → list_all (holds columns dicts) rows ≡ true → AllByRecursion (λ (row : Row). FitsCells form.most form.cells row.1) (map one rows)
    all_cells [] fits held = tt
    all_cells (row ∷ rows) fits held = let h = both_parts (holds columns dicts row) (list_all (holds columns dicts) rows) held in (row_cells row fits.0 h.0, all_cells rows fits.1 h.1)

  all_orders : length dicts ≡ length columns → (rows : List (List Val)) → AllByRecursion (FitsRow (flat_columns c)) rows → list_all (holds columns dicts) rows ≡ true → AllByRecursion (λ (row : Row). Ordered form.extremes row.1) (map one rows)
  all_orders len [] fits held = tt
  all_orders len (row ∷ rows) fits held = let h = both_parts (holds columns dicts row) (list_all (holds columns dicts) rows) held in (row_order len row fits.0 h.0, all_orders len rows fits.1 h.1)

  all_count : (rows : List (List Val)) → sum_by (λ (row : Row). count_in row.1) (map one rows) ≡ length rows
  all_count [] = refl
  all_count (row ∷ rows) = omega (arith, all_count rows, sum_by-cons (λ (r : Row). count_in r.1) (one row) (map one rows))

  extremes_fit : AllByRecursion (AreExtremes form.cells) form.extremes
  extremes_fit = are_extremes_at (drop width sizes) kept

  pub rows_fit : length dicts ≡ length columns → (flat : List (List Val)) → length flat ≤ row_limit → AllByRecursion (FitsRow (flat_columns c)) flat → list_all (holds columns dicts) flat ≡ true
      → FitsTable form (base_mask width) (record { mask = base_mask width; forms = measures_of form; rows = gathered (measures_of form) (λ key. key) (map one flat) })
  rows_fit len flat most fits held =
      grouped_fits form (base_mask width) (λ (row : Row). row.0) (map one flat) (all_keys len flat held) (all_cells len flat fits held) (all_orders len flat fits held) (omega (arith, all_count flat, most)) extremes_fit

  table_is : (flat : List (List Val)) → key_width (kept_aggs c) dicts ≡ width
      → record { mask = base_mask width; forms = measures_of form; rows = gathered (measures_of form) (λ key. key) (map one flat) } ≡ base_value c flat dicts
  table_is flat e =
      let aggs = kept_aggs c in
      let forms : measures_of form ≡ map (λ (agg : Agg). form_of_kind agg.kind) aggs = ap (λ l. measure.Count ∷ l) (forms_are (drop width sizes) c kept) in
      let ms = measures_from dicts width aggs in
      let rows : gathered (measures_of form) (λ key. key) (map one flat) ≡ base_rows aggs dicts flat =
      ap (λ fs. gathered fs (λ key. key) (map one flat)) (forms ∙ sym (measured_forms dicts width aggs))
      ∙ rows_gathered ms (key_in dicts width) flat
      ∙ ap (λ k. aggregated (measures_from dicts k aggs) (key_in dicts k) flat) (sym e) in
      let mask : base_mask width ≡ base_mask (key_width aggs dicts) = ap base_mask (sym e) in
      λ i. record { mask = mask i; forms = forms i; rows = rows i }

-- the base cuboid of a valid task
pub base_fits : (c : Cube) → IsSound c → (flat dicts : List (List Val)) → FitsFlat (layout_of c) flat → FitsHolding (layout_of c) size_limit flat dicts
    → FitsTable (table_form (layout_of c) (map length dicts) 1) (last_mask (layout_of c)) (base_value c flat dicts)
unfolding layout_of
base_fits c s flat dicts h g =
    let columns : List DictColumn = map (dict_column (flat_columns c)) (dict_places c) in
    let len : length dicts ≡ length columns = each_length FitsDict (map (dict_form size_limit) columns) dicts g.0 ∙ length-map columns (dict_form size_limit) in
    let small : (i : ℕ) → length (dict_at dicts i) < 2 ^ 32 = λ i. omega (arith, dict_small size_limit columns dicts i g.0) in
    let few : length c.rowkey ≤ 64 = omega (arith, s.few_dimensions) in
    let counted : length dicts ≡ length (dict_places c) = len ∙ length-map (dict_places c) (dict_column (flat_columns c)) in
    let wide : key_width (kept_aggs c) dicts ≡ length c.rowkey = omega (arith, counted, places_counted c) in
    let last : last_mask (layout_of c) ≡ base_mask (length c.rowkey) = ap (λ (ms : List Mask). mask_at ms (length ms - 1)) s.masks ∙ last_is_base (length c.rowkey) c.groups s.included s.groups (record { 0 = 0 }) in
    let own = rows_fit c s dicts small few len flat h.0 h.1 g.1 in
    subst (λ (m : Mask). FitsTable (table_form (layout_of c) (map length dicts) 1) m (base_value c flat dicts)) (sym last)
    (subst (λ (t : CellRows). FitsTable (table_form (layout_of c) (map length dicts) 1) (base_mask (length c.rowkey)) t) (table_is c s dicts small few flat wide) own)
