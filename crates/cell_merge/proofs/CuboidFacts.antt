-- The merge of cuboids is the cuboid of all rows.
use Rattle.std.proofs.Common.{◌≡◌, ◌<◌, ◌-◌, ◌++◌, ◌∙◌, ℕ, List, [], ◌∷◌, map, length, Bool, true, false, refl, sym, ap}
use Rattle.std.specs.Prelude.{All, Contains, IfSome, IsTrue}
use Rattle.std.specs.List.{AllByRecursion, AllZip, filter_map, flat_map, zip}
use Rattle.std.specs.List.Sorted.{IsStrictlySortedBy}
use Rattle.std.specs.Ordering.{nat_cmp, ordering_then}
use Rattle.std.proofs.lemmas.List.Elements.{recursion_from_All}
use Rattle.agg_group.specs.declared.mask.Mask.{Mask}
use Rattle.cell_gather.specs.Gathers.{RowMeasure, aggregated, cell_of, cells_of, forms_of, gathered}
use Rattle.cell_gather.specs.Keys.{dims_of}
use Rattle.cell_gather.proofs.GatherFacts.{law}
use Rattle.cell_store.specs.Cells.{CellRows, form_of, key_cmp}
use Rattle.cell_store.specs.declared.cell.Cell.{Cell}
use Rattle.cell_store.specs.declared.cell.RowItem.{RowItem}
use Rattle.cell_store.proofs.KindFacts.{form-of}
use Rattle.cube_val.specs.declared.val.Val.{Val}
use Rattle.cube_val.specs.Order.{val_cmp}
use Rattle.dim_dictionary.specs.Dictionaries.{KeepsValues}
use Rattle.layer_builder.specs.Base.{count_of_distincts, dict_at, item_of, key_width, measure_of, measures_from, next_after, number_in, value_at}
use Rattle.layer_builder.specs.Cuboids.{key_by}
use Rattle.layer_builder.specs.Meanings.{HasValues}
use Rattle.layer_builder.proofs.BaseFacts.{forms_from}
use Rattle.layer_builder.proofs.MeaningFacts.{HasOwn, HasOwns, HasRow, Rise, RiseOwns, both, firsts, from_rows, grouped-renamed, number-fits, rises_of_columns, rises_of_distincts, rows_of_columns, rows_of_distincts, seconds_of, under}
use Rattle.measure_laws.specs.Kinds.{dict_after, dict_count, has_dictionary, item_kind}
use Rattle.measure_laws.specs.declared.measure.MeasureForm.{MeasureForm}
use Rattle.plain_answer.specs.Aggregates.{cell, known}
use Rattle.plain_answer.specs.declared.ask.Agg.{Agg}
use Rattle.plain_answer.specs.Kinds.{form_of_kind}
use Rattle.cell_merge.specs.Laws.{IsPart, MergedIsCuboid, Part}
use Rattle.cell_merge.specs.Merges.{IsMerge, renumbered_parts}
use Rattle.cell_merge.specs.Renumbered.{first_set, remap_at, renumbered, renumbered_cell, renumbered_cells, renumbered_key, renumbered_row}
use Rattle.cell_merge.proofs.CellFacts.{cell-of-rows, set-of-rows}
use Rattle.cell_merge.proofs.NumberFacts.{number-moved, number-ordered}

abbrev pub AreRising : List (List Val) → Type 0
AreRising dicts = (place : ℕ) → IsStrictlySortedBy val_cmp (dict_at dicts place)

module _ (merged dicts : List (List Val)) (remaps : List (List ℕ)) (up : AreRising merged)
    (keeps : (place : ℕ) → KeepsValues (dict_at merged place) (dict_at dicts place) (remap_at remaps place)) where
  -- ---- keys

  abbrev AreOld : List ℕ → List ℕ → Type 0
  AreOld columns key = AllZip (λ d id. id < length (dict_at dicts d)) columns key

  abbrev RiseAt : List ℕ → Type 0
  RiseAt columns = AllByRecursion (λ d. IsStrictlySortedBy val_cmp (dict_at dicts d)) columns

  keys-ordered : (columns : List ℕ) → RiseAt columns → (a b : List ℕ) → AreOld columns a → AreOld columns b
      → key_cmp a b ≡ key_cmp (renumbered_key remaps columns a) (renumbered_key remaps columns b)
  keys-ordered [] rise [] [] p q = refl
  keys-ordered [] rise [] (j ∷ b) p q = absurd q
  keys-ordered [] rise (i ∷ a) b p q = absurd p
  keys-ordered (d ∷ columns) rise [] b p q = absurd p
  keys-ordered (d ∷ columns) rise (i ∷ a) [] p q = absurd q
  keys-ordered (d ∷ columns) rise (i ∷ a) (j ∷ b) p q =
      let here = number-ordered (dict_at merged d) (dict_at dicts d) (remap_at remaps d) (up d) rise.0 (keeps d) i j p.0 q.0 in
      let rest = keys-ordered columns rise.1 a b p.1 q.1 in
      λ k. ordering_then (here k) (rest k)

  keys-fit : (row : List Val) (columns : List ℕ) → AllByRecursion (HasRow dicts row) columns → AreOld columns (map (λ column. number_in (dict_at dicts column) (cell row column)) columns)
  keys-fit row [] all = tt
  keys-fit row (d ∷ columns) all = (number-fits (dict_at dicts d) (cell row d) all.0.0 all.0.1, keys-fit row columns all.1)

  keys-moved : (row : List Val) (columns : List ℕ) → AllByRecursion (HasRow dicts row) columns
      → renumbered_key remaps columns (map (λ column. number_in (dict_at dicts column) (cell row column)) columns) ≡ map (λ column. number_in (dict_at merged column) (cell row column)) columns
  keys-moved row [] all = refl
  keys-moved row (d ∷ columns) all =
      let here = number-moved (dict_at merged d) (dict_at dicts d) (remap_at remaps d) (up d) all.0.0 (keeps d) (cell row d) all.0.1 in
      let rest = keys-moved row columns all.1 in
      λ i. here i ∷ rest i

  -- ---- cells

  cell-moved : (agg : Agg) (place : ℕ) (rows : List (List Val)) → (IsTrue (has_dictionary (form_of_kind agg.kind)) → IsStrictlySortedBy val_cmp (dict_at dicts place))
      → AllByRecursion (HasOwn dicts place agg) rows
      → renumbered_cell (remap_at remaps place) (cell_of (measure_of agg (dict_at dicts place)) rows) ≡ cell_of (measure_of agg (dict_at merged place)) rows
  cell-moved agg place rows rise own = by (has_dictionary (form_of_kind agg.kind)) refl
    where
      there : IsTrue (has_dictionary (form_of_kind agg.kind)) → AllByRecursion (λ row. IfSome (known (value_at agg.column row)) (λ v. Contains (dict_at dicts place) v)) rows
      there h = under (IsTrue (has_dictionary (form_of_kind agg.kind))) (λ row. IfSome (known (value_at agg.column row)) (λ v. Contains (dict_at dicts place) v)) rows own h

      by : (b : Bool) → has_dictionary (form_of_kind agg.kind) ≡ b
          → renumbered_cell (remap_at remaps place) (cell_of (measure_of agg (dict_at dicts place)) rows) ≡ cell_of (measure_of agg (dict_at merged place)) rows
      by true e =
          set-of-rows (dict_at merged place) (dict_at dicts place) (remap_at remaps place) (up place) (rise e) (keeps place) (value_at agg.column) (form_of_kind agg.kind) e rows (there e)
      by false e = cell-of-rows (form_of_kind agg.kind) (dict_at merged place) (dict_at dicts place) (remap_at remaps place) (value_at agg.column) e rows

  cells-moved : (place : ℕ) (aggs : List Agg) (rows : List (List Val)) → RiseOwns dicts place aggs → AllByRecursion (HasOwns dicts place aggs) rows
      → renumbered_cells remaps place (cells_of (measures_from dicts place aggs) rows) ≡ cells_of (measures_from merged place aggs) rows
  cells-moved place [] rows rise all = refl
  cells-moved place (agg ∷ aggs) rows rise all =
      let f = form_of_kind agg.kind in
      let own = firsts (HasOwn dicts place agg) (HasOwns dicts (next_after agg.kind place) aggs) rows all in
      let others = seconds_of (HasOwn dicts place agg) (HasOwns dicts (next_after agg.kind place) aggs) rows all in
      let of_form : form_of (cell_of (measure_of agg (dict_at dicts place)) rows) ≡ f = form-of f (filter_map (λ row. item_of (item_kind f) (dict_at dicts place) (value_at agg.column row)) rows) in
      let here = cell-moved agg place rows rise.0 own in
      let rest = ap (λ (g : MeasureForm). renumbered_cells remaps (dict_after g place) (cells_of (measures_from dicts (next_after agg.kind place) aggs) rows)) of_form
      ∙ cells-moved (next_after agg.kind place) aggs rows rise.1 others in
      λ i. here i ∷ rest i

-- ---- a part

sets-are : (aggs : List Agg) → dict_count (map (λ agg. form_of_kind agg.kind) aggs) ≡ count_of_distincts aggs
sets-are [] = refl
sets-are (agg ∷ aggs) = ap (next_after agg.kind) (sets-are aggs)

-- each row of a part's columns rises
rises_at : (dicts : List (List Val)) (rows : List (List Val)) (columns : List ℕ) → AllByRecursion (λ column. HasValues (dict_at dicts column) (λ row. cell row column) rows) columns
    → AllByRecursion (λ d. IsStrictlySortedBy val_cmp (dict_at dicts d)) columns
rises_at dicts rows [] all = tt
rises_at dicts rows (d ∷ columns) all = (all.0.rising, rises_at dicts rows columns all.1)

module _ (aggs : List Agg) (dims : Mask) (merged : List (List Val)) (up : AreRising merged) where
  abbrev place : ℕ
  place = key_width aggs merged

  abbrev measures : List (RowMeasure (List Val))
  measures = measures_from merged place aggs

  -- the renumbered rows of a part are the aggregate of its rows over the merged dictionaries
  part-moved : (part : Part) → IsPart aggs dims merged part → renumbered part.remaps part.table ≡ aggregated measures (key_by merged dims) part.flat
  part-moved part is =
      let columns = dims_of dims in
      let dicts = part.dicts in
      let keys = recursion_from_All (λ column. HasValues (dict_at dicts column) (λ row. cell row column) part.flat) columns is.numbered.keys in
      let width : key_width aggs dicts ≡ place = ap (λ n. n - count_of_distincts aggs) is.dicts in
      let sets : first_set part.remaps part.table.forms ≡ place = (λ i. is.remaps i - dict_count (is.cuboid.forms i)) ∙ ap (λ n. length merged - n) (sets-are aggs) in
      let f = renumbered_key part.remaps columns in
      let g = renumbered_cells part.remaps place in
      let Q : List Val → Type 0 = λ row. AllByRecursion (HasRow dicts row) columns × HasOwns dicts (key_width aggs dicts) aggs row in
      let fit : AllByRecursion Q part.flat
      = both (λ row. AllByRecursion (HasRow dicts row) columns) (HasOwns dicts (key_width aggs dicts) aggs) part.flat (rows_of_columns dicts part.flat columns keys)
      (rows_of_distincts dicts (key_width aggs dicts) aggs part.flat is.numbered.distincts) in
      let rise = rises_of_distincts dicts (key_width aggs dicts) aggs part.flat is.numbered.distincts in
      let rows : part.table.rows ≡ aggregated (measures_from dicts (key_width aggs dicts) aggs) (key_by dicts dims) part.flat = is.cuboid.rows in
      let moved = λ (more : List (List Val)) (all : AllByRecursion Q more).
      ap (λ n. renumbered_cells part.remaps n (cells_of (measures_from dicts (key_width aggs dicts) aggs) more)) (sym width)
      ∙ cells-moved merged dicts part.remaps up is.keeps (key_width aggs dicts) aggs more rise (seconds_of (λ row. AllByRecursion (HasRow dicts row) columns) (HasOwns dicts (key_width aggs dicts) aggs) more all)
      ∙ ap (λ n. cells_of (measures_from merged n aggs) more) width in
      (λ i. map (λ (row : List ℕ × List Cell). (renumbered_key part.remaps (dims_of (is.cuboid.mask i)) row.0, renumbered_cells part.remaps (sets i) row.1)) (rows i))
      ∙ grouped-renamed key_cmp key_cmp f (AreOld merged dicts part.remaps up is.keeps columns) (keys-ordered merged dicts part.remaps up is.keeps columns (rises_at dicts part.flat columns keys)) (key_by dicts dims) (key_by merged dims) g
      (cells_of (measures_from dicts (key_width aggs dicts) aggs)) (cells_of measures) Q (λ row q. keys-fit merged dicts part.remaps up is.keeps row columns q.0) (λ row q. keys-moved merged dicts part.remaps up is.keeps row columns q.0)
      moved part.flat fit

  abbrev remaps_of : List Part → List (List (List ℕ))
  remaps_of parts = map (λ (part : Part). part.remaps) parts

  abbrev tables_of : List Part → List CellRows
  tables_of parts = map (λ (part : Part). part.table) parts

  abbrev lists_of : List Part → List (List (List Val))
  lists_of parts = map (λ (part : Part). part.flat) parts

  parts-moved : (parts : List Part) → AllByRecursion (IsPart aggs dims merged) parts → renumbered_parts (remaps_of parts) (tables_of parts) ≡ flat_map (aggregated measures (key_by merged dims)) (lists_of parts)
  parts-moved [] all = refl
  parts-moved (part ∷ parts) all = let here = part-moved part all.0 in let rest = parts-moved parts all.1 in λ i. here i ++ rest i

  all-rows : (parts : List Part) → flat_map (λ rows. rows) (lists_of parts) ≡ flat_map (λ (part : Part). part.flat) parts
  all-rows [] = refl
  all-rows (part ∷ parts) = ap (λ l. part.flat ++ l) (all-rows parts)

pub merged_is_cuboid : MergedIsCuboid
merged_is_cuboid aggs dims merged parts table up all mask forms merge = record {
  mask = mask;
  forms = forms;
  rows =
      merge.rows
      ∙ (λ i. gathered ((forms ∙ sym (forms_from merged (key_width aggs merged) aggs)) i) (λ key. key) (parts-moved aggs dims merged up parts (recursion_from_All (IsPart aggs dims merged) parts all) i))
      ∙ law (measures_from merged (key_width aggs merged) aggs) (key_by merged dims) (λ key. key) (map (λ (part : Part). part.flat) parts)
      ∙ ap (aggregated (measures_from merged (key_width aggs merged) aggs) (key_by merged dims)) (all-rows aggs dims merged up parts);
}
