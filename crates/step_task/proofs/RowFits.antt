-- A flat row alone: its key, and its cells.
use Rattle.std.proofs.Common.{◌≡◌, ◌≤◌, ◌<◌, ◌+◌, ◌^◌, ◌++◌, ◌∙◌, ℕ, zero, suc, Bool, true, false, cond, List, [], ◌∷◌, length, get_or, Option, Some, None, map, refl, sym, ap, subst, arith, inl, inr}
use Rattle.std.specs.Prelude.{◌⊎◌, ℤ, drop, int_le, slice_get, slice_index_or, take}
use Rattle.std.specs.List.{AllByRecursion, cons_option, filter_map, range_with_len}
use Rattle.std.proofs.lemmas.Bool.{eqb-true}
use Rattle.std.proofs.lemmas.Int.{ints}
use Rattle.std.proofs.lemmas.List.{drop-drop}
use Rattle.agg_group.specs.Sets.{dimensions}
use Rattle.byte_frame.specs.Spelling.{EachFits}
use Rattle.cell_gather.specs.Gathers.{cell_of, cells_of}
use Rattle.cell_store.specs.Cells.{cell_of_items}
use Rattle.cell_store.specs.declared.cell.Cell.{Cell}
use Rattle.cell_store.specs.declared.cell.Cell.TheVariants.{Count}
use Rattle.cell_store.specs.declared.cell.RowItem.{RowItem}
use Rattle.cube_desc.specs.Cube.{Cube}
use Rattle.cube_desc.specs.FlatRow.{place_of}
use Rattle.cube_desc.specs.Kept.{dict_place}
use Rattle.cube_desc.specs.Sound.{IsSound}
use Rattle.cube_desc.specs.declared.kept.Kept.{Kept}
use Rattle.cube_desc.proofs.KeptFacts.{IsKept}
use Rattle.cube_fields.specs.Cells.{FitsCell, FitsCells, FitsId, are_ordered, value_in}
use Rattle.cube_fields.specs.Dicts.{FitsDict}
use Rattle.cube_fields.proofs.MergeFits.{alone_fits}
use Rattle.cube_val.specs.declared.val.Val.{Val}
use Rattle.cube_val.specs.declared.val.Val.TheVariants as val
use Rattle.cube_val.specs.Order.{number_of}
use Rattle.layer_builder.specs.Base.{dict_at, item_of, key_in, measure_of, measures_from, next_after, number_in, value_at}
use Rattle.measure_laws.specs.declared.kinds.ItemKind.{ItemKind}
use Rattle.measure_laws.specs.declared.kinds.ItemKind.TheVariants.{Rows, Values, Numbers, Ids}
use Rattle.measure_laws.specs.declared.measure.MeasureForm.{MeasureForm}
use Rattle.measure_laws.specs.declared.measure.MeasureForm.TheVariants as measure
use Rattle.measure_laws.specs.Kinds.{are_ids, counts_rows, dict_after, item_kind, place_after}
use Rattle.plain_answer.specs.declared.ask.Agg.{Agg}
use Rattle.plain_answer.specs.Aggregates.{cell}
use Rattle.plain_answer.specs.Kinds.{kind_of_form}
use Rattle.plain_answer.proofs.KindFacts.{kept_form}
use Rattle.step_codec.specs.Bodies.{holds, is_in}
use Rattle.step_codec.specs.Layouts.{dict_form, field_of, fields_of, size_for, sizes_after}
use Rattle.step_codec.specs.declared.layout.DictColumn.{DictColumn}
use Rattle.step_fields.specs.Fits.{FitsColumn, FitsRow}
use Rattle.step_files.specs.Cubes.{flat_columns, is_same, no_column}
use Rattle.step_compute.specs.Columns.{agg_of}
use Rattle.table_reader.specs.Keys.{val_at}
use Rattle.step_task.proofs.DictFits.{cell_is}
use Rattle.step_task.proofs.ExtremeFacts.{ArePair, forms_kept}
use Rattle.step_task.proofs.FlatFits.{value_fits}
use Rattle.step_task.proofs.KeptFits.{TakesItem, kept_column, kept_item}
use Rattle.step_task.proofs.NumberFits.{number_below}

-- ---- places

pub at_front : (a n i : ℕ) (ys : List ℕ) → i < n → slice_get (range_with_len a n ++ ys) i ≡ Some (a + i)
at_front a zero i ys lt = absurd (omega arith)
at_front a (suc n) zero ys lt = let same : a ≡ a + 0 = omega arith in ap Some same
at_front a (suc n) (suc i) ys lt = at_front (a + 1) n i ys (omega arith) ∙ (let same : a + 1 + i ≡ a + suc i = omega arith in ap Some same)

pub at_back : (a n i : ℕ) (ys : List ℕ) → slice_get (range_with_len a n ++ ys) (n + i) ≡ slice_get ys i
at_back a zero i ys = let same : 0 + i ≡ i = omega arith in ap (slice_get ys) same
at_back a (suc n) i ys = let same : suc n + i ≡ suc (n + i) = omega arith in ap (slice_get (range_with_len a (suc n) ++ ys)) same ∙ at_back (a + 1) n i ys

-- the value of a row at the place of each column is in the column's dictionary
pub held_at : (columns : List DictColumn) (dicts : List (List Val)) (row : List Val) (i : ℕ) (d : DictColumn) → length dicts ≡ length columns → holds columns dicts row ≡ true → slice_get columns i ≡ Some d
    → is_in (dict_at dicts i) (cell row d.place) ≡ true
held_at [] dicts row i d len e at = absurd cc
held_at (k ∷ columns) [] row i d len e at = absurd (omega arith)
held_at (k ∷ columns) (dict ∷ dicts) row zero d len e at =
    let same : k ≡ d = cc in
    subst (λ (x : DictColumn). is_in dict (cell row x.place) ≡ true) same (subst (λ (v : Val). is_in dict v ≡ true) (sym (cell_is row k.place)) (front (is_in dict (val_at row k.place)) (holds columns dicts row) e)) where
      front : (a b : Bool) → cond a b false ≡ true → a ≡ true
      front true b h = refl
      front false b h = absurd cc
held_at (k ∷ columns) (dict ∷ dicts) row (suc i) d len e at =
    held_at columns dicts row i d (omega arith) (behind (is_in dict (val_at row k.place)) (holds columns dicts row) e) at where
      behind : (a b : Bool) → cond a b false ≡ true → b ≡ true
      behind true b h = h
      behind false b h = absurd cc

-- no dictionary is longer than the limit
pub dict_small : (limit : ℕ) (columns : List DictColumn) (dicts : List (List Val)) (i : ℕ) → EachFits FitsDict (map (dict_form limit) columns) dicts → length (dict_at dicts i) ≤ limit
dict_small limit [] [] i h = omega arith
dict_small limit [] (dict ∷ dicts) i h = absurd h
dict_small limit (k ∷ columns) [] i h = absurd h
dict_small limit (k ∷ columns) (dict ∷ dicts) zero h = h.0.few
dict_small limit (k ∷ columns) (dict ∷ dicts) (suc i) h = dict_small limit columns dicts i h.1

pub size_at : (dicts : List (List Val)) (i : ℕ) → slice_index_or (map length dicts) i 0 ≡ length (dict_at dicts i)
size_at [] i = refl
size_at (dict ∷ dicts) zero = refl
size_at (dict ∷ dicts) (suc i) = size_at dicts i

front_size_at : (dicts : List (List Val)) (w i : ℕ) → i < w → slice_index_or (take w (map length dicts)) i 0 ≡ length (dict_at dicts i)
front_size_at dicts zero i lt = absurd (omega arith)
front_size_at [] (suc w) i lt = refl
front_size_at (dict ∷ dicts) (suc w) zero lt = refl
front_size_at (dict ∷ dicts) (suc w) (suc i) lt = front_size_at dicts w i (omega arith)

-- ---- the key

each_in_range : (f g : ℕ → ℕ) (a n : ℕ) → ((i : ℕ) → a ≤ i → i < a + n → FitsId (f i) (g i)) → EachFits FitsId (map f (range_with_len a n)) (map g (range_with_len a n))
each_in_range f g a zero each = tt
each_in_range f g a (suc n) each = (each a (omega arith) (omega arith), each_in_range f g (a + 1) n (λ i low high. each i (omega (arith, low)) (omega (arith, high))))

pub key_fits : (dicts : List (List Val)) (w : ℕ) (row : List Val) → ((i : ℕ) → length (dict_at dicts i) < 2 ^ 32) → ((i : ℕ) → i < w → is_in (dict_at dicts i) (cell row i) ≡ true)
    → EachFits FitsId (map (λ d. slice_index_or (take w (map length dicts)) d 0) (dimensions w)) (key_in dicts w row)
key_fits dicts w row small held = each_in_range (λ d. slice_index_or (take w (map length dicts)) d 0) (λ d. number_in (dict_at dicts d) (cell row d)) 0 w (λ i low high.
    let lt : i < w = omega (arith, high) in
    let below = number_below (dict_at dicts i) (cell row i) (held i lt) in
    (omega (arith, below, front_size_at dicts w i lt), omega (arith, below, small i)))

-- ---- the cells

module _ (dicts : List (List Val)) (row : List Val) where
  abbrev pub sizes : List ℕ
  sizes = map length dicts

  -- a kept measure takes an item of the row, where its dictionary is the one at a place
  abbrev pub TakesOwn : Cube → ℕ → Kept → Type 0
  TakesOwn c d k = TakesItem (item_kind k.form) (dict_at dicts d) (cell row (place_of c k.column))

  abbrev pub TakesAll : Cube → ℕ → List Kept → Type 0
  TakesAll c d [] = Unit {0}
  TakesAll c d (k ∷ ks) = TakesOwn c d k × TakesAll c (dict_after k.form d) ks

  abbrev one_cell : ℕ → Agg → Cell
  one_cell d agg = cell_of (measure_of agg (dict_at dicts d)) (row ∷ [])

  -- the cell of a row alone is that of its one item
  alone_is : (c : Cube) (d : ℕ) (k : Kept) (takes : TakesOwn c d k) → one_cell d (agg_of c k) ≡ cell_of_items k.form (takes.item ∷ [])
  alone_is c d k takes =
      (λ i. cell_of_items (kept_form k.form i) (filter_map (λ (r : List Val). item_of (item_kind (kept_form k.form i)) (dict_at dicts d) (value_at (Some (place_of c k.column)) r)) (row ∷ [])))
      ∙ ap (λ (o : Option RowItem). cell_of_items k.form (cons_option o [])) takes.is

  -- the size of the dictionary of a measure of ids
  own_size : (k : ItemKind) (d : ℕ) → are_ids k ≡ true → size_for k (drop d sizes) ≡ length (dict_at dicts d)
  own_size Rows d e = absurd cc
  own_size Values d e = absurd cc
  own_size Numbers d e = absurd cc
  own_size Ids d e = first_left sizes d ∙ size_at dicts d
    where
      first_left : (xs : List ℕ) (i : ℕ) → slice_index_or (drop i xs) 0 0 ≡ slice_index_or xs i 0
      first_left xs zero = refl
      first_left [] (suc i) = refl
      first_left (x ∷ xs) (suc i) = first_left xs i

  -- the sizes behind it
  sizes_left : (k : ItemKind) (d : ℕ) → sizes_after k (drop d sizes) ≡ drop (place_after k d) sizes
  sizes_left Rows d = refl
  sizes_left Values d = refl
  sizes_left Numbers d = refl
  sizes_left Ids d = drop-drop 1 d sizes

  own_fits : (c : Cube) (d : ℕ) (k : Kept) → counts_rows k.form ≡ false → TakesOwn c d k → FitsCell 1 (field_of (drop d sizes) k.form) (one_cell d (agg_of c k))
  own_fits c d k uncounted takes =
      subst (FitsCell 1 (field_of (drop d sizes) k.form)) (sym (alone_is c d k takes))
      (alone_fits (size_for (item_kind k.form) (drop d sizes)) k.form takes.item uncounted takes.number
      (λ e. subst (λ n. FitsId n takes.item.id) (sym (own_size (item_kind k.form) d e)) (takes.id e)))

  abbrev pub NoRows : List Kept → Type 0
  NoRows ks = AllByRecursion (λ (k : Kept). counts_rows k.form ≡ false) ks

  abbrev Alone : Cube → ℕ → List Kept → Type 0
  Alone c d ks = EachFits (FitsCell 1) (fields_of (drop d sizes) (forms_kept ks)) (cells_of (measures_from dicts d (map (agg_of c) ks)) (row ∷ []))

  -- each cell of the row alone fits its field
  cells_alone : (c : Cube) (d : ℕ) (ks : List Kept) → NoRows ks → TakesAll c d ks → Alone c d ks
  cells_alone c d [] none takes = tt
  cells_alone c d (k ∷ ks) none takes =
      let next : next_after (kind_of_form k.form) d ≡ dict_after k.form d = ap (λ (f : MeasureForm). dict_after f d) (kept_form k.form) in
      let rest : Alone c (dict_after k.form d) ks = cells_alone c (dict_after k.form d) ks none.1 takes.1 in
      let cells : List Cell = cells_of (measures_from dicts (next_after (kind_of_form k.form) d) (map (agg_of c) ks)) (row ∷ []) in
      let same : cells_of (measures_from dicts (dict_after k.form d) (map (agg_of c) ks)) (row ∷ []) ≡ cells = ap (λ n. cells_of (measures_from dicts n (map (agg_of c) ks)) (row ∷ [])) (sym next) in (
        own_fits c d k none.0 takes.0,
        subst (λ (xs : List ℕ). EachFits (FitsCell 1) (fields_of xs (forms_kept ks)) cells) (sym (sizes_left (item_kind k.form) d))
            (subst (EachFits (FitsCell 1) (fields_of (drop (dict_after k.form d) sizes) (forms_kept ks))) same rest),
      )

  -- ---- least and greatest values

  -- the value that a least or a greatest cell of a row alone has
  abbrev value_there : Cube → ℕ → List Kept → ℕ → ℤ
  value_there c d ks i = value_in (slice_get (cells_of (measures_from dicts d (map (agg_of c) ks)) (row ∷ [])) i)

  -- it is the number of the item
  own_value : (f : MeasureForm) (item : RowItem) → (f ≡ measure.Min) ⊎ (f ≡ measure.Max) → value_in (Some (cell_of_items f (item ∷ []))) ≡ item.number
  own_value f item (inl e) = ap (λ (g : MeasureForm). value_in (Some (cell_of_items g (item ∷ [])))) e
  own_value f item (inr e) = ap (λ (g : MeasureForm). value_in (Some (cell_of_items g (item ∷ [])))) e

  -- .. which is that of the value
  item_number : (dict : List Val) (v : Val) (item : RowItem) → item_of Numbers dict v ≡ Some item → item.number ≡ number_of v
  item_number dict val.Null item e = absurd cc
  item_number dict (val.Int n) item e = let same : (let own : RowItem = record { number = n; id = 0 } in own) ≡ item = cc in sym (ap (λ (x : RowItem). x.number) same)
  item_number dict (val.Text t) item e = absurd cc

  kind_of_end : (f : MeasureForm) → (f ≡ measure.Min) ⊎ (f ≡ measure.Max) → item_kind f ≡ Numbers
  kind_of_end f (inl e) = ap item_kind e
  kind_of_end f (inr e) = ap item_kind e

  end_there : (c : Cube) (d : ℕ) (ks : List Kept) (i : ℕ) (k : Kept) → TakesAll c d ks → slice_get ks i ≡ Some k → (k.form ≡ measure.Min) ⊎ (k.form ≡ measure.Max) → value_there c d ks i ≡ number_of (cell row (place_of c k.column))
  end_there c d [] i k takes e is = absurd cc
  end_there c d (q ∷ ks) zero k takes e is =
      let same : q ≡ k = cc in
      let here : value_there c d (q ∷ ks) 0 ≡ takes.0.item.number = ap (λ (x : Cell). value_in (Some x)) (alone_is c d q takes.0) ∙ own_value q.form takes.0.item (subst (λ (x : Kept). (x.form ≡ measure.Min) ⊎ (x.form ≡ measure.Max)) (sym same) is) in
      let kind : item_kind q.form ≡ Numbers = kind_of_end q.form (subst (λ (x : Kept). (x.form ≡ measure.Min) ⊎ (x.form ≡ measure.Max)) (sym same) is) in
      let taken : item_of Numbers (dict_at dicts d) (cell row (place_of c q.column)) ≡ Some takes.0.item = ap (λ (n : ItemKind). item_of n (dict_at dicts d) (cell row (place_of c q.column))) (sym kind) ∙ takes.0.is in
      here ∙ item_number (dict_at dicts d) (cell row (place_of c q.column)) takes.0.item taken ∙ ap (λ (x : Kept). number_of (cell row (place_of c x.column))) same
  end_there c d (q ∷ ks) (suc i) k takes e is =
      ap (λ n. value_there c n ks i) (ap (λ (f : MeasureForm). dict_after f d) (kept_form q.form)) ∙ end_there c (dict_after q.form d) ks i k takes.1 e is

  -- those of one column are the same
  pub pair_ordered : (c : Cube) (d : ℕ) (ks : List Kept) (first : Cell) (i j : ℕ) → TakesAll c d ks → ArePair ks i j
      → are_ordered (first ∷ cells_of (measures_from dicts d (map (agg_of c) ks)) (row ∷ [])) (record { least = i + 1; greatest = j + 1 }) ≡ true
  pair_ordered c d ks first i j takes pair =
      let cells : List Cell = first ∷ cells_of (measures_from dicts d (map (agg_of c) ks)) (row ∷ []) in
      let column = same_column pair.lower.column pair.upper.column pair.same in
      let low : value_in (slice_get cells (i + 1)) ≡ number_of (cell row (place_of c pair.upper.column)) =
      ap (λ k. value_in (slice_get cells k)) (next i) ∙ end_there c d ks i pair.lower takes pair.lower_at (inl pair.lower_is) ∙ ap (λ (o : Option ℕ). number_of (cell row (place_of c o))) column in
      let high : value_in (slice_get cells (j + 1)) ≡ number_of (cell row (place_of c pair.upper.column)) =
      ap (λ k. value_in (slice_get cells k)) (next j) ∙ end_there c d ks j pair.upper takes pair.upper_at (inr pair.upper_is) in
      (λ t. int_le (low t) (high t)) ∙ itself_no_less (number_of (cell row (place_of c pair.upper.column)))
    where
      next : (i : ℕ) → i + 1 ≡ suc i
      next i = omega arith

      itself_no_less : (z : ℤ) → int_le z z ≡ true
      itself_no_less z = grind (arith, ints)

      same_column : (a b : Option ℕ) → is_same a b ≡ true → a ≡ b
      same_column (Some a) (Some b) e = ap Some (eqb-true a b e)
      same_column (Some a) None e = absurd cc
      same_column None b e = absurd cc

  pub cells_fit : (c : Cube) (d most : ℕ) (ks : List Kept) → NoRows ks → TakesAll c d ks → 1 ≤ most
      → FitsCells most (fields_of (drop d sizes) (forms_kept ks)) (Count 1 ∷ cells_of (measures_from dicts d (map (agg_of c) ks)) (row ∷ []))
  cells_fit c d most ks none takes some = ((omega arith, some), cells_alone c d ks none takes)

  -- ---- what the kept measures take

  -- the values of the columns whose different values are kept are in the dictionaries from a number on
  abbrev pub Held : Cube → ℕ → List Kept → Type 0
  Held c d ks = (i place : ℕ) → slice_get (filter_map (dict_place c) ks) i ≡ Some place → is_in (dict_at dicts (d + i)) (cell row place) ≡ true

  -- .. where the first measure is of items of a kind
  abbrev HeldBy : Cube → ℕ → Kept → List Kept → ItemKind → Type 0
  HeldBy c d k ks n = (i place : ℕ) → slice_get (cons_option (cond (are_ids n) (Some (place_of c k.column)) None) (filter_map (dict_place c) ks)) i ≡ Some place → is_in (dict_at dicts (d + i)) (cell row place) ≡ true

  pub takes_all : (c : Cube) → IsSound c → ((i : ℕ) → length (dict_at dicts i) < 2 ^ 32) → FitsRow (flat_columns c) row → (d : ℕ) (ks : List Kept) → AllByRecursion (IsKept c) ks → Held c d ks → TakesAll c d ks
  takes_all c s small fits d [] kept held = tt
  takes_all c s small fits d (k ∷ ks) kept held =
      let place = place_of c k.column in
      let value = subst (FitsColumn (get_or (flat_columns c) place no_column)) (sym (cell_is row place)) (value_fits (flat_columns c) row place fits) in (
        kept_item (item_kind k.form) (get_or (flat_columns c) place no_column) (dict_at dicts d) (cell row place) (kept_column c s k kept.0) value (first (item_kind k.form) held) (small d),
        takes_all c s small fits (dict_after k.form d) ks kept.1 (rest (item_kind k.form) held),
      )
    where
      first : (n : ItemKind) → HeldBy c d k ks n → are_ids n ≡ true → is_in (dict_at dicts d) (cell row (place_of c k.column)) ≡ true
      first Rows h e = absurd cc
      first Values h e = absurd cc
      first Numbers h e = absurd cc
      first Ids h e = let same : d + 0 ≡ d = omega arith in subst (λ m. is_in (dict_at dicts m) (cell row (place_of c k.column)) ≡ true) same (h 0 (place_of c k.column) refl)

      rest : (n : ItemKind) → HeldBy c d k ks n → Held c (place_after n d) ks
      rest Rows h = h
      rest Values h = h
      rest Numbers h = h
      rest Ids h = λ i place e. let next : d + suc i ≡ d + 1 + i = omega arith in subst (λ m. is_in (dict_at dicts m) (cell row place) ≡ true) next (h (suc i) place e)
