-- The meaning of a cuboid of rows is their aggregate.
use Rattle.std.proofs.Common.{◌≡◌, ◌<◌, ◌+◌, ◌∙◌, ℕ, zero, suc, pos, List, [], ◌∷◌, map, length, get_or, Bool, true, false, cond, refl, sym, ap, subst, arith, Some, None}
use mathlib.Core.Bool.{true≢false}
use Rattle.std.specs.Prelude.{All, Contains, IfSome, IsTrue, Option, option_map}
use Rattle.std.specs.declared.cmp.Ordering.{Ordering}
use Rattle.std.specs.declared.cmp.Ordering.TheVariants.{Less, Equal, Greater}
use Rattle.std.specs.BTreeSet.{insert_key}
use Rattle.std.specs.Cmp.Lexicographic.{slice_cmp}
use Rattle.std.specs.List.{AllByRecursion, cons_option, filter, filter_map}
use Rattle.std.specs.List.Sorted.{IsStrictlySortedBy}
use Rattle.std.specs.Ordering.{eq_by_cmp, is_eq, is_lt, match_ordering, nat_cmp, ordering_then}
use Rattle.std.proofs.lemmas.List.{get_or_default}
use Rattle.std.proofs.lemmas.List.Elements.{recursion_from_All}
use Rattle.std.proofs.lemmas.Option.{slice_get-get_or}
use Rattle.agg_group.specs.declared.mask.Mask.{Mask}
use Rattle.measure_laws.specs.declared.kinds.ItemKind.{ItemKind}
use Rattle.measure_laws.specs.declared.kinds.ItemKind.TheVariants.{Rows, Values, Numbers, Ids}
use Rattle.measure_laws.specs.declared.measure.MeasureForm.{MeasureForm}
use Rattle.measure_laws.specs.Ids.{different}
use Rattle.measure_laws.specs.Kinds.{are_ids, has_dictionary, item_kind}
use Rattle.cube_val.specs.declared.val.Val.{Val}
use Rattle.cube_val.specs.declared.val.Val.TheVariants.{Null, Int, Text}
use Rattle.cube_val.specs.Order.{row_cmp, val_cmp}
use Rattle.cube_val.proofs.OrderFacts.{val_cmp_same}
use Rattle.aggregation.specs.Groups.{distinct, grouped, values_at}
use Rattle.dim_dictionary.proofs.DictLemmas.{count_to_found, keeps_order}
use Rattle.plain_answer.specs.Aggregates.{cell, known}
use Rattle.plain_answer.specs.declared.ask.Agg.{Agg}
use Rattle.plain_answer.specs.Kinds.{form_of_kind}
use Rattle.cell_gather.specs.Gathers.{cells_of}
use Rattle.cell_gather.specs.Keys.{dims_of}
use Rattle.cell_store.specs.Cells.{cell_of_items, ids_in, ids_of_items, key_cmp, numbers_of_items, without_ids}
use Rattle.cell_store.specs.declared.cell.RowItem.{RowItem}
use Rattle.cell_store.proofs.KindFacts.{ids-of, no_ids-of, same_numbers}
use Rattle.layer_builder.specs.Base.{dict_at, item_of, key_width, measures_from, next_after, number_in, value_at}
use Rattle.layer_builder.specs.Cuboids.{key_by}
use Rattle.layer_builder.specs.Meanings.{CuboidMeansRows, HasDistincts, HasKnown, HasValues, IsNumbered, ValueCell, cell_values, cells_values, key_values, known_in, meaning, value_in, value_of_form, values_by, values_kept, values_of_aggs}

-- ---- keys under other names that keep their order

module _ {K J : Type 0} (cmp : K → K → Ordering) (cmp' : J → J → Ordering) (f : K → J) (P : K → Type 0) (same : (a b : K) → P a → P b → cmp a b ≡ cmp' (f a) (f b)) where
  all_insert : (ks : List K) (k : K) → P k → AllByRecursion P ks → AllByRecursion P (insert_key cmp ks k)
  all_insert [] k one all = (one, tt)
  all_insert (x ∷ ks) k one all = by (cmp k x) (all_insert ks k one all.1)
    where
      by : (r : Ordering) → AllByRecursion P (insert_key cmp ks k) → AllByRecursion P (match_ordering r (k ∷ x ∷ ks) (x ∷ ks) (x ∷ insert_key cmp ks k))
      by Less more = (one, all)
      by Equal more = all
      by Greater more = (all.0, more)

  all_distinct : (ks : List K) → AllByRecursion P ks → AllByRecursion P (distinct cmp ks)
  all_distinct [] all = tt
  all_distinct (k ∷ ks) all = all_insert (distinct cmp ks) k all.0 (all_distinct ks all.1)

  insert-renamed : (ks : List K) (k : K) → P k → AllByRecursion P ks → map f (insert_key cmp ks k) ≡ insert_key cmp' (map f ks) (f k)
  insert-renamed [] k one all = refl
  insert-renamed (x ∷ ks) k one all =
      by (cmp k x) (insert-renamed ks k one all.1)
      ∙ ap (λ r. match_ordering r (f k ∷ f x ∷ map f ks) (f x ∷ map f ks) (f x ∷ insert_key cmp' (map f ks) (f k))) (same k x one all.0)
    where
      by : (r : Ordering) → map f (insert_key cmp ks k) ≡ insert_key cmp' (map f ks) (f k)
          → map f (match_ordering r (k ∷ x ∷ ks) (x ∷ ks) (x ∷ insert_key cmp ks k)) ≡ match_ordering r (f k ∷ f x ∷ map f ks) (f x ∷ map f ks) (f x ∷ insert_key cmp' (map f ks) (f k))
      by Less e = refl
      by Equal e = refl
      by Greater e = ap (λ l. f x ∷ l) e

  pub distinct-renamed : (ks : List K) → AllByRecursion P ks → map f (distinct cmp ks) ≡ distinct cmp' (map f ks)
  distinct-renamed [] all = refl
  distinct-renamed (k ∷ ks) all =
      insert-renamed (distinct cmp ks) k all.0 (all_distinct ks all.1) ∙ ap (λ l. insert_key cmp' l (f k)) (distinct-renamed ks all.1)

  module _ {R M N : Type 0} (key : R → K) (key' : R → J) (g : M → N) (of : List R → M) (of' : List R → N) (Q : R → Type 0)
      (fits : (r : R) → Q r → P (key r)) (named : (r : R) → Q r → f (key r) ≡ key' r) (comes : (rows : List R) → AllByRecursion Q rows → g (of rows) ≡ of' rows) where
    keys_fit : (rows : List R) → AllByRecursion Q rows → AllByRecursion P (map key rows)
    keys_fit [] all = tt
    keys_fit (r ∷ rows) all = (fits r all.0, keys_fit rows all.1)

    keys_named : (rows : List R) → AllByRecursion Q rows → map f (map key rows) ≡ map key' rows
    keys_named [] all = refl
    keys_named (r ∷ rows) all = let here = named r all.0 in let rest = keys_named rows all.1 in λ i. here i ∷ rest i

    picked : (k : K) → P k → (rows : List R) → AllByRecursion Q rows → filter (λ r. eq_by_cmp cmp k (key r)) rows ≡ filter (λ r. eq_by_cmp cmp' (f k) (key' r)) rows
    picked k one [] all = refl
    picked k one (r ∷ rows) all =
        let rest = picked k one rows all.1 in
        let here : eq_by_cmp cmp k (key r) ≡ eq_by_cmp cmp' (f k) (key' r) = ap is_eq (same k (key r) one (fits r all.0) ∙ ap (cmp' (f k)) (named r all.0)) in
        λ i. cond (here i) (r ∷ rest i) (rest i)

    all_picked : (t : R → Bool) (rows : List R) → AllByRecursion Q rows → AllByRecursion Q (filter t rows)
    all_picked t [] all = tt
    all_picked t (r ∷ rows) all = by (t r) (all_picked t rows all.1)
      where
        by : (b : Bool) → AllByRecursion Q (filter t rows) → AllByRecursion Q (cond b (r ∷ filter t rows) (filter t rows))
        by true more = (all.0, more)
        by false more = more

    same_rows : {X : Type 0} (xs : List X) → map (λ x. x) xs ≡ xs
    same_rows [] = refl
    same_rows (x ∷ xs) = ap (λ l. x ∷ l) (same_rows xs)

    -- what the rows of a key come to
    at_key : (k : K) → P k → (rows : List R) → AllByRecursion Q rows → g (of (values_at cmp key (λ r. r) rows k)) ≡ of' (values_at cmp' key' (λ r. r) rows (f k))
    at_key k one rows all =
        ap (λ l. g (of l)) (same_rows (filter (λ r. eq_by_cmp cmp k (key r)) rows)) ∙ comes (filter (λ r. eq_by_cmp cmp k (key r)) rows) (all_picked (λ r. eq_by_cmp cmp k (key r)) rows all)
        ∙ ap of' (picked k one rows all ∙ sym (same_rows (filter (λ r. eq_by_cmp cmp' (f k) (key' r)) rows)))

    abbrev pub renamed : K × M → J × N
    renamed e = (f e.0, g e.1)

    abbrev entry : List R → K → K × M
    entry rows k = (k, of (values_at cmp key (λ r. r) rows k))

    abbrev entry' : List R → J → J × N
    entry' rows j = (j, of' (values_at cmp' key' (λ r. r) rows j))

    tabled : (rows : List R) → AllByRecursion Q rows → (ks : List K) → AllByRecursion P ks → map renamed (map (entry rows) ks) ≡ map (entry' rows) (map f ks)
    tabled rows all [] fit = refl
    tabled rows all (k ∷ ks) fit = let here = at_key k fit.0 rows all in let rest = tabled rows all ks fit.1 in λ i. (f k, here i) ∷ rest i

    -- groups under the other names
    pub grouped-renamed : (rows : List R) → AllByRecursion Q rows → map renamed (grouped cmp key (λ r. r) of rows) ≡ grouped cmp' key' (λ r. r) of' rows
    grouped-renamed rows all =
        tabled rows all (distinct cmp (map key rows)) (all_distinct (map key rows) (keys_fit rows all))
        ∙ ap (map (entry' rows)) (distinct-renamed (map key rows) (keys_fit rows all) ∙ ap (distinct cmp') (keys_named rows all))

-- ---- numbers of a dictionary

abbrev IsNumber : List Val → ℕ → Type 0
IsNumber dict id = id < length dict

number-ordered : (dict : List Val) → IsStrictlySortedBy val_cmp dict → (i j : ℕ) → IsNumber dict i → IsNumber dict j → nat_cmp i j ≡ val_cmp (value_in dict i) (value_in dict j)
number-ordered dict up i j lt_i lt_j = keeps_order dict i j (value_in dict i) (value_in dict j) up (slice_get-get_or dict i Null lt_i) (slice_get-get_or dict j Null lt_j)

-- the number of a value that is there
module _ (dict : List Val) (v : Val) (up : IsStrictlySortedBy val_cmp dict) (there : Contains dict v) where
  number_is : number_in dict v ≡ there.0
  number_is = count_to_found dict there.0 v up there.1 (λ d. ap (λ x. val_cmp x v) (get_or_default dict there.0 d v there.1 ∙ there.2) ∙ val_cmp_same v)

  pub number-fits : IsNumber dict (number_in dict v)
  number-fits = subst (λ (n : ℕ). n < length dict) (sym number_is) there.1

  pub number-value : value_in dict (number_in dict v) ≡ v
  number-value = ap (value_in dict) number_is ∙ get_or_default dict there.0 Null v there.1 ∙ there.2

-- ---- keys

abbrev pub AreNumbers : List (List Val) → List ℕ → Type 0
AreNumbers [] [] = Unit {0}
AreNumbers [] (id ∷ ids) = ⊥
AreNumbers (dict ∷ dicts) [] = ⊥
AreNumbers (dict ∷ dicts) (id ∷ ids) = IsNumber dict id × AreNumbers dicts ids

abbrev pub Rise : List (List Val) → Type 0
Rise dicts = AllByRecursion (IsStrictlySortedBy val_cmp) dicts

keys-ordered : (dicts : List (List Val)) → Rise dicts → (a b : List ℕ) → AreNumbers dicts a → AreNumbers dicts b → key_cmp a b ≡ row_cmp (key_values dicts a) (key_values dicts b)
keys-ordered [] up [] [] p q = refl
keys-ordered [] up [] (j ∷ b) p q = absurd q
keys-ordered [] up (i ∷ a) b p q = absurd p
keys-ordered (dict ∷ dicts) up [] b p q = absurd p
keys-ordered (dict ∷ dicts) up (i ∷ a) [] p q = absurd q
keys-ordered (dict ∷ dicts) up (i ∷ a) (j ∷ b) p q =
    let here = number-ordered dict up.0 i j p.0 q.0 in
    let rest = keys-ordered dicts up.1 a b p.1 q.1 in
    λ k. ordering_then (here k) (rest k)

-- a row's values are in the dictionaries of the columns
abbrev pub HasRow : List (List Val) → List Val → ℕ → Type 0
HasRow dicts row column = IsStrictlySortedBy val_cmp (dict_at dicts column) × Contains (dict_at dicts column) (cell row column)

keys-fit : (dicts : List (List Val)) (row : List Val) (columns : List ℕ) → AllByRecursion (HasRow dicts row) columns
    → AreNumbers (map (dict_at dicts) columns) (map (λ column. number_in (dict_at dicts column) (cell row column)) columns)
keys-fit dicts row [] all = tt
keys-fit dicts row (column ∷ columns) all = (number-fits (dict_at dicts column) (cell row column) all.0.0 all.0.1, keys-fit dicts row columns all.1)

keys-named : (dicts : List (List Val)) (row : List Val) (columns : List ℕ) → AllByRecursion (HasRow dicts row) columns
    → key_values (map (dict_at dicts) columns) (map (λ column. number_in (dict_at dicts column) (cell row column)) columns) ≡ values_by columns row
keys-named dicts row [] all = refl
keys-named dicts row (column ∷ columns) all =
    let here = number-value (dict_at dicts column) (cell row column) all.0.0 all.0.1 in
    let rest = keys-named dicts row columns all.1 in
    λ i. here i ∷ rest i

-- ---- cells

different-is : (xs : List ℕ) → different xs ≡ distinct nat_cmp xs
different-is [] = refl
different-is (x ∷ xs) = ap (λ l. insert_key nat_cmp l x) (different-is xs)

module _ (dict : List Val) (up : IsStrictlySortedBy val_cmp dict) where
  ids-fit : (vs : List Val) → AllByRecursion (Contains dict) vs → AllByRecursion (IsNumber dict) (map (number_in dict) vs)
  ids-fit [] all = tt
  ids-fit (v ∷ vs) all = (number-fits dict v up all.0, ids-fit vs all.1)

  ids-named : (vs : List Val) → AllByRecursion (Contains dict) vs → map (value_in dict) (map (number_in dict) vs) ≡ vs
  ids-named [] all = refl
  ids-named (v ∷ vs) all = let here = number-value dict v up all.0 in let rest = ids-named vs all.1 in λ i. here i ∷ rest i

  -- different numbers are of different values
  distinct-values : (vs : List Val) → AllByRecursion (Contains dict) vs → map (value_in dict) (different (map (number_in dict) vs)) ≡ distinct val_cmp vs
  distinct-values vs all =
      ap (map (value_in dict)) (different-is (map (number_in dict) vs))
      ∙ distinct-renamed nat_cmp val_cmp (value_in dict) (IsNumber dict) (number-ordered dict up) (map (number_in dict) vs) (ids-fit vs all)
      ∙ ap (distinct val_cmp) (ids-named vs all)

-- ---- the items of rows

module _ {X Y : Type 0} (f : X → Option Y) where
  mapped-option : {Z : Type 0} (g : Y → Z) (xs : List X) → filter_map (λ x. option_map g (f x)) xs ≡ map g (filter_map f xs)
  mapped-option g [] = refl
  mapped-option {Z = Z} g (x ∷ xs) = by (f x) (mapped-option g xs)
    where
      by : (o : Option Y) → filter_map (λ x. option_map g (f x)) xs ≡ map g (filter_map f xs) → cons_option (option_map g o) (filter_map (λ x. option_map g (f x)) xs) ≡ map g (cons_option o (filter_map f xs))
      by None more = more
      by (Some y) more = ap (λ l. g y ∷ l) more

  -- what holds of each that is found
  pub from_rows : (P : Y → Type 0) (xs : List X) → AllByRecursion (λ x. IfSome (f x) P) xs → AllByRecursion P (filter_map f xs)
  from_rows P [] all = tt
  from_rows P (x ∷ xs) all = by (f x) all.0 (from_rows P xs all.1)
    where
      by : (o : Option Y) → IfSome o P → AllByRecursion P (filter_map f xs) → AllByRecursion P (cons_option o (filter_map f xs))
      by None here more = more
      by (Some y) here more = (here, more)

  pub to_rows : (P : Y → Type 0) (xs : List X) → AllByRecursion P (filter_map f xs) → AllByRecursion (λ x. IfSome (f x) P) xs
  to_rows P [] all = tt
  to_rows P (x ∷ xs) all = let both = by (f x) all in (both.0, to_rows P xs both.1)
    where
      by : (o : Option Y) → AllByRecursion P (cons_option o (filter_map f xs)) → IfSome o P × AllByRecursion P (filter_map f xs)
      by None all = (tt, all)
      by (Some y) all = (all.0, all.1)

-- the number that a measure takes of a value needs no dictionary
number-alone : (k : ItemKind) (dict : List Val) (v : Val) → option_map (λ (item : RowItem). item.number) (item_of k dict v) ≡ option_map (λ (item : RowItem). item.number) (item_of k [] v)
number-alone Rows dict v = refl
number-alone Values dict v = refl
number-alone Numbers dict v = refl
number-alone Ids dict Null = refl
number-alone Ids dict (Int n) = refl
number-alone Ids dict (Text t) = refl

module _ (f : MeasureForm) (dict : List Val) (value : List Val → Val) where
  abbrev items : List (List Val) → List RowItem
  items rows = filter_map (λ row. item_of (item_kind f) dict (value row)) rows

  abbrev items_alone : List (List Val) → List RowItem
  items_alone rows = filter_map (λ row. item_of (item_kind f) [] (value row)) rows

  numbers-alone : (rows : List (List Val)) → numbers_of_items (items rows) ≡ numbers_of_items (items_alone rows)
  numbers-alone rows =
      sym (mapped-option (λ row. item_of (item_kind f) dict (value row)) (λ (item : RowItem). item.number) rows)
      ∙ (λ i. filter_map (λ row. number-alone (item_kind f) dict (value row) i) rows)
      ∙ mapped-option (λ row. item_of (item_kind f) [] (value row)) (λ (item : RowItem). item.number) rows

  -- the ids of a measure that has a dictionary
  ids-known : (k : ItemKind) → are_ids k ≡ true → (rows : List (List Val)) → ids_of_items (filter_map (λ row. item_of k dict (value row)) rows) ≡ map (number_in dict) (known_in value rows)
  ids-known Rows e rows = absurd (true≢false (sym e))
  ids-known Values e rows = absurd (true≢false (sym e))
  ids-known Numbers e rows = absurd (true≢false (sym e))
  ids-known Ids e rows =
      sym (mapped-option (λ row. item_of Ids dict (value row)) (λ (item : RowItem). item.id) rows)
      ∙ (λ i. filter_map (λ row. mapped-twice (known (value row)) i) rows)
      ∙ mapped-option (λ row. known (value row)) (number_in dict) rows
    where
      mapped-twice : (o : Option Val) → option_map (λ (item : RowItem). item.id) (option_map (λ w. let item : RowItem = record { number = pos 0; id = number_in dict w } in item) o) ≡ option_map (number_in dict) o
      mapped-twice None = refl
      mapped-twice (Some w) = refl

  -- what a cell means over a dictionary that has the values
  cell-named : (rows : List (List Val)) → (IsTrue (has_dictionary f) → IsStrictlySortedBy val_cmp dict) → (IsTrue (has_dictionary f) → AllByRecursion (Contains dict) (known_in value rows))
      → cell_values dict (cell_of_items f (items rows)) ≡ value_of_form f value rows
  cell-named rows up there = by (has_dictionary f) refl up there
    where
      numbers : without_ids (cell_of_items f (items rows)) ≡ without_ids (cell_of_items f (items_alone rows))
      numbers = same_numbers f (items rows) (items_alone rows) (numbers-alone rows)

      by : (b : Bool) → has_dictionary f ≡ b → (IsTrue b → IsStrictlySortedBy val_cmp dict) → (IsTrue b → AllByRecursion (Contains dict) (known_in value rows))
          → cell_values dict (cell_of_items f (items rows)) ≡ value_of_form f value rows
      by true e up there =
          let ids : map (value_in dict) (ids_in (cell_of_items f (items rows))) ≡ distinct val_cmp (known_in value rows)
          = ap (map (value_in dict)) (ids-of f (items rows) e ∙ ap different (ids-known (item_kind f) e rows)) ∙ distinct-values dict (up refl) (known_in value rows) (there refl) in
          let kept : distinct val_cmp (known_in value rows) ≡ values_kept f (known_in value rows) = ap (λ c. cond c (distinct val_cmp (known_in value rows)) []) (sym e) in
          λ i. record { cell = numbers i; values = (ids ∙ kept) i }
      by false e up there =
          let ids : map (value_in dict) (ids_in (cell_of_items f (items rows))) ≡ [] = ap (map (value_in dict)) (no_ids-of f (items rows) e) in
          let kept : [] ≡ values_kept f (known_in value rows) = ap (λ c. cond c (distinct val_cmp (known_in value rows)) []) (sym e) in
          λ i. record { cell = numbers i; values = (ids ∙ kept) i }

-- the dictionaries of COUNT_DISTINCTs rise
abbrev pub RiseOwns : List (List Val) → ℕ → List Agg → Type 0
RiseOwns dicts place [] = Unit {0}
RiseOwns dicts place (agg ∷ aggs) = (IsTrue (has_dictionary (form_of_kind agg.kind)) → IsStrictlySortedBy val_cmp (dict_at dicts place)) × RiseOwns dicts (next_after agg.kind place) aggs

-- a COUNT_DISTINCT has the value of its column in its dictionary for a row that has one
abbrev pub HasOwn : List (List Val) → ℕ → Agg → List Val → Type 0
HasOwn dicts place agg row = IsTrue (has_dictionary (form_of_kind agg.kind)) → IfSome (known (value_at agg.column row)) (λ v. Contains (dict_at dicts place) v)

abbrev pub HasOwns : List (List Val) → ℕ → List Agg → List Val → Type 0
HasOwns dicts place [] row = Unit {0}
HasOwns dicts place (agg ∷ aggs) row = HasOwn dicts place agg row × HasOwns dicts (next_after agg.kind place) aggs row

module _ {X : Type 0} (P Q : X → Type 0) where
  pub firsts : (xs : List X) → AllByRecursion (λ x. P x × Q x) xs → AllByRecursion P xs
  firsts [] all = tt
  firsts (x ∷ xs) all = (all.0.0, firsts xs all.1)

  pub seconds_of : (xs : List X) → AllByRecursion (λ x. P x × Q x) xs → AllByRecursion Q xs
  seconds_of [] all = tt
  seconds_of (x ∷ xs) all = (all.0.1, seconds_of xs all.1)

  pub both : (xs : List X) → AllByRecursion P xs → AllByRecursion Q xs → AllByRecursion (λ x. P x × Q x) xs
  both [] p q = tt
  both (x ∷ xs) p q = ((p.0, q.0), both xs p.1 q.1)

pub under : {X : Type 0} (H : Type 0) (P : X → Type 0) (xs : List X) → AllByRecursion (λ x. H → P x) xs → H → AllByRecursion P xs
under H P [] all h = tt
under H P (x ∷ xs) all h = (all.0 h, under H P xs all.1 h)

cells-named : (dicts : List (List Val)) (place : ℕ) (aggs : List Agg) (rows : List (List Val)) → RiseOwns dicts place aggs → AllByRecursion (HasOwns dicts place aggs) rows
    → cells_values dicts place aggs (cells_of (measures_from dicts place aggs) rows) ≡ values_of_aggs aggs rows
cells-named dicts place [] rows rise all = refl
cells-named dicts place (agg ∷ aggs) rows rise all =
    let f = form_of_kind agg.kind in
    let value = value_at agg.column in
    let dict = dict_at dicts place in
    let own = firsts (HasOwn dicts place agg) (HasOwns dicts (next_after agg.kind place) aggs) rows all in
    let others = seconds_of (HasOwn dicts place agg) (HasOwns dicts (next_after agg.kind place) aggs) rows all in
    let there = λ (h : IsTrue (has_dictionary f)). from_rows (λ row. known (value row)) (λ v. Contains dict v) rows (under (IsTrue (has_dictionary f)) (λ row. IfSome (known (value row)) (λ v. Contains dict v)) rows own h) in
    let here = cell-named f dict value rows rise.0 there in
    let rest = cells-named dicts (next_after agg.kind place) aggs rows rise.1 others in
    λ i. here i ∷ rest i

-- ---- from columns to rows

nothing : {X : Type 0} (xs : List X) → AllByRecursion (λ x. Unit {0}) xs
nothing [] = tt
nothing (x ∷ xs) = (tt, nothing xs)

with_up : {X : Type 0} (U : Type 0) (P : X → Type 0) (xs : List X) → U → AllByRecursion P xs → AllByRecursion (λ x. U × P x) xs
with_up U P [] u all = tt
with_up U P (x ∷ xs) u all = ((u, all.0), with_up U P xs u all.1)

pub rows_of_columns : (dicts : List (List Val)) (rows : List (List Val)) (columns : List ℕ) → AllByRecursion (λ column. HasValues (dict_at dicts column) (λ row. cell row column) rows) columns
    → AllByRecursion (λ row. AllByRecursion (HasRow dicts row) columns) rows
rows_of_columns dicts rows [] all = nothing rows
rows_of_columns dicts rows (column ∷ columns) all =
    both (λ row. HasRow dicts row column) (λ row. AllByRecursion (HasRow dicts row) columns) rows
    (with_up (IsStrictlySortedBy val_cmp (dict_at dicts column)) (λ row. Contains (dict_at dicts column) (cell row column)) rows all.0.rising
    (recursion_from_All (λ row. Contains (dict_at dicts column) (cell row column)) rows all.0.there))
    (rows_of_columns dicts rows columns all.1)

pub rises_of_columns : (dicts : List (List Val)) (rows : List (List Val)) (columns : List ℕ) → AllByRecursion (λ column. HasValues (dict_at dicts column) (λ row. cell row column) rows) columns → Rise (map (dict_at dicts) columns)
rises_of_columns dicts rows [] all = tt
rises_of_columns dicts rows (column ∷ columns) all = (all.0.rising, rises_of_columns dicts rows columns all.1)

own_rows : (H : Type 0) (dict : List Val) (value : List Val → Val) (rows : List (List Val)) → (H → HasKnown dict value rows) → AllByRecursion (λ row. H → IfSome (known (value row)) (λ v. Contains dict v)) rows
own_rows H dict value rows has = by rows (λ h. to_rows (λ row. known (value row)) (λ v. Contains dict v) rows (recursion_from_All (λ v. Contains dict v) (known_in value rows) (has h).there))
  where
    by : (some : List (List Val)) → (H → AllByRecursion (λ row. IfSome (known (value row)) (λ v. Contains dict v)) some) → AllByRecursion (λ row. H → IfSome (known (value row)) (λ v. Contains dict v)) some
    by [] all = tt
    by (row ∷ some) all = (λ h. (all h).0, by some (λ h. (all h).1))

pub rows_of_distincts : (dicts : List (List Val)) (place : ℕ) (aggs : List Agg) (rows : List (List Val)) → HasDistincts dicts place aggs rows → AllByRecursion (HasOwns dicts place aggs) rows
rows_of_distincts dicts place [] rows has = nothing rows
rows_of_distincts dicts place (agg ∷ aggs) rows has =
    both (HasOwn dicts place agg) (HasOwns dicts (next_after agg.kind place) aggs) rows
    (own_rows (IsTrue (has_dictionary (form_of_kind agg.kind))) (dict_at dicts place) (value_at agg.column) rows has.0)
    (rows_of_distincts dicts (next_after agg.kind place) aggs rows has.1)

pub rises_of_distincts : (dicts : List (List Val)) (place : ℕ) (aggs : List Agg) (rows : List (List Val)) → HasDistincts dicts place aggs rows → RiseOwns dicts place aggs
rises_of_distincts dicts place [] rows has = tt
rises_of_distincts dicts place (agg ∷ aggs) rows has = (λ h. (has.0 h).rising, rises_of_distincts dicts (next_after agg.kind place) aggs rows has.1)

-- ---- the law

pub cuboid_means_rows : CuboidMeansRows
cuboid_means_rows aggs dicts flat dims table has cuboid =
    let columns = dims_of dims in
    let place = key_width aggs dicts in
    let those = map (dict_at dicts) columns in
    let keys = recursion_from_All (λ column. HasValues (dict_at dicts column) (λ row. cell row column) flat) columns has.keys in
    let Q : List Val → Type 0 = λ row. AllByRecursion (HasRow dicts row) columns × HasOwns dicts place aggs row in
    let fit : AllByRecursion Q flat = both (λ row. AllByRecursion (HasRow dicts row) columns) (HasOwns dicts place aggs) flat (rows_of_columns dicts flat columns keys) (rows_of_distincts dicts place aggs flat has.distincts) in
    ap (meaning aggs dicts dims) cuboid.rows
    ∙ grouped-renamed key_cmp row_cmp (key_values those) (AreNumbers those) (keys-ordered those (rises_of_columns dicts flat columns keys)) (key_by dicts dims) (values_by columns) (cells_values dicts place aggs)
    (cells_of (measures_from dicts place aggs)) (values_of_aggs aggs) Q (λ row q. keys-fit dicts row columns q.0) (λ row q. keys-named dicts row columns q.0)
    (λ rows all. cells-named dicts place aggs rows (rises_of_distincts dicts place aggs flat has.distincts) (seconds_of (λ row. AllByRecursion (HasRow dicts row) columns) (HasOwns dicts place aggs) rows all))
    flat fit
