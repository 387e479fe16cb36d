-- Flat rows have the columns of the cube's flat rows.
use Rattle.std.proofs.Common.{◌≡◌, ◌≤◌, ◌<◌, ◌+◌, ◌++◌, ◌∙◌, ℕ, zero, suc, Bool, true, false, cond, List, [], ◌∷◌, length, get_or, Option, Some, None, map, refl, sym, ap, subst, arith, take, drop}
use Rattle.std.specs.Prelude.{filter, find, slice_get}
use Rattle.std.specs.List.{AllByRecursion, range_with_len}
use Rattle.std.proofs.lemmas.List.{append_assoc, drop-map, take-map, take_at}
use Rattle.std.proofs.lemmas.List.Elements.{recursion_from_All}
use Rattle.byte_frame.specs.Spelling.{EachFits}
use Rattle.cube_desc.specs.Cube.{Cube}
use Rattle.cube_desc.specs.Forms.{form_of}
use Rattle.cube_desc.specs.Resolve.{wide_derived, wide_fact}
use Rattle.cube_desc.specs.Sound.{IsSound, IsThere, measured_columns}
use Rattle.cube_val.specs.declared.form.ColDesc.{ColDesc}
use Rattle.cube_val.specs.declared.form.JoinStep.{JoinStep}
use Rattle.cube_val.specs.declared.form.WideCol.{WideCol}
use Rattle.cube_val.specs.declared.val.ColType.{ColType}
use Rattle.cube_val.specs.declared.val.ColType.TheVariants as ty
use Rattle.cube_val.specs.declared.val.Val.{Val}
use Rattle.cube_val.specs.declared.val.Val.TheVariants.{Null}
use Rattle.cube_val.specs.Values.{FitsType}
use Rattle.flat_join.specs.Flat.{flat_of, without_derived}
use Rattle.flat_join.specs.Joins.{fact_of, is_joined, is_match, lookups_of, match_in, matches_of, part_value, wide_row, wide_value}
use Rattle.range_list.specs.Ranges.{Interval}
use Rattle.step_codec.specs.Bodies.{FitsAllLoaded}
use Rattle.step_codec.specs.Layouts.{row_limit}
use Rattle.step_codec.specs.Tables.{TableShape}
use Rattle.step_fields.specs.Fits.{FitsColumn, FitsRow}
use Rattle.step_fields.specs.declared.column.Column.{Column}
use Rattle.cube_desc.specs.FlatRow.{measured}
use Rattle.step_files.specs.Cubes.{column_at, columns_in, flat_columns, layout_of, no_column, no_table, table_of, tables_of}
use Rattle.step_files.specs.Tasks.{FitsFlat}
use Rattle.table_reader.specs.Keys.{key_of, val_at}
use Rattle.step_task.proofs.CubeFacts.{loaded_at, loaded_length}

-- ---- values

null_type : (t : ColType) → FitsType t Null
null_type ty.Int = tt
null_type ty.Decimal = tt
null_type ty.Text = tt
null_type ty.Date = tt

null_fits : (t : ColType) → FitsColumn (record { ty = t; no_null = false }) Null
null_fits t = record { of_type = null_type t; is_value = tt; no_null = λ e. absurd cc }

-- a value of a row that fits, and a null past its end
pub value_fits : (columns : List Column) (row : List Val) (i : ℕ) → FitsRow columns row → FitsColumn (get_or columns i no_column) (val_at row i)
value_fits [] [] i h = null_fits ty.Int
value_fits [] (v ∷ row) i h = absurd h
value_fits (k ∷ columns) [] i h = absurd h
value_fits (k ∷ columns) (v ∷ row) zero h = h.0
value_fits (k ∷ columns) (v ∷ row) (suc i) h = value_fits columns row i h.1

-- a null fits a column in which one may stand
null_at : (cols : List ColDesc) (places : List ℕ) (i : ℕ) → FitsColumn (get_or (columns_in cols (map (λ p. false) places)) i no_column) Null
null_at [] places i = null_fits ty.Int
null_at (c ∷ cols) [] i = null_fits ty.Int
null_at (c ∷ cols) (p ∷ places) zero = null_fits c.ty
null_at (c ∷ cols) (p ∷ places) (suc i) = null_at cols places i

-- ---- matches

found_fits : (P : List Val → Type 0) (test : List Val → Bool) (rows : List (List Val)) (row : List Val) → AllByRecursion P rows → find test rows ≡ Some row → P row
found_fits P test [] row all e = absurd cc
found_fits P test (r ∷ rows) row all e = by (test r) e (found_fits P test rows row all.1) where
  by : (b : Bool) → cond b (Some r) (find test rows) ≡ Some row → (find test rows ≡ Some row → P row) → P row
  by true e rest = let same : r ≡ row = cc in subst P same all.0
  by false e rest = rest e

abbrev columns : Cube → ℕ → List Column
columns c t = columns_in (form_of c t).cols (form_of c t).no_null

match_fits : (c : Cube) (s : ℕ) (fact : List Val) (joins : List JoinStep) (lookups : List (List (List Val))) (t : ℕ) (row : List Val)
    → ((t : ℕ) → t < length lookups → AllByRecursion (FitsRow (columns c (s + t))) (get_or lookups t [])) → slice_get (matches_of joins lookups fact) t ≡ Some (Some row) → FitsRow (columns c (s + t)) row
match_fits c s fact [] lookups t row each e = absurd cc
match_fits c s fact (j ∷ joins) [] t row each e = absurd cc
match_fits c s fact (j ∷ joins) (l ∷ lookups) zero row each e =
    let same : match_in fact j l ≡ Some row = cc in
    found_fits (FitsRow (columns c (s + 0))) (λ r. is_match (key_of j.primary r) (key_of j.foreign fact)) l row (each 0 (omega arith)) same
match_fits c s fact (j ∷ joins) (l ∷ lookups) (suc t) row each e =
    let same : s + 1 + t ≡ s + suc t = omega arith in
    subst (λ k. FitsRow (columns c k) row) same
    (match_fits c (s + 1) fact joins lookups t row
    (λ k lt. let next : s + suc k ≡ s + 1 + k = omega arith in subst (λ n. AllByRecursion (FitsRow (columns c n)) (get_or lookups k [])) next (each (suc k) (omega (arith, lt)))) e)

-- ---- a joined row

pub tables_at : (c : Cube) (t : ℕ) → t < length c.tables → get_or (tables_of c) t no_table ≡ table_of c t
unfolding tables_of
tables_at c t lt = in_range (table_of c) 0 (length c.tables) t no_table lt ∙ (let same : 0 + t ≡ t = omega arith in ap (table_of c) same) where
  in_range : {X : Type 0} (f : ℕ → X) (a n t : ℕ) (d : X) → t < n → get_or (map f (range_with_len a n)) t d ≡ f (a + t)
  in_range f a zero t d lt = absurd (omega arith)
  in_range f a (suc n) zero d lt = let same : a ≡ a + 0 = omega arith in ap f same
  in_range f a (suc n) (suc t) d lt = let same : a + 1 + t ≡ a + suc t = omega arith in in_range f (a + 1) n t d (omega arith) ∙ ap f same

module _ (c : Cube) (fact : List Val) (matches : List (Option (List Val))) (fits : FitsRow (columns c 0) fact)
    (matched : (t : ℕ) (row : List Val) → slice_get matches t ≡ Some (Some row) → FitsRow (columns c (suc t)) row) where
  part_fits : (t column : ℕ) (o : Option (Option (List Val))) → slice_get matches t ≡ o → FitsColumn (get_or (columns c (suc t)) column no_column) (wide_value fact matches (record { table = suc t; column = column }))
  part_fits t column None e =
      subst (λ (o : Option (Option (List Val))). FitsColumn (get_or (columns c (suc t)) column no_column) (part_value o column)) (sym e) (null_at (form_of c (suc t)).cols (range_with_len 0 (length (form_of c (suc t)).cols)) column)
  part_fits t column (Some None) e =
      subst (λ (o : Option (Option (List Val))). FitsColumn (get_or (columns c (suc t)) column no_column) (part_value o column)) (sym e) (null_at (form_of c (suc t)).cols (range_with_len 0 (length (form_of c (suc t)).cols)) column)
  part_fits t column (Some (Some row)) e =
      subst (λ (o : Option (Option (List Val))). FitsColumn (get_or (columns c (suc t)) column no_column) (part_value o column)) (sym e) (value_fits (columns c (suc t)) row column (matched t row e))

  in_table : (t column : ℕ) → FitsColumn (get_or (columns c t) column no_column) (wide_value fact matches (record { table = t; column = column }))
  in_table zero column = value_fits (columns c 0) fact column fits
  in_table (suc t) column = part_fits t column (slice_get matches t) refl

  wide_fits : (w : WideCol) → w.table < length c.tables → FitsColumn (column_at (tables_of c) w) (wide_value fact matches w)
  wide_fits w lt = subst (λ (t : TableShape). FitsColumn (get_or t.columns w.column no_column) (wide_value fact matches w)) (sym (tables_at c w.table lt)) (in_table w.table w.column)

  wides_fit : (ws : List WideCol) → AllByRecursion (IsThere c.tables) ws → EachFits FitsColumn (map (column_at (tables_of c)) ws) (map (wide_value fact matches) ws)
  wides_fit [] all = tt
  wides_fit (w ∷ ws) all = (wide_fits w all.0.0, wides_fit ws all.1)

each_joined : {C A : Type 0} (F : C → A → Type 0) (cs ds : List C) (xs ys : List A) → EachFits F cs xs → EachFits F ds ys → EachFits F (cs ++ ds) (xs ++ ys)
each_joined F [] ds [] ys h k = k
each_joined F [] ds (x ∷ xs) ys h k = absurd h
each_joined F (c ∷ cs) ds [] ys h k = absurd h
each_joined F (c ∷ cs) ds (x ∷ xs) ys h k = (h.0, each_joined F cs ds xs ys h.1 k)

-- ---- all joined rows

module _ {X Y Z : Type 0} (P : X → Type 0) (Q : Z → Type 0) (test : X → Bool) (f : X → Y) (g : Y → Z) where
  kept_fit : ((x : X) → P x → Q (g (f x))) → (xs : List X) → AllByRecursion P xs → AllByRecursion Q (map g (map f (filter test xs)))
  kept_fit each [] all = tt
  kept_fit each (x ∷ xs) all = by (test x) (kept_fit each xs all.1) where
    by : (b : Bool) → AllByRecursion Q (map g (map f (filter test xs))) → AllByRecursion Q (map g (map f (cond b (x ∷ filter test xs) (filter test xs))))
    by true rest = (each x all.0, rest)
    by false rest = rest

few_kept : {X Y Z : Type 0} (test : X → Bool) (f : X → Y) (g : Y → Z) (xs : List X) → length (map g (map f (filter test xs))) ≤ length xs
few_kept test f g [] = omega arith
few_kept test f g (x ∷ xs) = by (test x) (few_kept test f g xs) where
  by : (b : Bool) → length (map g (map f (filter test xs))) ≤ length xs → length (map g (map f (cond b (x ∷ filter test xs) (filter test xs)))) ≤ length (x ∷ xs)
  by true rest = omega (arith, rest)
  by false rest = omega (arith, rest)

pub all_dropped : {X : Type 0} (P : X → Type 0) (n : ℕ) (xs : List X) → AllByRecursion P xs → AllByRecursion P (drop n xs)
all_dropped P zero xs all = all
all_dropped P (suc n) [] all = tt
all_dropped P (suc n) (x ∷ xs) all = all_dropped P n xs all.1

facts_are : (tables : List (List (List Val))) → get_or tables 0 [] ≡ fact_of tables
facts_are [] = refl
facts_are (t ∷ tables) = refl

lookups_are : (tables : List (List (List Val))) (t : ℕ) → get_or (lookups_of tables) t [] ≡ get_or tables (1 + t) []
lookups_are [] t = refl
lookups_are (l ∷ tables) t = let next : 1 + t ≡ suc t = omega arith in ap (λ k. get_or (l ∷ tables) k []) (sym next)

lookups_length : (tables : List (List (List Val))) (t : ℕ) → t < length (lookups_of tables) → 1 + t < length tables
lookups_length [] t lt = absurd (omega (arith, lt))
lookups_length (l ∷ tables) t lt = omega (arith, lt)

rowkey_first : (c : Cube) → IsSound c → take (length c.rowkey) c.plan.wide ≡ c.rowkey
rowkey_first c s =
    let derived = map wide_derived c.derived in
    let facts = map wide_fact (measured_columns c.measures) in
    ap (take (length c.rowkey)) (s.wide ∙ append_assoc c.rowkey derived facts) ∙ take_at c.rowkey (derived ++ facts) (length c.rowkey) refl

module _ (c : Cube) (s : IsSound c) (tables : List (List (List Val))) (h : FitsAllLoaded (layout_of c) tables) where
  abbrev matches : List Val → List (Option (List Val))
  matches fact = matches_of c.plan.joins (lookups_of tables) fact

  some_table : 0 < length c.tables
  some_table = omega (arith, s.tables)

  facts_fit : AllByRecursion (FitsRow (columns c 0)) (fact_of tables)
  facts_fit = subst (AllByRecursion (FitsRow (columns c 0))) (facts_are tables) (loaded_at c tables 0 [] h some_table).0.1

  facts_few : length (fact_of tables) ≤ row_limit
  facts_few = subst (λ (rows : List (List Val)). length rows ≤ row_limit) (facts_are tables) (loaded_at c tables 0 [] h some_table).0.0

  matches_fit : (fact : List Val) (t : ℕ) (row : List Val) → slice_get (matches fact) t ≡ Some (Some row) → FitsRow (columns c (suc t)) row
  matches_fit fact t row e =
      let next : 1 + t ≡ suc t = omega arith in
      subst (λ k. FitsRow (columns c k) row) next (match_fits c 1 fact c.plan.joins (lookups_of tables) t row
      (λ k lt. subst (AllByRecursion (FitsRow (columns c (1 + k)))) (sym (lookups_are tables k)) (loaded_at c tables (1 + k) [] h (omega (arith, lookups_length tables k lt, loaded_length c tables h))).0.1) e)

  row_fits : (fact : List Val) → FitsRow (columns c 0) fact → FitsRow (flat_columns c) (without_derived c (wide_row c.plan.wide fact (matches fact)))
  unfolding flat_columns
  row_fits fact fits =
      let value : WideCol → Val = wide_value fact (matches fact) in
      let there = recursion_from_All (IsThere c.tables) c.plan.wide s.there in
      let keys = recursion_from_All (IsThere c.tables) c.rowkey s.rowkey in
      let front : take (length c.rowkey) (map value c.plan.wide) ≡ map value c.rowkey = take-map value (length c.rowkey) c.plan.wide ∙ ap (map value) (rowkey_first c s) in
      let back : drop (length c.rowkey + length c.derived) (map value c.plan.wide) ≡ map value (measured c) = drop-map value (length c.rowkey + length c.derived) c.plan.wide in
      let own = each_joined FitsColumn (map (column_at (tables_of c)) c.rowkey) (map (column_at (tables_of c)) (measured c)) (map value c.rowkey) (map value (measured c))
      (wides_fit c fact (matches fact) fits (matches_fit fact) c.rowkey keys)
      (wides_fit c fact (matches fact) fits (matches_fit fact) (measured c) (all_dropped (IsThere c.tables) (length c.rowkey + length c.derived) c.plan.wide there)) in
      subst (λ (row : List Val). FitsRow (map (column_at (tables_of c)) c.rowkey ++ map (column_at (tables_of c)) (measured c)) row) (λ i. sym front i ++ sym back i) own

  pub flat_fits : (range : Interval) → FitsFlat (layout_of c) (flat_of c tables range)
  unfolding layout_of
  flat_fits range =
      let test : List Val → Bool = λ fact. is_joined c.plan range fact (matches fact) in
      let joined_row : List Val → List Val = λ fact. wide_row c.plan.wide fact (matches fact) in (
        omega (arith, few_kept test joined_row (without_derived c) (fact_of tables), facts_few),
        kept_fit (FitsRow (columns c 0)) (FitsRow (flat_columns c)) test joined_row (without_derived c) row_fits (fact_of tables) facts_fit,
      )
