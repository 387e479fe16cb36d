-- Each measure that is kept takes one item of a flat row of a task: in a measured column there stands no null.
use Rattle.std.proofs.Common.{◌≡◌, ◌<◌, ◌+◌, ◌^◌, ◌++◌, ◌∙◌, ℕ, zero, suc, Bool, true, false, cond, ◌||◌, List, [], ◌∷◌, length, get_or, Some, map, refl, sym, ap, subst, arith, inl, inr}
use Rattle.std.specs.Prelude.{◌==◌, ◌⊎◌, pos, FitsSigned, IsTrue, not, option_map}
use Rattle.std.specs.Int.{w64}
use Rattle.std.specs.List.{AllByRecursion, list_any, position_or_len, prefix_len, range_with_len}
use Rattle.std.proofs.lemmas.Bool.{eqb-true}
use Rattle.std.proofs.lemmas.List.{length-map}
use Rattle.std.proofs.lemmas.List.Elements.{recursion_from_All}
use Rattle.std.proofs.lemmas.Option.{slice_get-get_or}
use Rattle.cell_store.specs.declared.cell.RowItem.{RowItem}
use Rattle.cube_desc.specs.Cube.{Cube}
use Rattle.cube_desc.specs.FlatRow.{is_column, measured, place_of}
use Rattle.cube_desc.specs.Forms.{is_measured, no_null_at}
use Rattle.cube_desc.specs.Resolve.{wide_fact}
use Rattle.cube_desc.specs.Sound.{IsOfNumbers, IsSound, IsThere, columns_at, measured_columns, type_at}
use Rattle.cube_desc.specs.declared.kept.Kept.{Kept}
use Rattle.cube_desc.proofs.KeptFacts.{HasItems, IsKept, measured_are, measured_is}
use Rattle.cube_fields.specs.Cells.{FitsId}
use Rattle.cube_val.specs.declared.form.ColDesc.{ColDesc}
use Rattle.cube_val.specs.declared.form.WideCol.{WideCol}
use Rattle.cube_val.specs.declared.val.ColType.{ColType}
use Rattle.cube_val.specs.declared.val.ColType.TheVariants as ty
use Rattle.cube_val.specs.declared.val.Val.{Val}
use Rattle.cube_val.specs.declared.val.Val.TheVariants as val
use Rattle.cube_val.specs.Values.{FitsType}
use Rattle.layer_builder.specs.Base.{item_of, number_in}
use Rattle.measure_laws.specs.declared.kinds.ItemKind.{ItemKind}
use Rattle.measure_laws.specs.declared.kinds.ItemKind.TheVariants.{Rows, Values, Numbers, Ids}
use Rattle.measure_laws.specs.Kinds.{are_ids, item_kind}
use Rattle.step_codec.specs.Bodies.{is_in}
use Rattle.step_codec.specs.Tables.{TableShape}
use Rattle.step_fields.specs.Fits.{FitsColumn}
use Rattle.step_fields.specs.declared.column.Column.{Column}
use Rattle.step_files.specs.Cubes.{column_at, columns_in, flat_columns, no_column, no_table, table_of, tables_of}
use Rattle.step_task.proofs.FlatFits.{all_dropped, tables_at}
use Rattle.step_task.proofs.NumberFits.{number_below}

-- ---- the column of a measure

-- the place of the first column that is found, and what stands there
abbrev FoundAt : ℕ → List WideCol → Type 0
FoundAt n ws = (position_or_len (is_column n) ws < length ws) × ((d : WideCol) → (get_or ws (position_or_len (is_column n) ws) d).column ≡ n)

found_at : (n : ℕ) (ws : List WideCol) → list_any (is_column n) ws ≡ true → FoundAt n ws
found_at n [] e = absurd cc
found_at n (w ∷ ws) e = by (w.column == n) refl e (found_at n ws)
  where
    by : (b : Bool) → (w.column == n) ≡ b → (b || list_any (is_column n) ws) ≡ true → (list_any (is_column n) ws ≡ true → FoundAt n ws)
        → (cond (not b) (1 + prefix_len (λ v. not (is_column n v)) ws) 0 < length (w ∷ ws)) × ((d : WideCol) → (get_or (w ∷ ws) (cond (not b) (1 + prefix_len (λ v. not (is_column n v)) ws) 0) d).column ≡ n)
    by true is e more = (omega arith, λ d. eqb-true w.column n is)
    by false is e more =
        let rest = more e in
        let next : 1 + position_or_len (is_column n) ws ≡ suc (position_or_len (is_column n) ws) = omega arith in
        (omega (arith, rest.0), λ d. ap (λ k. (get_or (w ∷ ws) k d).column) next ∙ rest.1 d)

at_behind : {X : Type 0} (xs ys : List X) (i : ℕ) (d : X) → get_or (xs ++ ys) (length xs + i) d ≡ get_or ys i d
at_behind [] ys i d = let same : 0 + i ≡ i = omega arith in ap (λ k. get_or ys k d) same
at_behind (x ∷ xs) ys i d = let same : suc (length xs) + i ≡ suc (length xs + i) = omega arith in ap (λ k. get_or (x ∷ (xs ++ ys)) k d) same ∙ at_behind xs ys i d

mapped_or : {X Y : Type 0} (f : X → Y) (xs : List X) (i : ℕ) (d : X) (e : Y) → i < length xs → get_or (map f xs) i e ≡ f (get_or xs i d)
mapped_or f [] i d e lt = absurd (omega arith)
mapped_or f (x ∷ xs) zero d e lt = refl
mapped_or f (x ∷ xs) (suc i) d e lt = mapped_or f xs i d e (omega arith)

-- a column of a table that is there, with its mark
marked_at : (cols : List ColDesc) (mark : ℕ → Bool) (a i : ℕ) → i < length cols → (d : ColDesc)
    → get_or (columns_in cols (map mark (range_with_len a (length cols)))) i no_column ≡ record { ty = (get_or cols i d).ty; no_null = mark (a + i) }
marked_at [] mark a i lt d = absurd (omega arith)
marked_at (c ∷ cols) mark a zero lt d = let same : a ≡ a + 0 = omega arith in ap (λ k. let column : Column = record { ty = c.ty; no_null = mark k } in column) same
marked_at (c ∷ cols) mark a (suc i) lt d = marked_at cols mark (a + 1) i (omega arith) d ∙ (let same : a + 1 + i ≡ a + suc i = omega arith in ap (λ k. let column : Column = record { ty = (get_or cols i d).ty; no_null = mark k } in column) same)

-- a column of the fact table that isn't there has no type
abbrev fact_cols : Cube → List ColDesc
fact_cols c = columns_at c.tables 0

-- what is asked of the type of a measured column
abbrev TakesNumbers : ItemKind → ColType → Type 0
TakesNumbers Numbers t = (t ≡ ty.Int) ⊎ (t ≡ ty.Decimal)
TakesNumbers k t = Unit {0}

-- no null stands in the column, and where a measure is of numbers, they stand there
pub record IsKeptColumn (k : ItemKind) (column : Column) : Type 0 where
  pub no_null : column.no_null ≡ true
  pub numbers : TakesNumbers k column.ty

typed : (cols : List ColDesc) (k : ItemKind) (i : ℕ) (d : ColDesc) → i < length cols → HasItems cols k i → TakesNumbers k (get_or cols i d).ty
typed cols Rows i d lt h = tt
typed cols Values i d lt h = tt
typed cols Ids i d lt h = tt
typed cols Numbers i d lt h = by h
  where
    at : type_at cols i ≡ Some (get_or cols i d).ty
    at = ap (option_map (λ (col : ColDesc). col.ty)) (slice_get-get_or cols i d lt)

    by : IsOfNumbers cols i → TakesNumbers Numbers (get_or cols i d).ty
    by (inl e) = let some : Some (get_or cols i d).ty ≡ Some ty.Int = sym at ∙ e in inl cc
    by (inr e) = let some : Some (get_or cols i d).ty ≡ Some ty.Decimal = sym at ∙ e in inr cc

all_get : {X : Type 0} (P : X → Type 0) (xs : List X) (i : ℕ) (d : X) → AllByRecursion P xs → i < length xs → P (get_or xs i d)
all_get P [] i d all lt = absurd (omega arith)
all_get P (x ∷ xs) zero d all lt = all.0
all_get P (x ∷ xs) (suc i) d all lt = all_get P xs i d all.1 (omega arith)

abbrev none : ColDesc
none = record { name = []; ty = ty.Int }

module _ (c : Cube) (s : IsSound c) (k : Kept) (own : IsKept c k) where
  abbrev i : ℕ
  i = own.column

  abbrev at_place : ℕ
  at_place = position_or_len (is_column i) (measured c)

  found : (at_place < length (measured c)) × ((d : WideCol) → (get_or (measured c) at_place d).column ≡ i)
  found = found_at i (measured c) (measured_is c s i ∙ own.measured)

  -- the column stands at its place among the measured ones
  wide_is : get_or (measured c) at_place (wide_fact 0) ≡ wide_fact i
  wide_is =
      let ns = measured_columns c.measures in
      let size : length (measured c) ≡ length ns = ap length (measured_are c s) ∙ length-map ns wide_fact in
      let here : get_or (measured c) at_place (wide_fact 0) ≡ wide_fact (get_or ns at_place 0) = ap (λ (l : List WideCol). get_or l at_place (wide_fact 0)) (measured_are c s) ∙ mapped_or wide_fact ns at_place 0 (wide_fact 0) (omega (arith, found.0, size)) in
      let column : get_or ns at_place 0 ≡ i = sym (ap (λ (w : WideCol). w.column) here) ∙ found.1 (wide_fact 0) in
      here ∙ ap wide_fact column

  there : i < length (fact_cols c)
  there =
      let all = all_dropped (IsThere c.tables) (length c.rowkey + length c.derived) c.plan.wide (recursion_from_All (IsThere c.tables) c.plan.wide s.there) in
      (subst (IsThere c.tables) wide_is (all_get (IsThere c.tables) (measured c) at_place (wide_fact 0) all found.0)).1

  column_is : get_or (flat_columns c) (place_of c k.column) no_column ≡ record { ty = (get_or (fact_cols c) i none).ty; no_null = is_measured c i }
  unfolding flat_columns
  column_is =
      let f : WideCol → Column = column_at (tables_of c) in
      let keys : length (map f c.rowkey) ≡ length c.rowkey = length-map c.rowkey f in
      let place : place_of c k.column ≡ length (map f c.rowkey) + at_place = ap (place_of c) own.is ∙ ap (λ n. n + at_place) (sym keys) in
      let table : get_or (tables_of c) 0 no_table ≡ table_of c 0 = tables_at c 0 (omega (arith, s.tables)) in
      let marked = marked_at (fact_cols c) (no_null_at c 0) 0 i there none in
      let same : 0 + i ≡ i = omega arith in
      ap (λ n. get_or (map f c.rowkey ++ map f (measured c)) n no_column) place
      ∙ at_behind (map f c.rowkey) (map f (measured c)) at_place no_column
      ∙ mapped_or f (measured c) at_place (wide_fact 0) no_column found.0
      ∙ ap f wide_is
      ∙ ap (λ (t : TableShape). get_or t.columns i no_column) table
      ∙ marked
      ∙ ap (λ n. let column : Column = record { ty = (get_or (fact_cols c) i none).ty; no_null = is_measured c n } in column) same

  pub kept_column : IsKeptColumn (item_kind k.form) (get_or (flat_columns c) (place_of c k.column) no_column)
  kept_column =
      subst (IsKeptColumn (item_kind k.form)) (sym column_is)
      (record { no_null = own.measured; numbers = typed (fact_cols c) (item_kind k.form) i none there own.items })

-- ---- the item of a value

pub no_nulls : (column : Column) (v : Val) → column.no_null ≡ true → FitsColumn column v → v ≡ val.Null → ⊥
no_nulls column v e h = h.no_null (subst (λ (b : Bool). IsTrue b) (sym e) refl)

no_text : (t : ColType) (text : List ℕ) → (t ≡ ty.Int) ⊎ (t ≡ ty.Decimal) → FitsType t (val.Text text) → ⊥
no_text t text (inl e) h = subst (λ (u : ColType). FitsType u (val.Text text)) e h
no_text t text (inr e) h = subst (λ (u : ColType). FitsType u (val.Text text)) e h

-- what a measure takes of a value of its column, with a dictionary of so many values where it is of ids
pub record TakesItem (k : ItemKind) (dict : List Val) (v : Val) : Type 0 where
  pub item : RowItem
  pub is : item_of k dict v ≡ Some item
  pub number : FitsSigned w64 item.number
  pub id : are_ids k ≡ true → FitsId (length dict) item.id

zero_fits : FitsSigned w64 (pos 0)
zero_fits = record { sfits = omega arith }

pub kept_item : (k : ItemKind) (column : Column) (dict : List Val) (v : Val) → IsKeptColumn k column → FitsColumn column v → (are_ids k ≡ true → is_in dict v ≡ true) → length dict < 2 ^ 32 → TakesItem k dict v
kept_item Rows column dict v kept fits held small = record { item = record { number = pos 0; id = 0 }; is = refl; number = zero_fits; id = λ e. absurd cc }
kept_item Values column dict val.Null kept fits held small = absurd (no_nulls column val.Null kept.no_null fits refl)
kept_item Values column dict (val.Int n) kept fits held small = record { item = record { number = pos 0; id = 0 }; is = refl; number = zero_fits; id = λ e. absurd cc }
kept_item Values column dict (val.Text t) kept fits held small = record { item = record { number = pos 0; id = 0 }; is = refl; number = zero_fits; id = λ e. absurd cc }
kept_item Numbers column dict val.Null kept fits held small = absurd (no_nulls column val.Null kept.no_null fits refl)
kept_item Numbers column dict (val.Int n) kept fits held small = record { item = record { number = n; id = 0 }; is = refl; number = fits.is_value; id = λ e. absurd cc }
kept_item Numbers column dict (val.Text t) kept fits held small = absurd (no_text column.ty t kept.numbers fits.of_type)
kept_item Ids column dict val.Null kept fits held small = absurd (no_nulls column val.Null kept.no_null fits refl)
kept_item Ids column dict (val.Int n) kept fits held small =
    let below = number_below dict (val.Int n) (held refl) in
    record { item = record { number = pos 0; id = number_in dict (val.Int n) }; is = refl; number = zero_fits; id = λ e. (below, omega (arith, below, small)) }
kept_item Ids column dict (val.Text t) kept fits held small =
    let below = number_below dict (val.Text t) (held refl) in
    record { item = record { number = pos 0; id = number_in dict (val.Text t) }; is = refl; number = zero_fits; id = λ e. (below, omega (arith, below, small)) }
