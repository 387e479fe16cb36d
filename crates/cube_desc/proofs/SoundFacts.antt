-- A cube's numbers are those of things that are there.
use Rattle.std.proofs.Common.{◌≡◌, ◌<◌, ◌≤◌, inl, inr, ℕ, zero, suc, List, [], ◌∷◌, ◌++◌, length, map, Option, Some, None, Bool, true, false, refl, sym, ap, subst, ◌∙◌, arith}
use mathlib.Core.Bool.{true≢false}
use Rattle.std.specs.Prelude.{◌||◌, ◌&&◌, ◌==◌, not, nat_lt, nat_le, unwrap_or, slice_get, bytes_eq, codes, Contains, All, option_map, option_to_list, zip, if◌then◌else◌}
use Rattle.std.specs.Result.{result_ok}
use Rattle.std.specs.List.{AllByRecursion, flat_map, list_all, list_any, position}
use Rattle.std.proofs.lemmas.Bool.{eqb-true, leb-true}
use Rattle.std.proofs.lemmas.List.{length-map}
use Rattle.std.proofs.lemmas.List.Elements.{All-from_recursion}
use Rattle.std.proofs.lemmas.List.Folds.{flat_map-map}
use Rattle.std.proofs.lemmas.Option.{get_or_from_slice_get, slice_get-map, slice_get_within}
use Rattle.cube_val.specs.declared.val.ColType.TheVariants as ty
use Rattle.cube_val.specs.declared.form.ColDesc.{ColDesc}
use Rattle.cube_val.specs.declared.form.WideCol.{WideCol}
use Rattle.cube_val.specs.declared.form.JoinStep.{JoinStep}
use Rattle.measure_laws.specs.declared.kinds.ItemKind.{ItemKind}
use Rattle.measure_laws.specs.declared.kinds.ItemKind.TheVariants.{Rows, Values, Numbers, Ids}
use Rattle.measure_laws.specs.declared.measure.MeasureForm.{MeasureForm}
use Rattle.measure_laws.specs.declared.measure.MeasureForm.TheVariants as form
use Rattle.measure_laws.specs.Kinds.{form_of_word, item_kind}
use Rattle.descriptor_json.specs.Bytes.{Shaped, no_json, wrong_at, shaped, shape_of}
use Rattle.descriptor_json.specs.declared.raw.RawName.{RawName}
use Rattle.descriptor_json.specs.declared.raw.RawColumn.{RawColumn}
use Rattle.descriptor_json.specs.declared.raw.RawLookup.{RawLookup}
use Rattle.descriptor_json.specs.declared.raw.RawNamed.{RawNamed}
use Rattle.descriptor_json.specs.declared.raw.RawNamed.TheVariants.{Column, Derived}
use Rattle.descriptor_json.specs.declared.raw.RawDimension.{RawDimension}
use Rattle.descriptor_json.specs.declared.raw.RawMeasure.{RawMeasure}
use Rattle.descriptor_json.specs.declared.raw.RawDesc.{RawDesc}
use Rattle.desc_checks.specs.Firsts.{first, unless, along, is_among}
use Rattle.desc_checks.specs.Groups.{of_group}
use Rattle.desc_checks.specs.Limits.{is_some_up_to, table_too_many, too_many}
use Rattle.desc_checks.specs.Names.{bad_names, column_part, names_column, table_part}
use Rattle.desc_checks.specs.Repeats.{twice}
use Rattle.desc_checks.specs.Types.{bad_types, is_date_type, is_number_type, kind_of, type_of}
use Rattle.desc_checks.specs.Tables.{columns_of, fact_columns, has_table, is_joined, no_table, no_tables, lookup_no_table, dimension_no_table, text_no_table}
use Rattle.desc_checks.specs.Columns.{has_column, no_column, no_columns, lookup_no_column, named_no_column, dimension_no_column, takes_column, measure_no_column, text_no_column}
use Rattle.desc_checks.specs.Joins.{are_pairs, bad_join, bad_joins, bad_partition, is_join, is_join_kind, is_pair}
use Rattle.desc_checks.specs.Dimensions.{bad_dimension, bad_dimensions, bad_rowkey, dimension_bad_rowkey, foreign_key, has_rowkey, in_rowkey, is_derivable, text_bad_rowkey, the_foreign}
use Rattle.desc_checks.specs.Measures.{bad_measure, bad_measures, function_of, is_applied, is_measure, takes_parameter}
use Rattle.desc_checks.specs.Faults.{each, faults, faults_of_texts, faults_of_names, faults_of_uses}
use Rattle.desc_checks.specs.declared.kind.DescFault.{DescFault}
use Rattle.desc_checks.specs.declared.kind.DescKind.TheVariants as kind
use Rattle.cube_desc.specs.declared.desc.DerivedDesc.{DerivedDesc}
use Rattle.cube_desc.specs.Cube.{Cube}
use Rattle.cube_desc.specs.Forms.{cols_of}
use Rattle.cube_desc.specs.Groups.{bad_group, bad_groups, groups_of, masks_of, rules_of, too_many_cuboids}
use Rattle.agg_group.specs.Limits.{most_dimensions, most_cuboids}
use Rattle.agg_group.specs.Built.{AreOf, built_masks}
use Rattle.cube_desc.specs.Meaning.{all_faults, described, judged}
use Rattle.cube_desc.specs.Resolve.{column_of, column_place, cube_of, derived_column, derived_named, derived_of, dimension_derived, firsts, form_named, join_of, lookup_of, lookup_place, measure_columns, measure_of, measured_column, measures_of, rowkey_column, rowkey_of, table_number, tables_of, type_named, wide_columns, wide_derived, wide_fact, wide_of}
use Rattle.cube_desc.specs.Sound.{DescriptorsAreSound, IsDerivedOf, IsJoinOf, IsMeasureOf, IsOfItems, IsOfNumbers, IsSound, IsThere, columns_at, foreign_of, measured_columns, type_at}
use Rattle.cube_desc.proofs.GroupLemmas.{are_of, groups_sound}
use Rattle.cube_desc.proofs.Passed.{both, none_both, none_each, none_unless, up_to}
use Rattle.cube_desc.proofs.SeekFacts.{all_append, all_both, all_flat_map, all_map, either, flat_map-inside, found, is_itself, none_all, not_true, of_five, of_three, other_text, same_text}

-- ---- columns

abbrev cols : List RawColumn → List ColDesc
cols cs = map column_of cs

abbrev named : List ℕ → RawColumn → Bool
named name c = bytes_eq c.name.text name

-- a column that is there stands at its place, with the type that is written
type_found : (cs : List RawColumn) (name : List ℕ) → has_column cs name ≡ true → type_at (cols cs) (column_place cs name) ≡ Some (type_named (type_of cs name))
type_found cs name h =
    let s = found (named name) cs h in
    ap (option_map (λ (c : ColDesc). c.ty)) (slice_get-map column_of cs (column_place cs name) ∙ ap (option_map column_of) s.2)
    ∙ ap (λ (o : Option RawColumn). Some (type_named (kind_of o))) (sym s.1)

place_below : (cs : List RawColumn) (name : List ℕ) → has_column cs name ≡ true → column_place cs name < length (cols cs)
place_below cs name h =
    let s = found (named name) cs h in
    let below = slice_get_within cs (column_place cs name) s.0 s.2 in
    let same = length-map cs column_of in
    omega arith

places_below : (cs : List RawColumn) (ts : List RawName) → AllByRecursion (λ t. first (no_column cs t) ≡ None) ts
    → AllByRecursion (λ i. i < length (cols cs)) (map (λ t. column_place cs t.text) ts)
places_below cs [] a = tt
places_below cs (t ∷ ts) a = (place_below cs t.text (none_unless (has_column cs t.text) t.place a.0), places_below cs ts a.1)

-- ---- tables

abbrev looked : List ℕ → RawLookup → Bool
looked name l = bytes_eq l.table.text name

abbrev IsTableOf : RawDesc → List ℕ → ℕ → Type 0
IsTableOf r name t = (t < length (tables_of r)) × (columns_at (tables_of r) t ≡ cols (columns_of r name))

table_case : (r : RawDesc) (name : List ℕ) (b : Bool) → bytes_eq r.fact_table.text name ≡ b → (b || list_any (looked name) r.lookups.items) ≡ true
    → IsTableOf r name (if b then 0 else suc (lookup_place r name))
table_case r name true same e = (omega arith, ap (λ (n : List ℕ). cols (columns_of r n)) (same_text r.fact_table.text name same))
table_case r name false same e =
    let s = found (looked name) r.lookups.items e in
    let below = slice_get_within r.lookups.items (lookup_place r name) s.0 s.2 in
    let count = length-map r.lookups.items (lookup_of r) in
    let here = slice_get-map (lookup_of r) r.lookups.items (lookup_place r name) ∙ ap (option_map (lookup_of r)) s.2 in
    (omega arith, ap cols_of here ∙ ap (λ (n : List ℕ). cols (columns_of r n)) (same_text s.0.table.text name s.3))

table_there : (r : RawDesc) (name : List ℕ) → is_joined r name ≡ true → IsTableOf r name (table_number r name)
table_there r name j = table_case r name (bytes_eq r.fact_table.text name) refl j

-- a column of a table that is named stands where its numbers say
wide_there : (r : RawDesc) (t c : List ℕ) → is_joined r t ≡ true → has_column (columns_of r t) c ≡ true → IsThere (tables_of r) (wide_of r t c)
wide_there r t c j h =
    let a = table_there r t j in
    (a.0, subst (λ (xs : List ColDesc). column_place (columns_of r t) c < length xs) (sym a.1) (place_below (columns_of r t) c h))

joined_of : (r : RawDesc) (name : List ℕ) → (has_table r name && is_joined r name) ≡ true → is_joined r name ≡ true
joined_of r name e = (both (has_table r name) (is_joined r name) e).1

-- ---- joins

pair_types : (fact lookup : List RawColumn) (ps fs : List RawName) → length ps ≡ length fs → list_all (is_pair lookup fact) (zip ps fs) ≡ true
    → AllByRecursion (λ t. first (no_column lookup t) ≡ None) ps → AllByRecursion (λ t. first (no_column fact t) ≡ None) fs
    → map (type_at (cols fact)) (map (λ t. column_place fact t.text) fs) ≡ map (type_at (cols lookup)) (map (λ t. column_place lookup t.text) ps)
pair_types fact lookup [] [] n e a b = refl
pair_types fact lookup [] (f ∷ fs) n e a b = absurd (omega arith)
pair_types fact lookup (p ∷ ps) [] n e a b = absurd (omega arith)
pair_types fact lookup (p ∷ ps) (f ∷ fs) n e a b =
    let t = both (is_pair lookup fact (p, f)) (list_all (is_pair lookup fact) (zip ps fs)) e in
    let same = same_text (type_of lookup p.text) (type_of fact f.text) t.0 in
    let of_fact = type_found fact f.text (none_unless (has_column fact f.text) f.place b.0) in
    let of_lookup = type_found lookup p.text (none_unless (has_column lookup p.text) p.place a.0) in
    let head : type_at (cols fact) (column_place fact f.text) ≡ type_at (cols lookup) (column_place lookup p.text) = of_fact ∙ ap (λ (k : List ℕ). Some (type_named k)) (sym same) ∙ sym of_lookup in
    let rest = pair_types fact lookup ps fs (omega arith) t.1 a.1 b.1 in
    λ i. head i ∷ rest i

join_sound : (r : RawDesc) (l : RawLookup) → first (bad_join r l) ≡ None → first (lookup_no_column r l) ≡ None → IsJoinOf (cols (fact_columns r)) (cols (columns_of r l.table.text)) (join_of r l)
join_sound r l bad missing =
    let fact = fact_columns r in
    let lookup = columns_of r l.table.text in
    let ps = l.join.primary in
    let fs = l.join.foreign in
    let passes = (both (is_join_kind l.join.kind.text) (are_pairs lookup fact l.join) (none_unless (is_join r l) l.join.place bad)).1 in
    let pairs = both (is_some_up_to 4 (length ps) && (length ps == length fs)) (list_all (is_pair lookup fact) (zip ps fs)) passes in
    let counts = both (is_some_up_to 4 (length ps)) (length ps == length fs) pairs.0 in
    let few = up_to 4 (length ps) counts.0 in
    let same = eqb-true (length ps) (length fs) counts.1 in
    let columns = none_both (flat_map (no_column lookup) ps) (flat_map (no_column fact) fs) missing in
    let of_lookup = none_all (no_column lookup) ps columns.0 in
    let of_fact = none_all (no_column fact) fs columns.1 in
    let many = length-map ps (λ t. column_place lookup t.text) in
    let as_many = length-map fs (λ t. column_place fact t.text) in
    record {
      pairs = as_many ∙ sym same ∙ sym many;
      some = omega arith;
      few = omega arith;
      foreign = All-from_recursion (λ i. i < length (cols fact)) (map (λ t. column_place fact t.text) fs) (places_below fact fs of_fact);
      primary = All-from_recursion (λ i. i < length (cols lookup)) (map (λ t. column_place lookup t.text) ps) (places_below lookup ps of_lookup);
      types = pair_types fact lookup ps fs same pairs.1 of_lookup of_fact;
    }

joins_sound : (r : RawDesc) (ls : List RawLookup) → AllByRecursion (λ l. first (bad_join r l) ≡ None) ls → AllByRecursion (λ l. first (lookup_no_column r l) ≡ None) ls
    → (i : ℕ) (j : JoinStep) → slice_get (map (join_of r) ls) i ≡ Some j → IsJoinOf (cols (fact_columns r)) (cols_of (slice_get (map (lookup_of r) ls) i)) j
joins_sound r [] a b i j e = cc e
joins_sound r (l ∷ ls) a b zero j e =
    let same : join_of r l ≡ j = cc e in
    subst (λ (x : JoinStep). IsJoinOf (cols (fact_columns r)) (cols (columns_of r l.table.text)) x) same (join_sound r l a.0 b.0)
joins_sound r (l ∷ ls) a b (suc i) j e = joins_sound r ls a.1 b.1 i j e

partition_sound : (r : RawDesc) → first (no_column (fact_columns r) r.partition) ≡ None → first (bad_partition r) ≡ None
    → type_at (cols (fact_columns r)) (column_place (fact_columns r) r.partition.text) ≡ Some ty.Date
partition_sound r missing bad =
    let there = none_unless (has_column (fact_columns r) r.partition.text) r.partition.place missing in
    let date = same_text (type_of (fact_columns r) r.partition.text) (codes "date") (none_unless (is_date_type (type_of (fact_columns r) r.partition.text)) r.partition.place bad) in
    type_found (fact_columns r) r.partition.text there ∙ ap (λ (k : List ℕ). Some (type_named k)) date

-- ---- the rowkey

text_there : (r : RawDesc) (t : RawName) → first (text_no_table r t) ≡ None → first (text_no_column r t) ≡ None → IsThere (tables_of r) (rowkey_column r t)
text_there r t a b =
    wide_there r (table_part t.text) (column_part t.text)
    (joined_of r (table_part t.text) (none_unless (has_table r (table_part t.text) && is_joined r (table_part t.text)) t.place a))
    (none_unless (has_column (columns_of r (table_part t.text)) (column_part t.text)) t.place b)

rowkey_there : (r : RawDesc) (ts : List RawName) → AllByRecursion (λ t. first (text_no_table r t) ≡ None) ts → AllByRecursion (λ t. first (text_no_column r t) ≡ None) ts
    → AllByRecursion (IsThere (tables_of r)) (map (rowkey_column r) ts)
rowkey_there r [] a b = tt
rowkey_there r (t ∷ ts) a b = (text_there r t a.0 b.0, rowkey_there r ts a.1 b.1)

-- ---- derived columns

fact_number : (r : RawDesc) → table_number r r.fact_table.text ≡ 0
fact_number r = ap (λ (b : Bool). if b then 0 else suc (lookup_place r r.fact_table.text)) (is_itself r.fact_table.text)

-- a column of the fact table that a text of the rowkey names is in the rowkey
key_there : (r : RawDesc) (ts : List RawName) (f : List ℕ) → list_any (λ t. names_column t.text r.fact_table.text f) ts ≡ true
    → Contains (map (rowkey_column r) ts) (wide_fact (column_place (fact_columns r) f))
key_there r ts f e =
    let p : RawName → Bool = λ t. names_column t.text r.fact_table.text f in
    let s = found p ts e in
    let place = unwrap_or (position p ts) 0 in
    let below = slice_get_within ts place s.0 s.2 in
    let names = both (bytes_eq (table_part s.0.text) r.fact_table.text) (bytes_eq (column_part s.0.text) f) s.3 in
    let table = same_text (table_part s.0.text) r.fact_table.text names.0 in
    let column = same_text (column_part s.0.text) f names.1 in
    let same : rowkey_column r s.0 ≡ wide_fact (column_place (fact_columns r) f) =
    ap (λ (t : List ℕ). wide_of r t (column_part s.0.text)) table ∙ ap (λ (c : List ℕ). wide_of r r.fact_table.text c) column
    ∙ ap (λ (n : ℕ). let w : WideCol = record { table = n; column = column_place (fact_columns r) f } in w) (fact_number r) in
    let here = slice_get-map (rowkey_column r) ts place ∙ ap (option_map (rowkey_column r)) s.2 ∙ ap Some same in
    let count = length-map ts (rowkey_column r) in
    (place, omega arith, get_or_from_slice_get (map (rowkey_column r) ts) place (wide_fact (column_place (fact_columns r) f)) (wide_fact (column_place (fact_columns r) f)) here)

keys_there : (r : RawDesc) (fs : List RawName) → list_all (λ f. in_rowkey r r.fact_table.text f.text) fs ≡ true
    → AllByRecursion (λ i. Contains (rowkey_of r) (wide_fact i)) (map (λ t. column_place (fact_columns r) t.text) fs)
keys_there r [] e = tt
keys_there r (f ∷ fs) e =
    let t = both (in_rowkey r r.fact_table.text f.text) (list_all (λ g. in_rowkey r r.fact_table.text g.text) fs) e in
    (key_there r r.rowkey.items f.text t.0, keys_there r fs t.1)

lookup_number : (r : RawDesc) (name : List ℕ) → bytes_eq name r.fact_table.text ≡ false → table_number r name ≡ suc (lookup_place r name)
lookup_number r name e = ap (λ (b : Bool). if b then 0 else suc (lookup_place r name)) (other_text name r.fact_table.text e)

among_lookups : (r : RawDesc) (name : List ℕ) → bytes_eq name r.fact_table.text ≡ false → is_joined r name ≡ true → list_any (looked name) r.lookups.items ≡ true
among_lookups r name e j = subst (λ (b : Bool). (b || list_any (looked name) r.lookups.items) ≡ true) (other_text name r.fact_table.text e) j

derived_there : (r : RawDesc) (table t : RawName) → bytes_eq table.text r.fact_table.text ≡ false → is_joined r table.text ≡ true
    → has_column (columns_of r table.text) t.text ≡ true → IsThere (tables_of r) (wide_derived (derived_column r table.text t))
derived_there r table t other j h =
    let same : wide_of r table.text t.text ≡ wide_derived (derived_column r table.text t) =
    ap (λ (n : ℕ). let w : WideCol = record { table = n; column = column_place (columns_of r table.text) t.text } in w) (lookup_number r table.text other) in
    subst (λ (w : WideCol). IsThere (tables_of r) w) same (wide_there r table.text t.text j h)

-- the foreign key of a lookup with derived columns is in the rowkey
derived_keyed : (r : RawDesc) (table : RawName) → bytes_eq table.text r.fact_table.text ≡ false → is_joined r table.text ≡ true
    → list_all (λ f. in_rowkey r r.fact_table.text f.text) (foreign_key r table.text) ≡ true
    → All (λ i. Contains (rowkey_of r) (wide_fact i)) (foreign_of (slice_get (map (join_of r) r.lookups.items) (lookup_place r table.text)))
derived_keyed r table other j e =
    let s = found (looked table.text) r.lookups.items (among_lookups r table.text other j) in
    let here = slice_get-map (join_of r) r.lookups.items (lookup_place r table.text) ∙ ap (option_map (join_of r)) s.2 in
    let keys = subst (λ (o : Option RawLookup). list_all (λ f. in_rowkey r r.fact_table.text f.text) (the_foreign o) ≡ true) s.1 e in
    let all = keys_there r s.0.join.foreign keys in
    subst (λ (o : Option JoinStep). All (λ i. Contains (rowkey_of r) (wide_fact i)) (foreign_of o)) (sym here)
    (All-from_recursion (λ i. Contains (rowkey_of r) (wide_fact i)) (map (λ t. column_place (fact_columns r) t.text) s.0.join.foreign) all)

all_derived : (r : RawDesc) (table : RawName) (ts : List RawName) → bytes_eq table.text r.fact_table.text ≡ false → is_joined r table.text ≡ true
    → AllByRecursion (λ t. first (no_column (columns_of r table.text) t) ≡ None) ts
    → list_all (λ f. in_rowkey r r.fact_table.text f.text) (foreign_key r table.text) ≡ true
    → AllByRecursion (IsDerivedOf (cube_of r)) (map (derived_column r table.text) ts)
all_derived r table [] other j a e = tt
all_derived r table (t ∷ ts) other j a e = (
  record { there = derived_there r table t other j (none_unless (has_column (columns_of r table.text) t.text) t.place a.0); keyed = derived_keyed r table other j e },
  all_derived r table ts other j a.1 e,
)

named_sound : (r : RawDesc) (table : RawName) (n : RawNamed) → is_joined r table.text ≡ true → first (named_no_column (columns_of r table.text) n) ≡ None
    → is_derivable r table n ≡ true → has_rowkey r table n ≡ true → AllByRecursion (IsDerivedOf (cube_of r)) (derived_named r table.text n)
named_sound r table (Column t) j a b e = tt
named_sound r table (Derived ts) j a b e =
    let other = not_true (bytes_eq table.text r.fact_table.text) (both (not (bytes_eq table.text r.fact_table.text)) (nat_lt 0 (length ts)) b).0 in
    all_derived r table ts other j (none_all (no_column (columns_of r table.text)) ts a) e

dimension_sound : (r : RawDesc) (d : RawDimension) → first (dimension_no_table r d) ≡ None → first (dimension_no_column r d) ≡ None
    → first (bad_dimension r d) ≡ None → first (dimension_bad_rowkey r d) ≡ None → AllByRecursion (IsDerivedOf (cube_of r)) (dimension_derived r d)
dimension_sound r d a b c e =
    named_sound r d.table d.named (joined_of r d.table.text (none_unless (has_table r d.table.text && is_joined r d.table.text) d.table.place a)) b
    (none_unless (is_derivable r d.table d.named) d.place c) (none_unless (has_rowkey r d.table d.named) d.place e)

dimensions_sound : (r : RawDesc) (ds : List RawDimension) → AllByRecursion (λ d. first (dimension_no_table r d) ≡ None) ds → AllByRecursion (λ d. first (dimension_no_column r d) ≡ None) ds
    → AllByRecursion (λ d. first (bad_dimension r d) ≡ None) ds → AllByRecursion (λ d. first (dimension_bad_rowkey r d) ≡ None) ds
    → AllByRecursion (λ d. AllByRecursion (IsDerivedOf (cube_of r)) (dimension_derived r d)) ds
dimensions_sound r [] a b c e = tt
dimensions_sound r (d ∷ ds) a b c e = (dimension_sound r d a.0 b.0 c.0 e.0, dimensions_sound r ds a.1 b.1 c.1 e.1)

-- ---- measures

rows_sound : (cs : List ColDesc) (i : ℕ) (k : List ℕ) → k ≡ codes "constant" → IsOfItems cs Rows (if bytes_eq k (codes "column") then Some i else None)
rows_sound cs i k hk = subst (λ (x : List ℕ). IsOfItems cs Rows (if bytes_eq x (codes "column") then Some i else None)) (sym hk) tt

number_type : (cs : List ColDesc) (i : ℕ) (k : List ℕ) → type_at cs i ≡ Some (type_named k) → is_number_type k ≡ true → IsOfNumbers cs i
number_type cs i k at h =
    elim (either (bytes_eq k (codes "int")) (bytes_eq k (codes "decimal")) h) [
      | inl t ↦ inl (at ∙ ap (λ (x : List ℕ). Some (type_named x)) (same_text k (codes "int") t))
      | inr t ↦ inr (at ∙ ap (λ (x : List ℕ). Some (type_named x)) (same_text k (codes "decimal") t))
    ]

-- the column of a measure that takes one
taken : (r : RawDesc) (m : RawMeasure) → takes_column m ≡ true → measured_column r m ≡ Some (column_place (fact_columns r) m.function.parameter.value.text)
taken r m h = ap (λ (b : Bool). if b then Some (column_place (fact_columns r) m.function.parameter.value.text) else None) h

column_there : (r : RawDesc) (m : RawMeasure) → takes_column m ≡ true → first (measure_no_column r m) ≡ None → has_column (fact_columns r) m.function.parameter.value.text ≡ true
column_there r m h missing =
    let passes = none_unless (not (takes_column m) || has_column (fact_columns r) m.function.parameter.value.text) m.function.parameter.value.place missing in
    subst (λ (b : Bool). (not b || has_column (fact_columns r) m.function.parameter.value.text) ≡ true) h passes

-- a measure is of what its items are of
items_sound : (r : RawDesc) (m : RawMeasure) → first (measure_no_column r m) ≡ None → (k : ItemKind) → takes_parameter r m k ≡ true
    → IsOfItems (cols (fact_columns r)) k (measured_column r m)
items_sound r m missing Rows passes =
    let name = m.function.parameter.value.text in
    let parts = both (bytes_eq m.function.parameter.kind.text (codes "constant")) (bytes_eq name (codes "1")) passes in
    rows_sound (cols (fact_columns r)) (column_place (fact_columns r) name) m.function.parameter.kind.text (same_text m.function.parameter.kind.text (codes "constant") parts.0)
items_sound r m missing Values passes = absurd (true≢false (sym passes))
items_sound r m missing Numbers passes =
    let name = m.function.parameter.value.text in
    let fact = fact_columns r in
    let parts = both (takes_column m) (is_number_type (type_of fact name)) passes in
    subst (IsOfItems (cols fact) Numbers) (sym (taken r m parts.0))
    (number_type (cols fact) (column_place fact name) (type_of fact name) (type_found fact name (column_there r m parts.0 missing)) parts.1)
items_sound r m missing Ids passes =
    subst (IsOfItems (cols (fact_columns r)) Ids) (sym (taken r m passes)) (place_below (fact_columns r) m.function.parameter.value.text (column_there r m passes missing))

measure_sound : (r : RawDesc) (m : RawMeasure) → is_measure r m ≡ true → first (measure_no_column r m) ≡ None
    → IsMeasureOf (cols (fact_columns r)) (form_named m.function.expression.text) (measured_column r m)
measure_sound r m passes missing = by (form_of_word m.function.expression.text) passes
  where
    by : (o : Option MeasureForm) → is_applied r m o ≡ true → IsMeasureOf (cols (fact_columns r)) (unwrap_or o form.Distinct) (measured_column r m)
    by None p = absurd (true≢false (sym p))
    by (Some f) p = items_sound r m missing (item_kind f) p

are_measures : (r : RawDesc) (earlier : List (List ℕ)) (ms : List RawMeasure) → first (along function_of (bad_measure r) earlier ms) ≡ None → AllByRecursion (λ m. is_measure r m ≡ true) ms
are_measures r earlier [] e = tt
are_measures r earlier (m ∷ ms) e =
    let is_new = not (is_among earlier (function_of m)) in
    let t = none_both (bad_measure r is_new m) (along function_of (bad_measure r) (function_of m ∷ earlier) ms) e in
    ((both is_new (is_measure r m) (none_unless (is_new && is_measure r m) m.place t.0)).1, are_measures r (function_of m ∷ earlier) ms t.1)

-- the columns of measures are there
abbrev AreBelow : List ColDesc → List ℕ → Type 0
AreBelow cs is = AllByRecursion (λ i. i < length cs) is

option_below : (r : RawDesc) (m : RawMeasure) (b : Bool) → takes_column m ≡ b → first (measure_no_column r m) ≡ None
    → AreBelow (cols (fact_columns r)) (option_to_list (if b then Some (column_place (fact_columns r) m.function.parameter.value.text) else None))
option_below r m true h missing = (place_below (fact_columns r) m.function.parameter.value.text (column_there r m h missing), tt)
option_below r m false h missing = tt

options_below : (r : RawDesc) (ms : List RawMeasure) → AllByRecursion (λ m. first (measure_no_column r m) ≡ None) ms
    → AreBelow (cols (fact_columns r)) (flat_map (λ m. option_to_list (measured_column r m)) ms)
options_below r [] a = tt
options_below r (m ∷ ms) a =
    all_append (λ i. i < length (cols (fact_columns r))) (option_to_list (measured_column r m)) (flat_map (λ m. option_to_list (measured_column r m)) ms)
    (option_below r m (takes_column m) refl a.0) (options_below r ms a.1)

firsts_case : (cs : List ColDesc) (b : Bool) (n : ℕ) (skipped kept : List ℕ) → n < length cs → AreBelow cs skipped → AreBelow cs kept → AreBelow cs (if b then skipped else n ∷ kept)
firsts_case cs true n skipped kept h a b = a
firsts_case cs false n skipped kept h a b = (h, b)

firsts_below : (cs : List ColDesc) (before ns : List ℕ) → AreBelow cs ns → AreBelow cs (firsts before ns)
firsts_below cs before [] a = tt
firsts_below cs before (n ∷ ns) a =
    firsts_case cs (list_any (λ b. b == n) before) n (firsts before ns) (firsts (before ++ n ∷ []) ns) a.0 (firsts_below cs before ns a.1) (firsts_below cs (before ++ n ∷ []) ns a.1)

facts_there : (r : RawDesc) (ns : List ℕ) → AreBelow (cols (fact_columns r)) ns → AllByRecursion (IsThere (tables_of r)) (map wide_fact ns)
facts_there r [] a = tt
facts_there r (n ∷ ns) a = ((omega arith, a.0), facts_there r ns a.1)

-- ---- joined rows

derived_wide : (c : Cube) (ds : List DerivedDesc) → AllByRecursion (IsDerivedOf c) ds → AllByRecursion (IsThere c.tables) (map wide_derived ds)
derived_wide c [] a = tt
derived_wide c (d ∷ ds) a = (a.0.there, derived_wide c ds a.1)

wide_is : (r : RawDesc) → wide_columns r ≡ rowkey_of r ++ map wide_derived (derived_of r) ++ map wide_fact (measured_columns (measures_of r))
wide_is r =
    let middle = flat_map-inside wide_derived (dimension_derived r) r.dimensions in
    let last : measure_columns r ≡ measured_columns (measures_of r) = ap (λ (ns : List ℕ). firsts [] ns) (sym (flat_map-map (λ m. option_to_list m.column) (measure_of r) r.measures.items)) in
    ap (λ (ws : List WideCol). rowkey_of r ++ ws ++ map wide_fact (measure_columns r)) middle
    ∙ ap (λ (ns : List ℕ). rowkey_of r ++ map wide_derived (derived_of r) ++ map wide_fact ns) last

-- ---- the cube

record Passes (r : RawDesc) : Type 0 where
  pub limits : first (too_many r) ≡ None
  pub tables : first (no_tables r) ≡ None
  pub columns : first (no_columns r) ≡ None
  pub joins : first (bad_joins r) ≡ None
  pub partition : first (bad_partition r) ≡ None
  pub dimensions : first (bad_dimensions r) ≡ None
  pub measures : first (bad_measures r) ≡ None
  pub rowkey : first (bad_rowkey r) ≡ None

passes_of : (r : RawDesc) → first (faults r) ≡ None → Passes r
passes_of r e =
    let all = of_three (faults_of_texts r) (faults_of_names r) (faults_of_uses r) e in
    let texts = of_three (each kind.TooMany (too_many r)) (each kind.BadName (bad_names r)) (each kind.Twice (twice r)) all.0 in
    let names = of_three (each kind.BadType (bad_types r)) (each kind.NoTable (no_tables r)) (each kind.NoColumn (no_columns r)) all.1 in
    let uses = of_five (each kind.BadJoin (bad_joins r)) (each kind.BadPartition (bad_partition r)) (each kind.BadDimension (bad_dimensions r)) (each kind.BadMeasure (bad_measures r)) (each kind.BadRowkey (bad_rowkey r)) all.2 in
    record {
      limits = none_each kind.TooMany (too_many r) texts.0;
      tables = none_each kind.NoTable (no_tables r) names.1;
      columns = none_each kind.NoColumn (no_columns r) names.2;
      joins = none_each kind.BadJoin (bad_joins r) uses.0;
      partition = none_each kind.BadPartition (bad_partition r) uses.1;
      dimensions = none_each kind.BadDimension (bad_dimensions r) uses.2;
      measures = none_each kind.BadMeasure (bad_measures r) uses.3;
      rowkey = none_each kind.BadRowkey (bad_rowkey r) uses.4;
    }

of_six : {A : Type 0} (a b c d x y : List A) → first (a ++ b ++ c ++ d ++ x ++ y) ≡ None
    → (first a ≡ None) × (first b ≡ None) × (first c ≡ None) × (first d ≡ None) × (first x ≡ None)
of_six a b c d x y e = of_five a b c d x (none_both (a ++ b ++ c ++ d ++ x) y e).0

sound_of : (r : RawDesc) → first (faults r) ≡ None → first (bad_groups r) ≡ None → first (too_many_cuboids r) ≡ None → IsSound (cube_of r)
sound_of r e grouped many =
    let p = passes_of r e in
    let limits = of_five (flat_map table_too_many r.tables) (unless (nat_le (length r.lookups.items) 8) r.lookups.place) (unless (nat_le (length r.measures.items) 16) r.measures.place) (unless (is_some_up_to most_dimensions (length r.rowkey.items)) r.rowkey.place) (unless (nat_le (length r.groups.items) 8) r.groups.place) p.limits in
    let tables = of_five (no_table r r.fact_table) (flat_map (lookup_no_table r) r.lookups.items) (flat_map (dimension_no_table r) r.dimensions) (flat_map (text_no_table r) r.rowkey.items) (flat_map (of_group (text_no_table r)) r.groups.items) p.tables in
    let columns = of_six (flat_map (lookup_no_column r) r.lookups.items) (no_column (fact_columns r) r.partition) (flat_map (dimension_no_column r) r.dimensions) (flat_map (measure_no_column r) r.measures.items) (flat_map (text_no_column r) r.rowkey.items) (flat_map (of_group (text_no_column r)) r.groups.items) p.columns in
    let keys = none_both (flat_map (dimension_bad_rowkey r) r.dimensions) (flat_map (text_bad_rowkey r) r.rowkey.items) p.rowkey in
    let dims = dimensions_sound r r.dimensions (none_all (dimension_no_table r) r.dimensions tables.2) (none_all (dimension_no_column r) r.dimensions columns.2) (none_all (bad_dimension r) r.dimensions p.dimensions) (none_all (dimension_bad_rowkey r) r.dimensions keys.0) in
    let derived = all_flat_map (IsDerivedOf (cube_of r)) (dimension_derived r) r.dimensions dims in
    let rowkey = rowkey_there r r.rowkey.items (none_all (text_no_table r) r.rowkey.items tables.3) (none_all (text_no_column r) r.rowkey.items columns.4) in
    let in_fact = none_all (measure_no_column r) r.measures.items columns.3 in
    let measures = all_both (λ m. is_measure r m ≡ true) (λ m. first (measure_no_column r m) ≡ None) (λ m. IsMeasureOf (cols (fact_columns r)) (form_named m.function.expression.text) (measured_column r m)) (measure_sound r) r.measures.items (are_measures r [] r.measures.items p.measures) in_fact in
    let facts = facts_there r (measure_columns r) (firsts_below (cols (fact_columns r)) [] (flat_map (λ m. option_to_list (measured_column r m)) r.measures.items) (options_below r r.measures.items in_fact)) in
    let front = all_append (IsThere (tables_of r)) (rowkey_of r) (flat_map (λ d. map wide_derived (dimension_derived r d)) r.dimensions) rowkey (subst (λ (ws : List WideCol). AllByRecursion (IsThere (tables_of r)) ws) (sym (flat_map-inside wide_derived (dimension_derived r) r.dimensions)) (derived_wide (cube_of r) (derived_of r) derived)) in
    let wide = all_append (IsThere (tables_of r)) (rowkey_of r ++ flat_map (λ d. map wide_derived (dimension_derived r d)) r.dimensions) (map wide_fact (measure_columns r)) front facts in
    let dimensions = up_to most_dimensions (length r.rowkey.items) (none_unless (is_some_up_to most_dimensions (length r.rowkey.items)) r.rowkey.place limits.3) in
    let lookups = leb-true (length r.lookups.items) 8 (none_unless (nat_le (length r.lookups.items) 8) r.lookups.place limits.1) in
    let few_measures = leb-true (length r.measures.items) 16 (none_unless (nat_le (length r.measures.items) 16) r.measures.place limits.2) in
    let few_groups = leb-true (length r.groups.items) 8 (none_unless (nat_le (length r.groups.items) 8) r.groups.place limits.4) in
    let few_masks = leb-true (length (masks_of r)) most_cuboids (none_unless (nat_le (length (masks_of r)) most_cuboids) r.groups.place many) in
    let same_rowkey = length-map r.rowkey.items (rowkey_column r) in
    let same_joins = length-map r.lookups.items (join_of r) in
    let same_measures = length-map r.measures.items (measure_of r) in
    record {
      tables = ap suc (length-map r.lookups.items (lookup_of r) ∙ sym same_joins);
      joined = joins_sound r r.lookups.items (none_all (bad_join r) r.lookups.items p.joins) (none_all (lookup_no_column r) r.lookups.items columns.0);
      partition = partition_sound r columns.1 p.partition;
      rowkey = All-from_recursion (IsThere (tables_of r)) (rowkey_of r) rowkey;
      derived = All-from_recursion (IsDerivedOf (cube_of r)) (derived_of r) derived;
      measures = All-from_recursion (λ m. IsMeasureOf (cols (fact_columns r)) m.form m.column) (measures_of r) (all_map (λ m. IsMeasureOf (cols (fact_columns r)) m.form m.column) (measure_of r) r.measures.items measures);
      wide = wide_is r;
      there = All-from_recursion (IsThere (tables_of r)) (wide_columns r) wide;
      included = subst (λ (n : ℕ). AreOf n (groups_of r)) (sym same_rowkey) (are_of r.rowkey.items r.groups.items (groups_of r) dimensions.0 refl);
      groups = groups_sound r.rowkey.items r.groups.items dimensions.0 dimensions.1 (none_all (bad_group r.rowkey.items) r.groups.items grouped);
      masks = ap (λ (n : ℕ). built_masks n (groups_of r)) (sym same_rowkey);
      some_dimensions = omega arith;
      few_dimensions = omega arith;
      few_lookups = omega arith;
      few_measures = omega arith;
      few_groups = subst (λ (n : ℕ). n ≤ 8) (sym (length-map r.groups.items (rules_of r.rowkey.items))) few_groups;
      few_masks = few_masks;
    }

judged_sound : (r : RawDesc) (o : Option DescFault) (c : Cube) → first (all_faults r) ≡ o → result_ok (judged r o) ≡ Some c → IsSound c
judged_sound r None c e h =
    let all = of_three (faults r) (each kind.BadGroup (bad_groups r)) (each kind.TooManyCuboids (too_many_cuboids r)) e in
    let same : cube_of r ≡ c = cc h in
    subst (λ (x : Cube). IsSound x) same (sound_of r all.0 (none_each kind.BadGroup (bad_groups r) all.1) (none_each kind.TooManyCuboids (too_many_cuboids r) all.2))
judged_sound r (Some f) c e h = cc h

shape_sound : (s : Shaped) (c : Cube) → result_ok (described s) ≡ Some c → IsSound c
shape_sound no_json c e = cc e
shape_sound (wrong_at p) c e = cc e
shape_sound (shaped r) c e = judged_sound r (first (all_faults r)) c refl e

-- the cube that bytes describe is sound
pub sound : DescriptorsAreSound
sound bytes c e = shape_sound (shape_of bytes) c e
