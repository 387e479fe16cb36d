-- The ask of a query without a fault is sound.
use Rattle.std.proofs.Common.{◌≡◌, inl, inr, ℕ, ◌<◌, ◌≤◌, List, [], ◌∷◌, ◌++◌, map, length, fold, refl, sym, ap, ◌∙◌, subst, arith, cond}
use Rattle.std.specs.Prelude.{◌⊎◌, Bool, true, false, ◌&&◌, ◌||◌, ◌==◌, Option, Some, None, unwrap_or, option_map, slice_get, nat_lt, Contains}
use Rattle.std.specs.Option.{option_or}
use Rattle.std.specs.List.{flat_map, list_any, position_or_len, AllByRecursion as Each}
use Rattle.std.proofs.lemmas.Bool.{eqb-true, ltb-true}
use Rattle.std.proofs.lemmas.List.{length-append, length-map}
use Rattle.std.proofs.lemmas.List.Elements.{All-from_recursion, recursion_from_All, All-contains_itself}
use Rattle.std.proofs.lemmas.List.Folds.{Any-from_list_any}
use Rattle.cube_val.specs.declared.val.ColType.{ColType}
use Rattle.cube_val.specs.declared.val.ColType.TheVariants as ty
use Rattle.cube_val.specs.declared.form.ColDesc.{ColDesc}
use Rattle.cube_val.specs.declared.form.WideCol.{WideCol}
use Rattle.measure_laws.specs.declared.kinds.ItemKind.{ItemKind}
use Rattle.measure_laws.specs.declared.kinds.ItemKind.TheVariants.{Numbers, Values}
use Rattle.measure_laws.specs.declared.measure.MeasureForm.{MeasureForm}
use Rattle.measure_laws.specs.declared.measure.MeasureForm.TheVariants as form
use Rattle.measure_laws.specs.Kinds.{item_kind, same_form}
use Rattle.measure_laws.proofs.FormFacts.{same_form_is}
use Rattle.cube_desc.specs.Cube.{Cube}
use Rattle.cube_desc.specs.Forms.{is_of}
use Rattle.cube_desc.specs.Resolve.{wide_derived, wide_fact}
use Rattle.cube_desc.specs.Sound as cubes
use Rattle.cube_desc.specs.declared.desc.MeasureDesc.{MeasureDesc}
use Rattle.sql_reader.specs.declared.tree.AggWord.{AggWord}
use Rattle.sql_reader.specs.declared.tree.AggWord.TheVariants as word
use Rattle.sql_reader.specs.declared.tree.SqlCond.{SqlCond}
use Rattle.sql_reader.specs.declared.tree.SqlLit.{SqlLit}
use Rattle.sql_reader.specs.declared.tree.SqlLitKind.{SqlLitKind}
use Rattle.sql_reader.specs.declared.tree.SqlLitKind.TheVariants as sql_lit
use Rattle.sql_reader.specs.declared.tree.SqlTerm.{SqlTerm}
use Rattle.sql_reader.specs.declared.tree.SqlTerm.TheVariants as sql
use Rattle.sql_reader.specs.declared.tree.Query.{Query}
use Rattle.plain_answer.specs.declared.ask.Agg.{Agg}
use Rattle.plain_answer.specs.declared.cond.Term.{Term}
use Rattle.plain_answer.specs.declared.cond.Term.TheVariants as term
use Rattle.plain_answer.specs.Asks.{IsSound, IsSoundAgg, IsColumn, IsOfGroup, IsLitOf, HasNumbers, terms_of, terms_step, pairs_of, pairs_step}
use Rattle.query_names.specs.Least.{lesser, least}
use Rattle.query_names.specs.Parts.{place_of, cond_terms, cond_pairs, of_cond, of_pairs, key_term, of_group_terms}
use Rattle.query_names.specs.Resolve.{found, type_at, type_from, column_type, columns_at, same_column, dimension_at, dimension_count}
use Rattle.query_names.specs.Names.{no_tables, no_columns}
use Rattle.query_names.specs.Uses.{not_dimensions, row_not_dimension, group_not_dimension, not_dimension, no_measures, no_measure, gives, is_kept, has_measure, measured, not_grouped_terms, not_grouped, is_grouped, same_found}
use Rattle.query_names.specs.Joins.{joins_missing, joins_not_in_model}
use Rattle.query_names.specs.Types.{type_clashes, type_clash, fits_type}
use Rattle.query_names.specs.Faults.{fault_at, fault_from, fault_of, fault_of_names, fault_of_model, fault_of_types}
use Rattle.query_faults.specs.declared.bind.BindKind.{BindKind}
use Rattle.query_faults.specs.declared.bind.BindKind.TheVariants as kind
use Rattle.query_bind.specs.Asks.{agg_of, given_agg, with_agg, aggs_of, column_number, agg_number, bound_term, bound_kind, bound_lit, bound_or_true, bound_item, bound_key, ask_of, same_agg}
use Rattle.query_bind.proofs.AggLemmas.{some_gathered}
use Rattle.query_bind.proofs.CondLemmas.{at_true, terms_hold, pairs_hold}
use Rattle.query_bind.proofs.EachLemmas.{joined, mapped, unmapped, flat, weaker, both, none_front, none_back, none_each, none_unless}

-- ---- the lists of failing places are empty

neither : {A : Type 0} (a b : Option A) → option_or a b ≡ None → (a ≡ None) × (b ≡ None)
neither None b e = (refl, e)
neither (Some x) b e = cc

not_lesser : (p : ℕ) (o : Option ℕ) → lesser (Some p) o ≡ None → ⊥
not_lesser p None e = cc
not_lesser p (Some r) e = cc

no_least : (ps : List ℕ) (o : Option ℕ) → o ≡ least ps → o ≡ None → ps ≡ []
no_least [] o e n = refl
no_least (p ∷ ps) o e n = absurd (not_lesser p (least ps) (sym e ∙ n))

no_fault : (k : BindKind) (ps : List ℕ) (o : Option ℕ) → o ≡ least ps → fault_from k o ≡ None → ps ≡ []
no_fault k ps None e n = no_least ps None e refl
no_fault k ps (Some p) e n = cc

empty : (k : BindKind) (ps : List ℕ) → fault_at k ps ≡ None → ps ≡ []
empty k ps n = no_fault k ps (least ps) refl n

module _ (c : Cube) (q : Query) (e : fault_of c q ≡ None) where
  names : fault_of_names c q ≡ None
  names = (neither (fault_of_names c q) (option_or (fault_of_model c q) (fault_of_types c q)) e).0

  model_or_types : option_or (fault_of_model c q) (fault_of_types c q) ≡ None
  model_or_types = (neither (fault_of_names c q) (option_or (fault_of_model c q) (fault_of_types c q)) e).1

  model : fault_of_model c q ≡ None
  model = (neither (fault_of_model c q) (fault_of_types c q) model_or_types).0

  types : fault_of_types c q ≡ None
  types = (neither (fault_of_model c q) (fault_of_types c q) model_or_types).1

  pub dimensions_there : not_dimensions c q ≡ []
  dimensions_there =
      let later = (neither (fault_at kind.NoTable (no_tables c q)) (option_or (fault_at kind.NoColumn (no_columns c q)) (fault_at kind.NotDimension (not_dimensions c q))) names).1 in
      empty kind.NotDimension (not_dimensions c q) (neither (fault_at kind.NoColumn (no_columns c q)) (fault_at kind.NotDimension (not_dimensions c q)) later).1

  pub measures_there : no_measures c q ≡ []
  measures_there =
      empty kind.NoMeasure (no_measures c q)
      (neither (fault_at kind.NoMeasure (no_measures c q)) (option_or (fault_at kind.JoinMissing (joins_missing c q)) (fault_at kind.JoinNotInModel (joins_not_in_model c q))) model).0

  pub literals_fit : type_clashes c q ≡ []
  literals_fit = empty kind.TypeClash (type_clashes c q) (neither (fault_at kind.TypeClash (type_clashes c q)) (fault_at kind.NotGrouped (not_grouped_terms c q)) types).0

  pub all_grouped : not_grouped_terms c q ≡ []
  all_grouped = empty kind.NotGrouped (not_grouped_terms c q) (neither (fault_at kind.TypeClash (type_clashes c q)) (fault_at kind.NotGrouped (not_grouped_terms c q)) types).1

-- ---- the terms of a query

abbrev terms_in : Option SqlCond → List SqlTerm
terms_in None = []
terms_in (Some given) = cond_terms given

module _ {A : Type 0} (give : SqlTerm → List A) where
  cond_each : (given : Option SqlCond) → of_cond give given ≡ [] → Each (λ t. give t ≡ []) (terms_in given)
  cond_each None e = tt
  cond_each (Some given) e = none_each give (cond_terms given) e

-- what holds of each term that is worked out of groups
record OfGroups (q : Query) (P : SqlTerm → Type 0) : Type 0 where
  selected : Each (λ item. P item.term) q.items
  tested : Each P (terms_in q.having)
  ordered : Each (λ key. P (key_term q key.term)) q.order

of_groups : {A : Type 0} (give : SqlTerm → List A) (q : Query) → of_group_terms give q ≡ [] → OfGroups q (λ t. give t ≡ [])
of_groups give q e =
    let items = flat_map (λ item. give item.term) q.items in
    let having = of_cond give q.having in
    let order = flat_map (λ key. give (key_term q key.term)) q.order in
    let first = none_front (items ++ having) order e in
    record {
      selected = none_each (λ item. give item.term) q.items (none_front items having first);
      tested = cond_each give q.having (none_back items having first);
      ordered = none_each (λ key. give (key_term q key.term)) q.order (none_back (items ++ having) order e);
    }

-- ---- truth values

and_both : (a b : Bool) → (a && b) ≡ true → (a ≡ true) × (b ≡ true)
and_both true b e = (refl, e)
and_both false b e = cc

never : false ≡ true → ⊥
never e = cc

-- ---- columns

abbrev column_from : ℕ × ℕ → WideCol
column_from p = record { table = p.0; column = p.1 }

same_column_is : (a b : WideCol) → same_column a b ≡ true → a ≡ b
same_column_is a b e =
    let parts = and_both (a.table == b.table) (a.column == b.column) e in
    let table = eqb-true a.table b.table parts.0 in
    let column = eqb-true a.column b.column parts.1 in
    let both : (a.table, a.column) ≡ (b.table, b.column) = cc in
    ap column_from both

same_found_is : (a b : Option WideCol) → same_found a b ≡ true → a ≡ b
same_found_is None b e = absurd (never e)
same_found_is (Some a) None e = absurd (never e)
same_found_is (Some a) (Some b) e = ap Some (same_column_is a b e)

-- ---- aggregates

-- a measure of numbers is of a column of numbers
numeric : (cols : List ColDesc) (column : ℕ) (of : Option ℕ) → cubes.IsOfItems cols Numbers of → is_of column of ≡ true → cubes.IsOfNumbers cols column
numeric cols column None h o = absurd h
numeric cols column (Some i) h o = subst (cubes.IsOfNumbers cols) (eqb-true i column o) h

-- one that gives a measure of numbers is itself of that form
itself : (f own : MeasureForm) → item_kind f ≡ Numbers → (same_form f form.Known || same_form f own) ≡ true → item_kind own ≡ Numbers
itself f own kind e = by (same_form f form.Known) refl e
  where
    by : (b : Bool) → same_form f form.Known ≡ b → (b || same_form f own) ≡ true → item_kind own ≡ Numbers
    by true known e = let values : item_kind f ≡ Values = ap item_kind (same_form_is f form.Known known) in absurd (let no : Numbers ≡ Values = sym kind ∙ values in cc)
    by false known e = ap item_kind (sym (same_form_is f own e)) ∙ kind

has_numbers : (o : Option ColDesc) → (option_map (λ col. col.ty) o ≡ Some ty.Int) ⊎ (option_map (λ col. col.ty) o ≡ Some ty.Decimal) → HasNumbers (type_from o)
has_numbers None h = tt
has_numbers (Some col) (inl e) = let is : col.ty ≡ ty.Int = cc in subst HasNumbers (sym is) tt
has_numbers (Some col) (inr e) = let is : col.ty ≡ ty.Decimal = cc in subst HasNumbers (sym is) tt

abbrev IsSoundMeasure : Cube → MeasureDesc → Type 0
IsSoundMeasure c m = cubes.IsMeasureOf (cubes.columns_at c.tables 0) m.form m.column

measure_numbers : (c : Cube) → cubes.IsSound c → (f : MeasureForm) (w : WideCol) → item_kind f ≡ Numbers → has_measure c f (Some w) ≡ true → HasNumbers (type_at c w)
measure_numbers c s f w kind e =
    let parts = and_both (w.table == 0) (list_any (gives f w.column) c.measures) e in
    let table = eqb-true w.table 0 parts.0 in
    let found = Any-from_list_any (gives f w.column) c.measures parts.1 in
    let own : IsSoundMeasure c found.1 = subst (IsSoundMeasure c) found.3 (s.measures found.0 found.1 found.2) in
    let tests = and_both (same_form f form.Known || same_form f found.1.form) (is_of w.column found.1.column) found.4 in
    let items = itself f found.1.form kind tests.0 in
    let numbers = numeric (cubes.columns_at c.tables 0) w.column found.1.column (subst (λ (k : ItemKind). cubes.IsOfItems (cubes.columns_at c.tables 0) k found.1.column) items own) tests.1 in
    subst (λ t. HasNumbers (type_from (slice_get (columns_at c t) w.column))) (sym table) (has_numbers (slice_get (columns_at c 0) w.column) numbers)

agg_sound : (c : Cube) → cubes.IsSound c → (w : AggWord) (column : Option WideCol) → is_kept c w column ≡ true → IsSoundAgg (agg_of c w column)
agg_sound c s word.CountRows column e = inl refl
agg_sound c s word.CountColumn None e = absurd (never e)
agg_sound c s word.CountColumn (Some w) e = inr (refl, tt)
agg_sound c s word.CountDistinct None e = absurd (never e)
agg_sound c s word.CountDistinct (Some w) e = inr (refl, tt)
agg_sound c s word.Sum None e = absurd (never e)
agg_sound c s word.Sum (Some w) e = inr (refl, measure_numbers c s form.Sum w refl e)
agg_sound c s word.Min None e = absurd (never e)
agg_sound c s word.Min (Some w) e = inr (refl, measure_numbers c s form.Min w refl e)
agg_sound c s word.Max None e = absurd (never e)
agg_sound c s word.Max (Some w) e = inr (refl, measure_numbers c s form.Max w refl e)
agg_sound c s word.Avg None e = absurd (never e)
agg_sound c s word.Avg (Some w) e = inr (refl, measure_numbers c s form.Sum w refl e)

given_sound : (c : Cube) (q : Query) → cubes.IsSound c → (t : SqlTerm) → no_measure c q t ≡ [] → Each IsSoundAgg (given_agg c q t)
given_sound c q s (sql.Col r) e = tt
given_sound c q s (sql.Agg p w column) e = (agg_sound c s w (measured c q column) (none_unless (is_kept c w (measured c q column)) p e), tt)

module _ {A : Type 0} (P : A → Type 0) (give : SqlTerm → List A) (q : Query) where
  cond_flat : (given : Option SqlCond) → Each (λ t. Each P (give t)) (terms_in given) → Each P (of_cond give given)
  cond_flat None h = tt
  cond_flat (Some given) h = flat P give (cond_terms given) h

  groups_flat : OfGroups q (λ t. Each P (give t)) → Each P (of_group_terms give q)
  groups_flat o =
      joined P (flat_map (λ item. give item.term) q.items ++ of_cond give q.having) (flat_map (λ key. give (key_term q key.term)) q.order)
      (joined P (flat_map (λ item. give item.term) q.items) (of_cond give q.having) (flat P (λ item. give item.term) q.items o.selected) (cond_flat q.having o.tested))
      (flat P (λ key. give (key_term q key.term)) q.order o.ordered)

-- from each term that is worked out of groups to another fact of it
all_terms : (q : Query) (P Q : SqlTerm → Type 0) → ((t : SqlTerm) → P t → Q t) → OfGroups q P → OfGroups q Q
all_terms q P Q f o = record {
  selected = weaker (λ item. P item.term) (λ item. Q item.term) q.items (λ item. f item.term) o.selected;
  tested = weaker P Q (terms_in q.having) f o.tested;
  ordered = weaker (λ key. P (key_term q key.term)) (λ key. Q (key_term q key.term)) q.order (λ key. f (key_term q key.term)) o.ordered;
}

both_terms : (q : Query) (P Q : SqlTerm → Type 0) → OfGroups q P → OfGroups q Q → OfGroups q (λ t. P t × Q t)
both_terms q P Q o r = record {
  selected = both (λ item. P item.term) (λ item. Q item.term) q.items o.selected r.selected;
  tested = both P Q (terms_in q.having) o.tested r.tested;
  ordered = both (λ key. P (key_term q key.term)) (λ key. Q (key_term q key.term)) q.order o.ordered r.ordered;
}

with_one : (b : Bool) (aggs : List Agg) (a : Agg) → Each IsSoundAgg aggs → IsSoundAgg a → Each IsSoundAgg (cond b aggs (aggs ++ a ∷ []))
with_one true aggs a h k = h
with_one false aggs a h k = joined IsSoundAgg aggs (a ∷ []) h (k, tt)

gathered : (xs aggs : List Agg) → Each IsSoundAgg aggs → Each IsSoundAgg xs → Each IsSoundAgg (fold with_agg aggs xs)
gathered [] aggs h k = h
gathered (x ∷ xs) aggs h k = gathered xs (with_agg aggs x) (with_one (list_any (same_agg x) aggs) aggs x h k.0) k.1

-- ---- the numbers of aggregates

within_flat : {X Y : Type 0} (f : X → List Y) (xs : List X) → Each (λ x. 0 < length (f x) → 0 < length (flat_map f xs)) xs
within_flat f [] = tt
within_flat f (x ∷ xs) = (
  λ h. omega (arith, length-append (f x) (flat_map f xs)),
  weaker (λ y. 0 < length (f y) → 0 < length (flat_map f xs)) (λ y. 0 < length (f y) → 0 < length (f x ++ flat_map f xs)) xs
      (λ y g h. omega (arith, length-append (f x) (flat_map f xs), g h)) (within_flat f xs),
)

module _ {A : Type 0} (give : SqlTerm → List A) (q : Query) where
  abbrev IsWithin : SqlTerm → Type 0
  IsWithin t = 0 < length (give t) → 0 < length (of_group_terms give q)

  within_cond : (given : Option SqlCond) → Each (λ t. 0 < length (give t) → 0 < length (of_cond give given)) (terms_in given)
  within_cond None = tt
  within_cond (Some given) = within_flat give (cond_terms given)

  within_groups : OfGroups q IsWithin
  within_groups =
      let items = flat_map (λ item. give item.term) q.items in
      let having = of_cond give q.having in
      let order = flat_map (λ key. give (key_term q key.term)) q.order in
      let first = length-append items having in
      let all = length-append (items ++ having) order in
      record {
        selected = weaker (λ item. 0 < length (give item.term) → 0 < length items) (λ item. IsWithin item.term) q.items (λ item g h. omega (arith, first, all, g h)) (within_flat (λ item. give item.term) q.items);
        tested = weaker (λ t. 0 < length (give t) → 0 < length having) IsWithin (terms_in q.having) (λ t g h. omega (arith, first, all, g h)) (within_cond q.having);
        ordered = weaker (λ key. 0 < length (give (key_term q key.term)) → 0 < length order) (λ key. IsWithin (key_term q key.term)) q.order (λ key g h. omega (arith, first, all, g h)) (within_flat (λ key. give (key_term q key.term)) q.order);
      }

chosen : (b : Bool) (n len : ℕ) → nat_lt n len ≡ b → 0 < len → unwrap_or (cond b (Some n) None) 0 < len
chosen true n len e h = ltb-true n len e
chosen false n len e h = h

number_in : (agg : Agg) (aggs : List Agg) → 0 < length aggs → agg_number aggs agg < length aggs
number_in agg aggs h = chosen (nat_lt (position_or_len (same_agg agg) aggs) (length aggs)) (position_or_len (same_agg agg) aggs) (length aggs) refl h

-- ---- columns of GROUP BY

module _ (c : Cube) (q : Query) where
  in_group : (w : Option WideCol) → is_grouped c q w ≡ true → Contains (map (column_number c q) q.group) (unwrap_or (dimension_at c w) 0)
  in_group w e =
      let columns = map (column_number c q) q.group in
      let at = Any-from_list_any (λ g. same_found (found c q g) w) q.group e in
      let is = same_found_is (found c q at.1) w at.4 in
      let own = unmapped (Contains columns) (column_number c q) q.group (recursion_from_All (Contains columns) columns (All-contains_itself columns)) in
      let here = All-from_recursion (λ g. Contains columns (column_number c q g)) q.group own at.0 at.1 at.2 in
      let there : Contains columns (column_number c q at.1) = subst (λ g. Contains columns (column_number c q g)) at.3 here in
      subst (λ o. Contains columns (unwrap_or (dimension_at c o) 0)) is there

  module _ (aggs : List Agg) where
    abbrev IsOf : SqlTerm → Type 0
    IsOf t = IsOfGroup (map (column_number c q) q.group) aggs (bound_term c q aggs t)

    of_group : (t : SqlTerm) → (not_grouped c q t ≡ []) × (0 < length (given_agg c q t) → 0 < length aggs) → IsOf t
    of_group (sql.Col r) h = in_group (found c q r) (none_unless (is_grouped c q (found c q r)) (place_of r) h.0)
    of_group (sql.Agg p w column) h = number_in (agg_of c w (measured c q column)) aggs (h.1 (omega arith))

    is_column : (t : SqlTerm) → row_not_dimension c q t ≡ [] → IsColumn (bound_term c q aggs t)
    is_column (sql.Col r) e = tt
    is_column (sql.Agg p w column) e = let f : ⊥ = cc in absurd f

    column_lit : (n : ℕ) (t : ColType) (k : SqlLitKind) → fits_type t k ≡ true → IsLitOf (term.Col n t) (bound_kind k)
    column_lit n ty.Int (sql_lit.Number x) e = tt
    column_lit n ty.Int (sql_lit.Text x) e = absurd (never e)
    column_lit n ty.Int (sql_lit.Date x) e = absurd (never e)
    column_lit n ty.Decimal (sql_lit.Number x) e = tt
    column_lit n ty.Decimal (sql_lit.Text x) e = absurd (never e)
    column_lit n ty.Decimal (sql_lit.Date x) e = absurd (never e)
    column_lit n ty.Text (sql_lit.Number x) e = absurd (never e)
    column_lit n ty.Text (sql_lit.Text x) e = λ h. h
    column_lit n ty.Text (sql_lit.Date x) e = absurd (never e)
    column_lit n ty.Date (sql_lit.Number x) e = absurd (never e)
    column_lit n ty.Date (sql_lit.Text x) e = λ h. h
    column_lit n ty.Date (sql_lit.Date x) e = λ h. h

    agg_lit : (n : ℕ) (k : SqlLitKind) → fits_type ty.Int k ≡ true → IsLitOf (term.Agg n) (bound_kind k)
    agg_lit n (sql_lit.Number x) e = tt
    agg_lit n (sql_lit.Text x) e = absurd (never e)
    agg_lit n (sql_lit.Date x) e = absurd (never e)

    lit_of : (t : SqlTerm) (l : SqlLit) → type_clash c q (t, l) ≡ [] → IsLitOf (bound_term c q aggs t) (bound_lit l)
    lit_of (sql.Col r) l e = column_lit (column_number c q r) (column_type c q r) l.kind (none_unless (fits_type (column_type c q r) l.kind) l.place e)
    lit_of (sql.Agg p w column) l e = agg_lit (agg_number aggs (agg_of c w (measured c q column))) l.kind (none_unless (fits_type ty.Int l.kind) l.place e)

    terms_of_bound : (P : Term → Type 0) (given : Option SqlCond) → Each (λ t. P (bound_term c q aggs t)) (terms_in given) → Each P (terms_of (bound_or_true c q aggs given))
    terms_of_bound P None h = subst (Each P) (sym (at_true terms_step)) tt
    terms_of_bound P (Some given) h = terms_hold c q aggs P given h

    lits_of_bound : (given : Option SqlCond) → of_pairs (type_clash c q) given ≡ [] → Each (λ pair. IsLitOf pair.0 pair.1) (pairs_of (bound_or_true c q aggs given))
    lits_of_bound None e = subst (Each (λ pair. IsLitOf pair.0 pair.1)) (sym (at_true pairs_step)) tt
    lits_of_bound (Some given) e =
        pairs_hold c q aggs (λ pair. IsLitOf pair.0 pair.1) given
        (weaker (λ p. type_clash c q p ≡ []) (λ p. IsLitOf (bound_term c q aggs p.0) (bound_lit p.1)) (cond_pairs given) (λ p. lit_of p.0 p.1) (none_each (type_clash c q) (cond_pairs given) e))

-- ---- the ask

groups_measured : (c : Cube) (q : Query) → no_measures c q ≡ [] → OfGroups q (λ t. no_measure c q t ≡ [])
groups_measured c q e = of_groups (no_measure c q) q (none_back (of_cond (no_measure c q) q.filter) (of_group_terms (no_measure c q) q) e)

rows_named : (c : Cube) (q : Query) → not_dimensions c q ≡ [] → Each (λ t. row_not_dimension c q t ≡ []) (terms_in q.filter)
rows_named c q e =
    let filtered = of_cond (row_not_dimension c q) q.filter in
    let grouped = flat_map (not_dimension c q) q.group in
    cond_each (row_not_dimension c q) q.filter (none_front filtered grouped (none_front (filtered ++ grouped) (of_group_terms (group_not_dimension c q) q) e))

groups_of_ask : (c : Cube) (q : Query) → fault_of c q ≡ None → OfGroups q (IsOf c q (aggs_of c q))
groups_of_ask c q e =
    let aggs = aggs_of c q in
    let grouped = of_groups (not_grouped c q) q (all_grouped c q e) in
    let within = all_terms q (IsWithin (given_agg c q) q) (λ t. 0 < length (given_agg c q t) → 0 < length aggs) (λ t g h. some_gathered (of_group_terms (given_agg c q) q) (g h)) (within_groups (given_agg c q) q) in
    all_terms q (λ t. (not_grouped c q t ≡ []) × (0 < length (given_agg c q t) → 0 < length aggs)) (IsOf c q aggs) (of_group c q aggs)
    (both_terms q (λ t. not_grouped c q t ≡ []) (λ t. 0 < length (given_agg c q t) → 0 < length aggs) grouped within)

pub sound : (c : Cube) (q : Query) → cubes.IsSound c → fault_of c q ≡ None → IsSound (ask_of c q)
sound c q s e =
    let aggs = aggs_of c q in
    let columns = map (column_number c q) q.group in
    let given = all_terms q (λ t. no_measure c q t ≡ []) (λ t. Each IsSoundAgg (given_agg c q t)) (given_sound c q s) (groups_measured c q (measures_there c q e)) in
    let all = gathered (of_group_terms (given_agg c q) q) [] tt (groups_flat IsSoundAgg (given_agg c q) q given) in
    let named = weaker (λ t. row_not_dimension c q t ≡ []) (λ t. IsColumn (bound_term c q aggs t)) (terms_in q.filter) (is_column c q aggs) (rows_named c q (dimensions_there c q e)) in
    let own = groups_of_ask c q e in
    let fit = literals_fit c q e in
    record {
      aggregates = All-from_recursion IsSoundAgg aggs all;
      filter_columns = All-from_recursion IsColumn (terms_of (bound_or_true c q aggs q.filter)) (terms_of_bound c q aggs IsColumn q.filter named);
      filter_literals = All-from_recursion (λ pair. IsLitOf pair.0 pair.1) (pairs_of (bound_or_true c q aggs q.filter))
          (lits_of_bound c q aggs q.filter (none_front (of_pairs (type_clash c q) q.filter) (of_pairs (type_clash c q) q.having) fit));
      having_terms = All-from_recursion (IsOfGroup columns aggs) (terms_of (bound_or_true c q aggs q.having)) (terms_of_bound c q aggs (IsOfGroup columns aggs) q.having own.tested);
      having_literals = All-from_recursion (λ pair. IsLitOf pair.0 pair.1) (pairs_of (bound_or_true c q aggs q.having))
          (lits_of_bound c q aggs q.having (none_back (of_pairs (type_clash c q) q.filter) (of_pairs (type_clash c q) q.having) fit));
      outs = All-from_recursion (λ out. IsOfGroup columns aggs out.term) (map (bound_item c q aggs) q.items) (mapped (λ out. IsOfGroup columns aggs out.term) (bound_item c q aggs) q.items own.selected);
      order = All-from_recursion (λ key. IsOfGroup columns aggs key.term) (map (bound_key c q aggs) q.order) (mapped (λ key. IsOfGroup columns aggs key.term) (bound_key c q aggs) q.order own.ordered);
    }

-- ---- the columns of joined rows

pub wide_is_long : (c : Cube) → cubes.IsSound c → dimension_count c ≤ length c.plan.wide
wide_is_long c s =
    omega (
      arith,
      ap length s.wide,
      length-append (c.rowkey ++ map wide_derived c.derived) (map wide_fact (cubes.measured_columns c.measures)),
      length-append c.rowkey (map wide_derived c.derived),
      length-map c.derived wide_derived,
    )
