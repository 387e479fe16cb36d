-- A measure that a query may ask for is kept.
use Rattle.std.proofs.Common.{◌≡◌, ◌∙◌, ◌∷◌, ◌++◌, [], ℕ, Bool, true, false, cond, ◌||◌, ◌&&◌, List, ap, map, refl, subst, sym}
use mathlib.Core.Bool.{true≢false}
use Rattle.std.specs.Prelude.{◌==◌, Contains, Option, Some, None, filter, not}
use Rattle.std.specs.List.{AllByRecursion, list_any}
use Rattle.std.proofs.lemmas.Bool.{eqb-true}
use Rattle.std.proofs.lemmas.List.Elements.{Contains-append_left, Contains-append_right, Contains-push, recursion_from_All}
use Rattle.cube_val.specs.declared.form.ColDesc.{ColDesc}
use Rattle.cube_val.specs.declared.form.WideCol.{WideCol}
use Rattle.measure_laws.specs.declared.kinds.ItemKind.{ItemKind}
use Rattle.measure_laws.specs.declared.kinds.ItemKind.TheVariants.{Rows, Values, Numbers, Ids}
use Rattle.measure_laws.specs.declared.measure.MeasureForm.{MeasureForm}
use Rattle.measure_laws.specs.declared.measure.MeasureForm.TheVariants as form
use Rattle.measure_laws.specs.Kinds.{are_rows, counts_rows, item_kind, same_form}
use Rattle.measure_laws.proofs.FormFacts.{same_form_is}
use Rattle.cube_desc.specs.FlatRow.{is_column, measured}
use Rattle.cube_desc.specs.Forms.{is_of}
use Rattle.cube_desc.specs.Kept.{kept_behind, kept_of, known_count, own_measures}
use Rattle.cube_desc.specs.Sound.{IsMeasureOf, IsOfItems, columns_at}
use Rattle.cube_desc.specs.declared.desc.MeasureDesc.{MeasureDesc}
use Rattle.cube_desc.specs.declared.kept.Kept.{Kept}
use Rattle.cube_desc.proofs.KeptFacts.{measured_is}
use Rattle.query_names.specs.Laws.{AskedIsKept}
use Rattle.query_names.specs.Uses.{gives}

-- ---- truth values

and_both : (a b : Bool) → (a && b) ≡ true → (a ≡ true) × (b ≡ true)
and_both true b e = (refl, e)
and_both false b e = absurd (true≢false (sym e))

or_other : (a b : Bool) → a ≡ false → (a || b) ≡ true → b ≡ true
or_other true b none e = absurd (true≢false none)
or_other false b none e = e

-- ---- lists

first_there : {X : Type 0} (x : X) (xs : List X) (y : X) → x ≡ y → Contains (x ∷ xs) y
first_there x xs y is = subst (Contains (x ∷ xs)) is (Contains-append_left (x ∷ []) xs x (Contains-push [] x))

later_there : {X : Type 0} (x : X) (xs : List X) (y : X) → Contains xs y → Contains (x ∷ xs) y
later_there x xs y there = Contains-append_right (x ∷ []) xs y there

-- ---- counts of known values

-- the measure of this form of the column
abbrev measure_at : MeasureForm → ℕ → Kept
measure_at f n = record { form = f; column = Some n }

known_there : (n : ℕ) (ws : List WideCol) → list_any (is_column n) ws ≡ true → Contains (map known_count ws) (measure_at form.Known n)
known_there n [] e = absurd (true≢false (sym e))
known_there n (w ∷ ws) e = by (w.column == n) refl e (known_there n ws)
  where
    by : (b : Bool) → (w.column == n) ≡ b → (b || list_any (is_column n) ws) ≡ true
        → (list_any (is_column n) ws ≡ true → Contains (map known_count ws) (measure_at form.Known n))
        → Contains (known_count w ∷ map known_count ws) (measure_at form.Known n)
    by true same e rest = first_there (known_count w) (map known_count ws) (measure_at form.Known n) (ap (measure_at form.Known) (eqb-true w.column n same))
    by false same e rest = later_there (known_count w) (map known_count ws) (measure_at form.Known n) (rest e)

-- a column of which a measure gives one of a form is measured
given_measured : (f : MeasureForm) (n : ℕ) (ms : List MeasureDesc) → list_any (gives f n) ms ≡ true → list_any (λ (m : MeasureDesc). is_of n m.column) ms ≡ true
given_measured f n [] e = e
given_measured f n (m ∷ ms) e = by (same_form f form.Known || same_form f m.form) (is_of n m.column) e (given_measured f n ms)
  where
    by : (a own : Bool) → ((a && own) || list_any (gives f n) ms) ≡ true
        → (list_any (gives f n) ms ≡ true → list_any (λ (m : MeasureDesc). is_of n m.column) ms ≡ true)
        → (own || list_any (λ (m : MeasureDesc). is_of n m.column) ms) ≡ true
    by a true e rest = refl
    by true false e rest = rest e
    by false false e rest = rest e

-- ---- the descriptor's own measures

-- a measure of a column doesn't count rows
of_column : (cols : List ColDesc) (k : ItemKind) (n : ℕ) → IsOfItems cols k (Some n) → are_rows k ≡ false
of_column cols Rows n h = absurd h
of_column cols Values n h = refl
of_column cols Numbers n h = refl
of_column cols Ids n h = refl

is_of_is : (n : ℕ) (o : Option ℕ) → is_of n o ≡ true → o ≡ Some n
is_of_is n None e = absurd (true≢false (sym e))
is_of_is n (Some i) e = ap Some (eqb-true i n e)

abbrev kept_from : MeasureForm × Option ℕ → Kept
kept_from p = record { form = p.0; column = p.1 }

same_kept : (f g : MeasureForm) (a b : Option ℕ) → f ≡ g → a ≡ b → kept_from (f, a) ≡ kept_from (g, b)
same_kept f g a b forms columns = let both : (f, a) ≡ (g, b) = cc in ap kept_from both

own_there :
    (cols : List ColDesc) (f : MeasureForm) (n : ℕ) → same_form f form.Known ≡ false
    → (ms : List MeasureDesc) → AllByRecursion (λ (m : MeasureDesc). IsMeasureOf cols m.form m.column) ms → list_any (gives f n) ms ≡ true
    → Contains (own_measures ms) (measure_at f n)
own_there cols f n other [] all e = absurd (true≢false (sym e))
own_there cols f n other (m ∷ ms) all e = by (gives f n m) refl e (own_there cols f n other ms all.1)
  where
    passed : List MeasureDesc
    passed = filter (λ (m : MeasureDesc). not (counts_rows m.form)) ms

    -- the measure stands first
    here : gives f n m ≡ true → Contains (own_measures (m ∷ ms)) (measure_at f n)
    here e =
        let parts = and_both (same_form f form.Known || same_form f m.form) (is_of n m.column) e in
        let forms : f ≡ m.form = same_form_is f m.form (or_other (same_form f form.Known) (same_form f m.form) other parts.0) in
        let column : m.column ≡ Some n = is_of_is n m.column parts.1 in
        let rows : counts_rows m.form ≡ false = of_column cols (item_kind m.form) n (subst (IsOfItems cols (item_kind m.form)) column all.0) in
        let first : Contains (kept_of m ∷ map kept_of passed) (measure_at f n) =
        first_there (kept_of m) (map kept_of passed) (measure_at f n) (same_kept m.form f m.column (Some n) (sym forms) column) in
        subst (λ (b : Bool). Contains (map kept_of (cond (not b) (m ∷ passed) passed)) (measure_at f n)) (sym rows) first

    -- it stands behind another
    behind : (b : Bool) → Contains (map kept_of passed) (measure_at f n) → Contains (map kept_of (cond (not b) (m ∷ passed) passed)) (measure_at f n)
    behind true there = there
    behind false there = later_there (kept_of m) (map kept_of passed) (measure_at f n) there

    by : (b : Bool) → gives f n m ≡ b → (b || list_any (gives f n) ms) ≡ true
        → (list_any (gives f n) ms ≡ true → Contains (own_measures ms) (measure_at f n))
        → Contains (own_measures (m ∷ ms)) (measure_at f n)
    by true given e rest = here given
    by false given e rest = behind (counts_rows m.form) (rest e)

-- ---- what a query may ask

pub asked_kept : AskedIsKept
unfolding kept_behind
asked_kept c f w s e = by (same_form f form.Known) refl
  where
    given : list_any (gives f w.column) c.measures ≡ true
    given = (and_both (w.table == 0) (list_any (gives f w.column) c.measures) e).1

    known : List Kept
    known = map known_count (measured c)

    own : List Kept
    own = own_measures c.measures

    by : (b : Bool) → same_form f form.Known ≡ b → Contains (known ++ own) (measure_at f w.column)
    by true is =
        let there : list_any (is_column w.column) (measured c) ≡ true = measured_is c s w.column ∙ given_measured f w.column c.measures given in
        subst (λ (g : MeasureForm). Contains (known ++ own) (measure_at g w.column)) (sym (same_form_is f form.Known is))
        (Contains-append_left known own (measure_at form.Known w.column) (known_there w.column (measured c) there))
    by false other =
        Contains-append_right known own (measure_at f w.column)
        (own_there (columns_at c.tables 0) f w.column other c.measures
        (recursion_from_All (λ (m : MeasureDesc). IsMeasureOf (columns_at c.tables 0) m.form m.column) c.measures s.measures) given)
