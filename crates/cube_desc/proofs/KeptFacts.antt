-- What is kept, and what of it has a dictionary.
use Rattle.std.proofs.Common.{◌≡◌, ◌∙◌, ◌≤◌, ◌+◌, ◌++◌, ◌∷◌, [], ℕ, Bool, true, false, cond, ◌||◌, List, ap, arith, drop, eq-eqb, length, length-append, map, refl, sym}
use mathlib.Core.Bool.{true≢false}
use Rattle.std.specs.Prelude.{◌==◌, Option, Some, None, filter, not, option_to_list}
use Rattle.std.specs.List.{AllByRecursion, cons_option, filter_map, flat_map, list_any}
use Rattle.std.proofs.lemmas.Bool.{eqb-true}
use Rattle.std.proofs.lemmas.List.{drop_at, length-map}
use Rattle.std.proofs.lemmas.List.Elements.{filter_map-append, recursion_from_All}
use Rattle.std.proofs.lemmas.List.Folds.{list_any-append}
use Rattle.cube_val.specs.declared.form.ColDesc.{ColDesc}
use Rattle.cube_val.specs.declared.form.WideCol.{WideCol}
use Rattle.measure_laws.specs.declared.kinds.ItemKind.{ItemKind}
use Rattle.measure_laws.specs.declared.kinds.ItemKind.TheVariants.{Rows, Values, Numbers, Ids}
use Rattle.measure_laws.specs.Kinds.{are_rows, counts_rows, item_kind}
use Rattle.cube_desc.specs.Cube.{Cube}
use Rattle.cube_desc.specs.FlatRow.{is_column, measured}
use Rattle.cube_desc.specs.Forms.{is_measured, is_of}
use Rattle.cube_desc.specs.Kept.{dict_place, distinct_places, kept_behind, kept_of, known_count, own_measures}
use Rattle.cube_desc.specs.Resolve.{firsts, wide_derived, wide_fact}
use Rattle.cube_desc.specs.Sound.{IsMeasureOf, IsOfItems, IsOfNumbers, IsSound, columns_at, measured_columns}
use Rattle.cube_desc.specs.declared.desc.MeasureDesc.{MeasureDesc}
use Rattle.cube_desc.specs.declared.kept.Kept.{Kept}

-- a count of known values has no dictionary
known_no_dict : (c : Cube) (ws : List WideCol) → filter_map (dict_place c) (map known_count ws) ≡ []
known_no_dict c [] = refl
known_no_dict c (w ∷ ws) = known_no_dict c ws

-- so the dictionaries are those of the descriptor's own measures
pub distinct_own : (c : Cube) → distinct_places c ≡ filter_map (dict_place c) (own_measures c.measures)
unfolding distinct_places kept_behind
distinct_own c =
    filter_map-append (dict_place c) (map known_count (measured c)) (own_measures c.measures)
    ∙ ap (λ l. l ++ filter_map (dict_place c) (own_measures c.measures)) (known_no_dict c (measured c))

few_passed : (q : MeasureDesc → Bool) (ms : List MeasureDesc) → length (filter q ms) ≤ length ms
few_passed q [] = omega arith
few_passed q (m ∷ ms) = by (q m) (few_passed q ms)
  where
    by : (b : Bool) → length (filter q ms) ≤ length ms → length (cond b (m ∷ filter q ms) (filter q ms)) ≤ length (m ∷ ms)
    by true h = omega (arith, h)
    by false h = omega (arith, h)

few_own : (ms : List MeasureDesc) → length (own_measures ms) ≤ length ms
few_own ms = omega (arith, length-map (filter (λ m. not (counts_rows m.form)) ms) kept_of, few_passed (λ m. not (counts_rows m.form)) ms)

few_dicts : (c : Cube) (ks : List Kept) → length (filter_map (dict_place c) ks) ≤ length ks
few_dicts c [] = omega arith
few_dicts c (k ∷ ks) = by (dict_place c k) (few_dicts c ks)
  where
    by : (o : Option ℕ) → length (filter_map (dict_place c) ks) ≤ length ks → length (cons_option o (filter_map (dict_place c) ks)) ≤ length (k ∷ ks)
    by None more = omega arith
    by (Some p) more = omega arith

-- no more of them than the descriptor has measures
pub few_distinct : (c : Cube) → length (distinct_places c) ≤ length c.measures
few_distinct c = omega (arith, ap length (distinct_own c), few_dicts c (own_measures c.measures), few_own c.measures)

-- ---- measured columns

-- a number is among numbers
abbrev among : ℕ → List ℕ → Bool
among n ns = list_any (λ b. b == n) ns

or_true : (a : Bool) → (a || true) ≡ true
or_true true = refl
or_true false = refl

or_none : (a : Bool) → (a || false) ≡ a
or_none true = refl
or_none false = refl

among-append : (n : ℕ) (xs ys : List ℕ) → among n (xs ++ ys) ≡ (among n xs || among n ys)
among-append n xs ys = list_any-append (λ b. b == n) xs ys

-- a number that stands in a list is among those that come first there, or came before
first_there : (n : ℕ) (before ns : List ℕ) → among n ns ≡ true → (among n before || among n (firsts before ns)) ≡ true
first_there n before [] e = absurd (true≢false (sym e))
first_there n before (m ∷ ns) e = by (among m before) refl (m == n) refl e (first_there n before ns) (first_there n (before ++ m ∷ []) ns)
  where
    by : (old : Bool) → among m before ≡ old → (same : Bool) → (m == n) ≡ same → (same || among n ns) ≡ true
        → (among n ns ≡ true → (among n before || among n (firsts before ns)) ≡ true)
        → (among n ns ≡ true → (among n (before ++ m ∷ []) || among n (firsts (before ++ m ∷ []) ns)) ≡ true)
        → (among n before || among n (cond old (firsts before ns) (m ∷ firsts (before ++ m ∷ []) ns))) ≡ true
    by true was true is e left more = ap (λ b. b || among n (firsts before ns)) (ap (λ (k : ℕ). among k before) (sym (eqb-true m n is)) ∙ was)
    by true was false is e left more = left e
    by false was true is e left more = ap (λ b. among n before || (b || among n (firsts (before ++ m ∷ []) ns))) is ∙ or_true (among n before)
    by false was false is e left more =
        let front : among n (before ++ m ∷ []) ≡ among n before = among-append n before (m ∷ []) ∙ ap (λ b. among n before || (b || false)) is ∙ or_none (among n before) in
        ap (λ b. among n before || (b || among n (firsts (before ++ m ∷ []) ns))) is ∙ sym (ap (λ b. b || among n (firsts (before ++ m ∷ []) ns)) front) ∙ more e

-- .. and those that come first stand there
first_from : (n : ℕ) (before ns : List ℕ) → among n (firsts before ns) ≡ true → among n ns ≡ true
first_from n before [] e = absurd (true≢false (sym e))
first_from n before (m ∷ ns) e = by (among m before) (m == n) (sym (pushed (among m before)) ∙ e) (first_from n before ns) (first_from n (before ++ m ∷ []) ns)
  where
    pushed : (old : Bool) → among n (cond old (firsts before ns) (m ∷ firsts (before ++ m ∷ []) ns)) ≡ cond old (among n (firsts before ns)) ((m == n) || among n (firsts (before ++ m ∷ []) ns))
    pushed true = refl
    pushed false = refl

    kept : (same : Bool) → (same || among n (firsts (before ++ m ∷ []) ns)) ≡ true → (among n (firsts (before ++ m ∷ []) ns) ≡ true → among n ns ≡ true) → (same || among n ns) ≡ true
    kept true e more = refl
    kept false e more = more e

    by : (old : Bool) (same : Bool) → (cond old (among n (firsts before ns)) (same || among n (firsts (before ++ m ∷ []) ns))) ≡ true
        → (among n (firsts before ns) ≡ true → among n ns ≡ true) → (among n (firsts (before ++ m ∷ []) ns) ≡ true → among n ns ≡ true)
        → (same || among n ns) ≡ true
    by true same e left more = ap (λ b. same || b) (left e) ∙ or_true same
    by false same e left more = kept same e more

same_truth : (a b : Bool) → (a ≡ true → b ≡ true) → (b ≡ true → a ≡ true) → a ≡ b
same_truth true true f g = refl
same_truth true false f g = sym (f refl)
same_truth false true f g = g refl
same_truth false false f g = refl

among_firsts : (n : ℕ) (ns : List ℕ) → among n (firsts [] ns) ≡ among n ns
among_firsts n ns = same_truth (among n (firsts [] ns)) (among n ns) (first_from n [] ns) (first_there n [] ns)

among_columns : (n : ℕ) (ms : List MeasureDesc) → among n (flat_map (λ (m : MeasureDesc). option_to_list m.column) ms) ≡ list_any (λ (m : MeasureDesc). is_of n m.column) ms
among_columns n [] = refl
among_columns n (m ∷ ms) = by m.column (among_columns n ms)
  where
    by : (o : Option ℕ) → among n (flat_map (λ (m : MeasureDesc). option_to_list m.column) ms) ≡ list_any (λ (m : MeasureDesc). is_of n m.column) ms
        → among n (option_to_list o ++ flat_map (λ (m : MeasureDesc). option_to_list m.column) ms) ≡ (is_of n o || list_any (λ (m : MeasureDesc). is_of n m.column) ms)
    by None rest = rest
    by (Some i) rest = ap (λ b. (i == n) || b) rest

among_wide : (n : ℕ) (ns : List ℕ) → list_any (is_column n) (map wide_fact ns) ≡ among n ns
among_wide n [] = refl
among_wide n (m ∷ ns) = ap (λ b. (m == n) || b) (among_wide n ns)

-- the measured columns of a joined row are those that measures are of
pub measured_are : (c : Cube) → IsSound c → measured c ≡ map wide_fact (measured_columns c.measures)
measured_are c s =
    let derived = map wide_derived c.derived in
    let facts = map wide_fact (measured_columns c.measures) in
    ap (drop (length c.rowkey + length c.derived)) s.wide
    ∙ drop_at (c.rowkey ++ derived) facts (length c.rowkey + length c.derived) (length-append c.rowkey derived ∙ ap (λ n. length c.rowkey + n) (length-map c.derived wide_derived))

-- a column is measured exactly where a measure is of it
pub measured_is : (c : Cube) → IsSound c → (n : ℕ) → list_any (is_column n) (measured c) ≡ is_measured c n
measured_is c s n =
    ap (list_any (is_column n)) (measured_are c s) ∙ among_wide n (measured_columns c.measures)
    ∙ among_firsts n (flat_map (λ (m : MeasureDesc). option_to_list m.column) c.measures) ∙ among_columns n c.measures

-- ---- what each kept measure is of

-- the column of a kept measure has what the measure is of
abbrev pub HasItems : List ColDesc → ItemKind → ℕ → Type 0
HasItems cols Rows i = ⊥
HasItems cols Values i = Unit {0}
HasItems cols Numbers i = IsOfNumbers cols i
HasItems cols Ids i = Unit {0}

-- a measure that is kept behind the count of rows is of a measured column
pub record IsKept (c : Cube) (k : Kept) : Type 0 where
  pub column : ℕ
  pub is : k.column ≡ Some column
  pub measured : is_measured c column ≡ true
  pub items : HasItems (columns_at c.tables 0) (item_kind k.form) column

-- each of some columns is among all
any_there : (ws : List WideCol) → AllByRecursion (λ w. list_any (is_column w.column) ws ≡ true) ws
any_there ws = by ws (λ w e. e)
  where
    eqb-same : (n : ℕ) → (n == n) ≡ true
    eqb-same n = eq-eqb n n refl

    by : (some : List WideCol) → ((w : WideCol) → list_any (is_column w.column) some ≡ true → list_any (is_column w.column) ws ≡ true) → AllByRecursion (λ w. list_any (is_column w.column) ws ≡ true) some
    by [] within = tt
    by (w ∷ some) within =
        (within w (ap (λ b. b || list_any (is_column w.column) some) (eqb-same w.column)), by some (λ v e. within v (ap (λ b. (w.column == v.column) || b) e ∙ or_true (w.column == v.column))))

known_kept : (c : Cube) → IsSound c → (ws : List WideCol) → AllByRecursion (λ w. list_any (is_column w.column) (measured c) ≡ true) ws → AllByRecursion (IsKept c) (map known_count ws)
known_kept c s [] all = tt
known_kept c s (w ∷ ws) all =
    (record { column = w.column; is = refl; measured = sym (measured_is c s w.column) ∙ all.0; items = tt }, known_kept c s ws all.1)

own_items : (cols : List ColDesc) (k : ItemKind) (o : Option ℕ) → are_rows k ≡ false → IsOfItems cols k o → (i : ℕ) × ((o ≡ Some i) × HasItems cols k i)
own_items cols Rows o e h = absurd (true≢false e)
own_items cols Values o e h = absurd h
own_items cols Numbers None e h = absurd h
own_items cols Numbers (Some i) e h = (i, (refl, h))
own_items cols Ids None e h = absurd h
own_items cols Ids (Some i) e h = (i, (refl, tt))

own_kept : (c : Cube) (ms : List MeasureDesc) → AllByRecursion (λ m. IsMeasureOf (columns_at c.tables 0) m.form m.column) ms
    → ((n : ℕ) → list_any (λ (m : MeasureDesc). is_of n m.column) ms ≡ true → is_measured c n ≡ true) → AllByRecursion (IsKept c) (own_measures ms)
own_kept c [] all within = tt
own_kept c (m ∷ ms) all within =
    by (counts_rows m.form) refl (own_kept c ms all.1 (λ n e. within n (ap (λ b. is_of n m.column || b) e ∙ or_true (is_of n m.column))))
  where
    own : counts_rows m.form ≡ false → IsKept c (kept_of m)
    own e =
        let of = own_items (columns_at c.tables 0) (item_kind m.form) m.column e all.0 in
        let here : is_of of.0 m.column ≡ true = ap (is_of of.0) of.1.0 ∙ eq-eqb of.0 of.0 refl in
        record { column = of.0; is = of.1.0; measured = within of.0 (ap (λ b. b || list_any (λ (q : MeasureDesc). is_of of.0 q.column) ms) here); items = of.1.1 }

    by : (b : Bool) → counts_rows m.form ≡ b → AllByRecursion (IsKept c) (own_measures ms) → AllByRecursion (IsKept c) (map kept_of (cond (not b) (m ∷ filter (λ m. not (counts_rows m.form)) ms) (filter (λ m. not (counts_rows m.form)) ms)))
    by true e rest = rest
    by false e rest = (own e, rest)

all_of_both : {X : Type 0} (P : X → Type 0) (xs ys : List X) → AllByRecursion P xs → AllByRecursion P ys → AllByRecursion P (xs ++ ys)
all_of_both P [] ys a b = b
all_of_both P (x ∷ xs) ys a b = (a.0, all_of_both P xs ys a.1 b)

-- each measure that is kept behind the count of rows is of a measured column, which has what the measure is of
pub all_kept : (c : Cube) → IsSound c → AllByRecursion (IsKept c) (kept_behind c)
unfolding kept_behind
all_kept c s =
    all_of_both (IsKept c) (map known_count (measured c)) (own_measures c.measures) (known_kept c s (measured c) (any_there (measured c)))
    (own_kept c c.measures (recursion_from_All (λ m. IsMeasureOf (columns_at c.tables 0) m.form m.column) c.measures s.measures) (λ n e. e))
