-- The answer from the cells of segments is the plain answer over their rows.
use Rattle.std.proofs.lemmas.Bool.Decides.{nat_tests}
use Rattle.std.proofs.Common.{arith, eqb, suc, ◌≡◌, ◌++◌, ◌∷◌, [], ℕ, ℤ, pos, Bool, true, false, cond, List, length, map, Option, Some, None, refl, sym, ap, ◌∙◌}
use Rattle.std.specs.List.{AllByRecursion, cons_option, filter, filter_map, flat_map}
use Rattle.std.specs.Ordering.{eq_by_cmp}
use Rattle.std.proofs.lemmas.List.{length-map}
use Rattle.std.proofs.lemmas.List.Concat.{flat_map-cons}
use Rattle.cube_val.specs.declared.val.ColType.TheVariants as ty
use Rattle.cube_val.specs.declared.val.Val.{Val}
use Rattle.cube_val.specs.declared.val.Val.TheVariants.{Null, Int, Text}
use Rattle.cube_val.specs.Order.{number_of, row_cmp}
use Rattle.cube_val.specs.OrderLaws.{row_cmp_total}
use Rattle.cube_val.proofs.OrderFacts.{row_cmp_exact}
use Rattle.measure_laws.specs.MeasureFacts.{sum_laws}
use Rattle.measure_laws.specs.Measures.{int_sum, merged_sum, summed}
use Rattle.aggregation.specs.Groups.{aggregate, distinct, gather, values_at}
use Rattle.aggregation.proofs.GroupFacts.{gather_aggregates}
use Rattle.plain_answer.specs.declared.answer.OutVal.{OutVal}
use Rattle.plain_answer.specs.declared.answer.OutVal.TheVariants as out
use Rattle.plain_answer.specs.declared.answer.PlainRow.{PlainRow}
use Rattle.plain_answer.specs.declared.cond.Cond.TheVariants as cond'
use Rattle.plain_answer.specs.Aggregates.{cell, known, known_values, number_in, numbers_of, sum_shown as plain_sum_shown}
use Rattle.plain_answer.specs.Answers.{aggregates_of, groups_of, key_of, passes, plain_of, row_value, rows_at, table_of}
use Rattle.plain_answer.specs.Conditions.{truth_step}
use Rattle.plain_answer.specs.Truths.{is_true}
use Rattle.plain_answer.proofs.ConditionLemmas.{at_true}
use Rattle.run_history.specs.Cubes.{Snapshot}
use Rattle.fixed_cube.specs.Answers.{answer_of, by_first, first_of, gathered, group_of_cell, sum_shown}
use Rattle.fixed_cube.specs.Cells.{Cell, base_of}
use Rattle.fixed_cube.specs.Cube.{FitsSnapshot, fact_rows, rows_of}
use Rattle.fixed_cube.specs.Rows.{HasNumber, IsNumber, item_of_row, key_of_row}
use Rattle.fixed_cube.proofs.BaseFacts.{joined_fits, numbers_here}

-- ---- the rows of a group

-- the numbers that a sum takes are the items
numbers_are : (rows : List (List Val)) → AllByRecursion HasNumber rows → numbers_of (known_values (Some 2) rows) ≡ map item_of_row rows
numbers_are [] h = refl
numbers_are (row ∷ rows) h = by (cell row 2) h.0 (numbers_are rows h.1) where
  by : (v : Val) → IsNumber v → numbers_of (known_values (Some 2) rows) ≡ map item_of_row rows
      → numbers_of (cons_option (known v) (known_values (Some 2) rows)) ≡ number_of v ∷ map item_of_row rows
  by Null h rest = absurd h
  by (Int n) h rest = ap (λ ns. n ∷ ns) rest
  by (Text t) h rest = absurd h

not_none : (n : ℕ) → eqb (suc n) 0 ≡ false
not_none n = grind (arith, nat_tests)

sum_is : (ns : List ℤ) → sum_shown (length ns) (int_sum ns) ≡ plain_sum_shown ty.Int ns
sum_is [] = refl
sum_is (n ∷ ns) = let some : eqb (length (n ∷ ns)) 0 ≡ false = not_none (length ns) in rw some refl

group_is : (rows : List (List Val)) → AllByRecursion HasNumber rows → (group_of_cell ([], summed (map item_of_row rows))).values ≡ aggregates_of by_first.aggs rows
group_is rows h =
    let count : out.Whole (pos (length (map item_of_row rows))) ≡ out.Whole (pos (length rows)) = ap (λ n. out.Whole (pos n)) (length-map rows item_of_row) in
    let sum : sum_shown (length (map item_of_row rows)) (int_sum (map item_of_row rows)) ≡ plain_sum_shown ty.Int (numbers_of (known_values (Some 2) rows)) =
    sum_is (map item_of_row rows) ∙ ap (plain_sum_shown ty.Int) (sym (numbers_are rows h)) in
    λ i. count i ∷ sum i ∷ []

all_filter : {X : Type 0} (P : X → Type 0) (p : X → Bool) (xs : List X) → AllByRecursion P xs → AllByRecursion P (filter p xs)
all_filter P p [] h = tt
all_filter {X} P p (x ∷ xs) h = by (p x) (all_filter P p xs h.1) where
  by : (b : Bool) → AllByRecursion P (filter p xs) → AllByRecursion P (cond b (x ∷ filter p xs) (filter p xs))
  by true more = (h.0, more)
  by false more = more

-- ---- all groups

-- D1 of a row, as a key
abbrev first_of_row : List Val → List Val
first_of_row row = first_of (key_of_row row)

groups_of_keys : (rows keys : List (List Val)) → AllByRecursion HasNumber rows
    → map group_of_cell (map {B = Cell} (λ k. (k, summed (values_at row_cmp first_of_row item_of_row rows k))) keys)
    ≡ map {B = PlainRow} (λ key. record { key = key; values = aggregates_of by_first.aggs (rows_at (0 ∷ []) rows key) }) keys
groups_of_keys rows [] h = refl
groups_of_keys rows (k ∷ keys) h =
    let here = group_is (rows_at (0 ∷ []) rows k) (all_filter HasNumber (λ row. eq_by_cmp row_cmp k (key_of (0 ∷ []) row)) rows h) in
    let rest = groups_of_keys rows keys h in
    λ i. record { key = k; values = here i } ∷ rest i

groups_are : (rows : List (List Val)) → AllByRecursion HasNumber rows → map group_of_cell (aggregate row_cmp first_of_row item_of_row summed rows) ≡ groups_of by_first.group by_first.aggs rows
groups_are rows h = groups_of_keys rows (distinct row_cmp (map first_of_row rows)) h

-- ---- the answer

all_pass : {X : Type 0} (p : X → Bool) → ((x : X) → p x ≡ true) → (xs : List X) → filter p xs ≡ xs
all_pass p h [] = refl
all_pass p h (x ∷ xs) = rw (h x) (ap (λ ys. x ∷ ys) (all_pass p h xs))

every_row_passes : (row : List Val) → passes cond'.True row ≡ true
every_row_passes row = ap is_true (at_true (truth_step (row_value row)))

flat_map-map : {X Y Z : Type 0} (f : Y → List Z) (g : X → Y) (xs : List X) → flat_map f (map g xs) ≡ flat_map (λ x. f (g x)) xs
flat_map-map f g [] = refl
flat_map-map f g (x ∷ xs) = flat_map-cons f (g x) (map g xs) ∙ ap (λ ys. f (g x) ++ ys) (flat_map-map f g xs) ∙ sym (flat_map-cons (λ x. f (g x)) x xs)

all_numbers : (lists : List (List (List Val))) → AllByRecursion (AllByRecursion HasNumber) lists → AllByRecursion HasNumber (flat_map (λ rows. rows) lists)
all_numbers [] h = tt
all_numbers (rows ∷ lists) h = rw flat_map-cons (joined rows h.0 (all_numbers lists h.1)) where
  joined : (xs : List (List Val)) → AllByRecursion HasNumber xs → AllByRecursion HasNumber (flat_map (λ rows. rows) lists) → AllByRecursion HasNumber (xs ++ flat_map (λ rows. rows) lists)
  joined [] g more = more
  joined (x ∷ xs) g more = (g.0, joined xs g.1 more)

pub answer_is : (lists : List (List (List Val))) → AllByRecursion (AllByRecursion HasNumber) lists → answer_of (map base_of lists) ≡ plain_of by_first (flat_map (λ rows. rows) lists)
answer_is lists h =
    let rows = flat_map (λ (rows : List (List Val)). rows) lists in
    let flat : flat_map (λ (cells : List Cell). cells) (map base_of lists) ≡ flat_map base_of lists = flat_map-map (λ (cells : List Cell). cells) base_of lists in
    let cells : gathered (map base_of lists) ≡ aggregate row_cmp first_of_row item_of_row summed rows =
    ap (gather row_cmp first_of (summed []) merged_sum) flat ∙ gather_aggregates row_cmp_total row_cmp_exact row_cmp_total row_cmp_exact sum_laws first_of key_of_row item_of_row lists in
    let groups : map group_of_cell (gathered (map base_of lists)) ≡ groups_of by_first.group by_first.aggs rows = ap (map group_of_cell) cells ∙ groups_are rows (all_numbers lists h) in
    let passing : rows ≡ filter (passes by_first.filter) rows = sym (all_pass (passes by_first.filter) every_row_passes rows) in
    ap (table_of by_first) (groups ∙ ap (groups_of by_first.group by_first.aggs) passing)

rows_have_numbers : (snapshots : List Snapshot) → AllByRecursion FitsSnapshot snapshots → AllByRecursion (AllByRecursion HasNumber) (map rows_of snapshots)
rows_have_numbers [] h = tt
rows_have_numbers (s ∷ snapshots) h = (numbers_here (rows_of s) (joined_fits s.range (fact_rows s) h.0.1).1, rows_have_numbers snapshots h.1)

pub answer_of_snapshots : (snapshots : List Snapshot) → AllByRecursion FitsSnapshot snapshots → answer_of (map base_of (map rows_of snapshots)) ≡ plain_of by_first (flat_map rows_of snapshots)
answer_of_snapshots snapshots h =
    answer_is (map rows_of snapshots) (rows_have_numbers snapshots h) ∙ ap (plain_of by_first) (flat_map-map (λ (rows : List (List Val)). rows) rows_of snapshots)
