-- What the loops keep.
use Rattle.std.proofs.Common.{◌≡◌, ◌≤◌, ◌<◌, ◌+◌, ◌∙◌, ℕ, zero, suc, List, [], ◌∷◌, ◌++◌, map, length, get_or, set, take, drop, true, refl, sym, ap, subst, arith, append_assoc}
use Rattle.std.specs.Prelude.{All, Some, slice_get, sum_by}
use Rattle.std.specs.Cmp.Lexicographic.{bytes_decides, nat_list_cmp_total}
use Rattle.std.specs.declared.cmp.Ordering.TheVariants.{Less}
use Rattle.std.specs.List.{AllByRecursion, filter, prefix_len}
use Rattle.std.specs.List.Sorted.{IsPermutation, IsSortedBy, IsStrictlySortedBy, ties}
use Rattle.std.specs.Ordering.{is_lt}
use Rattle.std.proofs.lemmas.List.{append-nil, drop_all, drop_more, get_or_at, length-take, map-append, set_at, take_all, take_more}
use Rattle.std.proofs.lemmas.List.Folds.{length-prefix_len}
use Rattle.std.proofs.lemmas.List.Elements.{All-drop, All-take, recursion_from_All}
use Rattle.std.proofs.lemmas.List.Sorted.{ranks_by, sorted_far}
use Rattle.std.proofs.lemmas.List.Sums.{sum_by-append, sum_by-cons, sum_by-take-drop}
use Rattle.measure_laws.specs.declared.measure.MeasureForm.{MeasureForm}
use Rattle.aggregation.specs.Groups.{merged_all}
use Rattle.aggregation.proofs.GroupFacts.{rises-grouped}
use Rattle.cell_store.specs.Cells.{form_of, items_at, items_of, key_cmp, merged_cell}
use Rattle.cell_store.specs.declared.cell.Cell.{Cell}
use Rattle.cell_gather.specs.Gathers.{gathered}
use Rattle.cell_gather.specs.Merges.{merged_cells, no_cells}
use Rattle.cell_gather.specs.Runs.{has_key}
use Rattle.cell_gather.proofs.GatherFacts.{key_exact}
use Rattle.cell_gather.proofs.MergeFacts.{forms-merged, items-merged, merged_cells-push}
use Rattle.cell_gather.proofs.RunFacts.{IsUp, first_counts, grouped-front, grouped-moved, stable_keys, up-drop, up_from_sorted}

-- ---- cells merged one by one

pub items_at-get : (cells : List Cell) (k : ℕ) (d : Cell) → k < length cells → items_at k cells ≡ items_of (get_or cells k d)
items_at-get [] k d lt = absurd (omega arith)
items_at-get (c ∷ cells) zero d lt = refl
items_at-get (c ∷ cells) (suc k) d lt = items_at-get cells k d (omega arith)

length-merged : (cells others : List Cell) → length cells ≡ length others → length (merged_cells cells others) ≡ length cells
length-merged [] others e = refl
length-merged (c ∷ cells) [] e = absurd (omega arith)
length-merged (c ∷ cells) (o ∷ others) e = let rest = length-merged cells others (omega arith) in omega arith

merged-push : (cells others : List Cell) (c o : Cell) → length cells ≡ length others → merged_cells (cells ++ c ∷ []) (others ++ o ∷ []) ≡ merged_cells cells others ++ merged_cell c o ∷ []
merged-push [] [] c o e = refl
merged-push [] (p ∷ others) c o e = absurd (omega arith)
merged-push (b ∷ cells) [] c o e = absurd (omega arith)
merged-push (b ∷ cells) (p ∷ others) c o e = ap (λ l. merged_cell b p ∷ l) (merged-push cells others c o (omega arith))

module _ (A B L : List Cell) (k : ℕ) (lt : k < length A) (same : length A ≡ length B) (so_far : L ≡ merged_cells (take k A) (take k B) ++ drop k A) where
  done : List Cell
  done = merged_cells (take k A) (take k B)

  length-done : length done ≡ k
  unfolding done
  length-done =
      let a = length-take k A in
      let b = length-take k B in
      length-merged (take k A) (take k B) (omega arith) ∙ omega arith

  opened : (d : Cell) → L ≡ done ++ get_or A k d ∷ drop (k + 1) A
  unfolding done
  opened d = so_far ∙ ap (λ l. merged_cells (take k A) (take k B) ++ l) (drop_more A k d lt)

  -- the cell that a loop comes to is as it was
  pub merging_item : (d : Cell) → get_or L k d ≡ get_or A k d
  merging_item d = ap (λ l. get_or l k d) (opened d) ∙ get_or_at done (get_or A k d) (drop (k + 1) A) d k length-done

  -- and then the merge
  pub merging_set : (d v o : Cell) → o ≡ get_or B k o → v ≡ merged_cell (get_or L k d) o → set L k v ≡ merged_cells (take (k + 1) A) (take (k + 1) B) ++ drop (k + 1) A
  unfolding done
  merging_set d v o is made =
      let a = length-take k A in
      let b = length-take k B in
      let pushed : merged_cells (take (k + 1) A) (take (k + 1) B) ≡ done ++ merged_cell (get_or A k d) o ∷ [] =
      (λ i. merged_cells (take_more A k d lt i) (take_more B k o (omega arith) i)) ∙ merged-push (take k A) (take k B) (get_or A k d) (get_or B k o) (omega arith)
      ∙ ap (λ x. done ++ merged_cell (get_or A k d) x ∷ []) (sym is) in
      ap (λ l. set l k v) (opened d) ∙ set_at done (get_or A k d) (drop (k + 1) A) v k length-done
      ∙ ap (λ x. done ++ x ∷ drop (k + 1) A) (made ∙ ap (λ x. merged_cell x o) (merging_item d))
      ∙ sym (append_assoc done (merged_cell (get_or A k d) o ∷ []) (drop (k + 1) A)) ∙ ap (λ l. l ++ drop (k + 1) A) (sym pushed)

-- what is written over the whole of a list
pub written : {X : Type 0} (new old : List X) (n : ℕ) → length old ≡ n → length new ≡ length old → take n (new ++ drop (length new) old) ≡ new
written new old n size same = ap (λ l. take n (new ++ l)) (drop_all (length new) old (omega arith)) ∙ ap (take n) (append-nil new) ∙ take_all n new (omega arith)

-- ---- the cells of rows, merged row by row

abbrev Row : Type 0
Row = List ℕ × List Cell

abbrev HasForms : List MeasureForm → Row → Type 0
HasForms forms row = map form_of row.1 ≡ forms

abbrev pub items : ℕ → Row → ℕ
items k row = items_at k row.1

all_cells : (forms : List MeasureForm) (rows : List Row) → AllByRecursion (HasForms forms) rows → AllByRecursion (λ cells. map form_of cells ≡ forms) (map (λ row. row.1) rows)
all_cells forms [] h = tt
all_cells forms (r ∷ rows) h = (h.0, all_cells forms rows h.1)

pub all_cells_of : (forms : List MeasureForm) (rows : List Row) → All (HasForms forms) rows → AllByRecursion (λ cells. map form_of cells ≡ forms) (map (λ row. row.1) rows)
all_cells_of forms rows all = all_cells forms rows (recursion_from_All (HasForms forms) rows all)

sum_of_cells : (k : ℕ) (rows : List Row) → sum_by (items_at k) (map (λ row. row.1) rows) ≡ sum_by (items k) rows
sum_of_cells k [] = refl
sum_of_cells k (r ∷ rows) = sum_by-cons (items_at k) r.1 (map (λ row. row.1) rows) ∙ ap (λ n. items_at k r.1 + n) (sum_of_cells k rows) ∙ sym (sum_by-cons (items k) r rows)

abbrev pub merged_of : List MeasureForm → List Row → List Cell
merged_of forms rows = merged_all (no_cells forms) merged_cells (map (λ row. row.1) rows)

pub forms_of_merged : (forms : List MeasureForm) (rows : List Row) → All (HasForms forms) rows → map form_of (merged_of forms rows) ≡ forms
forms_of_merged forms rows all = forms-merged forms (map (λ row. row.1) rows) (all_cells_of forms rows all)

pub items_of_merged : (forms : List MeasureForm) (k : ℕ) (rows : List Row) → All (HasForms forms) rows → items_at k (merged_of forms rows) ≡ sum_by (items k) rows
items_of_merged forms k rows all = items-merged forms k (map (λ row. row.1) rows) (all_cells_of forms rows all) ∙ sum_of_cells k rows

pub merged_more : (forms : List MeasureForm) (rows : List Row) (i : ℕ) (row : Row) → i < length rows → row ≡ get_or rows i row → All (HasForms forms) rows
    → merged_of forms (take (i + 1) rows) ≡ merged_cells (merged_of forms (take i rows)) row.1
merged_more forms rows i row lt is all =
    let front = all_cells_of forms (take i rows) (All-take (HasForms forms) i rows all) in
    let own : map form_of row.1 ≡ forms = subst (HasForms forms) (sym is) (all i row lt) in
    let more : take (i + 1) rows ≡ take i rows ++ row ∷ [] = take_more rows i row lt ∙ ap (λ (r : Row). take i rows ++ r ∷ []) (sym is) in
    ap (merged_of forms) more ∙ ap (merged_all (no_cells forms) merged_cells) (map-append (λ (r : Row). r.1) (take i rows) (row ∷ []))
    ∙ merged_cells-push forms (map (λ (r : Row). r.1) (take i rows)) row.1 front own

-- the cells so far have room for those of the next row
pub merging_room : (forms : List MeasureForm) (rows : List Row) (i : ℕ) (row : Row) (k n : ℕ) → i < length rows → row ≡ get_or rows i row → All (HasForms forms) rows → sum_by (items k) rows ≤ n
    → items_at k (merged_of forms (take i rows)) + items_at k row.1 ≤ n
merging_room forms rows i row k n lt is all few =
    let so_far = items_of_merged forms k (take i rows) (All-take (HasForms forms) i rows all) in
    let parts = sum_by-take-drop (items k) rows i in
    let next : sum_by (items k) (drop i rows) ≡ items k row + sum_by (items k) (drop (i + 1) rows)
    = ap (sum_by (items k)) (drop_more rows i row lt) ∙ sum_by-cons (items k) (get_or rows i row) (drop (i + 1) rows) ∙ ap (λ (r : Row). items k r + sum_by (items k) (drop (i + 1) rows)) (sym is) in
    omega arith

-- ---- runs of rows in order

up_of : (rows : List Row) → IsSortedBy (λ a b. is_lt (key_cmp a.0 b.0)) rows → IsUp nat_list_cmp_total key_exact (λ (row : Row). row.0) rows
up_of rows sorted = up_from_sorted nat_list_cmp_total key_exact (λ (row : Row). row.0) rows (sorted_far (λ (a b : Row). is_lt (key_cmp a.0 b.0)) (ranks_by nat_list_cmp_total (λ (row : Row). row.0)) rows sorted)

tells : (key : List ℕ) (row : Row) → has_key key row ≡ true → row.0 ≡ key
tells key row e = (bytes_decides row.0 key).0 e

holds : (key : List ℕ) (row : Row) → row.0 ≡ key → has_key key row ≡ true
holds key row e = (bytes_decides row.0 key).1 e

-- what is left from a place on is the run of the key there, and the rest
pub record IsFront (forms : List MeasureForm) (rest : List Row) (key : List ℕ) (n : ℕ) : Type 0 where
  pub some : 0 < n
  pub within : n ≤ length rest
  pub groups : gathered forms (λ key. key) rest ≡ (key, merged_of forms (take n rest)) ∷ gathered forms (λ key. key) (drop n rest)

front_of : (forms : List MeasureForm) (rest : List Row) (first : Row) (more : List Row) → rest ≡ first ∷ more → IsUp nat_list_cmp_total key_exact (λ (row : Row). row.0) rest
    → IsFront forms rest first.0 (prefix_len (has_key first.0) rest)
front_of forms rest first more is up =
    let same = has_key first.0 in
    subst (λ (l : List Row). IsFront forms l first.0 (prefix_len (has_key first.0) l)) (sym is)
    (record {
      some = first_counts nat_list_cmp_total key_exact (λ (row : Row). row.0) same first.0 (tells first.0) (holds first.0) first more refl;
      within = let size = length-prefix_len same (first ∷ more) in let least = length-take (prefix_len same (first ∷ more)) (first ∷ more) in omega arith;
      groups = grouped-front nat_list_cmp_total key_exact (λ (row : Row). row.0) same first.0 (tells first.0) (holds first.0) (λ (row : Row). row.1) (merged_all (no_cells forms) merged_cells) first more
          (subst (IsUp nat_list_cmp_total key_exact (λ (row : Row). row.0)) is up) refl;
    })

pub front_at : (forms : List MeasureForm) (rows : List Row) (start : ℕ) (first : Row) (n : ℕ) → IsSortedBy (λ a b. is_lt (key_cmp a.0 b.0)) rows → start < length rows → first ≡ get_or rows start first
    → n ≡ prefix_len (has_key first.0) (drop start rows) → IsFront forms (drop start rows) first.0 n
front_at forms rows start first n sorted lt is size =
    let opened : drop start rows ≡ first ∷ drop (start + 1) rows = drop_more rows start first lt ∙ ap (λ (r : Row). r ∷ drop (start + 1) rows) (sym is) in
    subst (IsFront forms (drop start rows) first.0) (sym size)
    (front_of forms (drop start rows) first (drop (start + 1) rows) opened (up-drop nat_list_cmp_total key_exact (λ (row : Row). row.0) start rows (up_of rows sorted)))

-- a run is of the rows
pub run_forms : (forms : List MeasureForm) (rows : List Row) (start n : ℕ) → All (HasForms forms) rows → All (HasForms forms) (take n (drop start rows))
run_forms forms rows start n all = All-take (HasForms forms) n (drop start rows) (All-drop (HasForms forms) start rows all)

all_front : (P : List ℕ → Type 0) (xs ys : List (List ℕ)) → AllByRecursion P (xs ++ ys) → AllByRecursion P xs
all_front P [] ys h = tt
all_front P (x ∷ xs) ys h = (h.0, all_front P xs ys h.1)

rises-front : (xs ys : List (List ℕ)) → IsStrictlySortedBy key_cmp (xs ++ ys) → IsStrictlySortedBy key_cmp xs
unfolding IsStrictlySortedBy
rises-front [] ys h = tt
rises-front (x ∷ xs) ys h = (all_front (λ y. key_cmp x y ≡ Less) xs ys h.0, rises-front xs ys h.1)

-- the keys of the table rise with that of the run
pub keys_rise : (forms : List MeasureForm) (rows table rest : List Row) (key : List ℕ) (cells : List Cell) → table ++ (key, cells) ∷ rest ≡ gathered forms (λ key. key) rows
    → IsStrictlySortedBy key_cmp (map (λ row. row.0) table ++ key ∷ [])
keys_rise forms rows table rest key cells is =
    let keys : List Row → List (List ℕ) = λ l. map (λ row. row.0) l in
    let up = rises-grouped nat_list_cmp_total key_exact (λ (row : Row). row.0) (λ (row : Row). row.1) (merged_all (no_cells forms) merged_cells) rows in
    let split : keys (table ++ (key, cells) ∷ rest) ≡ (keys table ++ key ∷ []) ++ keys rest
    = map-append (λ (row : Row). row.0) table ((key, cells) ∷ rest) ∙ sym (append_assoc (keys table) (key ∷ []) (keys rest)) in
    rises-front (keys table ++ key ∷ []) (keys rest) (subst (IsStrictlySortedBy key_cmp) split (subst (λ (l : List Row). IsStrictlySortedBy key_cmp (keys l)) (sym is) up))

-- and the items of the table with those of the rest stay few
pub items_stay : (forms : List MeasureForm) (table rest : List Row) (key : List ℕ) (n k most : ℕ) → All (HasForms forms) rest → sum_by (items k) table + sum_by (items k) rest ≤ most
    → sum_by (items k) (table ++ (key, merged_of forms (take n rest)) ∷ []) + sum_by (items k) (drop n rest) ≤ most
items_stay forms table rest key n k most all few =
    let row : Row = (key, merged_of forms (take n rest)) in
    let whole = sum_by-append (items k) table (row ∷ []) in
    let one : sum_by (items k) (row ∷ []) ≡ items k row + 0 = sum_by-cons (items k) row [] in
    let run = items_of_merged forms k (take n rest) (All-take (HasForms forms) n rest all) in
    let parts = sum_by-take-drop (items k) rest n in
    omega arith

-- a stable sort by the keys leaves what the rows come to
pub gathered-sorted : (forms : List MeasureForm) (xs ys : List Row) → IsPermutation xs ys
    → ((x : Row) → filter (ties (λ (a b : Row). is_lt (key_cmp a.0 b.0)) x) ys ≡ filter (ties (λ (a b : Row). is_lt (key_cmp a.0 b.0)) x) xs)
    → gathered forms (λ key. key) ys ≡ gathered forms (λ key. key) xs
gathered-sorted forms xs ys moved stable =
    let combine : List (List Cell) → List Cell = merged_all (no_cells forms) merged_cells in
    grouped-moved nat_list_cmp_total key_exact (λ (row : Row). row.0) (λ (row : Row). row.1) combine xs ys moved
    (λ q. stable_keys nat_list_cmp_total key_exact (λ (row : Row). row.0) (λ (row : Row). row.1) combine xs ys stable (q, []))

-- ---- rows read from a table

-- one more row is read
pub take_read : {X : Type 0} (xs : List X) (i : ℕ) (x : X) → slice_get xs i ≡ Some x → take (i + 1) xs ≡ take i xs ++ x ∷ []
take_read [] i x e = cc e
take_read (y ∷ xs) zero x e = let same : y ≡ x = cc e in ap (λ z. z ∷ []) same
take_read (y ∷ xs) (suc i) x e = let more : suc i + 1 ≡ suc (i + 1) = omega arith in rw more (ap (λ l. y ∷ l) (take_read xs i x e))
