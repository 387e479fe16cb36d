-- Rows in the order of their keys, and the cells of their runs.
use Rattle.std.proofs.Common.{◌≡◌, ◌≤◌, ◌<◌, ◌+◌, ◌∙◌, ℕ, List, [], ◌∷◌, ◌++◌, map, length, get_or, take, drop, true, Ok, Err, refl, sym, ap, subst, arith, append_assoc}
use Rattle.std.specs.Prelude.{All, IfOk, Result, sum_by}
use Rattle.std.specs.Cmp.Lexicographic.{bytes_decides, nat_list_cmp_total}
use Rattle.std.specs.declared.cmp.Ordering.TheVariants.{Less}
use Rattle.std.specs.List.{AllByRecursion, filter, prefix_len}
use Rattle.std.specs.List.Sorted.{IsPermutation, IsSortedBy, IsStrictlySortedBy, ties}
use Rattle.std.specs.Ordering.{is_lt}
use Rattle.std.proofs.lemmas.List.{drop_more, length-take, map-append}
use Rattle.std.proofs.lemmas.List.Folds.{length-prefix_len}
use Rattle.std.proofs.lemmas.List.Sorted.{All-permutation, ranks_by, sorted_far}
use Rattle.std.proofs.lemmas.List.Sums.{sum_by-append}
use Rattle.aggregation.specs.Groups.{distinct, values_at}
use Rattle.aggregation.proofs.CellFacts.{count_aggregate}
use Rattle.aggregation.proofs.GroupFacts.{rises-grouped}
use Rattle.cell_store.specs.Cells.{CellRows, items_at, key_cmp}
use Rattle.cell_store.specs.declared.cell.Cell.{Cell}
use Rattle.cell_gather.specs.Gathers.{RowMeasure, aggregated, cells_of}
use Rattle.cell_gather.proofs.GatherFacts.{grouped-map, key_exact}
use Rattle.cell_gather.proofs.RowFacts.{items-cells}
use Rattle.cell_gather.proofs.RunFacts.{IsUp, first_counts, grouped-front, grouped-moved, stable_keys, up-drop, up_from_sorted}
use Rattle.cell_gather.proofs.TableFacts.{Row, all_mapped, sum_mapped}
use Rattle.cube_val.specs.declared.val.Val.{Val}
use Rattle.plain_answer.specs.declared.ask.Agg.{Agg}
use Rattle.plain_answer.specs.Kinds.{form_of_kind}
use Rattle.layer_builder.specs.Base.{IsBase, base_mask, key_in, key_width, measures_from}
use Rattle.layer_builder.specs.Runs.{cells_by_key, has_key}
use Rattle.layer_builder.proofs.PieceFacts.{length_laws, sum_below, width_of_key}

abbrev pub Keyed : Type 0
Keyed = List ℕ × List Val

abbrev pub key_at : Keyed → List ℕ
key_at row = row.0

abbrev pub vals_at : Keyed → List Val
vals_at row = row.1

up_of : (rows : List Keyed) → IsSortedBy (λ a b. is_lt (key_cmp a.0 b.0)) rows → IsUp nat_list_cmp_total key_exact key_at rows
up_of rows sorted = up_from_sorted nat_list_cmp_total key_exact key_at rows (sorted_far (λ (a b : Keyed). is_lt (key_cmp a.0 b.0)) (ranks_by nat_list_cmp_total key_at) rows sorted)

tells : (key : List ℕ) (row : Keyed) → has_key key row ≡ true → row.0 ≡ key
tells key row e = (bytes_decides row.0 key).0 e

holds : (key : List ℕ) (row : Keyed) → row.0 ≡ key → has_key key row ≡ true
holds key row e = (bytes_decides row.0 key).1 e

all_front : (P : List ℕ → Type 0) (xs ys : List (List ℕ)) → AllByRecursion P (xs ++ ys) → AllByRecursion P xs
all_front P [] ys h = tt
all_front P (x ∷ xs) ys h = (h.0, all_front P xs ys h.1)

rises-front : (xs ys : List (List ℕ)) → IsStrictlySortedBy key_cmp (xs ++ ys) → IsStrictlySortedBy key_cmp xs
unfolding IsStrictlySortedBy
rises-front [] ys h = tt
rises-front (x ∷ xs) ys h = (all_front (λ y. key_cmp x y ≡ Less) xs ys h.0, rises-front xs ys h.1)

module _ (ms : List (RowMeasure (List Val))) where
  -- what is left from a place on is the run of the key there, and the rest
  pub record IsFront (rest : List Keyed) (key : List ℕ) (n : ℕ) : Type 0 where
    pub some : 0 < n
    pub within : n ≤ length rest
    pub groups : cells_by_key ms rest ≡ (key, cells_of ms (map vals_at (take n rest))) ∷ cells_by_key ms (drop n rest)

  front_of : (rest : List Keyed) (first : Keyed) (more : List Keyed) → rest ≡ first ∷ more → IsUp nat_list_cmp_total key_exact key_at rest → IsFront rest first.0 (prefix_len (has_key first.0) rest)
  front_of rest first more is up =
      let same = has_key first.0 in
      subst (λ (l : List Keyed). IsFront l first.0 (prefix_len (has_key first.0) l)) (sym is)
      (record {
        some = first_counts nat_list_cmp_total key_exact key_at same first.0 (tells first.0) (holds first.0) first more refl;
        within = let size = length-prefix_len same (first ∷ more) in let least = length-take (prefix_len same (first ∷ more)) (first ∷ more) in omega arith;
        groups = grouped-front nat_list_cmp_total key_exact key_at same first.0 (tells first.0) (holds first.0) vals_at (cells_of ms) first more
            (subst (IsUp nat_list_cmp_total key_exact key_at) is up) refl;
      })

  pub front_at : (rows : List Keyed) (start : ℕ) (first : Keyed) (n : ℕ) → IsSortedBy (λ a b. is_lt (key_cmp a.0 b.0)) rows → start < length rows → first ≡ get_or rows start first
      → n ≡ prefix_len (has_key first.0) (drop start rows) → IsFront (drop start rows) first.0 n
  front_at rows start first n sorted lt is size =
      let opened : drop start rows ≡ first ∷ drop (start + 1) rows = drop_more rows start first lt ∙ ap (λ (r : Keyed). r ∷ drop (start + 1) rows) (sym is) in
      subst (IsFront (drop start rows) first.0) (sym size)
      (front_of (drop start rows) first (drop (start + 1) rows) opened (up-drop nat_list_cmp_total key_exact key_at start rows (up_of rows sorted)))

  -- the keys of the table rise with that of the run
  pub keys_rise : (rows : List Keyed) (table rest : List Row) (key : List ℕ) (cells : List Cell) → table ++ (key, cells) ∷ rest ≡ cells_by_key ms rows
      → IsStrictlySortedBy key_cmp (map (λ row. row.0) table ++ key ∷ [])
  keys_rise rows table rest key cells is =
      let keys : List Row → List (List ℕ) = λ l. map (λ row. row.0) l in
      let up = rises-grouped nat_list_cmp_total key_exact key_at vals_at (cells_of ms) rows in
      let split : keys (table ++ (key, cells) ∷ rest) ≡ (keys table ++ key ∷ []) ++ keys rest
      = map-append (λ (row : Row). row.0) table ((key, cells) ∷ rest) ∙ sym (append_assoc (keys table) (key ∷ []) (keys rest)) in
      rises-front (keys table ++ key ∷ []) (keys rest) (subst (IsStrictlySortedBy key_cmp) split (subst (λ (l : List Row). IsStrictlySortedBy key_cmp (keys l)) (sym is) up))

  items-by_key : (k : ℕ) (rows : List Keyed) → sum_by (λ (row : Row). items_at k row.1) (cells_by_key ms rows) ≤ length rows
  items-by_key k rows =
      let keys = distinct key_cmp (map key_at rows) in
      let values : List ℕ → List (List Val) = λ q. values_at key_cmp key_at vals_at rows q in
      let own = sum_mapped (λ (row : Row). items_at k row.1) (λ q. let row : Row = (q, cells_of ms (values q)) in row) keys in
      let counts = sum_mapped (λ (c : List ℕ × ℕ). c.1) (λ q. let pair : List ℕ × ℕ = (q, length (values q)) in pair) keys in
      let below = sum_below (λ q. items_at k (cells_of ms (values q))) (λ q. length (values q)) (λ q. items-cells ms k (values q)) keys in
      let all = count_aggregate nat_list_cmp_total key_exact length_laws key_at vals_at rows in
      omega arith

  -- and its items are no more than the rows
  pub items_few : (rows : List Keyed) (table rest : List Row) (row : Row) (k most : ℕ) → table ++ row ∷ rest ≡ cells_by_key ms rows → length rows ≤ most
      → sum_by (λ (row : Row). items_at k row.1) (table ++ row ∷ []) ≤ most
  items_few rows table rest row k most is few =
      let items : Row → ℕ = λ r. items_at k r.1 in
      let parts = sum_by-append items (table ++ row ∷ []) rest in
      let whole : sum_by items ((table ++ row ∷ []) ++ rest) ≡ sum_by items (cells_by_key ms rows) = ap (sum_by items) (append_assoc table (row ∷ []) rest ∙ is) in
      let all = items-by_key k rows in
      omega arith

  -- a stable sort by the keys leaves what the rows come to
  pub by_key-sorted : (xs ys : List Keyed) → IsPermutation xs ys
      → ((x : Keyed) → filter (ties (λ (a b : Keyed). is_lt (key_cmp a.0 b.0)) x) ys ≡ filter (ties (λ (a b : Keyed). is_lt (key_cmp a.0 b.0)) x) xs)
      → cells_by_key ms ys ≡ cells_by_key ms xs
  by_key-sorted xs ys moved stable =
      grouped-moved nat_list_cmp_total key_exact key_at vals_at (cells_of ms) xs ys moved (λ q. stable_keys nat_list_cmp_total key_exact key_at vals_at (cells_of ms) xs ys stable (q, []))

  -- of rows with a key of each it is their aggregate
  pub by_key-rows : (key : List Val → List ℕ) (rows : List (List Val)) → cells_by_key ms (map (λ row. (key row, row)) rows) ≡ aggregated ms key rows
  by_key-rows key rows = grouped-map key_cmp (λ (row : List Val). let keyed : Keyed = (key row, row) in keyed) key_at vals_at (cells_of ms) rows

-- ---- a piece

-- rows with their keys are of one width, in any order
pub widths_of : (dicts : List (List Val)) (width : ℕ) (rows : List (List Val)) (keyed sorted : List Keyed) → keyed ≡ map (λ row. (key_in dicts width row, row)) rows → IsPermutation keyed sorted
    → All (λ row. length row.0 ≡ width) sorted
widths_of dicts width rows keyed sorted made moved =
    let with_key : List Val → Keyed = λ row. (key_in dicts width row, row) in
    let each = all_mapped (λ (row : Keyed). length row.0 ≡ width) with_key rows (λ k d lt. width_of_key dicts width (get_or rows k d)) in
    All-permutation (λ (row : Keyed). length row.0 ≡ width) keyed sorted moved (subst (λ (l : List Keyed). All (λ row. length row.0 ≡ width) l) (sym made) each)

pub table_is : {E : Type 0} (aggs : List Agg) (dicts rows : List (List Val)) (result : Result CellRows E)
    → IfOk result (λ t. t.mask ≡ base_mask (key_width aggs dicts)) → IfOk result (λ t. t.forms ≡ map (λ agg. form_of_kind agg.kind) aggs)
    → IfOk result (λ t. t.rows ≡ aggregated (measures_from dicts (key_width aggs dicts) aggs) (key_in dicts (key_width aggs dicts)) rows)
    → IfOk result (IsBase aggs dicts rows)
table_is aggs dicts rows (Ok t) mask forms gives = record { mask = mask; forms = forms; rows = gives }
table_is aggs dicts rows (Err e) mask forms gives = tt
