-- What a table keeps.
use Rattle.std.proofs.Common.{◌≡◌, ◌<◌, ◌+◌, ◌*◌, ◌^◌, ◌∙◌, ℕ, zero, suc, List, [], ◌∷◌, ◌++◌, map, length, take, drop, refl, sym, ap, subst, arith, append-nil, length-append}
use Rattle.std.specs.Prelude.{All}
use Rattle.std.specs.declared.cmp.Ordering.TheVariants.{Less}
use Rattle.std.specs.List.{AllByRecursion, range_with_len}
use Rattle.std.specs.List.Sorted.{IsStrictlySortedBy}
use Rattle.std.proofs.lemmas.List.{append_assoc, drop_all, get_or_push, length-map, length_push, map-append, take-map, take_all, take_at}
use Rattle.std.proofs.lemmas.List.Elements.{All-push, All-take}
use Rattle.std.proofs.lemmas.List.Sums.{sum_by-take-drop}
use Rattle.agg_group.specs.declared.mask.Mask.{Mask}
use Rattle.agg_group.specs.Mask.{count_of}
use Rattle.measure_laws.specs.declared.measure.MeasureForm.{MeasureForm}
use Rattle.cell_store.specs.Cells.{IsCellTable, ItemsAreFew, form_of, items_at, key_cmp}
use Rattle.cell_store.specs.Columns.{AreColumns, lists_of, rows_of, with_key}
use Rattle.cell_store.specs.declared.cell.Cell.{Cell}
use Rattle.cell_store.proofs.ColumnLemmas.{Column, Row, each-with_key, length-column, length-with_key, rows_of-push}

pub empty_table : (mask : Mask) (forms : List MeasureForm) → IsCellTable mask forms []
unfolding IsStrictlySortedBy
empty_table mask forms = record { widths = λ k d h. absurd (omega arith); cells = λ k d h. absurd (omega arith); rising = tt; few = λ k h. omega arith }

-- what is written over the whole of a list
pub written : {X : Type 0} (new old : List X) (n : ℕ) → length old ≡ n → length new ≡ length old → take n (new ++ drop (length new) old) ≡ new
written new old n size same = ap (λ l. take n (new ++ l)) (drop_all (length new) old (omega arith)) ∙ ap (take n) (append-nil new) ∙ take_all n new (omega arith)

-- ---- a front of a table

all_front : {X : Type 0} (P : X → Type 0) (n : ℕ) (xs : List X) → AllByRecursion P xs → AllByRecursion P (take n xs)
all_front P zero xs all = tt
all_front P (suc n) [] all = tt
all_front P (suc n) (x ∷ xs) all = (all.0, all_front P n xs all.1)

rises_front : (n : ℕ) (keys : List (List ℕ)) → IsStrictlySortedBy key_cmp keys → IsStrictlySortedBy key_cmp (take n keys)
unfolding IsStrictlySortedBy
rises_front zero keys up = tt
rises_front (suc n) [] up = tt
rises_front (suc n) (key ∷ keys) up = (all_front (λ k. key_cmp key k ≡ Less) n keys up.0, rises_front n keys up.1)

pub table_front : (mask : Mask) (forms : List MeasureForm) (rows : List Row) (n : ℕ) → IsCellTable mask forms rows → IsCellTable mask forms (take n rows)
table_front mask forms rows n t = record {
  widths = All-take (λ (r : Row). length r.0 ≡ count_of mask) n rows t.widths;
  cells = All-take (λ (r : Row). map form_of r.1 ≡ forms) n rows t.cells;
  rising = subst (IsStrictlySortedBy key_cmp) (take-map (λ (r : Row). r.0) n rows) (rises_front n (map (λ (r : Row). r.0) rows) t.rising);
  few = λ k lt. omega (arith, t.few k lt, sum_by-take-drop (λ (r : Row). items_at k r.1) rows n);
}

-- ---- a table with one row more

pub pushed_table : (mask : Mask) (forms : List MeasureForm) (rows : List Row) (key : List ℕ) (cells : List Cell) → IsCellTable mask forms rows → length key ≡ count_of mask → map form_of cells ≡ forms
    → IsStrictlySortedBy key_cmp (map (λ row. row.0) rows ++ key ∷ []) → ItemsAreFew forms (rows ++ (key, cells) ∷ []) → IsCellTable mask forms (rows ++ (key, cells) ∷ [])
pushed_table mask forms rows key cells t width formed up few =
    let row : Row = (key, cells) in
    record {
      widths = All-push (λ (r : Row). length r.0 ≡ count_of mask) rows row t.widths width;
      cells = All-push (λ (r : Row). map form_of r.1 ≡ forms) rows row t.cells formed;
      rising = subst (IsStrictlySortedBy key_cmp) (sym (map-append (λ (r : Row). r.0) rows (row ∷ []))) up;
      few = few;
    }

pub pushed_columns : (mask : Mask) (forms : List MeasureForm) (count : ℕ) (columns : List (List ℕ)) (cells : List Cell) (key : List ℕ) (more : List Cell)
    → AreColumns mask forms count columns cells → length key ≡ count_of mask → map form_of more ≡ forms
    → IsStrictlySortedBy key_cmp (map (λ row. row.0) (rows_of count columns (length forms) cells) ++ key ∷ []) → ItemsAreFew forms (rows_of count columns (length forms) cells ++ (key, more) ∷ [])
    → AreColumns mask forms (count + 1) (with_key columns key) (cells ++ more)
pushed_columns mask forms count columns cells key more t width formed up few =
    let same : length columns ≡ length key = t.dims ∙ sym width in
    let size : length more ≡ length forms = sym (length-map more form_of) ∙ ap length formed in
    record {
      dims = length-with_key columns key same ∙ t.dims;
      each = each-with_key columns key count same t.each;
      whole = length-append cells more ∙ omega (arith, t.whole);
      table =
          subst (IsCellTable mask forms) (sym (rows_of-push count columns (length forms) cells key more same t.each t.whole size))
          (pushed_table mask forms (rows_of count columns (length forms) cells) key more t.table width formed up few);
    }

-- ---- how many rows there may be

all_last : {X : Type 0} (P : X → Type 0) (xs : List X) (x : X) → AllByRecursion P (xs ++ x ∷ []) → P x
all_last P [] x all = all.0
all_last P (y ∷ xs) x all = all_last P xs x all.1

empty_key : (key : List ℕ) → length key ≡ 0 → key ≡ []
empty_key [] e = refl
empty_key (id ∷ key) e = absurd (omega arith)

-- of keys without a number at most one stands in a table
one_key : (count width : ℕ) (cells : List Cell) (key : List ℕ) → length key ≡ 0 → IsStrictlySortedBy key_cmp (map (λ row. row.0) (rows_of count [] width cells) ++ key ∷ []) → count ≡ 0
unfolding IsStrictlySortedBy
one_key zero width cells key none up = refl
one_key (suc count) width cells key none up =
    let less = all_last (λ k. key_cmp [] k ≡ Less) (map (λ (r : Row). r.0) (map (λ place. ([], take width (drop (place * width) cells))) (range_with_len (0 + 1) count))) key up.0 in
    let same : key_cmp [] [] ≡ Less = subst (λ k. key_cmp [] k ≡ Less) (empty_key key none) less in
    absurd (cc same)

pub count_fits : (columns : List Column) (count width : ℕ) (cells : List Cell) (key : List ℕ) → All (λ c. length c ≡ count) (lists_of columns) → length columns ≡ length key
    → IsStrictlySortedBy key_cmp (map (λ row. row.0) (rows_of count (lists_of columns) width cells) ++ key ∷ []) → count + 1 < 2 ^ 64
count_fits [] count width cells key each same up = omega (arith, one_key count width cells key (sym same) up)
count_fits (c ∷ columns) count width cells key each same up =
    let size = length-column (c ∷ columns) count 0 c each (omega arith) refl in
    omega (arith, size, c.ok, c.small)

-- ---- rows that go into a table one by one

all_at_last : (P : Row → Type 0) (rows : List Row) (row : Row) → All P (rows ++ row ∷ []) → P row
all_at_last P rows row all = subst P (get_or_push rows row row (length rows) refl) (all (length rows) row (omega (arith, length_push rows row)))

-- what the next row meets
pub record IsNext (mask : Mask) (forms : List MeasureForm) (rows : List Row) (row : Row) : Type 0 where
  pub width : length row.0 ≡ count_of mask
  pub formed : map form_of row.1 ≡ forms
  pub rising : IsStrictlySortedBy key_cmp (map (λ row. row.0) rows ++ row.0 ∷ [])
  pub few : ItemsAreFew forms (rows ++ row ∷ [])

pub next_row : (mask : Mask) (forms : List MeasureForm) (rows : List Row) (row : Row) (rest all : List Row) → IsCellTable mask forms all → rows ++ row ∷ rest ≡ all → IsNext mask forms rows row
next_row mask forms rows row rest all t e =
    let parts : (rows ++ row ∷ []) ++ rest ≡ all = append_assoc rows (row ∷ []) rest ∙ e in
    let front : take (length (rows ++ row ∷ [])) all ≡ rows ++ row ∷ [] = ap (take (length (rows ++ row ∷ []))) (sym parts) ∙ take_at (rows ++ row ∷ []) rest (length (rows ++ row ∷ [])) refl in
    let f : IsCellTable mask forms (rows ++ row ∷ []) = subst (IsCellTable mask forms) front (table_front mask forms all (length (rows ++ row ∷ [])) t) in
    record {
      width = all_at_last (λ (r : Row). length r.0 ≡ count_of mask) rows row f.widths;
      formed = all_at_last (λ (r : Row). map form_of r.1 ≡ forms) rows row f.cells;
      rising = subst (IsStrictlySortedBy key_cmp) (map-append (λ (r : Row). r.0) rows (row ∷ [])) f.rising;
      few = f.few;
    }
