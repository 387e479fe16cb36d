-- Columns, and the rows that stand in them.
use Rattle.std.proofs.Common.{◌≡◌, ◌≤◌, ◌<◌, ◌+◌, ◌*◌, ◌∙◌, ℕ, List, [], ◌∷◌, ◌++◌, map, length, get_or, set, take, drop, refl, sym, ap, subst, arith, below_more}
use Rattle.std.specs.Prelude.{All, Vec, slice_index, vec_len}
use Rattle.std.specs.declared.alloc.Global.{Global}
use Rattle.std.specs.List.{AllWithin, range_with_len}
use Rattle.std.proofs.lemmas.List.{drop-append-le, drop_at, drop_more, get_or-map, get_or-set_other, get_or-set_same, get_or_append_left, get_or_at, length-append, length-drop, length-map, length-take, same_lists, set_at, take-append-le, take_all, take_more, append_assoc}
use Rattle.std.proofs.lemmas.List.Elements.{All-cons, All-head, All-tail}
use Rattle.std.proofs.lemmas.List.FromFn.{get_or-map-range_with_len, length-map-range_with_len, map-range_with_len_more}
use Rattle.cell_store.specs.declared.cell.Cell.{Cell}
use Rattle.cell_store.specs.Columns.{cells_at, key_at, lists_of, rows_of, with_key}
use Rattle.cell_store.specs.Selects.{row_at}

abbrev pub Column : Type 0
Column = Vec ℕ Global

abbrev pub Row : Type 0
Row = List ℕ × List Cell

-- ---- one column

-- the numbers of a column are a list of the columns' lists
pub list_of : (columns : List Column) (k : ℕ) (v : Column) → k < length columns → v ≡ get_or columns k v → v.items ≡ get_or (lists_of columns) k []
list_of columns k v lt is = ap (λ (w : Column). w.items) is ∙ sym (get_or-map (λ (w : Column). w.items) columns k v [] lt)

pub length-lists_of : (columns : List Column) → length (lists_of columns) ≡ length columns
length-lists_of columns = length-map columns (λ (w : Column). w.items)

-- a number of a key is a number of a column
pub number_of : (columns : List Column) (place k : ℕ) (v : Column) → k < length columns → v ≡ get_or columns k v → slice_index v.items place ≡ slice_index (key_at (lists_of columns) place) k
number_of columns place k v lt is =
    ap (λ (l : List ℕ). get_or l place 0) (list_of columns k v lt is)
    ∙ sym (get_or-map (λ (l : List ℕ). get_or l place 0) (lists_of columns) k [] 0 (omega (arith, length-lists_of columns)))

-- ---- what holds of the elements when one is written

pub within-set : {X : Type 0} (P : X → Type 0) (xs : List X) (k : ℕ) (x : X) → k < length xs → AllWithin P xs 0 k → P x → AllWithin P (set xs k x) 0 (k + 1)
within-set P xs k x lt before here j d low high =
    below_more (λ i. P (get_or (set xs k x) i d)) k
    (λ i h. subst P (sym (get_or-set_other xs k i x d (omega arith))) (before i d (omega arith) h))
    (subst P (sym (get_or-set_same xs k x d lt)) here) j high

-- ---- a key behind columns

pub length-with_key : (columns : List (List ℕ)) (key : List ℕ) → length columns ≡ length key → length (with_key columns key) ≡ length columns
length-with_key [] key e = refl
length-with_key (c ∷ columns) [] e = absurd (omega arith)
length-with_key (c ∷ columns) (id ∷ key) e = let rest = length-with_key columns key (omega arith) in omega arith

with_key-push : (columns : List (List ℕ)) (key : List ℕ) (c : List ℕ) (id : ℕ) → length columns ≡ length key → with_key (columns ++ c ∷ []) (key ++ id ∷ []) ≡ with_key columns key ++ (c ++ id ∷ []) ∷ []
with_key-push [] [] c id e = refl
with_key-push [] (i ∷ key) c id e = absurd (omega arith)
with_key-push (b ∷ columns) [] c id e = absurd (omega arith)
with_key-push (b ∷ columns) (i ∷ key) c id e = ap (λ l. (b ++ i ∷ []) ∷ l) (with_key-push columns key c id (omega arith))

-- the columns of a loop that puts a key, one number at a time
module _ (A : List (List ℕ)) (B : List ℕ) (L : List (List ℕ)) (k : ℕ) (lt : k < length A) (same : length B ≡ length A) (so_far : L ≡ with_key (take k A) (take k B) ++ drop k A) where
  length-done : length (with_key (take k A) (take k B)) ≡ k
  length-done =
      let a = length-take k A in
      let b = length-take k B in
      length-with_key (take k A) (take k B) (omega arith) ∙ omega arith

  opened : L ≡ with_key (take k A) (take k B) ++ get_or A k [] ∷ drop (k + 1) A
  opened = so_far ∙ ap (λ l. with_key (take k A) (take k B) ++ l) (drop_more A k [] lt)

  pub put-set : (v : List ℕ) → v ≡ get_or L k [] ++ get_or B k 0 ∷ [] → set L k v ≡ with_key (take (k + 1) A) (take (k + 1) B) ++ drop (k + 1) A
  put-set v made =
      let a = length-take k A in
      let b = length-take k B in
      let here : get_or L k [] ≡ get_or A k [] = ap (λ l. get_or l k []) opened ∙ get_or_at (with_key (take k A) (take k B)) (get_or A k []) (drop (k + 1) A) [] k length-done in
      let pushed : with_key (take (k + 1) A) (take (k + 1) B) ≡ with_key (take k A) (take k B) ++ (get_or A k [] ++ get_or B k 0 ∷ []) ∷ [] =
      (λ i. with_key (take_more A k [] lt i) (take_more B k 0 (omega arith) i)) ∙ with_key-push (take k A) (take k B) (get_or A k []) (get_or B k 0) (omega arith) in
      ap (λ l. set l k v) opened ∙ set_at (with_key (take k A) (take k B)) (get_or A k []) (drop (k + 1) A) v k length-done
      ∙ ap (λ x. with_key (take k A) (take k B) ++ x ∷ drop (k + 1) A) (made ∙ ap (λ l. l ++ get_or B k 0 ∷ []) here)
      ∙ sym (append_assoc (with_key (take k A) (take k B)) ((get_or A k [] ++ get_or B k 0 ∷ []) ∷ []) (drop (k + 1) A)) ∙ ap (λ l. l ++ drop (k + 1) A) (sym pushed)

-- ---- rows

-- the row at a place
pub row_here : (count : ℕ) (columns : List (List ℕ)) (width : ℕ) (cells : List Cell) (place : ℕ) → place < count
    → row_at (rows_of count columns width cells) place ≡ (key_at columns place, cells_at width cells place)
row_here count columns width cells place lt = get_or-map-range_with_len (λ place. (key_at columns place, cells_at width cells place)) 0 count place place ([], []) lt (omega arith)

pub length-rows_of : (count : ℕ) (columns : List (List ℕ)) (width : ℕ) (cells : List Cell) → length (rows_of count columns width cells) ≡ count
length-rows_of count columns width cells = length-map-range_with_len (λ place. (key_at columns place, cells_at width cells place)) 0 count

-- the cells of a row are within the cells
pub cells_fit : (place count width : ℕ) → place < count → place * width + width ≤ count * width
cells_fit place count width lt = grind arith

-- functions that agree at the numbers below n
same_below : {X : Type 0} (f g : ℕ → X) (n : ℕ) → ((k : ℕ) → k < n → f k ≡ g k) → map f (range_with_len 0 n) ≡ map g (range_with_len 0 n)
same_below f g n same =
    let a = length-map-range_with_len f 0 n in
    let b = length-map-range_with_len g 0 n in
    same_lists (map f (range_with_len 0 n)) (map g (range_with_len 0 n)) (a ∙ sym b)
    (λ k d lt. get_or-map-range_with_len f 0 n k k d (omega arith) (omega arith) ∙ same k (omega arith) ∙ sym (get_or-map-range_with_len g 0 n k k d (omega arith) (omega arith)))

-- an earlier key is as it was
key_before : (columns : List (List ℕ)) (key : List ℕ) (count place : ℕ) → length columns ≡ length key → All (λ c. length c ≡ count) columns → place < count → key_at (with_key columns key) place ≡ key_at columns place
key_before [] key count place e each lt = refl
key_before (c ∷ columns) [] count place e each lt = absurd (omega arith)
key_before (c ∷ columns) (id ∷ key) count place e each lt =
    let size : length c ≡ count = All-head (λ (l : List ℕ). length l ≡ count) c columns each in
    let first : get_or (c ++ id ∷ []) place 0 ≡ get_or c place 0 = get_or_append_left c (id ∷ []) 0 place (omega arith) in
    let rest = key_before columns key count place (omega arith) (All-tail (λ (l : List ℕ). length l ≡ count) c columns each) lt in
    λ i. first i ∷ rest i

-- and the last is the one that was put
key_last : (columns : List (List ℕ)) (key : List ℕ) (count : ℕ) → length columns ≡ length key → All (λ c. length c ≡ count) columns → key_at (with_key columns key) count ≡ key
key_last [] [] count e each = refl
key_last [] (id ∷ key) count e each = absurd (omega arith)
key_last (c ∷ columns) [] count e each = absurd (omega arith)
key_last (c ∷ columns) (id ∷ key) count e each =
    let size : length c ≡ count = All-head (λ (l : List ℕ). length l ≡ count) c columns each in
    let first : get_or (c ++ id ∷ []) count 0 ≡ id = get_or_at c id [] 0 count size in
    let rest = key_last columns key count (omega arith) (All-tail (λ (l : List ℕ). length l ≡ count) c columns each) in
    λ i. first i ∷ rest i

-- rows with one more
pub rows_of-push : (count : ℕ) (columns : List (List ℕ)) (width : ℕ) (cells : List Cell) (key : List ℕ) (more : List Cell)
    → length columns ≡ length key → All (λ c. length c ≡ count) columns → length cells ≡ count * width → length more ≡ width
    → rows_of (count + 1) (with_key columns key) width (cells ++ more) ≡ rows_of count columns width cells ++ (key, more) ∷ []
rows_of-push count columns width cells key more dims each whole size =
    let now : ℕ → Row = λ place. (key_at (with_key columns key) place, cells_at width (cells ++ more) place) in
    let was : ℕ → Row = λ place. (key_at columns place, cells_at width cells place) in
    let earlier : (place : ℕ) → place < count → now place ≡ was place =
    λ place lt.
    let fit = cells_fit place count width lt in
    let keys = key_before columns key count place dims each lt in
    let room : place * width ≤ length cells = omega arith in
    let left : width ≤ length (drop (place * width) cells) = omega (arith, length-drop (place * width) cells) in
    let some : cells_at width (cells ++ more) place ≡ cells_at width cells place = ap (take width) (drop-append-le (place * width) cells more room) ∙ take-append-le width (drop (place * width) cells) more left in
    λ i. (keys i, some i) in
    let last : now count ≡ (key, more) =
    let keys = key_last columns key count dims each in
    let some : cells_at width (cells ++ more) count ≡ more = ap (take width) (drop_at cells more (count * width) whole) ∙ take_all width more (omega arith) in
    λ i. (keys i, some i) in
    map-range_with_len_more now 0 count count (omega arith) ∙ (λ i. same_below now was count earlier i ++ last i ∷ [])

-- each column has one number more
pub each-with_key : (columns : List (List ℕ)) (key : List ℕ) (count : ℕ) → length columns ≡ length key → All (λ c. length c ≡ count) columns → All (λ c. length c ≡ count + 1) (with_key columns key)
each-with_key columns key count e each = each_by columns key e each
  where
    each_by : (columns : List (List ℕ)) (key : List ℕ) → length columns ≡ length key → All (λ c. length c ≡ count) columns → All (λ c. length c ≡ count + 1) (with_key columns key)
    each_by [] key e each = λ k d lt. absurd (omega arith)
    each_by (c ∷ columns) [] e each = absurd (omega arith)
    each_by (c ∷ columns) (id ∷ key) e each =
        let size : length c ≡ count = All-head (λ (l : List ℕ). length l ≡ count) c columns each in
        All-cons (λ (l : List ℕ). length l ≡ count + 1) (c ++ id ∷ []) (with_key columns key) (omega (arith, length-append c (id ∷ [])))
        (each_by columns key (omega arith) (All-tail (λ (l : List ℕ). length l ≡ count) c columns each))

-- so many numbers has each column
pub length-column : (columns : List Column) (count k : ℕ) (v : Column) → All (λ c. length c ≡ count) (lists_of columns) → k < length columns → v ≡ get_or columns k v → vec_len v ≡ count
length-column columns count k v each lt is =
    v.ok.0 ∙ ap (λ (l : List ℕ). length l) (list_of columns k v lt is) ∙ each k [] (omega (arith, length-lists_of columns))

-- a key has a number for each column
pub width_here : (count : ℕ) (columns : List (List ℕ)) (width : ℕ) (cells : List Cell) (place : ℕ) → place < count → length (row_at (rows_of count columns width cells) place).0 ≡ length columns
width_here count columns width cells place lt = ap (λ (r : Row). length r.0) (row_here count columns width cells place lt) ∙ length-map columns (λ column. get_or column place 0)
