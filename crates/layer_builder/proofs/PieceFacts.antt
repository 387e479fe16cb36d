-- The base cuboid of rows, from those of the pieces of the rows.
use Rattle.std.proofs.Common.{◌≡◌, ◌≤◌, ◌<◌, ◌+◌, ◌-◌, ◌∙◌, ℕ, zero, suc, List, [], ◌∷◌, ◌++◌, Ok, Err, drop, get_or, length, map, refl, sym, take, ap, arith, append_assoc}
use Rattle.std.specs.Borrow.{Bor}
use Rattle.std.specs.Prelude.{All, IfOk, Result, sum_by}
use Rattle.std.specs.Cmp.Lexicographic.{nat_list_cmp_total}
use Rattle.std.specs.List.{AllByRecursion, AllZip, flat_map}
use Rattle.std.proofs.lemmas.List.{append-nil, drop-drop, length-append, map-append, take-append-drop}
use Rattle.std.proofs.lemmas.List.Elements.{All-from_recursion}
use Rattle.std.proofs.lemmas.List.FromFn.{length-map-range_with_len}
use Rattle.std.proofs.lemmas.List.Sums.{sum_by-append, sum_by-cons}
use Rattle.agg_group.specs.declared.mask.Mask.{Mask}
use Rattle.measure_laws.specs.declared.measure.MeasureForm.{MeasureForm}
use Rattle.measure_laws.specs.Measures.{MeasureLaws}
use Rattle.aggregation.specs.Groups.{distinct, values_at}
use Rattle.aggregation.proofs.CellFacts.{count_aggregate}
use Rattle.cube_val.specs.declared.val.Val.{Val}
use Rattle.plain_answer.specs.declared.ask.Agg.{Agg}
use Rattle.cell_store.specs.Cells.{CellRows, ItemsAreFew, items_at, key_cmp}
use Rattle.cell_gather.specs.Gathers.{RowMeasure, aggregated, cells_of, forms_of, gathered}
use Rattle.cell_gather.specs.Keys.{part_of}
use Rattle.cell_gather.proofs.GatherFacts.{key_exact, law}
use Rattle.cell_gather.proofs.KeyFacts.{whole_part}
use Rattle.cell_gather.proofs.RowFacts.{items-cells}
use Rattle.cell_gather.proofs.TableFacts.{Row, sum_mapped}
use Rattle.plain_answer.specs.Kinds.{form_of_kind}
use Rattle.layer_builder.specs.Base.{IsBase, base_mask, key_in, key_width, measures_from}
use Rattle.layer_builder.specs.Pieces.{AreBases, ArePieces}
use Rattle.layer_builder.proofs.BaseFacts.{forms_from}
use Rattle.layer_builder.proofs.MaskFacts.{count_base}

-- ---- pieces

pub flat_map-append : {X Y : Type 0} (f : X → List Y) (xs ys : List X) → flat_map f (xs ++ ys) ≡ flat_map f xs ++ flat_map f ys
flat_map-append f [] ys = refl
flat_map-append f (x ∷ xs) ys = ap (λ l. f x ++ l) (flat_map-append f xs ys) ∙ sym (append_assoc (f x) (flat_map f xs) (flat_map f ys))

pub flat_map-push : {X Y : Type 0} (f : X → List Y) (xs : List X) (x : X) → flat_map f (xs ++ x ∷ []) ≡ flat_map f xs ++ f x
flat_map-push f xs x = flat_map-append f xs (x ∷ []) ∙ ap (λ l. flat_map f xs ++ l) (append-nil (f x))

pub flat_map-map : {X Y Z : Type 0} (f : Y → List Z) (g : X → Y) (xs : List X) → flat_map f (map g xs) ≡ flat_map (λ x. f (g x)) xs
flat_map-map f g [] = refl
flat_map-map f g (x ∷ xs) = ap (λ l. f (g x) ++ l) (flat_map-map f g xs)

pub flat_map-mapped : {T X Y : Type 0} (f : X → Y) (g : T → List X) (ts : List T) → flat_map (λ t. map f (g t)) ts ≡ map f (flat_map g ts)
flat_map-mapped f g [] = refl
flat_map-mapped f g (t ∷ ts) = ap (λ l. map f (g t) ++ l) (flat_map-mapped f g ts) ∙ sym (map-append f (g t) (flat_map g ts))

-- a part of a list is no longer than it
pub part_short : {T X : Type 0} (f : T → List X) (ts : List T) (i : ℕ) (d : T) → i < length ts → length (f (get_or ts i d)) ≤ length (flat_map f ts)
part_short f [] i d lt = absurd (omega arith)
part_short f (t ∷ ts) zero d lt = let sizes = length-append (f t) (flat_map f ts) in omega arith
part_short f (t ∷ ts) (suc i) d lt = let sizes = length-append (f t) (flat_map f ts) in let rest = part_short f ts i d (omega arith) in omega arith

-- a piece that is cut off, and the rest
pub cut_off : {X : Type 0} (done : List X) (rows all : List X) (start end : ℕ) → start ≤ end → done ++ drop start rows ≡ all → (done ++ take (end - start) (drop start rows)) ++ drop end rows ≡ all
cut_off done rows all start end le whole =
    let there : start + (end - start) ≡ end = omega arith in
    append_assoc done (take (end - start) (drop start rows)) (drop end rows)
    ∙ ap (λ l. done ++ (take (end - start) (drop start rows) ++ l)) (sym (drop-drop (end - start) start rows ∙ ap (λ n. drop n rows) there))
    ∙ ap (λ l. done ++ l) (take-append-drop (end - start) (drop start rows)) ∙ whole

-- ---- items of a base cuboid

pub sum_below : {X : Type 0} (f g : X → ℕ) → ((x : X) → f x ≤ g x) → (xs : List X) → sum_by f xs ≤ sum_by g xs
sum_below f g le [] = omega arith
sum_below f g le (x ∷ xs) = let a = sum_by-cons f x xs in let b = sum_by-cons g x xs in let rest = sum_below f g le xs in let here = le x in omega arith

module _ {R : Type 0} where
  pub length_laws : MeasureLaws {Item = R} (λ (n : ℕ). n) (λ rows. length rows) (λ a b. a + b)
  length_laws = record {
    associative = λ a b c. omega arith;
    commutative = λ a b. omega arith;
    neutral = λ a. omega arith;
    joined = λ xs ys. length-append xs ys;
    counted = λ xs. refl;
    counts_add = λ a b. refl;
  }

  -- of no more than there are rows
  pub items-aggregated : (ms : List (RowMeasure R)) (key : R → List ℕ) (k : ℕ) (rows : List R) → sum_by (λ (row : Row). items_at k row.1) (aggregated ms key rows) ≤ length rows
  items-aggregated ms key k rows =
      let keys = distinct key_cmp (map key rows) in
      let values : List ℕ → List R = λ q. values_at key_cmp key (λ row. row) rows q in
      let own = sum_mapped (λ (row : Row). items_at k row.1) (λ q. let row : Row = (q, cells_of ms (values q)) in row) keys in
      let counts = sum_mapped (λ (c : List ℕ × ℕ). c.1) (λ q. let pair : List ℕ × ℕ = (q, length (values q)) in pair) keys in
      let below = sum_below (λ q. items_at k (cells_of ms (values q))) (λ q. length (values q)) (λ q. items-cells ms k (values q)) keys in
      let all = count_aggregate nat_list_cmp_total key_exact length_laws key (λ row. row) rows in
      omega arith

  pub items-pieces : (ms : List (RowMeasure R)) (key : R → List ℕ) (k : ℕ) (lists : List (List R))
      → sum_by (λ (row : Row). items_at k row.1) (flat_map (aggregated ms key) lists) ≤ length (flat_map (λ rows. rows) lists)
  items-pieces ms key k [] = omega arith
  items-pieces ms key k (rows ∷ lists) =
      let sums = sum_by-append (λ (row : Row). items_at k row.1) (aggregated ms key rows) (flat_map (aggregated ms key) lists) in
      let sizes = length-append rows (flat_map (λ rows. rows) lists) in
      let first = items-aggregated ms key k rows in
      let rest = items-pieces ms key k lists in
      omega arith

-- ---- the base cuboid from those of its pieces

pub width_of_key : (dicts : List (List Val)) (width : ℕ) (row : List Val) → length (key_in dicts width row) ≡ width
width_of_key dicts width row = length-map-range_with_len _ 0 width

whole_key : (dicts : List (List Val)) (width : ℕ) → width ≤ 64 → (row : List Val) → part_of (base_mask width) (base_mask width) (key_in dicts width row) ≡ key_in dicts width row
whole_key dicts width few row = whole_part (base_mask width) (key_in dicts width row) (width_of_key dicts width row ∙ sym (count_base width few))

pub from_pieces : (ms : List (RowMeasure (List Val))) (dicts : List (List Val)) (width : ℕ) → width ≤ 64 → (lists : List (List (List Val)))
    → gathered (forms_of ms) (part_of (base_mask width) (base_mask width)) (flat_map (aggregated ms (key_in dicts width)) lists) ≡ aggregated ms (key_in dicts width) (flat_map (λ rows. rows) lists)
from_pieces ms dicts width few lists =
    let m = base_mask width in
    law ms (key_in dicts width) (part_of m m) lists ∙ (λ i. aggregated ms (λ row. whole_key dicts width few row i) (flat_map (λ rows. rows) lists))

-- ---- all pieces

module _ (aggs : List Agg) (dicts : List (List Val)) (few_dims : key_width aggs dicts ≤ 64) where
  abbrev pub ms : List (RowMeasure (List Val))
  ms = measures_from dicts (key_width aggs dicts) aggs

  abbrev pub key : List Val → List ℕ
  key = key_in dicts (key_width aggs dicts)

  abbrev pub kinds : List MeasureForm
  kinds = map (λ agg. form_of_kind agg.kind) aggs

  abbrev pub base : Mask
  base = base_mask (key_width aggs dicts)

  rows_of_tables : (lists : List (List (List Val))) (tables : List CellRows) → AllZip (IsBase aggs dicts) lists tables
      → flat_map (λ (t : CellRows). t.rows) tables ≡ flat_map (aggregated ms key) lists
  rows_of_tables [] [] h = refl
  rows_of_tables [] (t ∷ tables) h = absurd h
  rows_of_tables (rows ∷ lists) [] h = absurd h
  rows_of_tables (rows ∷ lists) (t ∷ tables) h = let first = h.0 in let own = first.rows in let rest = rows_of_tables lists tables h.1 in λ i. own i ++ rest i

  alike_each : (lists : List (List (List Val))) (tables : List CellRows) → AllZip (IsBase aggs dicts) lists tables → AllByRecursion (λ (t : CellRows). (t.mask ≡ base) × (t.forms ≡ kinds)) tables
  alike_each [] [] h = tt
  alike_each [] (t ∷ tables) h = absurd h
  alike_each (rows ∷ lists) [] h = absurd h
  alike_each (rows ∷ lists) (t ∷ tables) h = let first = h.0 in ((first.mask, first.forms), alike_each lists tables h.1)

  pub alike : (tables : List CellRows) → ArePieces aggs dicts tables → All (λ (t : CellRows). (t.mask ≡ base) × (t.forms ≡ kinds)) tables
  alike tables p = All-from_recursion (λ (t : CellRows). (t.mask ≡ base) × (t.forms ≡ kinds)) tables (alike_each p.bases.pieces tables p.bases.each)

  pub few_in_tables : (tables : List CellRows) → ArePieces aggs dicts tables → ItemsAreFew kinds (flat_map (λ (t : CellRows). t.rows) tables)
  few_in_tables tables p k lt =
      let own = items-pieces ms key k p.bases.pieces in
      let size : length (flat_map (λ piece. piece) p.bases.pieces) ≡ length p.rows = ap length p.bases.cut in
      let few = p.few in
      rw (rows_of_tables p.bases.pieces tables p.bases.each) (omega arith)

  pub joined_is : {E : Type 0} (tables : List CellRows) → (result : Result CellRows E) → IfOk result (λ t. t.mask ≡ base) → IfOk result (λ t. t.forms ≡ kinds)
      → IfOk result (λ t. t.rows ≡ gathered kinds (part_of base base) (flat_map (λ (t : CellRows). t.rows) tables))
      → IfOk result (λ t. (rows : List (List Val)) → AreBases aggs dicts rows tables → IsBase aggs dicts rows t)
  joined_is tables (Ok t) mask forms gives = λ rows bases. record {
    mask = mask;
    forms = forms;
    rows = gives ∙ (λ i. gathered (sym (forms_from dicts (key_width aggs dicts) aggs) i) (part_of base base) (rows_of_tables bases.pieces tables bases.each i))
        ∙ from_pieces ms dicts (key_width aggs dicts) few_dims bases.pieces ∙ ap (aggregated ms key) bases.cut;
  }
  joined_is tables (Err e) mask forms gives = tt

-- ---- the tables of rows that are cut

module _ (aggs : List Agg) (dicts : List (List Val)) where
  each_list : (pieces : List (Bor (List (List Val)))) (tables : List CellRows) → AllZip (λ (p : Bor (List (List Val))) (t : CellRows). IsBase aggs dicts p.now t) pieces tables
      → AllZip (IsBase aggs dicts) (map (λ (p : Bor (List (List Val))). p.now) pieces) tables
  each_list [] [] h = tt
  each_list [] (t ∷ tables) h = absurd h
  each_list (p ∷ pieces) [] h = absurd h
  each_list (p ∷ pieces) (t ∷ tables) h = (h.0, each_list pieces tables h.1)

  pub bases_cut : (pieces : List (Bor (List (List Val)))) (rows : List (List Val)) (tables : List CellRows) → flat_map (λ (p : Bor (List (List Val))). p.now) pieces ≡ rows
      → AllZip (λ (p : Bor (List (List Val))) (t : CellRows). IsBase aggs dicts p.now t) pieces tables → AreBases aggs dicts rows tables
  bases_cut pieces rows tables cut each = record {
    pieces = map (λ (p : Bor (List (List Val))). p.now) pieces;
    cut = flat_map-map (λ (piece : List (List Val)). piece) (λ (p : Bor (List (List Val))). p.now) pieces ∙ cut;
    each = each_list pieces tables each;
  }

  pub bases_none : AreBases aggs dicts [] []
  bases_none = record { pieces = []; cut = refl; each = tt }

  each_append : (xs ys : List (List (List Val))) (ts us : List CellRows) → AllZip (IsBase aggs dicts) xs ts → AllZip (IsBase aggs dicts) ys us → AllZip (IsBase aggs dicts) (xs ++ ys) (ts ++ us)
  each_append [] ys [] us h k = k
  each_append [] ys (t ∷ ts) us h k = absurd h
  each_append (x ∷ xs) ys [] us h k = absurd h
  each_append (x ∷ xs) ys (t ∷ ts) us h k = (h.0, each_append xs ys ts us h.1 k)

  -- the tables of two parts are those of both
  pub bases_append : (xs ys : List (List Val)) (ts us : List CellRows) → AreBases aggs dicts xs ts → AreBases aggs dicts ys us → AreBases aggs dicts (xs ++ ys) (ts ++ us)
  bases_append xs ys ts us a b = record {
    pieces = a.pieces ++ b.pieces;
    cut = flat_map-append (λ (piece : List (List Val)). piece) a.pieces b.pieces ∙ (λ i. a.cut i ++ b.cut i);
    each = each_append a.pieces b.pieces ts us a.each b.each;
  }
