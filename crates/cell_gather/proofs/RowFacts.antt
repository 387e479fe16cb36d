-- The cells of rows, and rows with the cells of themselves alone.
use Rattle.std.proofs.Common.{◌≡◌, ◌≤◌, ℕ, zero, suc, List, [], ◌∷◌, Some, None, get_or, map, length, refl, arith}
use Rattle.std.specs.Prelude.{Option, sum_by}
use Rattle.std.specs.List.{cons_option, filter_map}
use Rattle.std.proofs.lemmas.List.Sums.{sum_by-cons}
use Rattle.agg_group.specs.declared.mask.Mask.{Mask}
use Rattle.agg_group.specs.Mask.{count_of}
use Rattle.measure_laws.specs.Measures.{most_items}
use Rattle.cell_store.specs.Cells.{form_of, items_at}
use Rattle.cell_store.proofs.KindFacts.{form-of, items-of}
use Rattle.cell_gather.specs.Gathers.{RowMeasure, cells_of, forms_of}
use Rattle.cell_gather.proofs.TableFacts.{IsToGather, Row, all_mapped, sum_mapped}

pub length-filter_map : {X Y : Type 0} (h : X → Option Y) (xs : List X) → length (filter_map h xs) ≤ length xs
length-filter_map h [] = omega arith
length-filter_map {Y = Y} h (x ∷ xs) = by (h x) (length-filter_map h xs)
  where
    by : (o : Option Y) → length (filter_map h xs) ≤ length xs → length (cons_option o (filter_map h xs)) ≤ length (x ∷ xs)
    by None more = omega arith
    by (Some y) more = omega arith

module _ {R : Type 0} where
  -- the cells of rows have the forms of the measures
  pub forms-cells : (ms : List (RowMeasure R)) (rows : List R) → map form_of (cells_of ms rows) ≡ forms_of ms
  forms-cells [] rows = refl
  forms-cells (m ∷ ms) rows = let h = form-of m.form (filter_map m.item rows) in let t = forms-cells ms rows in λ i. h i ∷ t i

  -- and are of no more items than there are rows
  pub items-cells : (ms : List (RowMeasure R)) (k : ℕ) (rows : List R) → items_at k (cells_of ms rows) ≤ length rows
  items-cells [] k rows = omega arith
  items-cells (m ∷ ms) zero rows = let h = items-of m.form (filter_map m.item rows) in let few = length-filter_map m.item rows in omega arith
  items-cells (m ∷ ms) (suc k) rows = items-cells ms k rows

  few_each : (f : R → ℕ) → ((r : R) → f r ≤ 1) → (rows : List R) → sum_by f rows ≤ length rows
  few_each f one [] = omega arith
  few_each f one (r ∷ rows) = let front = sum_by-cons f r rows in let rest = few_each f one rows in let here = one r in omega arith

  -- rows, each with the cells of itself alone, may be gathered
  pub rows_gather : (dims : Mask) (ms : List (RowMeasure R)) (key : R → List ℕ) (rows : List R) → ((r : R) → length (key r) ≡ count_of dims) → length rows ≤ most_items
      → IsToGather dims (forms_of ms) (map (λ row. (key row, cells_of ms (row ∷ []))) rows)
  rows_gather dims ms key rows width few =
      let alone : R → Row = λ row. (key row, cells_of ms (row ∷ [])) in
      record {
        widths = all_mapped (λ (row : Row). length row.0 ≡ count_of dims) alone rows (λ k d lt. width (get_or rows k d));
        forms_of = all_mapped (λ (row : Row). map form_of row.1 ≡ forms_of ms) alone rows (λ k d lt. forms-cells ms (get_or rows k d ∷ []));
        few = λ k lt.
            let same = sum_mapped (λ (row : Row). items_at k row.1) alone rows in
            let each = few_each (λ r. items_at k (cells_of ms (r ∷ []))) (λ r. items-cells ms k (r ∷ [])) rows in
            omega arith;
      }
