-- The rows of a table, by a part of their keys.
use Rattle.std.proofs.Common.{◌≡◌, ◌+◌, ◌∙◌, ℕ, List, [], ◌∷◌, get_or, map, length, refl, sym, ap, arith}
use Rattle.std.specs.Prelude.{All, sum_by}
use Rattle.std.specs.List.{AllByRecursion}
use Rattle.std.proofs.lemmas.List.Elements.{All-from_recursion, recursion_from_All}
use Rattle.std.proofs.lemmas.List.Sums.{sum_by-cons}
use Rattle.agg_group.specs.declared.mask.Mask.{Mask}
use Rattle.agg_group.specs.Mask.{IsWithin, count_of}
use Rattle.measure_laws.specs.declared.measure.MeasureForm.{MeasureForm}
use Rattle.aggregation.specs.Groups.{merged_all}
use Rattle.cell_store.specs.Cells.{IsCellTable, ItemsAreFew, form_of, items_at, key_cmp}
use Rattle.cell_store.specs.declared.cell.Cell.{Cell}
use Rattle.cell_gather.specs.Gathers.{gathered}
use Rattle.cell_gather.specs.Keys.{part_of}
use Rattle.cell_gather.specs.Merges.{merged_cells, no_cells}
use Rattle.cell_gather.proofs.GatherFacts.{grouped-map}
use Rattle.cell_gather.proofs.KeyFacts.{length-part}

abbrev pub Row : Type 0
Row = List ℕ × List Cell

-- a row by a part of its key
abbrev pub by_part : Mask → Mask → Row → Row
by_part whole part row = (part_of whole part row.0, row.1)

mapped : {X Y : Type 0} (P : Y → Type 0) (f : X → Y) (xs : List X) → AllByRecursion (λ x. P (f x)) xs → AllByRecursion P (map f xs)
mapped P f [] h = tt
mapped P f (x ∷ xs) h = (h.0, mapped P f xs h.1)

pub all_mapped : {X Y : Type 0} (P : Y → Type 0) (f : X → Y) (xs : List X) → All (λ x. P (f x)) xs → All P (map f xs)
all_mapped P f xs all = All-from_recursion P (map f xs) (mapped P f xs (recursion_from_All (λ x. P (f x)) xs all))

pub sum_mapped : {X Y : Type 0} (g : Y → ℕ) (f : X → Y) (xs : List X) → sum_by g (map f xs) ≡ sum_by (λ x. g (f x)) xs
sum_mapped g f [] = refl
sum_mapped g f (x ∷ xs) = sum_by-cons g (f x) (map f xs) ∙ ap (λ n. g (f x) + n) (sum_mapped g f xs) ∙ sym (sum_by-cons (λ y. g (f y)) x xs)

-- what gathering asks of rows
pub record IsToGather (dims : Mask) (forms : List MeasureForm) (rows : List Row) : Type 0 where
  pub widths : All (λ row. length row.0 ≡ count_of dims) rows
  pub forms_of : All (λ row. map form_of row.1 ≡ forms) rows
  pub few : ItemsAreFew forms rows

-- the rows of a table may be gathered by a part of their keys
pub parts_gather : (whole part : Mask) (forms : List MeasureForm) (rows : List Row) → IsWithin part whole → IsCellTable whole forms rows → IsToGather part forms (map (by_part whole part) rows)
parts_gather whole part forms rows within table = record {
  widths = all_mapped (λ (row : Row). length row.0 ≡ count_of part) (by_part whole part) rows (λ k d lt. length-part whole part (get_or rows k d).0 within (table.widths k d lt));
  forms_of = all_mapped (λ (row : Row). map form_of row.1 ≡ forms) (by_part whole part) rows table.cells;
  few = λ k lt. let same = sum_mapped (λ (row : Row). items_at k row.1) (by_part whole part) rows in let fits = table.few k lt in omega arith;
}

pub gathered-parts : (whole part : Mask) (forms : List MeasureForm) (rows : List Row) → gathered forms (λ key. key) (map (by_part whole part) rows) ≡ gathered forms (part_of whole part) rows
gathered-parts whole part forms rows = grouped-map key_cmp (by_part whole part) (λ (row : Row). row.0) (λ (row : Row). row.1) (merged_all (no_cells forms) merged_cells) rows
