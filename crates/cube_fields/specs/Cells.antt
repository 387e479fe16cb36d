-- Cell tables, and the bytes that they are written as.
use Rattle.std.specs.Prelude.{All, ◌≡◌, ◌≤◌, ◌<◌, ◌*◌, ◌^◌, ℕ, ℤ, pos, Bool, true, int_le, nat_abs, List, [], ◌∷◌, ◌++◌, Option, Some, None, FitsSigned, filter, length, map, slice_get, slice_index_or, sum_by, unwrap_or}
use Rattle.std.specs.Int.{w32, w64, w128, to_be_bytes}
use Rattle.std.specs.List.{AllByRecursion, flat_map, list_all}
use Rattle.std.specs.List.Sorted.{IsStrictlySortedBy}
use Rattle.agg_group.specs.declared.mask.Mask.{Mask}
use Rattle.agg_group.specs.Mask.{has}
use Rattle.agg_group.specs.Sets.{dimensions}
use Rattle.byte_frame.specs.Spelling.{EachFits, list_text, signed_text}
use Rattle.cell_store.specs.declared.cell.Cell.{Cell}
use Rattle.cell_store.specs.declared.cell.Cell.TheVariants.{Count, Known, Sum, Min, Max, Distinct}
use Rattle.cell_store.specs.Cells.{CellRows, key_cmp}
use Rattle.measure_laws.specs.declared.measure.MeasureForm.{MeasureForm}
use Rattle.measure_laws.specs.declared.measure.MeasureForm.TheVariants as measure
use Rattle.measure_laws.specs.Extremes.{Extreme}
use Rattle.measure_laws.specs.Ids.{Ids}
use Rattle.measure_laws.specs.Measures.{Summed, most_of_item}
use Rattle.cube_fields.specs.declared.forms.CellField.{CellField}
use Rattle.cube_fields.specs.declared.forms.Extremes.{Extremes}
use Rattle.cube_fields.specs.declared.forms.CellTableForm.{CellTableForm}

-- ---- bytes

abbrev pub id_text : ℕ → List ℕ
id_text id = to_be_bytes w32 id

-- a number of 64 bits; a valid cell has one
abbrev pub value_text : Option ℤ → List ℕ
value_text None = []
value_text (Some v) = signed_text w64 v

-- how many items a cell is of isn't written: each cell has as many as its row's count; so a count of known values takes no byte
abbrev pub cell_text : Cell → List ℕ
cell_text (Count n) = to_be_bytes w64 n
cell_text (Known n) = []
cell_text (Sum s) = signed_text w128 s.total
cell_text (Min m) = value_text m.value
cell_text (Max m) = value_text m.value
cell_text (Distinct d) = list_text id_text d.ids

-- the numbers of the key, and the cells
abbrev pub row_text : List ℕ × List Cell → List ℕ
row_text row = flat_map id_text row.0 ++ flat_map cell_text row.1

-- the mask, and a u32 count and the rows
abbrev pub table_text : CellRows → List ℕ
table_text t = to_be_bytes w64 t.mask.0 ++ list_text row_text t.rows

abbrev pub tables_text : List CellRows → List ℕ
tables_text tables = list_text table_text tables

-- the list of a cell, and the lists of a table, have a number of items that has a place
abbrev pub IsShortCell : Cell → Type 0
IsShortCell (Distinct d) = length d.ids < 2 ^ 32
IsShortCell c = Unit {0}

abbrev pub IsShortTable : CellRows → Type 0
IsShortTable t = (length t.rows < 2 ^ 32) × All (λ row. All IsShortCell row.1) t.rows

-- ---- cells

-- a number of a dictionary of this size
abbrev pub FitsId : ℕ → ℕ → Type 0
FitsId size id = (id < size) × (id < 2 ^ 32)

-- no farther from zero than so many numbers of 64 bits can bring it
abbrev pub FitsSum : ℕ → Summed → Type 0
FitsSum n s = (s.items ≡ n) × (nat_abs s.total ≤ n * most_of_item)

abbrev pub FitsExtreme : ℕ → Extreme → Type 0
FitsExtreme n m = (m.items ≡ n) × ((v : ℤ) × ((m.value ≡ Some v) × FitsSigned w64 v))

-- at least one number and no more than the items, which rise strictly, as those of every set do
abbrev pub FitsIds : ℕ → ℕ → Ids → Type 0
FitsIds n size d = (d.items ≡ n) × ((0 < length d.ids) × ((length d.ids ≤ n) × AllByRecursion (FitsId size) d.ids))

-- a cell of the form, of so many items; a second count of rows is none
abbrev pub FitsForm : ℕ → ℕ → MeasureForm → Cell → Type 0
FitsForm n size measure.Known (Known k) = k ≡ n
FitsForm n size measure.Sum (Sum s) = FitsSum n s
FitsForm n size measure.Min (Min m) = FitsExtreme n m
FitsForm n size measure.Max (Max m) = FitsExtreme n m
FitsForm n size measure.Distinct (Distinct d) = FitsIds n size d
FitsForm n size f c = ⊥

abbrev pub FitsCell : ℕ → CellField → Cell → Type 0
FitsCell n field c = FitsForm n field.size field.form c

-- a count of at least 1 and at most so many, and behind it a cell of so many items for each field
abbrev pub FitsCells : ℕ → List CellField → List Cell → Type 0
FitsCells most fields (Count n ∷ cells) = ((1 ≤ n) × (n ≤ most)) × EachFits (FitsCell n) fields cells
FitsCells most fields cells = ⊥

-- how many rows the cells count
abbrev pub count_in : List Cell → ℕ
count_in (Count n ∷ cells) = n
count_in cells = 0

-- the value of a least or a greatest cell
abbrev pub value_in : Option Cell → ℤ
value_in (Some (Min m)) = unwrap_or m.value (pos 0)
value_in (Some (Max m)) = unwrap_or m.value (pos 0)
value_in c = pos 0

-- the least value of a column is at most its greatest one
abbrev pub are_ordered : List Cell → Extremes → Bool
are_ordered cells e = int_le (value_in (slice_get cells e.least)) (value_in (slice_get cells e.greatest))

-- ---- tables

-- the dimensions of a mask, in the rising order of its bits
unfoldable pub dims_in : Mask → List ℕ
dims_in mask = filter (has mask) (dimensions 64)

-- the sizes of their dictionaries
unfoldable pub sizes_in : List ℕ → Mask → List ℕ
sizes_in sizes mask = map (λ d. slice_index_or sizes d 0) (dims_in mask)

-- the forms of measure of all cells, the count first
abbrev pub measures_of : CellTableForm → List MeasureForm
measures_of f = measure.Count ∷ map (λ field. field.form) f.cells

-- a key of numbers below the sizes, and cells of the form
pub record FitsRow (sizes : List ℕ) (f : CellTableForm) (row : List ℕ × List Cell) : Type 0 where
  pub key : EachFits FitsId sizes row.0
  pub cells : FitsCells f.most f.cells row.1
  pub ordered : list_all (are_ordered row.1) f.extremes ≡ true

-- such rows, whose keys rise strictly, and whose counts add up to at most so many
pub record FitsTable (f : CellTableForm) (m : Mask) (t : CellRows) : Type 0 where
  pub mask : t.mask ≡ m
  pub measures : t.forms ≡ measures_of f
  pub rows : AllByRecursion (FitsRow (sizes_in f.sizes m) f) t.rows
  pub rising : IsStrictlySortedBy key_cmp (map (λ row. row.0) t.rows)
  pub few : sum_by (λ row. count_in row.1) t.rows ≤ f.most

-- one table for each mask
abbrev pub FitsTables : CellTableForm → List Mask → List CellRows → Type 0
FitsTables f masks tables = EachFits (FitsTable f) masks tables
