-- The cells of the base cuboid: for D1 and D2 how many rows there are, and the sum of their M.
use Rattle.std.specs.Prelude.{◌≡◌, ◌≤◌, ◌*◌, ℕ, pos, neg_ℤ, ◌≤ℤ◌, Bool, true, List}
use Rattle.std.specs.List.{AllByRecursion, sum_by}
use Rattle.std.specs.Ordering.{is_lt}
use Rattle.byte_frame.specs.Spelling.{rises}
use Rattle.cube_val.specs.declared.val.Val.{Val}
use Rattle.cube_val.specs.Order.{row_cmp}
use Rattle.measure_laws.specs.Measures.{Summed, most_of_item, summed}
use Rattle.aggregation.specs.Groups.{aggregate}
use Rattle.step_fields.specs.Fits.{FitsRow}
use Rattle.fixed_cube.specs.Columns.{key_columns, row_limit}
use Rattle.fixed_cube.specs.Rows.{item_of_row, key_of_row}

-- D1 and D2, and the sum with its count
abbrev pub Cell : Type 0
Cell = List Val × Summed

-- the base cuboid of joined rows: for each D1 and D2, in order, the sum of M over their rows
abbrev pub base_of : List (List Val) → List Cell
base_of rows = aggregate row_cmp key_of_row item_of_row summed rows

-- the rows that a cell counts
abbrev pub count_of : Cell → ℕ
count_of c = c.1.items

-- the key of the one comes before that of the other
abbrev pub cell_below : Cell → Cell → Bool
cell_below a b = is_lt (row_cmp a.0 b.0)

-- two texts, a count of at least 1, and a sum no farther from zero than so many numbers of 64 bits can bring it
pub record FitsCell (c : Cell) : Type 0 where
  pub key : FitsRow key_columns c.0
  pub counted : 1 ≤ c.1.items
  pub few : c.1.items ≤ row_limit
  pub low : neg_ℤ (pos (c.1.items * most_of_item)) ≤ℤ c.1.total
  pub high : c.1.total ≤ℤ pos (c.1.items * most_of_item)

-- such cells, whose keys rise, and whose counts add up to at most the row limit
pub record FitsCells (cells : List Cell) : Type 0 where
  pub each : AllByRecursion FitsCell cells
  pub rising : rises cell_below cells ≡ true
  pub few : sum_by count_of cells ≤ row_limit
