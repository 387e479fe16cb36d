-- Base cuboids of rows that come a part at a time.
use Rattle.std.specs.Prelude.{◌≡◌, ◌≤◌, List, length}
use Rattle.std.specs.List.{AllZip, flat_map}
use Rattle.measure_laws.specs.Measures.{most_items}
use Rattle.cell_store.specs.Cells.{CellRows}
use Rattle.cube_val.specs.declared.val.Val.{Val}
use Rattle.plain_answer.specs.declared.ask.Agg.{Agg}
use Rattle.layer_builder.specs.Base.{IsBase}

-- the rows can be cut into pieces of which the tables are the base cuboids, in their order
pub record AreBases (aggs : List Agg) (dicts : List (List Val)) (rows : List (List Val)) (tables : List CellRows) : Type 0 where
  pub pieces : List (List (List Val))
  pub cut : flat_map (λ piece. piece) pieces ≡ rows
  pub each : AllZip (IsBase aggs dicts) pieces tables

-- the tables are those of pieces of some rows, which are few enough to be counted
pub record ArePieces (aggs : List Agg) (dicts : List (List Val)) (tables : List CellRows) : Type 0 where
  pub rows : List (List Val)
  pub bases : AreBases aggs dicts rows tables
  pub few : length rows ≤ most_items
