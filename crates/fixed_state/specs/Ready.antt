-- Ready sets with the cells of their segments.
use Rattle.std.specs.Prelude.{◌≡◌, ℕ, List, [], ◌∷◌, insert, map}
use Rattle.std.specs.List.{AllByRecursion, flat_map}
use Rattle.fixed_cube.specs.Cells.{Cell, base_of}
use Rattle.fixed_cube.specs.Cube.{FitsSnapshot, rows_of}
use Rattle.run_history.specs.Cubes.{Rows}
use Rattle.run_history.specs.Sets.{ReadySet, Segment}
use Rattle.run_state.specs.Numbered.{NumberedSet}
use Rattle.run_state.specs.States.{rows_in_force}
use Rattle.fixed_state.specs.declared.ready.KeptSegment.{KeptSegment}

-- of a table its rows are seen
abbrev pub rows_seen : Rows → Rows
rows_seen rows = rows

abbrev pub cells_in : KeptSegment → List Cell
cells_in kept = kept.cells

-- a ready set, and the cells of each segment
pub record ReadyModel : Type 0 where
  pub set : NumberedSet
  pub cells : List (List Cell)

abbrev pub ready_seen : ReadyModel → NumberedSet
ready_seen ready = ready.set

-- a segment that is kept as the history has it: its rows come from its tables
abbrev pub as_segment : KeptSegment → Segment
as_segment kept = record { range = kept.range; job = kept.job; origin = record { tables = rows_in_force rows_seen kept.tables.items; range = kept.range } ∷ [] }

abbrev pub ready_of : List KeptSegment → ℕ → ReadyModel
ready_of segments version = record { set = record { segments = map as_segment segments; version = version }; cells = map cells_in segments }

-- the base cuboid of a segment's rows
abbrev pub base_of_segment : Segment → List Cell
base_of_segment segment = base_of (flat_map rows_of segment.origin)

-- the snapshots of the segments of a set fit the fact table, and these are the base cuboids of its segments' rows
pub record AreCellsOf (set : ReadySet) (cells : List (List Cell)) : Type 0 where
  pub fits : AllByRecursion (λ segment. AllByRecursion FitsSnapshot segment.origin) set
  pub bases : map base_of_segment set ≡ cells

-- a segment and its cells came at the same place
pub record IsPlaced (segment : Segment) (old new : ReadySet) (added : List Cell) (before after : List (List Cell)) : Type 0 where
  pub place : ℕ
  pub segments : new ≡ insert old place segment
  pub cells : after ≡ insert before place added
