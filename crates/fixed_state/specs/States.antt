-- States of a run over the fixed cube, as contracts see them.
use Rattle.std.specs.Prelude.{ℕ, List, [], ◌∷◌, unwrap_or}
use Rattle.fixed_cube.specs.Cells.{Cell}
use Rattle.plain_answer.specs.declared.ask.Ask.{Ask}
use Rattle.run_history.specs.Cubes.{Rows}
use Rattle.run_history.specs.Sets.{Segment}
use Rattle.run_history.specs.World.{World}
use Rattle.run_state.specs.States.{IsStateOf, snapshot_of}
use Rattle.run_state.specs.declared.parts.JobEntry.{JobEntry}
use Rattle.run_state.specs.declared.parts.RunState.{RunState}
pub use Rattle.fixed_state.specs.Ready.{ReadyModel, ready_seen, rows_seen}

-- of a table its rows are seen, of a product its bytes, and of a ready set its segments with their cells
abbrev pub FixedState : Type 0
FixedState = RunState Rows (List ℕ) ReadyModel Ask

abbrev pub FixedEntry : Type 0
FixedEntry = JobEntry Rows (List ℕ)

-- the state is the world's
abbrev pub StandsFor : World Ask → FixedState → Type 0
StandsFor w s = IsStateOf rows_seen ready_seen w s

-- the cells of the ready segments
abbrev pub cells_of : FixedState → List (List Cell)
cells_of s = s.ready.cells

-- the segment that a job with the tables of its first claim makes
abbrev pub segment_at : FixedEntry → ℕ → Segment
segment_at entry job = record { range = entry.range; job = job; origin = record { tables = unwrap_or (snapshot_of rows_seen entry.tables) []; range = entry.range } ∷ [] }
