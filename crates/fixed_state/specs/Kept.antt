-- What is kept of a world.
use Rattle.std.specs.Prelude.{◌≡◌, ℕ, true, List, [], ◌∷◌, Option, None, length, unwrap_or}
use Rattle.std.specs.List.{AllByRecursion}
use Rattle.byte_frame.specs.Spelling.{EachFits}
use Rattle.fixed_cube.specs.Answers.{by_first}
use Rattle.fixed_cube.specs.Cells.{Cell}
use Rattle.fixed_cube.specs.Columns.{fact_columns, row_limit}
use Rattle.fixed_cube.specs.Cube.{FitsSnapshot, fixed}
use Rattle.job_machine.specs.declared.state.JobKind.TheVariants.{Build}
use Rattle.plain_answer.specs.declared.ask.Ask.{Ask}
use Rattle.run_history.specs.Cubes.{Rows, Snapshot}
use Rattle.run_history.specs.Sets.{Segment}
use Rattle.run_history.specs.World.{Submitted, World, is_live}
use Rattle.step_fields.specs.Fits.{FitsRows}
use Rattle.fixed_state.specs.Ready.{base_of_segment}
use Rattle.fixed_state.specs.States.{FixedState, StandsFor, cells_of}
use Rattle.fixed_state.specs.Tasks.{IsTaskAfter, products_due}
use Rattle.run_history.specs.Invariants.{IsSound}
use Rattle.run_state.specs.Orders.{products_of}

-- there is one table, and what was loaded fits it
pub record IsLoaded (loaded : List (Option Rows)) : Type 0 where
  pub table : Option Rows
  pub only : loaded ≡ table ∷ []
  pub fits : FitsRows fact_columns row_limit (unwrap_or table [])

-- the snapshot of a job's first claim
abbrev pub first_snapshot : Submitted → Snapshot
first_snapshot s = record { tables = unwrap_or s.tables []; range = s.range }

-- a job, and the products kept of its steps done: it is a BUILD of three steps, whose snapshot fits, and the task after these products is
-- one; while it is live one product is kept for each step done, and where hands are honest these are the products of its tasks
pub record IsKept (honest : Type 0) (s : Submitted) (products : List (List ℕ)) : Type 0 where
  pub build : s.job.kind ≡ Build
  pub steps : s.job.steps ≡ 3
  pub fits : FitsSnapshot (first_snapshot s)
  pub next : IsTaskAfter products
  pub begun : s.tables ≡ None → s.job.done ≡ 0
  pub counted : is_live s.job.state ≡ true → length products ≡ s.job.done
  pub made : honest → is_live s.job.state ≡ true → products ≡ products_due (first_snapshot s) s.job.done

-- a ready segment, and the cells kept of it: its snapshots fit, and where hands are honest the cells are the base cuboid of its rows
pub record IsReadyKept (honest : Type 0) (segment : Segment) (cells : List Cell) : Type 0 where
  pub fits : AllByRecursion FitsSnapshot segment.origin
  pub made : honest → base_of_segment segment ≡ cells

-- what is kept of a world: the products of each job's steps done, and the cells of each ready segment
pub record AreKept (honest : Type 0) (w : World Ask) (products : List (List (List ℕ))) (cells : List (List Cell)) : Type 0 where
  pub loaded : IsLoaded w.loaded
  pub jobs : EachFits (IsKept honest) w.jobs products
  pub ready : EachFits (IsReadyKept honest) w.ready cells
  pub waiting : AllByRecursion (λ q. q.query ≡ by_first) w.waiting
  pub asked : AllByRecursion (λ q. q.waiting.query ≡ by_first) w.asked

-- the state stands for a world that a legal history leaves, and keeps of it what is to be kept
pub record IsFixedState (honest : Type 0) (s : FixedState) : Type 0 where
  pub w : World Ask
  pub stands : StandsFor w s
  pub sound : IsSound fixed w
  pub kept : AreKept honest w (products_of s) (cells_of s)
