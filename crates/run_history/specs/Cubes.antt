-- What a run has to know of its cube.
use Rattle.std.specs.Prelude.{ℕ, Bool, List, Option}
use Rattle.cube_val.specs.declared.val.Val.{Val}
use Rattle.job_machine.specs.declared.state.JobKind.{JobKind}
use Rattle.range_list.specs.Ranges.{Interval}

-- the rows of a table
abbrev pub Rows : Type 0
Rows = List (List Val)

-- what a segment's rows are made of: the tables as they were loaded, the fact table first, and the range of the rows
pub record Snapshot : Type 0 where
  pub tables : List Rows
  pub range : Interval

-- a cube, as far as a run goes: the names of its tables, the fact table first; how many steps a kind of job has; the task of the
-- next step of a job of this kind and range, made of the snapshots of each part, of which so many steps are done; the product of a task;
-- whether bytes are a product of a task; the joined rows of a snapshot; the answer to a query over rows; and the first lookup with a
-- derived column whose rows differ between parts, by its name
pub record CubeSemantics (Query Answer : Type 0) : Type 0 where
  pub tables : List (List ℕ)
  pub steps : JobKind → ℕ
  pub task : JobKind → Interval → List (List Snapshot) → ℕ → List ℕ
  pub product : List ℕ → List ℕ
  pub is_product : List ℕ → List ℕ → Bool
  pub rows : Snapshot → Rows
  pub answer : Query → Rows → Answer
  pub lookup_that_differs : List (List Snapshot) → Option (List ℕ)
