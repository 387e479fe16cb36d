-- What holds of the fixed cube.
use Rattle.std.specs.Prelude.{◌≡◌, ◌<◌, ◌↔◌, true, ℕ, Some, List, [], ◌∷◌, map}
use Rattle.std.specs.List.{AllByRecursion, flat_map}
use Rattle.byte_frame.specs.Exact.{Exact, IsBytes}
use Rattle.cube_val.specs.declared.val.Val.{Val}
use Rattle.plain_answer.specs.Answers.{plain_of}
use Rattle.run_history.specs.Cubes.{Snapshot}
use Rattle.step_fields.specs.Fits.{FitsRows}
use Rattle.fixed_cube.specs.declared.task.FixedTask.{FixedTask}
use Rattle.fixed_cube.specs.Answers.{answer_of, by_first}
use Rattle.fixed_cube.specs.Cells.{Cell, FitsCells, base_of}
use Rattle.fixed_cube.specs.Columns.{joined_columns, row_limit}
use Rattle.fixed_cube.specs.Cube.{FitsSnapshot, job_task, rows_of, sealed_cells}
use Rattle.fixed_cube.specs.Reading.{cells_at}
use Rattle.fixed_cube.specs.Rows.{HasNumber}
use Rattle.fixed_cube.specs.Spelling.{cells_text}
use Rattle.fixed_cube.specs.Tasks.{FitsTask, IsProductOf, IsTask, is_product, made_of, product_of, task_at, task_text}

-- tasks and cells are read exactly, and the products of a task are those that the function on bytes takes
pub record TasksAreExact : Type 0 where
  pub cells : Exact cells_text FitsCells cells_at
  pub task : Exact task_text FitsTask task_at
  pub product : (task : FixedTask) (bytes : List ℕ) → FitsTask task → IsBytes bytes → (is_product (task_text task) bytes ≡ true) ↔ IsProductOf task bytes
  pub made : (task : FixedTask) → FitsTask task → product_of (task_text task) ≡ made_of task

-- the steps of a job over tables that fit: each has a task, its product is one, and the last one has the aggregate of the joined rows
pub record StepsBuild : Type 0 where
  pub tasks : (snapshot : Snapshot) (done : ℕ) → FitsSnapshot snapshot → done < 3 → IsTask (job_task snapshot done)
  pub products : (snapshot : Snapshot) (done : ℕ) → FitsSnapshot snapshot → done < 3 → is_product (job_task snapshot done) (product_of (job_task snapshot done)) ≡ true
  pub sealed : (snapshot : Snapshot) → FitsSnapshot snapshot → sealed_cells snapshot ≡ Some (base_of (rows_of snapshot))
  pub numbers : (snapshot : Snapshot) → FitsSnapshot snapshot → AllByRecursion HasNumber (rows_of snapshot)

-- the answer from the base cuboids of lists of joined rows is the plain answer over all of the rows, and so it is over snapshots that fit
pub record AnswersAreGathered : Type 0 where
  pub lists : (lists : List (List (List Val))) → AllByRecursion (AllByRecursion HasNumber) lists → answer_of (map base_of lists) ≡ plain_of by_first (flat_map (λ rows. rows) lists)
  pub snapshots : (snapshots : List Snapshot) → AllByRecursion FitsSnapshot snapshots → answer_of (map base_of (map rows_of snapshots)) ≡ plain_of by_first (flat_map rows_of snapshots)
