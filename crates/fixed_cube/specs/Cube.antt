-- The fixed cube.
use Rattle.std.specs.Prelude.{ℕ, zero, suc, ◌+◌, List, [], ◌∷◌, Option, None, codes}
use Rattle.byte_frame.specs.Reading.{all_of}
use Rattle.plain_answer.specs.declared.answer.AnswerTable.{AnswerTable}
use Rattle.plain_answer.specs.declared.ask.Ask.{Ask}
use Rattle.plain_answer.specs.Answers.{plain_of}
use Rattle.run_history.specs.Cubes.{CubeSemantics, Rows, Snapshot}
use Rattle.step_fields.specs.Fits.{FitsRows, IsDayRange}
use Rattle.fixed_cube.specs.declared.task.FixedTask.TheVariants.{Flat}
use Rattle.fixed_cube.specs.Cells.{Cell}
use Rattle.fixed_cube.specs.Columns.{fact_columns, row_limit}
use Rattle.fixed_cube.specs.Reading.{cells_at}
use Rattle.fixed_cube.specs.Rows.{joined}
use Rattle.fixed_cube.specs.Tasks.{is_product, product_of, task_text}

abbrev first_table : List Rows → Rows
first_table [] = []
first_table (rows ∷ tables) = rows

-- the rows of F in a snapshot
abbrev pub fact_rows : Snapshot → Rows
fact_rows snapshot = first_table snapshot.tables

-- the rows of F fit its columns, and the range is one of days
abbrev pub FitsSnapshot : Snapshot → Type 0
FitsSnapshot snapshot = IsDayRange snapshot.range × FitsRows fact_columns row_limit (fact_rows snapshot)

-- the joined rows of a snapshot
abbrev pub rows_of : Snapshot → Rows
rows_of snapshot = joined snapshot.range (fact_rows snapshot)

-- the task after so many steps done, from the product of the last of them: the number of the step, and the product
abbrev pub task_after : ℕ → List ℕ → List ℕ
task_after done product = (done + 1) ∷ product

-- the task of a job's next step, of which so many are done
unfoldable pub job_task : Snapshot → ℕ → List ℕ
job_task snapshot zero = task_text (Flat (snapshot.range, fact_rows snapshot))
job_task snapshot (suc done) = task_after (suc done) (product_of (job_task snapshot done))

-- the cells of the last product of a job, where its steps make one
abbrev pub sealed_cells : Snapshot → Option (List Cell)
sealed_cells snapshot = all_of cells_at (product_of (job_task snapshot 2))

abbrev first_snapshot : List Snapshot → Snapshot
first_snapshot [] = record { tables = []; range = record { start = 0; end = 0 } }
first_snapshot (snapshot ∷ others) = snapshot

-- the snapshot of a job, which has one
abbrev pub snapshot_of : List (List Snapshot) → Snapshot
snapshot_of [] = first_snapshot []
snapshot_of (part ∷ parts) = first_snapshot part

-- the cube: one fact table, jobs of three steps, and no lookups
abbrev pub fixed : CubeSemantics Ask AnswerTable
fixed = record {
  tables = codes "F" ∷ [];
  steps = λ kind. 3;
  task = λ kind range parts done. job_task (snapshot_of parts) done;
  product = product_of;
  is_product = is_product;
  rows = rows_of;
  answer = plain_of;
  lookup_that_differs = λ parts. None;
}
