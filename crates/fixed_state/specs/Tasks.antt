-- The task of a job's next step, from the products that are kept of the steps done.
use Rattle.std.specs.Prelude.{◌≡◌, ℕ, zero, suc, ◌-◌, List, [], ◌∷◌, ◌++◌, Option, Some, None, length, slice_get, unwrap_or}
use Rattle.fixed_cube.specs.Cube.{job_task, task_after}
use Rattle.fixed_cube.specs.Tasks.{IsTask, product_of}
use Rattle.run_history.specs.Cubes.{Rows, Snapshot}
use Rattle.run_history.specs.World.{Submitted, World, in_force}
use Rattle.run_state.specs.States.{rows_in_force, snapshot_of}
use Rattle.fixed_state.specs.States.{FixedEntry, rows_seen}

-- the task after so many steps, of which the last made this product; the first task where none is done
abbrev pub task_by : Snapshot → ℕ → Option (List ℕ) → List ℕ
task_by snapshot done None = job_task snapshot 0
task_by snapshot done (Some product) = task_after done product

-- the task of the next step of a job over a snapshot, of whose steps these products are kept
abbrev pub task_kept : Snapshot → List (List ℕ) → List ℕ
task_kept snapshot products = task_by snapshot (length products) (slice_get products (length products - 1))

-- the task after the last of these products is a task
abbrev pub IsTaskAfter : List (List ℕ) → Type 0
IsTaskAfter products = (product : List ℕ) → slice_get products (length products - 1) ≡ Some product → IsTask (task_after (length products) product)

-- the products of the first steps, as the tasks ask for them
abbrev pub products_due : Snapshot → ℕ → List (List ℕ)
products_due snapshot zero = []
products_due snapshot (suc done) = products_due snapshot done ++ product_of (job_task snapshot done) ∷ []

-- the snapshot of a job: of the tables of its first claim, or before it of those in force
abbrev pub snapshot_now : {Query : Type 0} → World Query → Submitted → Snapshot
snapshot_now w s = record { tables = unwrap_or s.tables (in_force w); range = s.range }

-- the same of a job as it is kept, with the tables that were loaded last
abbrev pub snapshot_at : FixedEntry → List (Option Rows) → Snapshot
snapshot_at entry loaded = record { tables = unwrap_or (snapshot_of rows_seen entry.tables) (rows_in_force rows_seen loaded); range = entry.range }
