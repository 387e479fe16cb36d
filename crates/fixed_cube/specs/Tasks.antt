-- Tasks, their bytes and their products.
use Rattle.std.specs.Prelude.{◌≡◌, ℕ, Bool, ◌==◌, List, [], ◌∷◌, ◌++◌, Option, Some, None, is_some, if◌then◌else◌}
use Rattle.std.specs.Option.{option_map}
use Rattle.std.specs.Str.{bytes_eq}
use Rattle.byte_frame.specs.Reading.{all_of, case_at, no_case, then_at}
use Rattle.cube_val.specs.declared.val.Val.{Val}
use Rattle.range_list.specs.Ranges.{Interval}
use Rattle.step_fields.specs.Fits.{FitsRows, IsDayRange}
use Rattle.step_fields.specs.Reading.{range_at, rows_at}
use Rattle.step_fields.specs.Spelling.{range_text, rows_text}
use Rattle.fixed_cube.specs.declared.products.FixedProduct.{FixedProduct}
use Rattle.fixed_cube.specs.declared.products.FixedProduct.TheVariants.{Rows, Cells}
use Rattle.fixed_cube.specs.declared.task.FixedTask.{FixedTask}
use Rattle.fixed_cube.specs.declared.task.FixedTask.TheVariants.{Flat, Base, Seal}
use Rattle.fixed_cube.specs.Cells.{Cell, FitsCells, base_of}
use Rattle.fixed_cube.specs.Columns.{fact_columns, joined_columns, row_limit}
use Rattle.fixed_cube.specs.Reading.{cells_at}
use Rattle.fixed_cube.specs.Rows.{joined}
use Rattle.fixed_cube.specs.Spelling.{cells_text}

-- ---- tasks

-- the number of the step, and what it works on: a range and rows of F, joined rows, or the cells of the base cuboid
abbrev pub task_text : FixedTask → List ℕ
task_text (Flat work) = 1 ∷ (range_text work.0 ++ rows_text work.1)
task_text (Base rows) = 2 ∷ rows_text rows
task_text (Seal cells) = 3 ∷ cells_text cells

abbrev pub FitsTask : FixedTask → Type 0
FitsTask (Flat work) = IsDayRange work.0 × FitsRows fact_columns row_limit work.1
FitsTask (Base rows) = FitsRows joined_columns row_limit rows
FitsTask (Seal cells) = FitsCells cells

-- bytes that are a task
abbrev pub IsTask : List ℕ → Type 0
IsTask bytes = (task : FixedTask) × (FitsTask task × (bytes ≡ task_text task))

-- ---- products

-- what the step of a task makes, as bytes
abbrev pub made_of : FixedTask → List ℕ
made_of (Flat work) = rows_text (joined work.0 work.1)
made_of (Base rows) = cells_text (base_of rows)
made_of (Seal cells) = cells_text cells

-- bytes that are a product of a task: for flat and base any list of its form, for seal the task's own
abbrev pub IsProductOf : FixedTask → List ℕ → Type 0
IsProductOf (Flat work) bytes = (rows : List (List Val)) × (FitsRows joined_columns row_limit rows × (bytes ≡ rows_text rows))
IsProductOf (Base rows) bytes = (cells : List Cell) × (FitsCells cells × (bytes ≡ cells_text cells))
IsProductOf (Seal cells) bytes = bytes ≡ cells_text cells

-- ---- the same as functions of bytes

-- the readers behind the number of a step
abbrev pub work_at : ℕ → List ℕ → Option (FixedTask × List ℕ)
work_at = case_at 1 Flat (then_at range_at (λ _. rows_at fact_columns row_limit)) (case_at 2 Base (rows_at joined_columns row_limit) (case_at 3 Seal cells_at no_case))

unfoldable pub task_at : List ℕ → Option (FixedTask × List ℕ)
task_at [] = None
task_at (step ∷ bytes) = work_at step bytes

-- the task that all of the bytes are
abbrev pub task_of : List ℕ → Option FixedTask
task_of bytes = all_of task_at bytes

abbrev pub made_if_task : Option FixedTask → List ℕ
made_if_task None = []
made_if_task (Some task) = made_of task

-- the product that the step of a task makes; of other bytes none
unfoldable pub product_of : List ℕ → List ℕ
product_of task = made_if_task (task_of task)

-- the product of a task that all of the bytes are, by the number of its step
abbrev pub product_in : List ℕ → List ℕ → Option FixedProduct
product_in [] bytes = None
product_in (step ∷ work) bytes =
    if step == 1 then option_map Rows (all_of (rows_at joined_columns row_limit) bytes)
    else if step == 2 then option_map Cells (all_of cells_at bytes)
    else if step == 3 then (if bytes_eq bytes work then option_map Cells (all_of cells_at bytes) else None)
    else None

-- whether bytes are a product of a task
abbrev pub is_product : List ℕ → List ℕ → Bool
is_product task bytes = is_some (product_in task bytes)
