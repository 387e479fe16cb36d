-- What holds of all steps.
use Rattle.std.specs.Prelude.{◌≡◌, ◌<◌, ◌^◌, ℕ, List, length}
use Rattle.step_files.specs.Files.{IsTaskFile}
use Rattle.step_files.specs.Products.{FitsProduct}
use Rattle.step_files.specs.Tasks.{FitsTask}
use Rattle.step_files.specs.declared.task.Task.{Task}
use Rattle.step_task.specs.Steps.{made_of, step_text, step_compute}

-- what a step makes of a valid task is a product of it
abbrev pub StepsMakeProducts : Type 0
StepsMakeProducts = (t : Task) → FitsTask t → FitsProduct t (step_compute t)

-- bytes are one task at most, and what is made of them is the file of what its step makes
pub record TextsAreOfTasks : Type 0 where
  pub one_task : (bytes : List ℕ) (t u : Task) → length bytes < 2 ^ 64 → IsTaskFile bytes t → IsTaskFile bytes u → t ≡ u
  pub made : (bytes : List ℕ) (t : Task) → length bytes < 2 ^ 64 → IsTaskFile bytes t → made_of bytes ≡ step_text t
