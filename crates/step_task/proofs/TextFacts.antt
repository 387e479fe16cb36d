-- Bytes are one task at most.
use Rattle.std.proofs.Common.{◌≡◌, ◌<◌, ◌^◌, ◌∙◌, ℕ, List, Some, length, sym, ap}
use Rattle.step_files.specs.Files.{IsTaskFile}
use Rattle.step_files.specs.declared.task.Task.{Task}
use Rattle.step_files.proofs.ExactFiles.{task_again}
use Rattle.step_task.specs.Laws.{TextsAreOfTasks}
use Rattle.step_task.specs.Steps.{made_of, step_text, text_of}

pub made_text : (bytes : List ℕ) (t : Task) → length bytes < 2 ^ 64 → IsTaskFile bytes t → made_of bytes ≡ step_text t
unfolding made_of
made_text bytes t small h = ap text_of (task_again bytes t small h)

some_is : {X : Type 0} (x y : X) → Some x ≡ Some y → x ≡ y
some_is x y e = cc

pub texts : TextsAreOfTasks
texts = record { one_task = λ bytes t u small h k. some_is t u (sym (task_again bytes t small h) ∙ task_again bytes u small k); made = made_text }
