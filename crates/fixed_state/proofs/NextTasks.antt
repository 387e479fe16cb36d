-- The task of a job's next step is a task.
use Rattle.std.proofs.Common.{◌≡◌, ℕ, ◌-◌, ◌<◌, true, Option, Some, None, List, [], ◌∷◌, ◌++◌, length, slice_get, refl, ap, subst, arith}
use Rattle.byte_frame.specs.Exact.{IsBytes}
use Rattle.fixed_cube.specs.Cube.{FitsSnapshot, fact_rows, job_task, task_after}
use Rattle.fixed_cube.specs.Tasks.{FitsTask, IsTask, is_product, task_text}
use Rattle.fixed_cube.specs.declared.task.FixedTask.{FixedTask}
use Rattle.fixed_cube.specs.declared.task.FixedTask.TheVariants.{Flat, Base, Seal}
use Rattle.fixed_cube.proofs.JobFacts.{has_task}
use Rattle.fixed_cube.proofs.TaskFacts.{product_is}
use Rattle.run_history.specs.Cubes.{Snapshot}
use Rattle.fixed_state.specs.Tasks.{IsTaskAfter, task_by, task_kept}

some_same : {X : Type 0} (x y : X) → Some x ≡ Some y → x ≡ y
some_same x y e = cc

flat_is : (snapshot : Snapshot) → job_task snapshot 0 ≡ task_text (Flat (snapshot.range, fact_rows snapshot))
unfolding job_task
flat_is snapshot = refl

-- a product of the first task stands in the second, and one of the second in the third
flat_next : (task : FixedTask) (bytes : List ℕ) (work : List ℕ) → 1 ∷ work ≡ task_text task → FitsTask task → IsBytes bytes → is_product (task_text task) bytes ≡ true → IsTask (task_after 1 bytes)
flat_next (Flat given) bytes work e fits b judged =
    let made = (product_is (Flat given) bytes fits b).0 judged in
    (Base made.0, (made.1.0, ap (λ (xs : List ℕ). 2 ∷ xs) made.1.1))
flat_next (Base rows) bytes work e fits b judged = let f : ◌≡◌ {A = ℕ} 1 2 = cc in absurd (omega (arith, f))
flat_next (Seal cells) bytes work e fits b judged = let f : ◌≡◌ {A = ℕ} 1 3 = cc in absurd (omega (arith, f))

base_next : (task : FixedTask) (bytes : List ℕ) (work : List ℕ) → 2 ∷ work ≡ task_text task → FitsTask task → IsBytes bytes → is_product (task_text task) bytes ≡ true → IsTask (task_after 2 bytes)
base_next (Base rows) bytes work e fits b judged =
    let made = (product_is (Base rows) bytes fits b).0 judged in
    (Seal made.0, (made.1.0, ap (λ (xs : List ℕ). 3 ∷ xs) made.1.1))
base_next (Flat given) bytes work e fits b judged = let f : ◌≡◌ {A = ℕ} 2 1 = cc in absurd (omega (arith, f))
base_next (Seal cells) bytes work e fits b judged = let f : ◌≡◌ {A = ℕ} 2 3 = cc in absurd (omega (arith, f))

pub after_next : (snapshot : Snapshot) (kept : List (List ℕ)) (bytes : List ℕ) → FitsSnapshot snapshot → IsTaskAfter kept → IsBytes bytes → length kept < 2
    → is_product (task_kept snapshot kept) bytes ≡ true → IsTaskAfter (kept ++ bytes ∷ [])
after_next snapshot [] bytes fits k b less judged product e =
    let is : bytes ≡ product = some_same bytes product e in
    subst (λ (made : List ℕ). IsTask (task_after 1 made)) is
    (flat_next (Flat (snapshot.range, fact_rows snapshot)) bytes _ refl fits b (subst (λ (task : List ℕ). is_product task bytes ≡ true) (flat_is snapshot) judged))
after_next snapshot (first ∷ []) bytes fits k b less judged product e =
    let is : bytes ≡ product = some_same bytes product e in
    let task = k first refl in
    subst (λ (made : List ℕ). IsTask (task_after 2 made)) is
    (base_next task.0 bytes first task.1.1 task.1.0 b (subst (λ (text : List ℕ). is_product text bytes ≡ true) task.1.1 judged))
after_next snapshot (first ∷ second ∷ rest) bytes fits k b less judged product e = absurd (omega (arith, less))

-- after no product comes no other task than the first
pub none_after : IsTaskAfter []
none_after product e = cc

task_by_last : (snapshot : Snapshot) (kept : List (List ℕ)) (last : Option (List ℕ)) → slice_get kept (length kept - 1) ≡ last → FitsSnapshot snapshot → IsTaskAfter kept
    → IsTask (task_by snapshot (length kept) last)
task_by_last snapshot kept None e fits k = has_task snapshot 0 fits (omega arith)
task_by_last snapshot kept (Some product) e fits k = k product e

-- the task from what is kept is a task
pub kept_task : (snapshot : Snapshot) (kept : List (List ℕ)) → FitsSnapshot snapshot → IsTaskAfter kept → IsTask (task_kept snapshot kept)
kept_task snapshot kept fits k = task_by_last snapshot kept (slice_get kept (length kept - 1)) refl fits k
