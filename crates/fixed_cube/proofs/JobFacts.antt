-- The steps of a job over rows that fit.
use Rattle.std.proofs.Common.{◌≡◌, ◌<◌, ℕ, zero, suc, true, List, ◌∷◌, Option, Some, None, refl, sym, ap, subst, ◌∙◌, arith}
use Rattle.std.specs.Prelude.{is_some}
use Rattle.std.specs.Option.{option_map}
use Rattle.byte_frame.proofs.Exact.{all_again}
use Rattle.run_history.specs.Cubes.{Snapshot}
use Rattle.fixed_cube.specs.declared.task.FixedTask.{FixedTask}
use Rattle.fixed_cube.specs.declared.task.FixedTask.TheVariants.{Flat, Base, Seal}
use Rattle.fixed_cube.specs.Cells.{base_of}
use Rattle.fixed_cube.specs.Cube.{FitsSnapshot, fact_rows, job_task, rows_of, sealed_cells}
use Rattle.fixed_cube.specs.Tasks.{FitsTask, IsTask, is_product, made_of, product_of, task_text}
use Rattle.fixed_cube.proofs.BaseFacts.{base_fits, joined_fits}
use Rattle.fixed_cube.proofs.CellFacts.{exact_cells}
use Rattle.fixed_cube.proofs.TaskFacts.{made_again, own_product}

-- the task of a step, and that it fits
record IsStep (snapshot : Snapshot) (done : ℕ) (task : FixedTask) : Type 0 where
  text : job_task snapshot done ≡ task_text task
  fits : FitsTask task

-- what it makes
made_by : (snapshot : Snapshot) (done : ℕ) (task : FixedTask) → IsStep snapshot done task → product_of (job_task snapshot done) ≡ made_of task
made_by snapshot done task step = ap product_of step.text ∙ made_again task step.fits

flat_step : (snapshot : Snapshot) → FitsSnapshot snapshot → IsStep snapshot 0 (Flat (snapshot.range, fact_rows snapshot))
unfolding job_task
flat_step snapshot h = record { text = refl; fits = h }

base_step : (snapshot : Snapshot) → FitsSnapshot snapshot → IsStep snapshot 1 (Base (rows_of snapshot))
unfolding job_task
base_step snapshot h = record {
  text = ap (λ (product : List ℕ). 2 ∷ product) (made_by snapshot 0 _ (flat_step snapshot h));
  fits = joined_fits snapshot.range (fact_rows snapshot) h.1;
}

seal_step : (snapshot : Snapshot) → FitsSnapshot snapshot → IsStep snapshot 2 (Seal (base_of (rows_of snapshot)))
unfolding job_task
seal_step snapshot h = record {
  text = ap (λ (product : List ℕ). 3 ∷ product) (made_by snapshot 1 _ (base_step snapshot h));
  fits = base_fits (rows_of snapshot) (joined_fits snapshot.range (fact_rows snapshot) h.1);
}

-- some task is that of a step
Stands : Snapshot → ℕ → Type 0
Stands snapshot done = (task : FixedTask) × IsStep snapshot done task

step_stands : (snapshot : Snapshot) (done : ℕ) → FitsSnapshot snapshot → done < 3 → Stands snapshot done
unfolding Stands
step_stands snapshot zero h few = (Flat (snapshot.range, fact_rows snapshot), flat_step snapshot h)
step_stands snapshot (suc zero) h few = (Base (rows_of snapshot), base_step snapshot h)
step_stands snapshot (suc (suc zero)) h few = (Seal (base_of (rows_of snapshot)), seal_step snapshot h)
step_stands snapshot (suc (suc (suc n))) h few = absurd (omega (arith, few))

pub has_task : (snapshot : Snapshot) (done : ℕ) → FitsSnapshot snapshot → done < 3 → IsTask (job_task snapshot done)
unfolding Stands
has_task snapshot done h few = let step = step_stands snapshot done h few in (step.0, (step.1.fits, step.1.text))

pub has_product : (snapshot : Snapshot) (done : ℕ) → FitsSnapshot snapshot → done < 3 → is_product (job_task snapshot done) (product_of (job_task snapshot done)) ≡ true
unfolding Stands
has_product snapshot done h few =
    let step = step_stands snapshot done h few in
    rw (made_by snapshot done step.0 step.1, step.1.text) (own_product step.0 step.1.fits)

pub sealed_is : (snapshot : Snapshot) → FitsSnapshot snapshot → sealed_cells snapshot ≡ Some (base_of (rows_of snapshot))
sealed_is snapshot h =
    let step = seal_step snapshot h in
    rw (made_by snapshot 2 _ step) (all_again _ _ _ exact_cells (base_of (rows_of snapshot)) step.fits)
