-- Tasks are read exactly, and so are their products.
use Rattle.std.proofs.Common.{◌≡◌, ◌↔◌, ◌^◌, ◌<◌, ◌++◌, ℕ, suc, Bool, true, false, cond, List, [], ◌∷◌, Option, Some, None, refl, sym, ap, subst, ◌∙◌, arith}
use Rattle.std.specs.Prelude.{is_some}
use Rattle.std.specs.Option.{option_map}
use Rattle.std.specs.Str.{bytes_eq}
use Rattle.std.proofs.lemmas.Slice.Eq.{bytes_eq-Decides}
use Rattle.byte_frame.specs.Exact.{AreCases, Exact, IsBytes, Takes}
use Rattle.byte_frame.specs.Reading.{all_of, then_at}
use Rattle.byte_frame.proofs.Exact.{all_again, all_found, exact_then, no_cases, one_case}
use Rattle.cube_val.specs.declared.val.Val.{Val}
use Rattle.range_list.specs.Ranges.{Interval}
use Rattle.step_fields.specs.Fits.{FitsRows, IsDayRange}
use Rattle.step_fields.specs.Reading.{range_at, rows_at}
use Rattle.step_fields.specs.Spelling.{range_text, rows_text}
use Rattle.step_fields.proofs.Exact.{exact_range, exact_rows}
use Rattle.fixed_cube.specs.declared.products.FixedProduct.{FixedProduct}
use Rattle.fixed_cube.specs.declared.products.FixedProduct.TheVariants.{Rows, Cells}
use Rattle.fixed_cube.specs.declared.task.FixedTask.{FixedTask}
use Rattle.fixed_cube.specs.declared.task.FixedTask.TheVariants.{Flat, Base, Seal}
use Rattle.fixed_cube.specs.Cells.{Cell, FitsCells, base_of}
use Rattle.fixed_cube.specs.Columns.{fact_columns, joined_columns, row_limit}
use Rattle.fixed_cube.specs.Reading.{cells_at}
use Rattle.fixed_cube.specs.Spelling.{cells_text}
use Rattle.fixed_cube.specs.Tasks.{FitsTask, IsProductOf, IsTask, is_product, made_if_task, made_of, product_of, task_at, task_of, task_text, work_at}
use Rattle.fixed_cube.specs.Rows.{joined}
use Rattle.fixed_cube.proofs.BaseFacts.{base_fits, joined_fits}
use Rattle.fixed_cube.proofs.CellFacts.{exact_cells}

exact_work : Exact (λ (work : Interval × List (List Val)). range_text work.0 ++ rows_text work.1) (λ (work : Interval × List (List Val)). IsDayRange work.0 × FitsRows fact_columns row_limit work.1) (then_at range_at (λ _. rows_at fact_columns row_limit))
exact_work = exact_then _ _ _ (λ _ rows. rows_text rows) _ _ exact_range (λ range h. exact_rows fact_columns row_limit (omega arith))

pub exact_joined : Exact rows_text (FitsRows joined_columns row_limit) (rows_at joined_columns row_limit)
exact_joined = exact_rows joined_columns row_limit (omega arith)

work_cases : AreCases task_text FitsTask work_at
work_cases =
    one_case task_text FitsTask 1 Flat _ _ _ _ exact_work (λ x. refl) (λ x h. h)
    (one_case task_text FitsTask 2 Base _ _ _ _ exact_joined (λ x. refl) (λ x h. h)
    (one_case task_text FitsTask 3 Seal _ _ _ _ exact_cells (λ x. refl) (λ x h. h) (no_cases task_text FitsTask)))

task_takes : (bytes : List ℕ) (z : FixedTask × List ℕ) → IsBytes bytes → task_at bytes ≡ Some z → Takes bytes (task_text z.0) z.1 × FitsTask z.0
unfolding task_at
task_takes [] z fits e = absurd cc
task_takes (step ∷ bytes) z fits e = work_cases step bytes z (λ i. fits (suc i)) e

task_again : (task : FixedTask) (rest : List ℕ) → FitsTask task → task_at (task_text task ++ rest) ≡ Some (task, rest)
unfolding task_at
task_again (Flat work) rest h = rw (exact_work.again work rest h) refl
task_again (Base rows) rest h = rw (exact_joined.again rows rest h) refl
task_again (Seal cells) rest h = rw (exact_cells.again cells rest h) refl

pub exact_task : Exact task_text FitsTask task_at
exact_task = record { takes = task_takes; again = task_again }

-- ---- whole tasks

pub task_found : (bytes : List ℕ) (task : FixedTask) → IsBytes bytes → task_of bytes ≡ Some task → FitsTask task × (bytes ≡ task_text task)
task_found bytes task fits e = all_found _ _ _ exact_task bytes task fits e

pub task_read : (task : FixedTask) → FitsTask task → task_of (task_text task) ≡ Some task
task_read task h = all_again _ _ _ exact_task task h

pub is_task : (bytes : List ℕ) (task : FixedTask) → IsBytes bytes → task_of bytes ≡ Some task → IsTask bytes
is_task bytes task fits e = (task, task_found bytes task fits e)

pub no_task : (bytes : List ℕ) → task_of bytes ≡ None → ¬ (IsTask bytes)
no_task bytes e h = let again = ap task_of h.1.1 ∙ task_read h.0 h.1.0 in absurd cc

pub made_is : (bytes : List ℕ) (task : FixedTask) → task_of bytes ≡ Some task → product_of bytes ≡ made_of task
unfolding product_of
made_is bytes task e = ap made_if_task e

pub made_again : (task : FixedTask) → FitsTask task → product_of (task_text task) ≡ made_of task
made_again task h = made_is (task_text task) task (task_read task h)

-- ---- products

module _ {A : Type 0} (kind : A → FixedProduct) {s : A → List ℕ} {F : A → Type 0} {r : List ℕ → Option (A × List ℕ)} (read : Exact s F r) (bytes : List ℕ) where
  list_found : IsBytes bytes → is_some (option_map kind (all_of r bytes)) ≡ true → (x : A) × (F x × (bytes ≡ s x))
  list_found fits h = by (all_of r bytes) refl h where
    by : (o : Option A) → all_of r bytes ≡ o → is_some (option_map kind o) ≡ true → (x : A) × (F x × (bytes ≡ s x))
    by (Some x) e h = (x, all_found s F r read bytes x fits e)
    by None e h = absurd cc

  list_again : (x : A) → F x → bytes ≡ s x → is_some (option_map kind (all_of r bytes)) ≡ true
  list_again x h e = rw (ap (all_of r) e ∙ all_again s F r read x h) refl

own_list : (cells : List Cell) (bytes : List ℕ) → FitsCells cells → (is_product (task_text (Seal cells)) bytes ≡ true) ↔ (bytes ≡ cells_text cells)
own_list cells bytes h = ((λ p. by (bytes_eq bytes (cells_text cells)) refl p), again) where
  by : (b : Bool) → bytes_eq bytes (cells_text cells) ≡ b → is_some (cond b (option_map Cells (all_of cells_at bytes)) None) ≡ true → bytes ≡ cells_text cells
  by true e p = (bytes_eq-Decides bytes (cells_text cells)).0 e
  by false e p = absurd cc

  again : bytes ≡ cells_text cells → is_product (task_text (Seal cells)) bytes ≡ true
  again e = rw ((bytes_eq-Decides bytes (cells_text cells)).1 e) (list_again Cells exact_cells bytes cells h e)

pub product_is : (task : FixedTask) (bytes : List ℕ) → FitsTask task → IsBytes bytes → (is_product (task_text task) bytes ≡ true) ↔ IsProductOf task bytes
product_is (Flat work) bytes h fits = (list_found Rows exact_joined bytes fits, λ p. list_again Rows exact_joined bytes p.0 p.1.0 p.1.1)
product_is (Base rows) bytes h fits = (list_found Cells exact_cells bytes fits, λ p. list_again Cells exact_cells bytes p.0 p.1.0 p.1.1)
product_is (Seal cells) bytes h fits = own_list cells bytes h

-- what a task makes is a product of it
pub own_product : (task : FixedTask) → FitsTask task → is_product (task_text task) (made_of task) ≡ true
own_product (Flat work) h = list_again Rows exact_joined _ (joined work.0 work.1) (joined_fits work.0 work.1 h.1) refl
own_product (Base rows) h = list_again Cells exact_cells _ (base_of rows) (base_fits rows h) refl
own_product (Seal cells) h = (own_list cells (cells_text cells) h).1 refl
