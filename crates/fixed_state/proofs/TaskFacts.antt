-- Tasks from the products that are kept, and what the last product is.
use Rattle.std.proofs.Common.{◌≡◌, ℕ, zero, suc, ◌+◌, ◌-◌, Bool, true, false, cond, Option, Some, None, List, [], ◌∷◌, ◌++◌, length, slice_get, refl, sym, ap, ◌∙◌, arith, add-one, length-append}
use Rattle.std.specs.Option.{option_map}
use Rattle.std.specs.List.{flat_map}
use Rattle.std.specs.Str.{bytes_eq}
use Rattle.byte_frame.specs.Reading.{all_of}
use Rattle.fixed_cube.specs.Cells.{Cell, base_of}
use Rattle.fixed_cube.specs.Cube.{FitsSnapshot, fixed, job_task, rows_of, task_after}
use Rattle.fixed_cube.specs.Cube.{snapshot_of as snapshot_in}
use Rattle.fixed_cube.specs.Reading.{cells_at}
use Rattle.fixed_cube.specs.Tasks.{product_in, product_of}
use Rattle.fixed_cube.specs.declared.products.FixedProduct.TheVariants.{Rows, Cells}
use Rattle.fixed_cube.proofs.JobFacts.{sealed_is}
use Rattle.cube_val.specs.declared.val.Val.{Val}
use Rattle.job_machine.specs.declared.state.JobKind.{JobKind}
use Rattle.job_machine.specs.declared.state.JobKind.TheVariants.{Build}
use Rattle.plain_answer.specs.declared.ask.Ask.{Ask}
use Rattle.run_history.specs.Cubes.{Snapshot}
use Rattle.run_history.specs.World.{Submitted, World, in_force, is_live, next_task, origin_of, parts_by}
use Rattle.fixed_state.specs.Kept.{IsKept}
use Rattle.fixed_state.specs.Tasks.{products_due, snapshot_now, task_by, task_kept}
use Rattle.fixed_state.proofs.Jobs.{due_tables}

pub last_push : {X : Type 0} (xs : List X) (x : X) → slice_get (xs ++ x ∷ []) (length (xs ++ x ∷ []) - 1) ≡ Some x
last_push xs x = ap (λ (n : ℕ). slice_get (xs ++ x ∷ []) n) count ∙ at xs
  where
    count : length (xs ++ x ∷ []) - 1 ≡ length xs
    count = omega (arith, length-append xs (x ∷ []))

    at : (ys : List _) → slice_get (ys ++ x ∷ []) (length ys) ≡ Some x
    at [] = refl
    at (y ∷ ys) = at ys

pub length_due : (snapshot : Snapshot) (done : ℕ) → length (products_due snapshot done) ≡ done
length_due snapshot zero = refl
length_due snapshot (suc done) =
    length-append (products_due snapshot done) (product_of (job_task snapshot done) ∷ []) ∙ (ap (λ (n : ℕ). n + 1) (length_due snapshot done) ∙ add-one done)

-- from the products that are due comes the task of the next step
pub task_due : (snapshot : Snapshot) (done : ℕ) → task_kept snapshot (products_due snapshot done) ≡ job_task snapshot done
unfolding job_task
task_due snapshot zero = refl
task_due snapshot (suc done) =
    ap (task_by snapshot (length (products_due snapshot (suc done)))) (last_push (products_due snapshot done) (product_of (job_task snapshot done)))
    ∙ ap (λ (n : ℕ). task_after n (product_of (job_task snapshot done))) (length_due snapshot (suc done))

-- the parts of a BUILD
pub next_of_build : (w : World Ask) (s : Submitted) → s.job.kind ≡ Build → next_task fixed w s ≡ job_task (snapshot_now w s) s.job.done
next_of_build w s e = ap (λ (kind : JobKind). job_task (snapshot_in (parts_by kind w s)) s.job.done) e

pub origin_of_build : (w : World Ask) (s : Submitted) → s.job.kind ≡ Build → origin_of w s ≡ snapshot_now w s ∷ []
origin_of_build w s e = ap (λ (kind : JobKind). flat_map (λ (part : List Snapshot). part) (parts_by kind w s)) e

module _ (honest : Type 0) (w : World Ask) (s : Submitted) (kept : List (List ℕ)) (k : IsKept honest s kept) where
  pub made_now : honest → is_live s.job.state ≡ true → kept ≡ products_due (snapshot_now w s) s.job.done
  made_now h live = k.made h live ∙ due_tables s.tables s.range (in_force w) s.job.done k.begun

  -- where hands are honest the task from the products that are kept is that of the next step
  pub task_is : honest → is_live s.job.state ≡ true → task_kept (snapshot_now w s) kept ≡ next_task fixed w s
  task_is h live = ap (task_kept (snapshot_now w s)) (made_now h live) ∙ (task_due (snapshot_now w s) s.job.done ∙ sym (next_of_build w s k.build))

-- ---- the last product

pub some_is : {A : Type 0} (x y : A) → Some x ≡ Some y → x ≡ y
some_is x y e = cc

cells_in : (o : Option (List Cell)) (cells : List Cell) → option_map Cells o ≡ Some (Cells cells) → o ≡ Some cells
cells_in None cells e = cc
cells_in (Some found) cells e = cc

no_rows : (o : Option (List Cell)) (rows : List (List Val)) → option_map Cells o ≡ Some (Rows rows) → ⊥
no_rows None rows e = cc
no_rows (Some found) rows e = cc

sealed_cells_in : (b : Bool) (o : Option (List Cell)) (cells : List Cell) → cond b (option_map Cells o) None ≡ Some (Cells cells) → o ≡ Some cells
sealed_cells_in true o cells e = cells_in o cells e
sealed_cells_in false o cells e = cc

sealed_no_rows : (b : Bool) (o : Option (List Cell)) (rows : List (List Val)) → cond b (option_map Cells o) None ≡ Some (Rows rows) → ⊥
sealed_no_rows true o rows e = no_rows o rows e
sealed_no_rows false o rows e = cc

-- a product of the last step is the list of its cells
pub last_cells : (snapshot : Snapshot) (kept : List (List ℕ)) (bytes : List ℕ) (cells : List Cell) → length kept ≡ 2 → product_in (task_kept snapshot kept) bytes ≡ Some (Cells cells)
    → all_of cells_at bytes ≡ Some cells
last_cells snapshot [] bytes cells two e = absurd (omega (arith, two))
last_cells snapshot (a ∷ []) bytes cells two e = absurd (omega (arith, two))
last_cells snapshot (a ∷ b ∷ []) bytes cells two e = sealed_cells_in (bytes_eq bytes b) (all_of cells_at bytes) cells e
last_cells snapshot (a ∷ b ∷ c ∷ kept) bytes cells two e = absurd (omega (arith, two))

pub last_no_rows : (snapshot : Snapshot) (kept : List (List ℕ)) (bytes : List ℕ) (rows : List (List Val)) → length kept ≡ 2 → product_in (task_kept snapshot kept) bytes ≡ Some (Rows rows) → ⊥
last_no_rows snapshot [] bytes rows two e = absurd (omega (arith, two))
last_no_rows snapshot (a ∷ []) bytes rows two e = absurd (omega (arith, two))
last_no_rows snapshot (a ∷ b ∷ []) bytes rows two e = sealed_no_rows (bytes_eq bytes b) (all_of cells_at bytes) rows e
last_no_rows snapshot (a ∷ b ∷ c ∷ kept) bytes rows two e = absurd (omega (arith, two))

-- and where it is the one that is due, the base cuboid
pub last_base : (snapshot : Snapshot) (kept : List (List ℕ)) (bytes : List ℕ) (cells : List Cell) → FitsSnapshot snapshot → length kept ≡ 2 → product_in (task_kept snapshot kept) bytes ≡ Some (Cells cells)
    → bytes ≡ product_of (job_task snapshot 2) → base_of (rows_of snapshot) ≡ cells
last_base snapshot kept bytes cells f two e due =
    some_is (base_of (rows_of snapshot)) cells (sym (sealed_is snapshot f) ∙ (sym (ap (all_of cells_at) due) ∙ last_cells snapshot kept bytes cells two e))

-- ---- what a product is read as

-- of a first task the number of its step alone says what its products are
pub first_products : (snapshot : Snapshot) (kept : List (List ℕ)) (bytes : List ℕ) → length kept ≡ 0 → product_in (1 ∷ []) bytes ≡ product_in (task_kept snapshot kept) bytes
unfolding job_task
first_products snapshot [] bytes e = refl
first_products snapshot (x ∷ kept) bytes e = absurd (omega (arith, e))

-- the task after some steps
pub task_next : (snapshot : Snapshot) (kept : List (List ℕ)) (product : List ℕ) → slice_get kept (length kept - 1) ≡ Some product → task_kept snapshot kept ≡ task_after (length kept) product
task_next snapshot kept product e = ap (task_by snapshot (length kept)) e
