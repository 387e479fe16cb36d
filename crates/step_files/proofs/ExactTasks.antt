-- The bodies of tasks are read exactly.
use Rattle.std.proofs.Common.{◌≡◌, ◌<◌, ◌^◌, ◌++◌, ℕ, suc, true, List, [], ◌∷◌, length, Some, refl, arith}
use Rattle.std.specs.Int.{w32}
use Rattle.byte_frame.specs.Exact.{AreCases, Exact, IsBytes, Takes}
use Rattle.byte_frame.proofs.Exact.{exact_fit, exact_if, exact_sized, exact_then, no_cases, one_case, wide32}
use Rattle.cell_store.specs.Cells.{CellRows}
use Rattle.cube_val.specs.declared.val.Val.{Val}
use Rattle.range_list.specs.Ranges.{Interval}
use Rattle.step_fields.specs.Fits.{IsDayRange}
use Rattle.step_fields.specs.Reading.{rows_at}
use Rattle.step_fields.specs.Spelling.{range_text, rows_text}
use Rattle.step_fields.proofs.Exact.{exact_range, exact_rows}
use Rattle.cube_fields.specs.Dicts.{dicts_text}
use Rattle.step_codec.specs.Bodies.{FitsAllLoaded, FitsHolding, FitsLayer, layer_text, loaded_text}
use Rattle.step_codec.specs.Layouts.{row_limit, size_limit}
use Rattle.step_codec.proofs.ExactBodies.{exact_all_loaded, exact_holding, exact_layer}
use Rattle.step_codec.proofs.ExactSeals.{exact_seal}
use Rattle.step_files.specs.Cubes.{layout_in}
use Rattle.step_files.specs.Tasks.{FitsDesc, FitsFlat, FitsTask, base_from, base_work_at, body_at, task_body, desc_at, desc_text, dict_from, dict_work_at, flat_from, flat_work_at, is_descriptor, layer_from, layer_work_at, work_at}
use Rattle.step_files.specs.declared.task.Task.{Task}
use Rattle.step_files.specs.declared.task.Task.TheVariants.{Flat, Dict, Base, Layer, Seal}
use Rattle.step_files.proofs.LayoutFacts.{is_layout}

exact_desc : Exact desc_text FitsDesc desc_at
exact_desc = exact_fit desc_text (λ (desc : List ℕ). ((length desc < 2 ^ 32) × (true ≡ true)) × (is_descriptor desc ≡ true)) FitsDesc desc_at
    (λ desc h. (h.0.0, h.1)) (λ desc h. ((h.0, refl), h.1))
    (exact_if is_descriptor _ _ _ (exact_sized w32 (2 ^ 32) (λ n. true) wide32))

exact_flat_work : Exact (λ (p : List ℕ × (Interval × List (List (List Val)))). desc_text p.0 ++ (range_text p.1.0 ++ loaded_text p.1.1)) (λ (p : List ℕ × (Interval × List (List (List Val)))). FitsDesc p.0 × (IsDayRange p.1.0 × FitsAllLoaded (layout_in p.0) p.1.1)) flat_work_at
unfolding flat_work_at
exact_flat_work = exact_then _ _ _ (λ desc (p : Interval × List (List (List Val))). range_text p.0 ++ loaded_text p.1) _ _ exact_desc
    (λ desc h. exact_then _ _ _ (λ range (tables : List (List (List Val))). loaded_text tables) _ _ exact_range (λ range g. exact_all_loaded (layout_in desc)))

pub exact_flat : (desc : List ℕ) → Exact rows_text (FitsFlat (layout_in desc)) (rows_at (layout_in desc).flat row_limit)
exact_flat desc = exact_rows (layout_in desc).flat row_limit (omega arith)

exact_dict_work : Exact (λ (p : List ℕ × List (List Val)). desc_text p.0 ++ rows_text p.1) (λ (p : List ℕ × List (List Val)). FitsDesc p.0 × FitsFlat (layout_in p.0) p.1) dict_work_at
unfolding dict_work_at
exact_dict_work = exact_then _ _ _ (λ desc (rows : List (List Val)). rows_text rows) _ _ exact_desc (λ desc h. exact_flat desc)

exact_base_work : Exact (λ (p : List ℕ × (List (List Val) × List (List Val))). desc_text p.0 ++ (rows_text p.1.0 ++ dicts_text p.1.1)) (λ (p : List ℕ × (List (List Val) × List (List Val))). FitsDesc p.0 × (FitsFlat (layout_in p.0) p.1.0 × FitsHolding (layout_in p.0) size_limit p.1.0 p.1.1)) base_work_at
unfolding base_work_at
exact_base_work = exact_then _ _ _ (λ desc (p : List (List Val) × List (List Val)). rows_text p.0 ++ dicts_text p.1) _ _ exact_desc
    (λ desc h. exact_then _ _ _ (λ flat (dicts : List (List Val)). dicts_text dicts) _ _ (exact_flat desc) (λ flat g. exact_holding (layout_in desc) size_limit flat (is_layout desc h.1) (omega arith)))

exact_layer_work : Exact (λ (p : List ℕ × (ℕ × (List ℕ × List CellRows))). desc_text p.0 ++ layer_text p.1) (λ (p : List ℕ × (ℕ × (List ℕ × List CellRows))). FitsDesc p.0 × FitsLayer (layout_in p.0) p.1) layer_work_at
unfolding layer_work_at
exact_layer_work = exact_then _ _ _ (λ desc (p : ℕ × (List ℕ × List CellRows)). layer_text p) _ _ exact_desc (λ desc h. exact_layer (layout_in desc) (is_layout desc h.1))

work_cases : AreCases task_body FitsTask work_at
work_cases =
    one_case task_body FitsTask 1 flat_from _ _ _ _ exact_flat_work (λ x. refl) (λ x h. h)
    (one_case task_body FitsTask 2 dict_from _ _ _ _ exact_dict_work (λ x. refl) (λ x h. h)
    (one_case task_body FitsTask 3 base_from _ _ _ _ exact_base_work (λ x. refl) (λ x h. h)
    (one_case task_body FitsTask 4 layer_from _ _ _ _ exact_layer_work (λ x. refl) (λ x h. h)
    (one_case task_body FitsTask 5 Seal _ _ _ _ exact_seal (λ x. refl) (λ x h. h) (no_cases task_body FitsTask)))))

body_takes : (bytes : List ℕ) (z : Task × List ℕ) → IsBytes bytes → body_at bytes ≡ Some z → Takes bytes (task_body z.0) z.1 × FitsTask z.0
unfolding body_at
body_takes [] z fits e = absurd cc
body_takes (kind ∷ bytes) z fits e = work_cases kind bytes z (λ i. fits (suc i)) e

body_again : (t : Task) (rest : List ℕ) → FitsTask t → body_at (task_body t ++ rest) ≡ Some (t, rest)
unfolding body_at
body_again (Flat desc range tables) rest h = rw (exact_flat_work.again (desc, (range, tables)) rest h) refl
body_again (Dict desc flat) rest h = rw (exact_dict_work.again (desc, flat) rest h) refl
body_again (Base desc flat dicts) rest h = rw (exact_base_work.again (desc, (flat, dicts)) rest h) refl
body_again (Layer desc dims sizes parents) rest h = rw (exact_layer_work.again (desc, (dims, (sizes, parents))) rest h) refl
body_again (Seal s) rest h = rw (exact_seal.again s rest h) refl

pub exact_body : Exact task_body FitsTask body_at
exact_body = record { takes = body_takes; again = body_again }
