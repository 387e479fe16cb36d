-- Tasks, and the bytes of their bodies.
use Rattle.std.specs.Prelude.{◌≡◌, ◌<◌, ◌^◌, ℕ, Bool, true, is_some, List, [], ◌∷◌, ◌++◌, Option, None, length}
use Rattle.std.specs.Int.{w32}
use Rattle.byte_frame.specs.Reading.{case_at, if_at, no_case, sized_at, then_at}
use Rattle.byte_frame.specs.Spelling.{sized_text}
use Rattle.cell_store.specs.Cells.{CellRows}
use Rattle.cube_val.specs.declared.val.Val.{Val}
use Rattle.cube_desc.specs.Meaning.{desc_of}
use Rattle.range_list.specs.Ranges.{Interval}
use Rattle.step_fields.specs.Fits.{FitsRows, IsDayRange}
use Rattle.step_fields.specs.Reading.{range_at, rows_at}
use Rattle.step_fields.specs.Spelling.{range_text, rows_text}
use Rattle.cube_fields.specs.Dicts.{dicts_text}
use Rattle.step_codec.specs.Bodies.{FitsAllLoaded, FitsHolding, FitsLayer, layer_text, loaded_text}
use Rattle.step_codec.specs.Layouts.{row_limit, size_limit}
use Rattle.step_codec.specs.Reading.{all_loaded_at, holding_at, layer_at}
use Rattle.step_codec.specs.Seals.{FitsSeal, seal_at, seal_text}
use Rattle.step_codec.specs.declared.layout.Layout.{Layout}
use Rattle.step_files.specs.Cubes.{layout_in}
use Rattle.step_files.specs.declared.task.Task.{Task}
use Rattle.step_files.specs.declared.task.Task.TheVariants.{Flat, Dict, Base, Layer, Seal}

-- ---- bytes

-- a u32 length, and the bytes of the descriptor's file
abbrev pub desc_text : List ℕ → List ℕ
desc_text desc = sized_text w32 desc

-- the number of the kind, and what the step works on
abbrev pub task_body : Task → List ℕ
task_body (Flat desc range tables) = 1 ∷ (desc_text desc ++ (range_text range ++ loaded_text tables))
task_body (Dict desc flat) = 2 ∷ (desc_text desc ++ rows_text flat)
task_body (Base desc flat dicts) = 3 ∷ (desc_text desc ++ (rows_text flat ++ dicts_text dicts))
task_body (Layer desc dims sizes parents) = 4 ∷ (desc_text desc ++ layer_text (dims, (sizes, parents)))
task_body (Seal s) = 5 ∷ seal_text s

-- ---- what fits

abbrev pub is_descriptor : List ℕ → Bool
is_descriptor bytes = is_some (desc_of bytes)

abbrev pub FitsDesc : List ℕ → Type 0
FitsDesc desc = (length desc < 2 ^ 32) × (is_descriptor desc ≡ true)

-- flat rows of the cube
abbrev pub FitsFlat : Layout → List (List Val) → Type 0
FitsFlat l rows = FitsRows l.flat row_limit rows

-- a valid task
abbrev pub FitsTask : Task → Type 0
FitsTask (Flat desc range tables) = FitsDesc desc × (IsDayRange range × FitsAllLoaded (layout_in desc) tables)
FitsTask (Dict desc flat) = FitsDesc desc × FitsFlat (layout_in desc) flat
FitsTask (Base desc flat dicts) = FitsDesc desc × (FitsFlat (layout_in desc) flat × FitsHolding (layout_in desc) size_limit flat dicts)
FitsTask (Layer desc dims sizes parents) = FitsDesc desc × FitsLayer (layout_in desc) (dims, (sizes, parents))
FitsTask (Seal s) = FitsSeal s

-- ---- readers

abbrev pub desc_at : List ℕ → Option (List ℕ × List ℕ)
desc_at = if_at is_descriptor (sized_at w32 (λ _. true))

abbrev pub flat_from : List ℕ × (Interval × List (List (List Val))) → Task
flat_from p = Flat p.0 p.1.0 p.1.1

abbrev pub dict_from : List ℕ × List (List Val) → Task
dict_from p = Dict p.0 p.1

abbrev pub base_from : List ℕ × (List (List Val) × List (List Val)) → Task
base_from p = Base p.0 p.1.0 p.1.1

abbrev pub layer_from : List ℕ × (ℕ × (List ℕ × List CellRows)) → Task
layer_from p = Layer p.0 p.1.0 p.1.1.0 p.1.1.1

unfoldable pub flat_work_at : List ℕ → Option ((List ℕ × (Interval × List (List (List Val)))) × List ℕ)
flat_work_at = then_at desc_at (λ desc. then_at range_at (λ _. all_loaded_at (layout_in desc)))

unfoldable pub dict_work_at : List ℕ → Option ((List ℕ × List (List Val)) × List ℕ)
dict_work_at = then_at desc_at (λ desc. rows_at (layout_in desc).flat row_limit)

-- flat rows, and dictionaries that hold their values
abbrev pub rows_and_dicts_at : Layout → List ℕ → Option ((List (List Val) × List (List Val)) × List ℕ)
rows_and_dicts_at l = then_at (rows_at l.flat row_limit) (λ flat. holding_at l size_limit flat)

unfoldable pub base_work_at : List ℕ → Option ((List ℕ × (List (List Val) × List (List Val))) × List ℕ)
base_work_at = then_at desc_at (λ desc. rows_and_dicts_at (layout_in desc))

unfoldable pub layer_work_at : List ℕ → Option ((List ℕ × (ℕ × (List ℕ × List CellRows))) × List ℕ)
layer_work_at = then_at desc_at (λ desc. layer_at (layout_in desc))

-- what stands behind the number of the kind
abbrev pub work_at : ℕ → List ℕ → Option (Task × List ℕ)
work_at = case_at 1 flat_from flat_work_at (case_at 2 dict_from dict_work_at (case_at 3 base_from base_work_at (case_at 4 layer_from layer_work_at (case_at 5 Seal seal_at no_case))))

unfoldable pub body_at : List ℕ → Option (Task × List ℕ)
body_at [] = None
body_at (kind ∷ bytes) = work_at kind bytes
