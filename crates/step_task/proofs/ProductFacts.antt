-- What the step of a valid task makes is a product of it.
use Rattle.std.proofs.Common.{ℕ, List, drop, length, map, refl, subst, sym}
use Rattle.agg_group.specs.declared.mask.Mask.{Mask}
use Rattle.agg_group.specs.Mask.{IsRising}
use Rattle.agg_group.proofs.BuiltLemmas.{built_rises}
use Rattle.cell_store.specs.Cells.{CellRows}
use Rattle.cube_desc.specs.Cube.{Cube}
use Rattle.cube_desc.specs.Sound.{IsSound}
use Rattle.cube_desc.proofs.SoundFacts.{sound}
use Rattle.cube_fields.specs.Cells.{FitsTable, FitsTables}
use Rattle.flat_join.specs.Flat.{flat_of}
use Rattle.step_codec.specs.Bodies.{FitsAllLoaded, FitsHolding, FitsLayer}
use Rattle.step_codec.specs.Layouts.{base_mask, layer_masks, parent_masks, row_limit, size_limit, table_form}
use Rattle.step_codec.specs.declared.layout.Layout.{Layout}
use Rattle.step_codec.proofs.LayerFacts.{small_at}
use Rattle.step_files.specs.Cubes.{layout_of}
use Rattle.cube_desc.specs.Kept.{kept_behind}
use Rattle.step_files.specs.Products.{FitsProduct}
use Rattle.step_files.specs.Tasks.{FitsFlat, FitsTask}
use Rattle.step_files.specs.declared.task.Task.{Task}
use Rattle.step_files.specs.declared.task.Task.TheVariants as task
use Rattle.step_files.proofs.LayoutFacts.{layout_holds}
use Rattle.step_task.specs.Steps.{cube_in, step_compute}
use Rattle.step_task.proofs.BaseFits.{base_fits}
use Rattle.step_task.proofs.CubeFacts.{described, layout_is_of}
use Rattle.step_task.proofs.DictFits.{dicts_hold}
use Rattle.step_task.proofs.ExtremeFacts.{are_extremes_at}
use Rattle.step_task.proofs.FlatFits.{flat_fits}
use Rattle.step_task.proofs.LayerFits.{layer_fits}
use Rattle.step_task.proofs.TaskFacts.{parents_are}
use Rattle.step_compute.specs.Values.{base_value, dict_value, layer_value}

-- the cuboids of a layer of a cube
layer_of_cube : (c : Cube) → IsSound c → (dims : ℕ) (sizes : List ℕ) (parents : List CellRows) → FitsLayer (layout_of c) (dims, (sizes, parents))
    → FitsTables (table_form (layout_of c) sizes 1) (layer_masks (layout_of c).masks dims) (layer_value c.masks dims parents)
unfolding layout_of
layer_of_cube c s dims sizes parents h =
    let rising : IsRising c.masks = subst (λ (ms : List Mask). IsRising ms) (sym s.masks) (built_rises (length c.rowkey) c.groups) in
    let f = table_form (layout_of c) sizes 1 in
    layer_fits f c.masks dims (parent_masks c.masks dims) parents rising (λ i. small_at c.masks i (layout_holds c s).masks) h.1.1
    (parents_are c.masks dims f parents rising h.1.1) (are_extremes_at (drop (length c.rowkey) sizes) (kept_behind c))

pub made_products : (t : Task) → FitsTask t → FitsProduct t (step_compute t)
made_products (task.Flat desc range tables) h =
    let s = sound desc (cube_in desc) (described desc h.0.1) in
    let lay = layout_is_of desc h.0.1 in
    subst (λ (l : Layout). FitsFlat l (flat_of (cube_in desc) tables range)) (sym lay)
    (flat_fits (cube_in desc) s tables (subst (λ (l : Layout). FitsAllLoaded l tables) lay h.1.1) range)
made_products (task.Dict desc flat) h =
    let s = sound desc (cube_in desc) (described desc h.0.1) in
    let lay = layout_is_of desc h.0.1 in
    subst (λ (l : Layout). FitsHolding l row_limit flat (dict_value (cube_in desc) flat)) (sym lay) (dicts_hold (cube_in desc) s flat (subst (λ (l : Layout). FitsFlat l flat) lay h.1))
made_products (task.Base desc flat dicts) h =
    let s = sound desc (cube_in desc) (described desc h.0.1) in
    let lay = layout_is_of desc h.0.1 in
    subst (λ (l : Layout). FitsTable (table_form l (map length dicts) 1) (base_mask l) (base_value (cube_in desc) flat dicts)) (sym lay)
    (base_fits (cube_in desc) s flat dicts (subst (λ (l : Layout). FitsFlat l flat) lay h.1.0) (subst (λ (l : Layout). FitsHolding l size_limit flat dicts) lay h.1.1))
made_products (task.Layer desc dims sizes parents) h =
    let s = sound desc (cube_in desc) (described desc h.0.1) in
    let lay = layout_is_of desc h.0.1 in
    subst (λ (l : Layout). FitsTables (table_form l sizes 1) (layer_masks l.masks dims) (layer_value (cube_in desc).masks dims parents)) (sym lay)
    (layer_of_cube (cube_in desc) s dims sizes parents (subst (λ (l : Layout). FitsLayer l (dims, (sizes, parents))) lay h.1))
made_products (task.Seal s) h = refl
