use Rattle.std.proofs.Common.{◌≡◌, ◌∙◌, List, ap, map, subst, sym}
use Rattle.std.specs.Prelude.{All}
use Rattle.std.proofs.lemmas.List.Elements.{All-from_recursion}
use Rattle.agg_group.specs.declared.mask.Mask.{Mask}
use Rattle.cube_desc.specs.Cube.{Cube}
use Rattle.cuboid_tree.specs.Tree.{SpansTree, places}
use Rattle.layer_builder.specs.Layers.{HasParent}
use Rattle.layer_builder.specs.declared.layers.Want.{Want}
use Rattle.step_compute.specs.Values.{is_in_layer, layer_places}
use Rattle.step_compute.specs.Wants.{made_of, want_of}
use Rattle.step_compute.proofs.LayerFacts.{all_pass, cube_masks_small, cube_spans, items_are, made_are, wants_have}
use Rattle.step_compute.proofs.layer_step.layer_value.Goals as goal

pub build-requires : goal.build-requires
build-requires g c =
    let cube : Cube = c.args.desc.now.cube in
    let masks : c.as_slice.result.now ≡ cube.masks = c.as_slice.ensures ∙ ap (λ (k : Cube). k.masks) c.cube.view_is ∙ ap (λ (k : Cube). k.masks) c.parts-cube.ensures.value in
    subst (λ (ms : List Mask). SpansTree ms) (sym masks) (cube_spans cube c.parts-cube.ensures.sound)

pub in_batches-requires-after_bounds : goal.in_batches-requires-after_bounds
in_batches-requires-after_bounds g c κs within =
    let cube : Cube = c.args.desc.now.cube in
    let parents = c.args.parents.now in
    let dims = c.args.dims in
    let slice : c.as_slice.result.now ≡ cube.masks = c.as_slice.ensures ∙ ap (λ (k : Cube). k.masks) c.cube.view_is ∙ ap (λ (k : Cube). k.masks) c.parts-cube.ensures.value in
    let masks : c.in_ok-tree.tree ≡ cube.masks = c.in_ok-tree.ensures ∙ slice in
    let wants : c.as_slice-2.result.now ≡ map (want_of cube.masks parents) (layer_places cube.masks dims)
    = c.as_slice-2.ensures.value ∙ c.in_ok-wants.ensures ∙ ap (λ (ms : List Mask). map (want_of ms parents) (layer_places ms dims)) masks in
    subst (λ (ws : List Want). All (HasParent parents) ws) (sym wants)
    (All-from_recursion (HasParent parents) (map (want_of cube.masks parents) (layer_places cube.masks dims))
    (wants_have cube.masks dims parents (layer_places cube.masks dims) (cube_spans cube c.parts-cube.ensures.sound).rising (cube_masks_small cube c.parts-cube.ensures.sound)
    (all_pass (is_in_layer cube.masks dims) (places cube.masks)) c.requires))

pub returns-clause-layer : goal.returns-clause-layer
returns-clause-layer g c =
    let cube : Cube = c.args.desc.now.cube in
    let parents = c.args.parents.now in
    let dims = c.args.dims in
    let slice : c.as_slice.result.now ≡ cube.masks = c.as_slice.ensures ∙ ap (λ (k : Cube). k.masks) c.cube.view_is ∙ ap (λ (k : Cube). k.masks) c.parts-cube.ensures.value in
    let masks : c.in_ok-tree.tree ≡ cube.masks = c.in_ok-tree.ensures ∙ slice in
    let wants : c.as_slice-2.result.now ≡ map (want_of cube.masks parents) (layer_places cube.masks dims)
    = c.as_slice-2.ensures.value ∙ c.in_ok-wants.ensures ∙ ap (λ (ms : List Mask). map (want_of ms parents) (layer_places ms dims)) masks in
    items_are c.in_batches.result _ _ (ap (map (made_of parents)) wants ∙ made_are cube.masks parents (layer_places cube.masks dims)) c.in_batches.ensures.tables
