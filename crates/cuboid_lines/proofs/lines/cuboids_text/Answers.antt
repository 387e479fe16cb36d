use Rattle.std.proofs.Common.{◌≡◌, ◌++◌, List, ap, sym, subst, ◌∙◌}
use Rattle.std.specs.Prelude.{codes}
use Rattle.agg_group.specs.declared.mask.Mask.{Mask}
use Rattle.cube_desc.specs.Cube.{Cube}
use Rattle.cuboid_tree.specs.Tree.{SpansTree}
use Rattle.cuboid_lines.specs.Lines.{cuboid_line}
use Rattle.cuboid_lines.proofs.MaskFacts.{flat_map_range, masks_span}
use Rattle.cuboid_lines.proofs.lines.cuboids_text.Goals as goal

pub build-requires : goal.build-requires
build-requires c =
    let span = masks_span c.args.desc.now.cube c.parts-cube.ensures.sound in
    let masks : c.as_slice.result.now ≡ c.args.desc.now.cube.masks =
    (let inside = ap (λ (k : Cube). k.masks) c.cube.view_is in
    let value = ap (λ (k : Cube). k.masks) c.parts-cube.ensures.value in
    let slice = c.as_slice.ensures in
    cc) in
    subst (λ (ms : List Mask). SpansTree ms) (sym masks) span

pub loop-place-preserved : goal.loop-place-preserved
loop-place-preserved c =
    let line = cuboid_line c.parts-cube.result.now in
    let place = c.loop-place.place in
    c.in_ok-extend_from_slice.ensures.items ∙ ap (λ m. c.loop-place.text.items ++ m) (c.as_slice-in-loop-place.ensures.value ∙ c.in_ok-line.ensures)
    ∙ ap (λ t. t ++ line place) c.loop-place.invariant ∙ flat_map_range line (codes "mask,dimensions,parent,columns\n") place
