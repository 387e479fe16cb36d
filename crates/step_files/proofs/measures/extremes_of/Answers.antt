use Rattle.std.proofs.Common.{◌≡◌, ◌∙◌, ◌++◌, List, ap, sym}
use Rattle.std.specs.List.{flat_map, range_with_len}
use Rattle.cube_fields.specs.declared.forms.Extremes.{Extremes}
use Rattle.step_files.specs.Cubes.{extremes_with}
use Rattle.step_files.proofs.CubeFacts.{flat_range_more}
use Rattle.step_files.proofs.measures.extremes_of.Goals as goal

pub loop-i-preserved : goal.loop-i-preserved
loop-i-preserved c =
    let pairs = extremes_with c.args.measures.now in
    let i = c.loop-i.i in
    let inv : c.loop-i.found.items ≡ flat_map pairs (range_with_len 0 i) = c.loop-i.invariant in
    c.in_ok-push_extremes.ensures ∙ ap (λ (l : List Extremes). l ++ pairs i) inv ∙ sym (flat_range_more pairs i)
