use Rattle.std.proofs.Common.{◌≡◌, ◌∙◌, ap}
use Rattle.cube_desc.specs.Cube.{Cube}
use Rattle.cube_val.specs.declared.form.JoinPlan.{JoinPlan}
use Rattle.flat_join.proofs.PreparedFacts.{prepared}
use Rattle.flat_join.proofs.prepared.PreparedJoin.new.Goals as goal

pub invariant_of-result : goal.invariant_of-result
invariant_of-result c =
    let cube = c.args.desc.now.cube in
    let parts = c.parts.view_is ∙ c.parts-parts.ensures.value in
    let joins : c.as_slice.result.now ≡ cube.plan.joins = c.as_slice.ensures ∙ ap (λ (p : JoinPlan). p.joins) (c.deref.ensures ∙ ap (λ (x : Cube). x.plan) parts) in
    prepared cube c.args.tables.now c.args.range.now c.parts-parts.result.now c.as_slice.result.now c.in_ok-columns.columns.items c.in_ok-snaps.snaps.items c.parts-parts.ensures.sound c.requires
    c.parts-parts.ensures.value joins c.in_ok-columns.ensures c.in_ok-snaps.ensures
