use Rattle.std.proofs.Common.{◌+◌, Some, Bool, cond, drop, sym, ap, ◌∙◌}
use Rattle.std.specs.Prelude.{find}
use Rattle.range_list.specs.Ranges.{Interval}
use Rattle.run_history.specs.Sets.{is_overlap}
use Rattle.run_state.proofs.Refusals.{find_from}
use Rattle.run_state.proofs.verdicts.overlapping_range.Goals as goal

pub returns-then-overlap : goal.returns-then-overlap
returns-then-overlap c =
    let test = λ (other : Interval). is_overlap other c.args.range.now in
    let step = find_from test c.args.ranges.now c.loop-place.place c.get-other.result c.get-other.ensures in
    sym (c.loop-place.invariant ∙ (step ∙ ap (λ (b : Bool). cond b (Some c.get-other.result) (find (λ (other : Interval). is_overlap other c.args.range.now) (drop (c.loop-place.place + 1) c.args.ranges.now))) (sym c.overlap.ensures ∙ c.if-overlap.true)))

pub loop-place-preserved : goal.loop-place-preserved
loop-place-preserved c =
    let test = λ (other : Interval). is_overlap other c.args.range.now in
    let step = find_from test c.args.ranges.now c.loop-place.place c.get-other.result c.get-other.ensures in
    c.loop-place.invariant ∙ (step ∙ ap (λ (b : Bool). cond b (Some c.get-other.result) (find (λ (other : Interval). is_overlap other c.args.range.now) (drop (c.loop-place.place + 1) c.args.ranges.now))) (sym c.overlap.ensures ∙ c.if-overlap.false))
