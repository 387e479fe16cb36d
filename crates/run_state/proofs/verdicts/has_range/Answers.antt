use Rattle.std.proofs.Common.{◌+◌, ◌||◌, Bool, drop, sym, ap, ◌∙◌}
use Rattle.std.specs.List.{list_any}
use Rattle.range_list.specs.Ranges.{Interval}
use Rattle.run_history.specs.Sets.{is_same_range}
use Rattle.run_state.proofs.Coverings.{any_at}
use Rattle.run_state.proofs.verdicts.has_range.Goals as goal

pub returns-then-same : goal.returns-then-same
returns-then-same c =
    let test = λ (other : Interval). is_same_range c.args.range.now other in
    let step = any_at test c.args.ranges.now c.loop-place.place c.get-other.result c.get-other.ensures in
    sym (c.loop-place.invariant ∙ (step ∙ ap (λ (b : Bool). b || list_any (λ (other : Interval). is_same_range c.args.range.now other) (drop (c.loop-place.place + 1) c.args.ranges.now)) (sym c.same.ensures ∙ c.if-same.true)))

pub loop-place-preserved : goal.loop-place-preserved
loop-place-preserved c =
    let test = λ (other : Interval). is_same_range c.args.range.now other in
    let step = any_at test c.args.ranges.now c.loop-place.place c.get-other.result c.get-other.ensures in
    c.loop-place.invariant ∙ (step ∙ ap (λ (b : Bool). b || list_any (λ (other : Interval). is_same_range c.args.range.now other) (drop (c.loop-place.place + 1) c.args.ranges.now)) (sym c.same.ensures ∙ c.if-same.false))
