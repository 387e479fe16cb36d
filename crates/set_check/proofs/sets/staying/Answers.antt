use Rattle.std.proofs.Common.{◌≡◌, ◌∙◌, ℕ, ap, cond, not}
use Rattle.range_list.specs.Ranges.{Interval}
use Rattle.run_history.specs.Sets.{is_inside}
use Rattle.set_check.proofs.SetFacts.{counted, one_or_none}
use Rattle.set_check.proofs.sets.staying.Goals as goal

pub loop-i-preserved : goal.loop-i-preserved
loop-i-preserved c =
    let s = c.segment.result.now in
    let one : c.one_outside-staying.result ≡ cond (not (is_inside c.args.range s.range)) 1 0 = c.one_outside-staying.ensures.value ∙ ap {B = ℕ} (λ (r : Interval). cond (is_inside c.args.range r) 0 1) c.range.ensures.value ∙ one_or_none (is_inside c.args.range s.range) in
    counted (λ t. not (is_inside c.args.range t.range)) c.args.set.now.segments c.loop-i.i c.loop-i.staying c.one_outside-staying.result s c.segment.ensures c.loop-i.invariant.0 c.loop-i.invariant.1 one c.one_outside-staying.ensures.most
