use Rattle.run_state.proofs.Coverings.{told_hole, told_off, told_parts}
use Rattle.run_state.proofs.verdicts.cover_refusal.Goals as goal

pub returns-in-NotOnBounds : goal.returns-in-NotOnBounds
returns-in-NotOnBounds c = λ set same. told_off c.args.range.now c.args.ranges.now set same c.covering.result c.covering.ensures.off_bounds c.covering.ensures.hole c.in-NotOnBounds.is

pub returns-in-Hole : goal.returns-in-Hole
returns-in-Hole c = λ set same. told_hole c.args.range.now c.args.ranges.now set same c.covering.result c.covering.ensures.off_bounds c.covering.ensures.hole c.in-Hole.day c.in-Hole.is c.one_segment.result c.one_segment.ensures

pub returns-in-Parts : goal.returns-in-Parts
returns-in-Parts c = λ set same. told_parts c.args.range.now c.args.ranges.now set same c.covering.result c.covering.ensures.off_bounds c.covering.ensures.hole c.in-Parts.first c.in-Parts.count c.in-Parts.is c.one_segment-in-Parts.result c.one_segment-in-Parts.ensures
