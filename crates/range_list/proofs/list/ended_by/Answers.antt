use Rattle.std.proofs.Common.{rules, arith}
use Rattle.range_list.proofs.Apart.{ended_more, later_more}
use Rattle.range_list.proofs.list.ended_by.Goals as goal

pub loop-low-preserved-then-le : goal.loop-low-preserved-then-le
loop-low-preserved-then-le c = record {
  order = omega arith;
  within = c.loop-low.invariant.within;
  ended = ended_more c.args.ranges.now c.requires c.args.day _ c.index-ranges-middle.result (omega (arith, c.loop-low.invariant.within)) c.index-ranges-middle.is (search rules);
  later = c.loop-low.invariant.later;
}

pub loop-low-preserved : goal.loop-low-preserved
loop-low-preserved c = record {
  order = omega arith;
  within = omega (arith, c.loop-low.invariant.within);
  ended = c.loop-low.invariant.ended;
  later = later_more c.args.ranges.now c.requires c.args.day _ c.index-ranges-middle.result (omega (arith, c.loop-low.invariant.within)) c.index-ranges-middle.is (search rules);
}
