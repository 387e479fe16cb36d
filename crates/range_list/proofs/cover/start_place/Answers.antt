use Rattle.std.proofs.Common.{rules}
use Rattle.range_list.proofs.Apart.{no_start}
use Rattle.range_list.proofs.cover.start_place.Goals as goal

pub returns-else-eq-clause-none : goal.returns-else-eq-clause-none
returns-else-eq-clause-none c =
    no_start c.args.ranges.now c.requires c.args.day c.ended_by-i.result c.index-ranges-i.result (search rules) c.index-ranges-i.is c.ended_by-i.ensures.ended (search rules) (search rules)
