use Rattle.std.proofs.Common.{rules}
use Rattle.range_list.proofs.Apart.{first_overlap, first_is_not_free, free_around, starts_more}
use Rattle.range_list.proofs.list.overlap_place.Goals as goal

pub returns-then-lt-clause-found : goal.returns-then-lt-clause-found
returns-then-lt-clause-found c =
    first_overlap c.args.ranges.now c.args.r.now c.ended_by-i.result c.index-ranges-i.result c.requires (search rules) (search rules) c.index-ranges-i.is (search rules) (search rules) (search rules)

pub returns-then-lt-clause-only_free : goal.returns-then-lt-clause-only_free
returns-then-lt-clause-only_free c = λ free. absurd (first_is_not_free c.args.ranges.now c.args.r.now c.ended_by-i.result (returns-then-lt-clause-found c) free)

pub returns-else-lt-clause-free : goal.returns-else-lt-clause-free
returns-else-lt-clause-free c =
    free_around c.args.ranges.now c.requires c.args.r.now c.ended_by-i.result (search rules) (starts_more c.args.ranges.now c.requires c.args.r.now.end c.ended_by-i.result c.index-ranges-i.result (search rules) c.index-ranges-i.is (search rules))
