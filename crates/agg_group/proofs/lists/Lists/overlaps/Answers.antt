use Rattle.std.proofs.Common.{arith, sym, ◌∙◌}
use Rattle.agg_group.specs.GroupLists.{rules}
use Rattle.agg_group.proofs.ListLemmas.{overlap_at, no_overlap}
use Rattle.agg_group.proofs.lists.Lists.overlaps.Goals as goal

pub returns-then-is_in_two : goal.returns-then-is_in_two
returns-then-is_in_two c =
    sym (overlap_at (rules c.args.self.now) c.loop-d.d (omega arith) (sym c.is_in_two.ensures ∙ c.if-is_in_two.true))

pub returns : goal.returns
returns c = sym (no_overlap (rules c.args.self.now) (λ d below. c.loop-d.invariant d (omega arith)))
