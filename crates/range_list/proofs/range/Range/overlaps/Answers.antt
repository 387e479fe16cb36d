use Rattle.std.proofs.Common.{rules, subst}
use Rattle.range_list.specs.Ranges.{IsRange}
use Rattle.range_list.proofs.Apart.{overlap, overlap_ends}
use Rattle.range_list.proofs.range.Range.overlaps.Goals as goal

pub returns-then-lt : goal.returns-then-lt
returns-then-lt c = (
  λ h. overlap c.args.self.now c.args.o.now (subst IsRange c.self.view_is c.self.invariant) (subst IsRange c.o.view_is c.o.invariant) (search rules) (search rules),
  λ h. let ends = overlap_ends c.args.self.now c.args.o.now h in search rules,
)
