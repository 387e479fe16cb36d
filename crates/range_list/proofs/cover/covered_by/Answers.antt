use Rattle.std.proofs.Common.{rules, arith, subst, sym, ℕ}
use Rattle.range_list.specs.Covers.{Covers}
use Rattle.range_list.specs.declared.cover.Cover.TheVariants.{Hole}
use Rattle.range_list.proofs.Covering.{in_order, covers_parts, covers_hole}
use Rattle.range_list.proofs.cover.covered_by.Goals as goal

pub overflow_sub-result : goal.overflow_sub-result
overflow_sub-result c =
    omega (arith, in_order c.args.ranges.now c.requires c.args.r.now (search rules) c.in-Some.first c.in-Some-end_place.last c.in-Some.ensures.within c.in-Some-end_place.ensures.within (search rules) (search rules))

pub returns-in-None-clause-covers : goal.returns-in-None-clause-covers
returns-in-None-clause-covers c =
    covers_parts c.args.ranges.now c.requires c.args.r.now (search rules) c.in-Some.first c.in-Some-end_place.last c.in-Some.ensures.within c.in-Some-end_place.ensures.within (search rules) (search rules) c.in-None.ensures.none

pub returns-in-Some-first_gap-clause-covers : goal.returns-in-Some-first_gap-clause-covers
returns-in-Some-first_gap-clause-covers c =
    let k = c.in-Some-first_gap.k in
    let covered = covers_hole c.args.ranges.now c.requires c.args.r.now (search rules) c.in-Some.first c.in-Some-end_place.last c.in-Some.ensures.within c.in-Some-end_place.ensures.within (search rules) (search rules) k c.index-ranges-k.result c.in-Some-first_gap.ensures.within.0 c.in-Some-first_gap.ensures.within.1 c.in-Some-first_gap.ensures.joined c.in-Some-first_gap.ensures.gap c.index-ranges-k.is in
    subst (λ (d : ℕ). Covers c.args.ranges.now c.args.r.now (Hole d)) (sym c.end-in-Some-first_gap.ensures.value) covered
