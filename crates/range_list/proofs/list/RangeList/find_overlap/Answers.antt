use Rattle.std.proofs.Common.{rules, subst, List, ◌≡◌, IsNone, IfNone}
use Rattle.range_list.specs.Ranges.{Interval, IsFree}
use Rattle.range_list.proofs.list.RangeList.find_overlap.Goals as goal

pub returns-clause-free : goal.returns-clause-free
returns-clause-free c =
    let same : c.as_slice.result.now ≡ c.args.self.now = search rules in
    subst (λ (rs : List Interval). IfNone c.overlap_place.result (IsFree rs c.args.r.now)) same c.overlap_place.ensures.free

pub returns-clause-only_free : goal.returns-clause-only_free
returns-clause-only_free c =
    let same : c.as_slice.result.now ≡ c.args.self.now = search rules in
    subst (λ (rs : List Interval). IsFree rs c.args.r.now → IsNone c.overlap_place.result) same c.overlap_place.ensures.only_free
