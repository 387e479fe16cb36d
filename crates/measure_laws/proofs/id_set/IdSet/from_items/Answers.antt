use Rattle.std.proofs.Common.{◌≡◌, ◌∙◌, arith, length, subst, sym}
use Rattle.std.specs.List.Sorted.{IsStrictlySortedBy}
use Rattle.std.specs.Ordering.{nat_cmp}
use Rattle.measure_laws.specs.IdFacts.{same_ids}
use Rattle.measure_laws.specs.Ids.{ids_of, rises-different}
use Rattle.measure_laws.proofs.IdCounts.{count_items}
use Rattle.measure_laws.proofs.id_set.IdSet.from_items.Goals as goal

pub of-requires-clause-rising : goal.of-requires-clause-rising
of-requires-clause-rising c = subst (IsStrictlySortedBy nat_cmp) (sym (c.as_slice.ensures.value ∙ c.in_order-ids.ensures)) (rises-different c.args.ids.items)

pub of-requires-clause-count : goal.of-requires-clause-count
of-requires-clause-count c =
    let size : c.len-items.result ≡ length c.args.ids.items = omega (arith, c.args.ids.ok.0) in
    rw (c.as_slice.ensures.value ∙ c.in_order-ids.ensures, size) (count_items c.args.ids.items c.requires)

pub returns : goal.returns
returns c =
    let size : c.len-items.result ≡ length c.args.ids.items = omega (arith, c.args.ids.ok.0) in
    same_ids c.in_ok-set.set (ids_of c.args.ids.items) (c.in_ok-set.ensures.items ∙ size) (c.in_ok-set.ensures.ids ∙ c.as_slice.ensures.value ∙ c.in_order-ids.ensures)
