use Rattle.std.proofs.Common.{◌∙◌, ap, subst, sym}
use Rattle.std.specs.List.Sorted.{IsStrictlySortedBy}
use Rattle.std.specs.Ordering.{nat_cmp}
use Rattle.measure_laws.specs.IdFacts.{same_ids}
use Rattle.measure_laws.specs.Ids.{Ids, rises-different}
use Rattle.measure_laws.proofs.id_union.IdUnion.into_set.Goals as goal

pub of-requires-clause-rising : goal.of-requires-clause-rising
of-requires-clause-rising c = subst (IsStrictlySortedBy nat_cmp) (sym (c.as_slice.ensures.value ∙ c.in_order-ids.ensures)) (rises-different c.self.inside.ids.items)

pub of-requires-clause-count : goal.of-requires-clause-count
of-requires-clause-count c = rw (c.as_slice.ensures.value ∙ c.in_order-ids.ensures) c.self.invariant

pub returns : goal.returns
returns c =
    same_ids _ _ (c.in_ok-set.ensures.items ∙ ap (λ (s : Ids). s.items) c.self.view_is)
    (c.in_ok-set.ensures.ids ∙ c.as_slice.ensures.value ∙ c.in_order-ids.ensures ∙ ap (λ (s : Ids). s.ids) c.self.view_is)
