use Rattle.std.proofs.Common.{◌≡◌, ◌≤◌, ◌+◌, ◌++◌, ◌∙◌, ap, subst}
use Rattle.std.specs.List.Sorted.{IsStrictlySortedBy}
use Rattle.std.specs.Ordering.{nat_cmp}
use Rattle.measure_laws.specs.IdFacts.{same_ids}
use Rattle.measure_laws.specs.Ids.{Ids, different}
use Rattle.measure_laws.specs.Measures.{most_items}
use Rattle.measure_laws.proofs.IdCounts.{count_joined, different-joined}
use Rattle.measure_laws.proofs.id_union.IdUnion.merge.Goals as goal

pub invariant_of-self-2 : goal.invariant_of-self-2
invariant_of-self-2 c =
    let xs = c.self.inside.ids.items in
    let ys = c.args.set.now.ids in
    let more : c.extend_from_slice.new.self.items ≡ xs ++ ys = c.in_ok-extend_from_slice.ensures.items ∙ ap (λ l. xs ++ l) c.ids.ensures.ids in
    let up : IsStrictlySortedBy nat_cmp ys = subst (IsStrictlySortedBy nat_cmp) c.ids.ensures.ids c.ids.ensures.rising in
    let few : c.self.inside.items + c.args.set.now.items ≤ most_items = rw (← c.self.view_is) at c.requires in
    rw (c.items.ensures.items, more, different-joined xs ys up) (count_joined (different xs) ys c.self.inside.items c.args.set.now.items c.self.invariant c.ids.ensures.count few)

pub returns-clause-ok : goal.returns-clause-ok
returns-clause-ok c =
    let xs = c.self.inside.ids.items in
    let ys = c.args.set.now.ids in
    let more : c.extend_from_slice.new.self.items ≡ xs ++ ys = c.in_ok-extend_from_slice.ensures.items ∙ ap (λ l. xs ++ l) c.ids.ensures.ids in
    let up : IsStrictlySortedBy nat_cmp ys = subst (IsStrictlySortedBy nat_cmp) c.ids.ensures.ids c.ids.ensures.rising in
    same_ids _ _ (λ i. (c.self.view_is i).items + c.items.ensures.items i)
    (ap different more ∙ different-joined xs ys up ∙ ap (λ (s : Ids). different (s.ids ++ ys)) c.self.view_is)
