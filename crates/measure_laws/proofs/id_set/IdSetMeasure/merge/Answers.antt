use Rattle.std.proofs.Common.{◌≡◌, ◌≤◌, ◌+◌, ◌++◌, ◌∙◌, refl, subst, sym}
use Rattle.std.specs.List.Sorted.{IsStrictlySortedBy}
use Rattle.std.specs.Ordering.{nat_cmp}
use Rattle.measure_laws.specs.Ids.{different, rises-different}
use Rattle.measure_laws.specs.Measures.{most_items}
use Rattle.measure_laws.proofs.IdCounts.{count_joined, merged_as}
use Rattle.measure_laws.proofs.id_set.IdSetMeasure.merge.Goals as goal

pub invariant_of-self-inside : goal.invariant_of-self-inside
invariant_of-self-inside c =
    let xs = c.self.inside.ids.items in
    let ys = c.o.inside.ids.items in
    let ids : c.in_ok-self-inside.field-0.items ≡ different (xs ++ ys) = c.in_ok-self-inside.ensures ∙ (λ i. different (c.deref.ensures.value i ++ c.deref-2.ensures.value i)) in
    (subst (IsStrictlySortedBy nat_cmp) (sym ids) (rises-different (xs ++ ys)), tt)

pub invariant_of-self : goal.invariant_of-self
invariant_of-self c =
    let xs = c.self.inside.ids.items in
    let ys = c.o.inside.ids.items in
    let ids : c.in_ok-self-inside.field-0.items ≡ different (xs ++ ys) = c.in_ok-self-inside.ensures ∙ (λ i. different (c.deref.ensures.value i ++ c.deref-2.ensures.value i)) in
    let few : c.self.inside.items + c.o.inside.items ≤ most_items = rw (← c.self.view_is, ← c.o.view_is) at c.requires in
    rw ids (count_joined xs ys c.self.inside.items c.o.inside.items c.self.invariant c.o.invariant few)

pub returns-clause-ok : goal.returns-clause-ok
returns-clause-ok c =
    merged_as _ _ _ _ _ c.self.view_is c.o.view_is refl (c.in_ok-self-inside.ensures ∙ (λ i. different (c.deref.ensures.value i ++ c.deref-2.ensures.value i)))
