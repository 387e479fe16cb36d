use Rattle.std.proofs.Common.{◌≡◌, ◌≤◌, ◌+◌, ◌++◌, ◌∷◌, [], ◌∙◌, ap, refl, subst, sym}
use Rattle.std.specs.BTreeSet.{insert_key}
use Rattle.std.specs.List.Sorted.{IsStrictlySortedBy}
use Rattle.std.specs.Ordering.{nat_cmp}
use Rattle.measure_laws.specs.IdFacts.{different-push, different-rising, same_ids}
use Rattle.measure_laws.specs.Ids.{different, ids_of, merged_ids, rises-different}
use Rattle.measure_laws.specs.Measures.{most_items}
use Rattle.measure_laws.proofs.IdCounts.{count_joined, count_one, on_err}
use Rattle.measure_laws.proofs.id_set.IdSetMeasure.add.Goals as goal
use Rattle.measure_laws.proofs.id_set.IdSetMeasure.add.Goals.{After-put}

pub returns-in_err-reserve-clause-err : goal.returns-in_err-reserve-clause-err
returns-in_err-reserve-clause-err c = on_err _ _ (same_ids _ _ refl c.reserve.ensures.items ∙ c.self.view_is)

added : (c : After-put) → c.put.new.ids.items ≡ different (c.self.inside.ids.items ++ c.args.v ∷ [])
added c =
    let xs = c.self.inside.ids.items in
    c.put.ensures.items ∙ ap (λ l. insert_key nat_cmp l c.args.v) (c.reserve.ensures.items ∙ sym (different-rising xs c.self.inside.rising)) ∙ sym (different-push xs c.args.v)

pub invariant_of-self-inside-2 : goal.invariant_of-self-inside-2
invariant_of-self-inside-2 c =
    (subst (IsStrictlySortedBy nat_cmp) (sym (added (goal.at.invariant_of-self-inside-2 c).After-put)) (rises-different (c.self.inside.ids.items ++ c.args.v ∷ [])), tt)

pub invariant_of-self-2 : goal.invariant_of-self-2
invariant_of-self-2 c =
    let few : c.self.inside.items + 1 ≤ most_items = rw (← c.self.view_is) at c.requires in
    rw (added (goal.at.invariant_of-self-2 c).After-put) (count_joined c.self.inside.ids.items (c.args.v ∷ []) c.self.inside.items 1 c.self.invariant (count_one c.args.v) few)

pub returns-clause-ok : goal.returns-clause-ok
returns-clause-ok c =
    same_ids _ _ refl (added (goal.at.returns-clause-ok c).After-put) ∙ ap (λ s. merged_ids s (ids_of (c.args.v ∷ []))) c.self.view_is
