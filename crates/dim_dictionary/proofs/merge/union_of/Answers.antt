use Rattle.std.proofs.Common.{◌∙◌, ap, map, subst, sym, take}
use Rattle.std.specs.List.{flat_map}
use Rattle.std.specs.List.Sorted.{IsStrictlySortedBy}
use denote.Ref.{Bor}
use Rattle.cube_val.specs.declared.val.Val.{Val}
use Rattle.cube_val.specs.Order.{val_cmp}
use Rattle.cube_val.specs.OrderLaws.{val_cmp_total}
use Rattle.cube_val.proofs.OrderFacts.{val_cmp_exact}
use Rattle.aggregation.proofs.GroupFacts.{rises-distinct}
use Rattle.dim_dictionary.proofs.MergeLemmas.{merged_more}
use Rattle.dim_dictionary.proofs.merge.union_of.Goals as goal

pub union-requires-clause-rising_left : goal.union-requires-clause-rising_left
union-requires-clause-rising_left c =
    let now : Bor Val → Val = λ v. v.now in
    subst (IsStrictlySortedBy val_cmp) (sym (ap (map now) c.deref.ensures.value ∙ c.loop-part.invariant)) (rises-distinct val_cmp_total val_cmp_exact (flat_map (λ p. p) (take c.loop-part.part-index c.args.parts.now)))

pub union-requires-clause-rising_right : goal.union-requires-clause-rising_right
union-requires-clause-rising_right c =
    let now : Bor Val → Val = λ v. v.now in
    subst (IsStrictlySortedBy val_cmp) (sym (ap (map now) c.deref-in-loop-part.ensures.value ∙ c.in_ok-more.ensures)) c.values.ensures.dictionary.rising

pub loop-part-preserved : goal.loop-part-preserved
loop-part-preserved c =
    let now : Bor Val → Val = λ v. v.now in
    c.in_ok-merged.ensures
    ∙ merged_more c.args.parts.now c.loop-part.part-index c.part-item.result (map now c.deref.result.now) (map now c.deref-in-loop-part.result.now) c.loop-part-test.true c.part-item.is
    (ap (map now) c.deref.ensures.value ∙ c.loop-part.invariant) (ap (map now) c.deref-in-loop-part.ensures.value ∙ c.in_ok-more.ensures ∙ c.values.ensures.values)
