use Rattle.std.proofs.Common.{◌≡◌, ◌<◌, ◌^◌, ◌∙◌, List, ap, length, map, subst, sym}
use Rattle.std.specs.List.Sorted.{IsStrictlySortedBy}
use denote.Ref.{Bor}
use Rattle.cube_val.specs.declared.val.Val.{Val}
use Rattle.cube_val.specs.Order.{val_cmp}
use Rattle.cube_val.specs.OrderLaws.{val_cmp_total}
use Rattle.cube_val.proofs.OrderFacts.{val_cmp_exact}
use Rattle.aggregation.specs.Groups.{distinct}
use Rattle.aggregation.proofs.GroupFacts.{rises-distinct}
use Rattle.dim_dictionary.proofs.dict.Dict.from_values.Goals as goal

pub invariant_of-result : goal.invariant_of-result
invariant_of-result c =
    let now : Bor Val → Val = λ v. v.now in
    let same : c.in_ok-values.values.items ≡ distinct val_cmp c.args.values.now =
    c.in_ok-values.ensures ∙ ap (map now) c.deref.ensures.value ∙ c.sort_distinct-refs.ensures ∙ ap (distinct val_cmp) c.in_ok-references.ensures in
    record {
      rising = subst (IsStrictlySortedBy val_cmp) (sym same) (rises-distinct val_cmp_total val_cmp_exact c.args.values.now);
      few = subst (λ (l : List Val). length l < 2 ^ 32) (sym same) c.requires;
    }
