use Rattle.std.proofs.Common.{◌≡◌, ◌<◌, ◌^◌, ◌∙◌, List, ap, length, map, subst, sym}
use Rattle.std.specs.List.{flat_map}
use Rattle.std.specs.List.Sorted.{IsStrictlySortedBy}
use denote.Ref.{Bor}
use Rattle.cube_val.specs.declared.val.Val.{Val}
use Rattle.cube_val.specs.Order.{val_cmp}
use Rattle.cube_val.specs.OrderLaws.{val_cmp_total}
use Rattle.cube_val.proofs.OrderFacts.{val_cmp_exact}
use Rattle.aggregation.specs.Groups.{distinct}
use Rattle.aggregation.proofs.GroupFacts.{rises-distinct}
use Rattle.dim_dictionary.proofs.dict.Dict.merge_all.Goals as goal

pub of-merged-requires : goal.of-merged-requires
of-merged-requires c =
    let now : Bor Val → Val = λ v. v.now in
    let all = flat_map (λ (p : List Val). p) c.args.parts.now in
    let same : c.in_ok-copies.field-0.items ≡ distinct val_cmp all = c.in_ok-copies.ensures ∙ ap (map now) c.deref.ensures.value ∙ c.in_ok-refs.ensures in
    record {
      rising = subst (IsStrictlySortedBy val_cmp) (sym same) (rises-distinct val_cmp_total val_cmp_exact all);
      few = subst (λ (l : List Val). length l < 2 ^ 32) (sym same) c.requires;
    }
