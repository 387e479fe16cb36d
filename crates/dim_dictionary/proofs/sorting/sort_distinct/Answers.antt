use Rattle.std.proofs.Common.{◌∙◌, ap, map, refl}
use Rattle.std.specs.Ordering.{eq_by_cmp}
use Rattle.std.proofs.lemmas.List.Filters.{dedup_is}
use denote.Ref.{Bor}
use Rattle.cube_val.specs.declared.val.Val.{Val}
use Rattle.cube_val.specs.Order.{val_cmp}
use Rattle.cube_val.specs.OrderLaws.{val_cmp_total}
use Rattle.cube_val.proofs.OrderFacts.{val_cmp_exact}
use Rattle.aggregation.proofs.DistinctFacts.{distinct_of_sort}
use Rattle.dim_dictionary.proofs.sorting.sort_distinct.Goals as goal

pub returns : goal.returns
returns c =
    let now : Bor Val → Val = λ v. v.now in
    ap (map now) (dedup_is _ _ _ c.dedup.ensures.filtered)
    ∙ distinct_of_sort val_cmp_total val_cmp_exact now (λ x y. eq_by_cmp val_cmp x.now y.now) (λ x y. refl) c.args.refs.items c.sort_unstable.new.self.items c.sort_unstable.ensures.permutation c.sort_unstable.ensures.sorted
