use Rattle.std.proofs.Common.{rules}
use Rattle.std.proofs.lemmas.Fn.{always_returns_same}
use Rattle.std.proofs.lemmas.List.Sorted.{ranks_by}
use Rattle.plain_answer.proofs.OrderLemmas.{group_cmp_total}
use Rattle.plain_answer.proofs.SortLemmas.{sort_is_sorted}
use Rattle.plain_answer.proofs.grouped_table.in_order.Goals as goal

pub returns : goal.returns
returns c =
    let columns = c.args.columns.now in
    let order = c.args.order.now in
    let before = ranks_by (group_cmp_total columns order) (λ group. group) in
    sort_is_sorted before c.args.groups.items c.sort_by.new.self.items
    (c.in_ok-sort_by.ensures.sorted _ before (always_returns_same _ _ _ (λ a r q k. search rules)))
    (c.in_ok-sort_by.ensures.stable _ before (always_returns_same _ _ _ (λ a r q k. search rules)))
