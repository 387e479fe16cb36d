use Rattle.std.proofs.Common.{◌+◌, cond, count_by, take, sym, ap, ◌∙◌, arith}
use Rattle.agg_group.specs.Sets.{is_among}
use Rattle.agg_group.specs.Rules.{lists_of}
use Rattle.agg_group.proofs.ListLemmas.{count_lists_more}
use Rattle.agg_group.proofs.lists.count_with.Goals as goal
use Rattle.agg_group.proofs.lists.count_with.Goals.{then-contains, else-contains}

pub loop-list-preserved : goal.loop-list-preserved
loop-list-preserved c =
    let before = count_by (is_among c.args.d) (lists_of (take c.loop-list.list-index c.args.lists.now)) in
    let more = count_lists_more (is_among c.args.d) c.args.lists.now c.loop-list.list-index c.list-item.result (omega arith) c.list-item.is in
    let told = sym (c.contains.ensures.value ∙ ap (is_among c.args.d) c.as_slice.ensures) in
    elim c.if-contains.branch [
      | then-contains w ↦ (omega (arith, more ∙ ap (λ b. before + cond b 1 0) (told ∙ w.if-contains.true)), omega arith)
      | else-contains w ↦ (omega (arith, more ∙ ap (λ b. before + cond b 1 0) (told ∙ w.if-contains.false)), omega arith)
    ]
