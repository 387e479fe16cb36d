use Rattle.std.proofs.Common.{All, subst, arith}
use Rattle.std.proofs.lemmas.List.{take_all}
use Rattle.agg_group.specs.Rules.{AreDimensions}
use Rattle.agg_group.proofs.ListLemmas.{all_lists}
use Rattle.descriptor_check.proofs.groups.are_small.Goals as goal

pub returns : goal.returns
returns c = λ _.
    let lists = c.args.lists.now in
    all_lists (λ ds. AreDimensions ds) lists
    (subst (λ xs. All (λ v. AreDimensions v.items) xs) (take_all c.loop-list.list-index lists (omega arith)) c.loop-list.invariant)
