use Rattle.std.proofs.Common.{◌≡◌, ◌+◌, ◌++◌, ◌∷◌, [], ◌∙◌, List, ap, subst, sym, take}
use Rattle.std.specs.List.{All, AllZip, Contains, flat_map}
use Rattle.std.specs.List.Sorted.{IsStrictlySortedBy}
use Rattle.std.proofs.lemmas.List.{take_all, take_more}
use Rattle.cube_val.specs.declared.val.Val.{Val}
use Rattle.cube_val.specs.Order.{val_cmp}
use Rattle.cube_val.specs.OrderLaws.{val_cmp_total}
use Rattle.cube_val.proofs.OrderFacts.{val_cmp_exact}
use Rattle.aggregation.proofs.GroupFacts.{rises-distinct}
use Rattle.dim_dictionary.specs.Dictionaries.{KeepsValues}
use Rattle.dim_dictionary.proofs.MergeLemmas.{AllZip_push, part_is_there}
use Rattle.dim_dictionary.proofs.merge.remaps_of.Goals as goal

pub loop-part-init : goal.loop-part-init
loop-part-init c = rw c.new-remaps.ensures.items tt

pub numbers_of-requires-clause-rising : goal.numbers_of-requires-clause-rising
numbers_of-requires-clause-rising c = subst (IsStrictlySortedBy val_cmp) (sym c.requires) (rises-distinct val_cmp_total val_cmp_exact (flat_map (λ p. p) c.args.parts.now))

pub numbers_of-requires-clause-there : goal.numbers_of-requires-clause-there
numbers_of-requires-clause-there c =
    subst (λ (merged : List Val). All (Contains merged) c.part-item.result) (sym c.requires) (part_is_there c.args.parts.now c.loop-part.part-index c.part-item.result c.loop-part-test.true c.part-item.is)

pub loop-part-preserved : goal.loop-part-preserved
loop-part-preserved c =
    let parts = c.args.parts.now in
    let i = c.loop-part.part-index in
    let R = KeepsValues c.args.merged.now in
    let more : take (i + 1) parts ≡ take i parts ++ c.part-item.result ∷ [] = take_more parts i c.part-item.result c.loop-part-test.true ∙ ap (λ p. take i parts ++ p ∷ []) (sym c.part-item.is) in
    rw (c.in_ok-push.ensures.items, more) (AllZip_push R (take i parts) c.loop-part.remaps.items c.part-item.result _ c.loop-part.invariant c.in_ok-numbers_of.ensures)

pub returns : goal.returns
returns c =
    subst (λ (l : List (List Val)). AllZip (KeepsValues c.args.merged.now) l c.loop-part.remaps.items) (take_all c.loop-part.part-index c.args.parts.now c.loop-part-test.false) c.loop-part.invariant
