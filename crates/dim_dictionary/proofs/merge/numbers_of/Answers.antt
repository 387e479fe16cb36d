use Rattle.std.proofs.Common.{refl, subst, sym}
use Rattle.std.specs.List.{Contains}
use Rattle.cube_val.specs.declared.val.Val.{Val}
use Rattle.dim_dictionary.specs.Dictionaries.{KeepsValues}
use Rattle.dim_dictionary.proofs.MergeLemmas.{numbers_all, numbers_more, numbers_rise}
use Rattle.dim_dictionary.proofs.merge.numbers_of.Goals as goal

pub unreachable-requires : goal.unreachable-requires
unreachable-requires c =
    let same = c.values-v-items.ensures.values in
    let at = rw same at c.v-item.is in
    let there = c.requires.there c.loop-v.v-index c.v-item.result (rw same at c.loop-v-test.true) in
    c.in-None.ensures.absent.0 refl (subst (λ (w : Val). Contains c.args.merged.now w) (sym at) there)

pub loop-v-preserved : goal.loop-v-preserved
loop-v-preserved c =
    rw c.in_ok-push-in-Some.ensures.items
    (numbers_more c.args.merged.now c.values-v-items.result.now c.loop-v.ids.items c.loop-v.v-index c.v-item.result c.in-Some.id c.loop-v.invariant c.loop-v-test.true c.v-item.is c.in-Some.ensures.found)

pub new-requires : goal.new-requires
new-requires c =
    numbers_rise c.args.merged.now c.values-v-items.result.now c.loop-v.ids.items c.requires.rising c.values-v-items.ensures.dictionary.rising
    (numbers_all c.args.merged.now c.values-v-items.result.now c.values-v-items.result.now c.loop-v.ids.items c.loop-v.v-index c.loop-v.invariant c.loop-v-test.false refl)

pub returns : goal.returns
returns c =
    subst (KeepsValues c.args.merged.now c.args.part.now) (sym c.new.ensures)
    (numbers_all c.args.merged.now c.values-v-items.result.now c.args.part.now c.loop-v.ids.items c.loop-v.v-index c.loop-v.invariant c.loop-v-test.false c.values-v-items.ensures.values)
