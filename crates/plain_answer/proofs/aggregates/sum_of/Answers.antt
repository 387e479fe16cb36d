use Rattle.std.proofs.Common.{◌∷◌, [], pos, get_or, rules, sym, ap, ◌∙◌, w64}
use Rattle.std.proofs.lemmas.Int.{to_z-of_z}
use mir.Val.{SFits}
use Rattle.measure_laws.specs.Measures.{merged_sum, summed}
use Rattle.plain_answer.proofs.AggregateLemmas.{summed_more}
use Rattle.plain_answer.proofs.aggregates.sum_of.Goals as goal

pub loop-n-preserved : goal.loop-n-preserved
loop-n-preserved c =
    let ns = c.args.numbers.now in
    let i = c.loop-n.n-index in
    let fits : SFits w64 (get_or ns i (pos 0)) = search rules in
    let added = simp to_z-of_z at c.in_ok-add.ensures.value in
    added ∙ ap (λ sum. merged_sum sum (summed (get_or ns i (pos 0) ∷ []))) c.loop-n.invariant ∙ sym (summed_more ns i c.loop-n-test.true)
