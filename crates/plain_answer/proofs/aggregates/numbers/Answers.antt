use Rattle.std.proofs.Common.{◌++◌, ◌∷◌, [], rules, sym, ap, ◌∙◌, w64}
use Rattle.std.proofs.lemmas.Int.{to_z-of_z}
use mir.Val.{SFits}
use Rattle.plain_answer.specs.Aggregates.{number_in}
use Rattle.plain_answer.proofs.LoopLemmas.{filter_map_more_none, filter_map_more_some, none_from}
use Rattle.plain_answer.proofs.aggregates.numbers.Goals as goal
use Rattle.plain_answer.proofs.aggregates.numbers.Goals.{in-Some+in_ok-push, in_default}

pub loop-v-preserved : goal.loop-v-preserved
loop-v-preserved c =
    let vs = c.args.values.now in
    let i = c.loop-v.v-index in
    elim c.match-number_in.branch [
      | in-Some+in_ok-push w ↦
          let fits : SFits w64 w.in-Some.n = search rules in
          let pushed = simp to_z-of_z at w.in_ok-push.ensures.items in
          let more = filter_map_more_some number_in vs i c.v-item.result w.in-Some.n c.loop-v-test.true c.v-item.is (sym c.number_in.ensures ∙ w.in-Some.is) in
          ap (λ v. v.items) w.numbers-is ∙ pushed ∙ ap (λ l. l ++ w.in-Some.n ∷ []) c.loop-v.invariant ∙ sym more
      | in_default w ↦
          let more = filter_map_more_none number_in vs i c.v-item.result c.loop-v-test.true c.v-item.is (sym c.number_in.ensures ∙ none_from _ w.in_default.not-Some) in
          ap (λ v. v.items) w.numbers-is ∙ c.loop-v.invariant ∙ sym more
    ]
