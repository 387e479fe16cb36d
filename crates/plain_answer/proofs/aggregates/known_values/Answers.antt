use Rattle.std.proofs.Common.{◌++◌, ◌∷◌, [], List, map, sym, ap, ◌∙◌}
use Rattle.std.specs.Option.{option_copied}
use Rattle.std.proofs.lemmas.List.{map-append}
use denote.Ref.{Bor}
use Rattle.cube_val.specs.declared.val.Val.{Val}
use Rattle.plain_answer.specs.Aggregates.{cell, known}
use Rattle.plain_answer.proofs.LoopLemmas.{filter_map_more_none, filter_map_more_some, none_from}
use Rattle.plain_answer.proofs.aggregates.known_values.Goals as goal
use Rattle.plain_answer.proofs.aggregates.known_values.Goals.{in-Some-known_at+in_ok-push, in_default-known_at}

pub loop-row-preserved : goal.loop-row-preserved
loop-row-preserved c =
    let rows = c.args.rows.now in
    let i = c.loop-row.row-index in
    let h : List Val → _ = λ row. known (cell row c.in-Some.column) in
    let now : Bor Val → Val = λ v. v.now in
    elim c.match-known_at.branch [
      | in-Some-known_at+in_ok-push w ↦
          let v = w.in-Some-known_at.v in
          let more = filter_map_more_some h rows i c.row-item.result v.now c.loop-row-test.true c.row-item.is (sym c.known_at.ensures ∙ ap option_copied w.in-Some-known_at.is) in
          ap (λ vs. map now vs.items) w.values-is ∙ ap (map now) w.in_ok-push.ensures.items ∙ map-append now c.loop-row.values.items (v ∷ []) ∙ ap (λ l. l ++ v.now ∷ []) c.loop-row.invariant ∙ sym more
      | in_default-known_at w ↦
          let more = filter_map_more_none h rows i c.row-item.result c.loop-row-test.true c.row-item.is (sym c.known_at.ensures ∙ ap option_copied (none_from _ w.in_default-known_at.not-Some)) in
          ap (λ vs. map now vs.items) w.values-is ∙ c.loop-row.invariant ∙ sym more
    ]
