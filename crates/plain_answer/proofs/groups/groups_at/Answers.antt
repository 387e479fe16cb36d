use Rattle.std.proofs.Common.{◌≡◌, ◌++◌, ◌∷◌, [], List, map, length, arith, sym, ap, ◌∙◌}
use Rattle.std.proofs.lemmas.List.{length-map, map-append}
use Rattle.std.specs.Ordering.{eq_by_cmp}
use Rattle.cube_val.specs.Order.{row_cmp}
use Rattle.cube_val.specs.declared.val.Val.{Val}
use denote.Ref.{Bor}
use Rattle.plain_answer.specs.declared.answer.OutVal.{OutVal}
use Rattle.plain_answer.specs.declared.answer.PlainRow.{PlainRow}
use Rattle.plain_answer.specs.Answers.{aggregates_of, key_of, rows_at}
use Rattle.plain_answer.proofs.LoopLemmas.{length-filter}
use Rattle.plain_answer.proofs.groups.groups_at.Goals as goal

pub aggregates-requires : goal.aggregates-requires
aggregates-requires c =
    let rows = map (λ row. row.now) c.args.rows.now in
    omega (
      arith,
      ap length c.deref.ensures.value,
      length-map c.in_ok-found.found.items (λ row. row.now),
      ap length c.in_ok-found.ensures,
      length-filter (λ row. eq_by_cmp row_cmp c.vals.result.now (key_of c.args.columns.now row)) rows,
      length-map c.args.rows.now (λ row. row.now),
    )

pub loop-key-preserved : goal.loop-key-preserved
loop-key-preserved c =
    let aggs = c.args.aggs.now in
    let columns = c.args.columns.now in
    let now : Bor (List Val) → List Val = λ row. row.now in
    let rows = map now c.args.rows.now in
    let key = c.in-Some.key in
    let done = c.loop-key.yielded in
    let group : List Val → List OutVal → PlainRow = λ k vs. record { key = k; values = vs } in
    let f : List Val → PlainRow = λ k. group k (aggregates_of aggs (rows_at columns rows k)) in
    let pushed : c.push.new.self.items ≡ c.loop-key.groups.items ++ group key c.in_ok-values.values ∷ [] = c.in_ok-push.ensures.items in
    let found : map now c.deref.result.now ≡ rows_at columns rows key = ap (map now) c.deref.ensures.value ∙ c.in_ok-found.ensures ∙ ap (rows_at columns rows) c.vals.ensures in
    let values : c.in_ok-values.values ≡ aggregates_of aggs (rows_at columns rows key) = c.in_ok-values.ensures ∙ ap (aggregates_of aggs) found in
    (tt, tt, pushed ∙ ap (λ l. l ++ group key c.in_ok-values.values ∷ []) c.loop-key.invariant.2 ∙ ap (λ vs. map f done ++ group key vs ∷ []) values ∙ sym (map-append f done (key ∷ [])))
