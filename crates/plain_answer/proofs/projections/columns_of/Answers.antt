use Rattle.std.proofs.Common.{◌≡◌, ◌++◌, ◌∷◌, ◌∙◌, [], true, false, ap, arith, sym}
use Rattle.std.specs.List.{filter, range_with_len}
use Rattle.std.proofs.lemmas.List.{append-nil}
use Rattle.agg_group.specs.Mask.{has}
use Rattle.plain_answer.specs.Projections.{columns_of}
use Rattle.plain_answer.proofs.ProjectionLemmas.{filter_one_more}
use Rattle.plain_answer.proofs.projections.columns_of.Goals as goal
use Rattle.plain_answer.proofs.projections.columns_of.Goals.{then-has+in_ok-push, else-has}

pub loop-d-preserved : goal.loop-d-preserved
loop-d-preserved c =
    let p = has c.args.dims in
    elim c.if-has.branch [
      | then-has+in_ok-push w ↦
          let pushed : c.if-has.columns.items ≡ c.loop-d.columns.items ++ c.loop-d.d ∷ [] = cc w.in_ok-push.ensures.items in
          pushed ∙ ap (λ l. l ++ c.loop-d.d ∷ []) c.loop-d.invariant ∙ sym (filter_one_more p c.loop-d.d true (sym c.has.ensures ∙ w.if-has.true))
      | else-has w ↦
          let same : c.if-has.columns.items ≡ c.loop-d.columns.items = cc in
          same ∙ c.loop-d.invariant ∙ sym (append-nil (filter p (range_with_len 0 c.loop-d.d))) ∙ sym (filter_one_more p c.loop-d.d false (sym c.has.ensures ∙ w.if-has.false))
    ]

pub returns : goal.returns
unfolding columns_of
returns c =
    let all : c.loop-d.d ≡ 64 = omega arith in
    rw all at c.loop-d.invariant
