use Rattle.std.proofs.Common.{◌∷◌, ◌++◌, ◌∙◌, [], ℕ, arith, sym}
use Rattle.std.proofs.lemmas.List.FromFn.{map-range_with_len_more}
use Rattle.plain_answer.specs.Aggregates.{cell}
use Rattle.layer_builder.specs.Base.{dict_at, number_in}
use Rattle.layer_builder.proofs.keys.key_of.Goals as goal

pub loop-column-preserved : goal.loop-column-preserved
loop-column-preserved c =
    let number : ℕ → ℕ = λ column. number_in (dict_at c.args.dicts.now column) (cell c.args.row.now column) in
    let d = c.loop-column.column in
    c.in_ok-push.ensures.ok ∙ (λ i. c.loop-column.invariant i ++ c.number_in_column.ensures i ∷ []) ∙ sym (map-range_with_len_more number 0 d d (omega arith))
