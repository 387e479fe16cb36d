use Rattle.std.proofs.Common.{◌∷◌, ◌++◌, ◌∙◌, [], List, sym}
use Rattle.cube_val.specs.declared.val.Val.{Val}
use Rattle.layer_builder.specs.Base.{key_in}
use Rattle.layer_builder.proofs.RunFacts.{Keyed}
use Rattle.layer_builder.proofs.ValueFacts.{column_more}
use Rattle.layer_builder.proofs.keys.keyed_rows.Goals as goal

pub loop-row-preserved : goal.loop-row-preserved
loop-row-preserved c =
    let with_key : List Val → Keyed = λ row. (key_in c.args.dicts.now c.args.width row, row) in
    let row = c.row-item.result in
    let made = c.new-in-loop-row.ensures ∙ (λ j. (c.in_ok-key.ensures j, c.vals-vals.ensures j)) in
    c.in_ok-push.ensures.items ∙ (λ j. c.loop-row.invariant j ++ made j ∷ [])
    ∙ sym (column_more with_key c.args.rows.now c.loop-row.row-index row c.loop-row-test.true c.row-item.is)
