use Rattle.std.proofs.Common.{◌≡◌, ◌∙◌, List, ap, map}
use denote.Ref.{Bor}
use Rattle.std.proofs.lemmas.Result.{IfOk-weaker}
use Rattle.cube_val.specs.declared.val.Val.{Val}
use Rattle.plain_answer.specs.Projections.{columns_of}
use Rattle.plain_answer.proofs.ProjectionLemmas.{groups_at_projections}
use Rattle.plain_answer.proofs.projections.aggregate.Goals as goal

pub returns : goal.returns
returns c =
    let now : List (Bor (List Val)) → List (List Val) = map (λ row. row.now) in
    let columns : c.deref.result.now ≡ columns_of c.args.dims = c.deref.ensures.value ∙ c.in_ok-columns.ensures in
    let again : c.deref-3.result.now ≡ columns_of c.args.dims = c.deref-3.ensures.value ∙ c.in_ok-columns.ensures in
    let rows : now c.deref-2.result.now ≡ c.args.rows.now = ap now c.deref-2.ensures.value ∙ c.in_ok-rows.ensures in
    let rows_again : now c.deref-4.result.now ≡ c.args.rows.now = ap now c.deref-4.ensures.value ∙ c.in_ok-rows.ensures in
    IfOk-weaker c.groups_at.result _ _ (λ groups at. groups_at_projections c.args.dims c.args.forms.now c.args.rows.now _ _ _ _ _ _ columns again rows rows_again c.in_ok-keys.ensures at) c.groups_at.ensures
