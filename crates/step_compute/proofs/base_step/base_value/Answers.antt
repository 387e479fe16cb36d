use Rattle.std.proofs.Common.{◌≡◌, ◌∙◌, List, ap, arith, subst}
use Rattle.std.proofs.lemmas.Result.{IfOk-weaker}
use Rattle.cell_store.specs.Cells.{CellRows}
use Rattle.cube_val.specs.declared.val.Val.{Val}
use Rattle.layer_builder.specs.Base.{IsBase, count_of_distincts}
use Rattle.plain_answer.specs.declared.ask.Agg.{Agg}
use Rattle.step_compute.specs.Columns.{kept_aggs}
use Rattle.step_compute.specs.Values.{base_value}
use Rattle.step_compute.proofs.BaseFacts.{base_is}
use Rattle.step_compute.proofs.ColumnFacts.{places_counted}
use Rattle.step_compute.proofs.base_step.base_value.Goals as goal

pub base_of-requires-clause-dims : goal.base_of-requires-clause-dims
base_of-requires-clause-dims g c κs within =
    let cube = c.args.desc.now.cube in
    let same : c.as_slice.result.now ≡ kept_aggs cube = c.as_slice.ensures.value ∙ c.in_ok-aggs.ensures ∙ ap kept_aggs c.parts.ensures.value in
    omega (arith, ap count_of_distincts same, places_counted cube, c.requires.dicts, c.parts.ensures.sound.some_dimensions)

pub base_of-requires-clause-few_dims : goal.base_of-requires-clause-few_dims
base_of-requires-clause-few_dims g c κs within =
    let cube = c.args.desc.now.cube in
    let same : c.as_slice.result.now ≡ kept_aggs cube = c.as_slice.ensures.value ∙ c.in_ok-aggs.ensures ∙ ap kept_aggs c.parts.ensures.value in
    omega (arith, ap count_of_distincts same, places_counted cube, c.requires.dicts, c.parts.ensures.sound.few_dimensions)

pub returns-clause-base : goal.returns-clause-base
returns-clause-base g c =
    let cube = c.args.desc.now.cube in
    let same : c.as_slice.result.now ≡ kept_aggs cube = c.as_slice.ensures.value ∙ c.in_ok-aggs.ensures ∙ ap kept_aggs c.parts.ensures.value in
    let rows : c.rows.result.now ≡ c.args.flat.now = c.rows.ensures in
    IfOk-weaker c.base_of.result (IsBase c.as_slice.result.now c.args.dicts.now c.rows.result.now) (λ (table : CellRows). table ≡ base_value cube c.args.flat.now c.args.dicts.now)
    (λ table h. base_is cube c.args.flat.now c.args.dicts.now table (subst (λ (flat : List (List Val)). IsBase (kept_aggs cube) c.args.dicts.now flat table) rows (subst (λ (aggs : List Agg). IsBase aggs c.args.dicts.now c.rows.result.now table) same h)))
    c.base_of.ensures.base
