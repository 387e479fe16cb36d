use Rattle.std.proofs.Common.{◌≡◌, ◌+◌, ◌++◌, ◌∷◌, ◌∙◌, [], List, ap, append_assoc, arith, drop, get_or, sym}
use Rattle.std.proofs.lemmas.List.{append-nil, drop_all, drop_more}
use Rattle.cube_fields.specs.declared.forms.CellField.{CellField}
use Rattle.measure_laws.specs.declared.measure.MeasureForm.{MeasureForm}
use Rattle.measure_laws.specs.declared.measure.MeasureForm.TheVariants as measure
use Rattle.measure_laws.specs.Kinds.{item_kind}
use Rattle.step_codec.specs.Layouts.{field_of, fields_of, sizes_after}
use Rattle.step_codec.proofs.layers.fields_of.Goals as goal

pub loop-form-preserved : goal.loop-form-preserved
loop-form-preserved c =
    let forms = c.args.measures.now in
    let i = c.loop-form.form-index in
    let form : MeasureForm = get_or forms i measure.Count in
    let had = c.loop-form.fields.items in
    let left = c.loop-form.left.now in
    let here : drop i forms ≡ form ∷ drop (i + 1) forms = drop_more forms i measure.Count c.loop-form-test.true in
    let rest : List CellField = fields_of (sizes_after (item_kind form) left) (drop (i + 1) forms) in
    let next : fields_of left (drop i forms) ≡ field_of left form ∷ rest = ap (fields_of left) here in
    let kind : c.item_kind.result ≡ item_kind form = c.item_kind.ensures in
    let after : c.sizes_after-left.result.now ≡ sizes_after (item_kind form) left = c.sizes_after-left.ensures ∙ ap (λ k. sizes_after k left) kind in
    let field : c.field_of.result ≡ field_of left form = c.field_of.ensures in
    let pushed : c.push.new.self.items ≡ had ++ field_of left form ∷ [] = c.in_ok-push.ensures.items ∙ ap (λ f. had ++ f ∷ []) field in
    (λ j. pushed j ++ fields_of (after j) (drop (i + 1) forms)) ∙ append_assoc had (field_of left form ∷ []) rest ∙ ap (λ l. had ++ l) (sym next) ∙ c.loop-form.invariant

pub returns : goal.returns
returns c =
    let had = c.loop-form.fields.items in
    let none = drop_all c.loop-form.form-index c.args.measures.now (omega arith) in
    sym (append-nil had) ∙ ap (λ l. had ++ fields_of c.loop-form.left.now l) (sym none) ∙ c.loop-form.invariant
