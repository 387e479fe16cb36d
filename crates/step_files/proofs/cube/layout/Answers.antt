use Rattle.std.proofs.Common.{◌≡◌, ◌∙◌, subst, sym}
use Rattle.std.proofs.lemmas.Result.{IfOk-weaker}
use Rattle.step_codec.specs.Layouts.{IsLayout}
use Rattle.step_codec.specs.declared.layout.Layout.{Layout}
use Rattle.step_files.specs.Cubes.{layout_in, layout_of}
use Rattle.step_files.proofs.LayoutFacts.{layout_is, layouts_hold}
use Rattle.step_files.proofs.cube.layout.Goals as goal

pub returns-clause-layout : goal.returns-clause-layout
returns-clause-layout c =
    let desc = c.args.desc.now in
    let is = layout_is desc.source desc.cube c.source-source.ensures.read in
    IfOk-weaker c.layout_of.result (λ (l : Layout). l ≡ layout_of desc.cube) (λ (l : Layout). l ≡ layout_in desc.source) (λ l h. h ∙ sym is) c.layout_of.ensures

pub returns-clause-holds : goal.returns-clause-holds
returns-clause-holds c =
    let desc = c.args.desc.now in
    let holds = layouts_hold desc.source desc.cube c.source-source.ensures.read in
    IfOk-weaker c.layout_of.result (λ (l : Layout). l ≡ layout_of desc.cube) IsLayout (λ l h. subst (λ (x : Layout). IsLayout x) (sym h) holds) c.layout_of.ensures
