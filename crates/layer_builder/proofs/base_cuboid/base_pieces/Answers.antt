use Rattle.std.proofs.Common.{◌≡◌, ◌∙◌, List, ap}
use Rattle.std.specs.Borrow.{Bor}
use Rattle.std.specs.List.{flat_map}
use Rattle.cube_val.specs.declared.val.Val.{Val}
use Rattle.rayon.proofs.ListFacts.{IfOk-then}
use Rattle.layer_builder.proofs.PieceFacts.{bases_cut}
use Rattle.layer_builder.proofs.base_cuboid.base_pieces.Goals as goal

abbrev piece : Bor (List (List Val)) → List (List Val)
piece p = p.now

pub tables_of-requires-clause-forms : goal.tables_of-requires-clause-forms
tables_of-requires-clause-forms g c κs within = c.deref.ensures.value ∙ c.in_ok-kinds.ensures

pub tables_of-requires-clause-few : goal.tables_of-requires-clause-few
tables_of-requires-clause-few g c κs within =
    let whole : flat_map piece c.deref-2.result.now ≡ c.args.rows.now = ap (flat_map piece) c.deref-2.ensures.value ∙ c.in_ok-parts.ensures in
    rw whole c.requires.few

pub returns : goal.returns
returns g c =
    let whole : flat_map piece c.deref-2.result.now ≡ c.args.rows.now = ap (flat_map piece) c.deref-2.ensures.value ∙ c.in_ok-parts.ensures in
    IfOk-then c.tables_of.result _ _ c.tables_of.ensures (λ tables h. bases_cut c.args.forms.now c.args.dicts.now c.deref-2.result.now c.args.rows.now tables.items whole h)
