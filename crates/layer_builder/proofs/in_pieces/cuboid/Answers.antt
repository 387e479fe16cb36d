use Rattle.std.proofs.Common.{◌≡◌, ◌≤◌, ◌∙◌, List, ap, arith, map, refl}
use Rattle.std.specs.Borrow.{Bor}
use Rattle.std.specs.List.{flat_map}
use Rattle.std.proofs.lemmas.List.Elements.{All-from_recursion}
use Rattle.cell_store.specs.Cells.{CellRows}
use Rattle.cube_val.specs.declared.val.Val.{Val}
use Rattle.plain_answer.specs.Kinds.{form_of_kind}
use Rattle.layer_builder.specs.Base.{key_width}
use Rattle.layer_builder.proofs.InPiecesFacts.{cuboids_alike, cuboids_joined, few_in_cuboids}
use Rattle.layer_builder.proofs.in_pieces.cuboid.Goals as goal

abbrev piece : Bor (List (List Val)) → List (List Val)
piece p = p.now

pub piece_cuboids-requires-clause-forms : goal.piece_cuboids-requires-clause-forms
piece_cuboids-requires-clause-forms g c κs within = c.deref.ensures.value ∙ c.in_ok-kinds.ensures

pub piece_cuboids-requires-clause-few : goal.piece_cuboids-requires-clause-few
piece_cuboids-requires-clause-few g c κs within =
    let whole : flat_map piece c.deref-2.result.now ≡ c.args.flat.now = ap (flat_map piece) c.deref-2.ensures.value ∙ c.in_ok-parts.ensures ∙ c.rows-rows.ensures in
    rw whole c.requires.few

pub joined-requires : goal.joined-requires
joined-requires g c =
    let aggs = c.args.forms.now in
    let dicts = c.args.dicts.now in
    let few : key_width aggs dicts ≤ 64 = omega (arith, c.requires.few_dims) in
    let pieces = c.deref-2.result.now in
    let tables = c.in_ok-tables.tables.items in
    let whole : flat_map piece pieces ≡ c.args.flat.now = ap (flat_map piece) c.deref-2.ensures.value ∙ c.in_ok-parts.ensures ∙ c.rows-rows.ensures in
    let kinds : c.deref-3.result.now ≡ map (λ agg. form_of_kind agg.kind) aggs = c.deref-3.ensures.value ∙ c.in_ok-kinds.ensures in
    rw (kinds, c.deref-4.ensures.value) (record {
      blank = (refl, refl, omega (arith, c.new.ensures));
      tables = All-from_recursion (λ (t : CellRows). (t.mask ≡ c.args.mask) × (t.forms ≡ map (λ agg. form_of_kind agg.kind) aggs)) tables
          (cuboids_alike aggs dicts few c.args.mask pieces tables c.in_ok-tables.ensures);
      few = few_in_cuboids aggs dicts few c.args.mask pieces tables c.args.flat.now c.in_ok-tables.ensures whole c.requires.few;
    })

pub returns : goal.returns
returns g c =
    let aggs = c.args.forms.now in
    let dicts = c.args.dicts.now in
    let few : key_width aggs dicts ≤ 64 = omega (arith, c.requires.few_dims) in
    let pieces = c.deref-2.result.now in
    let tables = c.in_ok-tables.tables.items in
    let whole : flat_map piece pieces ≡ c.args.flat.now = ap (flat_map piece) c.deref-2.ensures.value ∙ c.in_ok-parts.ensures ∙ c.rows-rows.ensures in
    let kinds : c.deref-3.result.now ≡ map (λ agg. form_of_kind agg.kind) aggs = c.deref-3.ensures.value ∙ c.in_ok-kinds.ensures in
    cuboids_joined aggs dicts few c.args.mask pieces tables c.args.flat.now c.in_ok-tables.ensures whole c.joined.result c.joined.ensures.mask (rw kinds at c.joined.ensures.forms)
    (rw (kinds, c.deref-4.ensures.value) at c.joined.ensures.rows)
