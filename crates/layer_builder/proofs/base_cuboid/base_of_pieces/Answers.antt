use Rattle.std.proofs.Common.{◌≡◌, ◌≤◌, ◌-◌, ◌∙◌, ap, arith, map, refl}
use Rattle.plain_answer.specs.Kinds.{form_of_kind}
use Rattle.layer_builder.specs.Base.{base_mask, key_width}
use Rattle.layer_builder.proofs.PieceFacts.{alike, few_in_tables, joined_is}
use Rattle.layer_builder.proofs.base_cuboid.base_of_pieces.Goals as goal

pub joined-requires : goal.joined-requires
joined-requires c =
    let aggs = c.args.forms.now in
    let dicts = c.args.dicts.now in
    let few : key_width aggs dicts ≤ 64 = omega (arith, c.requires.few_dims) in
    let mask : c.base_mask-mask.result ≡ base_mask (key_width aggs dicts) = c.base_mask-mask.ensures ∙ ap base_mask (λ i. c.len.ensures i - c.distincts.ensures i) in
    let kinds : c.deref.result.now ≡ map (λ agg. form_of_kind agg.kind) aggs = c.deref.ensures.value ∙ c.in_ok-kinds.ensures in
    rw (mask, kinds) (record {
      blank = (refl, refl, omega (arith, c.new.ensures));
      tables = alike aggs dicts few c.args.tables.now c.requires.pieces;
      few = few_in_tables aggs dicts few c.args.tables.now c.requires.pieces;
    })

pub returns : goal.returns
returns c =
    let aggs = c.args.forms.now in
    let dicts = c.args.dicts.now in
    let few : key_width aggs dicts ≤ 64 = omega (arith, c.requires.few_dims) in
    let mask : c.base_mask-mask.result ≡ base_mask (key_width aggs dicts) = c.base_mask-mask.ensures ∙ ap base_mask (λ i. c.len.ensures i - c.distincts.ensures i) in
    let kinds : c.deref.result.now ≡ map (λ agg. form_of_kind agg.kind) aggs = c.deref.ensures.value ∙ c.in_ok-kinds.ensures in
    joined_is aggs dicts few c.args.tables.now c.joined.result (rw mask at c.joined.ensures.mask) (rw kinds at c.joined.ensures.forms) (rw (mask, kinds) at c.joined.ensures.rows)
