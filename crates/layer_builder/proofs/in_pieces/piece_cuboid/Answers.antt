use Rattle.std.proofs.Common.{◌≤◌, arith, refl, subst, sym}
use Rattle.agg_group.specs.declared.mask.Mask.{Mask}
use Rattle.agg_group.specs.Mask.{IsWithin}
use Rattle.rayon.proofs.ListFacts.{IfOk-then}
use Rattle.layer_builder.specs.Base.{base_mask, key_width}
use Rattle.layer_builder.proofs.CuboidFacts.{base_is_cuboid, regrouped_is_cuboid}
use Rattle.layer_builder.proofs.in_pieces.piece_cuboid.Goals as goal

pub regroup_uncounted-requires : goal.regroup_uncounted-requires
regroup_uncounted-requires c = record {
  within = subst (λ (m : Mask). IsWithin c.args.mask m) (sym c.in_ok-base.ensures.mask) c.requires.within;
  blank = (refl, refl, omega (arith, c.new.ensures));
}

pub returns : goal.returns
returns c =
    let aggs = c.args.aggs.now in
    let dicts = c.args.dicts.now in
    let rows = c.args.rows.now in
    let base = c.in_ok-base.base in
    let few : key_width aggs dicts ≤ 64 = omega (arith, c.requires.few_dims) in
    let whole = base_is_cuboid aggs dicts rows base few c.in_ok-base.ensures in
    IfOk-then c.regroup_uncounted.result _ _ c.regroup_uncounted.ensures
    (λ table h. regrouped_is_cuboid aggs dicts rows (base_mask (key_width aggs dicts)) c.args.mask base table c.requires.within whole h)
