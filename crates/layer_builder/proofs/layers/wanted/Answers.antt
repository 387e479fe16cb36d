use Rattle.std.proofs.Common.{arith, refl, subst, sym}
use Rattle.std.proofs.lemmas.List.Elements.{at_read}
use Rattle.agg_group.specs.Mask.{IsWithin}
use Rattle.cell_store.specs.Cells.{CellRows}
use Rattle.rayon.proofs.ListFacts.{IfOk-then}
use Rattle.layer_builder.specs.Layers.{IsRegrouped}
use Rattle.layer_builder.proofs.layers.wanted.Goals as goal

pub regroup_uncounted-requires : goal.regroup_uncounted-requires
regroup_uncounted-requires c = record {
  within = subst (λ (p : CellRows). IsWithin c.args.want.mask p.mask) (sym c.index-parents-want.is) (c.requires.within c.index-parents-want.result);
  blank = (refl, refl, omega (arith, c.new.ensures));
}

pub returns : goal.returns
returns c =
    IfOk-then c.regroup_uncounted.result _ _ c.regroup_uncounted.ensures
    (λ table h. at_read c.args.parents.now (λ (p : CellRows). IsRegrouped p c.args.want.mask table) c.args.want.parent c.index-parents-want.result c.requires.there c.index-parents-want.is h)
