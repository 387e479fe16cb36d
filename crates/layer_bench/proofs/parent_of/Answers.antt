use Rattle.std.proofs.Common.{ℕ, Option, subst, sym}
use Rattle.std.specs.Prelude.{IfSome}
use Rattle.std.proofs.lemmas.List.Elements.{at_read}
use Rattle.agg_group.specs.declared.mask.Mask.{Mask}
use Rattle.agg_group.specs.Mask.{IsWithin}
use Rattle.cell_store.specs.Cells.{CellRows}
use Rattle.layer_builder.specs.Layers.{HasParent}
use Rattle.layer_bench.proofs.parent_of.Goals as goal
use Rattle.layer_bench.proofs.parent_of.Goals.{then-within+then-len-least, else-within}

pub loop-place-preserved : goal.loop-place-preserved
loop-place-preserved c =
    let parents = c.args.parents.now in
    let dims = c.args.mask in
    let Fits : Option ℕ → Type 0 = λ best. IfSome best (λ place. HasParent parents (record { mask = dims; parent = place })) in
    elim c.if-within.branch [
      | then-within+then-len-least w ↦
          let table : CellRows = c.index-parents-place.result in
          let within : IsWithin dims table.mask = subst (λ (m : Mask). IsWithin dims m) c.mask.ensures (c.within.ensures.subset.0 w.if-within.true) in
          subst Fits (sym w.best-is) (record {
            there = c.loop-place-test.true;
            within = at_read parents (λ (p : CellRows). IsWithin dims p.mask) c.loop-place.place table c.loop-place-test.true c.index-parents-place.is within;
          })
      | else-within w ↦ subst Fits (sym w.best-is) c.loop-place.invariant
    ]
