use Rattle.std.proofs.Common.{◌≡◌, ◌<◌, ◌^◌, List, length, subst, sym}
use Rattle.std.specs.Prelude.{All}
use Rattle.cell_store.specs.Cells.{CellRows}
use Rattle.cube_fields.specs.Cells.{IsShortTable}
use Rattle.step_files.proofs.ShortFacts.{short_base, short_dict, short_flat, short_layer, short_seal}
use Rattle.step_files.proofs.writing.put_body.Goals as goal

few : {A : Type 0} (xs ys : List A) → xs ≡ ys → length ys < 2 ^ 32 → length xs < 2 ^ 32
few {A = A} xs ys e h = subst (λ (l : List A). length l < 2 ^ 32) (sym e) h

pub put_flat-requires-clause-desc : goal.put_flat-requires-clause-desc
put_flat-requires-clause-desc c = few _ _ c.as_slice.ensures (short_flat _ _ _ _ c.requires c.in-Flat.is).0

pub put_flat-requires-clause-tables : goal.put_flat-requires-clause-tables
put_flat-requires-clause-tables c = (short_flat _ _ _ _ c.requires c.in-Flat.is).1

pub put_dict_work-requires-clause-desc : goal.put_dict_work-requires-clause-desc
put_dict_work-requires-clause-desc c = few _ _ c.as_slice-in-Dict.ensures (short_dict _ _ _ c.requires c.in-Dict.is).0

pub put_dict_work-requires-clause-flat : goal.put_dict_work-requires-clause-flat
put_dict_work-requires-clause-flat c = (short_dict _ _ _ c.requires c.in-Dict.is).1

pub put_base-requires-clause-desc : goal.put_base-requires-clause-desc
put_base-requires-clause-desc c = few _ _ c.as_slice-in-Base.ensures (short_base _ _ _ _ c.requires c.in-Base.is).0

pub put_base-requires-clause-flat : goal.put_base-requires-clause-flat
put_base-requires-clause-flat c = (short_base _ _ _ _ c.requires c.in-Base.is).1

pub put_base-requires-clause-dicts : goal.put_base-requires-clause-dicts
put_base-requires-clause-dicts c = (short_base _ _ _ _ c.requires c.in-Base.is).2

pub put_layer-requires-clause-desc : goal.put_layer-requires-clause-desc
put_layer-requires-clause-desc c = few _ _ c.as_slice-in-Layer.ensures (short_layer _ _ _ _ _ c.requires c.in-Layer.is).0

pub put_layer-requires-clause-sizes : goal.put_layer-requires-clause-sizes
put_layer-requires-clause-sizes c = few _ _ c.as_slice-in-Layer-2.ensures (short_layer _ _ _ _ _ c.requires c.in-Layer.is).1

pub put_layer-requires-clause-few : goal.put_layer-requires-clause-few
put_layer-requires-clause-few c = few _ _ c.as_slice-in-Layer-3.ensures (short_layer _ _ _ _ _ c.requires c.in-Layer.is).2

pub put_layer-requires-clause-parents : goal.put_layer-requires-clause-parents
put_layer-requires-clause-parents c = subst (λ (ts : List CellRows). All IsShortTable ts) (sym c.as_slice-in-Layer-3.ensures) (short_layer _ _ _ _ _ c.requires c.in-Layer.is).3

pub put_seal_work-requires : goal.put_seal_work-requires
put_seal_work-requires c = short_seal _ _ c.requires c.in-Seal.is
