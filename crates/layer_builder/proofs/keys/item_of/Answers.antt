use Rattle.std.proofs.Common.{refl, subst, sym}
use Rattle.std.specs.Prelude.{IsTrue}
use Rattle.measure_laws.specs.declared.kinds.ItemKind.{ItemKind}
use Rattle.measure_laws.specs.Kinds.{are_ids}
use Rattle.layer_builder.proofs.keys.item_of.Goals as goal

pub get-requires : goal.get-requires
get-requires c = c.requires (subst (λ (k : ItemKind). IsTrue (are_ids k)) (sym c.in-Ids.is) refl)
