use Rattle.std.proofs.Common.{◌∷◌, [], List, subst, sym}
use Rattle.agg_group.specs.Mask.{IsWithin}
use Rattle.cube_val.specs.declared.val.Val.{Val}
use Rattle.layer_builder.specs.Base.{base_mask, key_width}
use Rattle.cubes_plain.specs.Cuboids.{d1_alone, sum_of_m}
use Rattle.cubes_plain.proofs.CellFacts.{d1_within}
use Rattle.cubes_plain.proofs.fold.cuboid_of.Goals as goal

pub cuboid-requires-clause-within : goal.cuboid-requires-clause-within
cuboid-requires-clause-within g c κs within = subst (λ (l : List (List Val)). IsWithin d1_alone (base_mask (key_width (sum_of_m ∷ []) l))) (sym c.requires.dicts) d1_within
