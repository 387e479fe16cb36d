-- Parts of keys.
use Rattle.std.specs.Prelude.{ℕ, Bool, true, false, List, [], ◌∷◌, filter, map}
use Rattle.agg_group.specs.declared.mask.Mask.{Mask}
use Rattle.agg_group.specs.Mask.{has}
use Rattle.agg_group.specs.Sets.{dimensions}

-- the dimensions of a mask, rising
unfoldable pub dims_of : Mask → List ℕ
dims_of mask = filter (has mask) (dimensions 64)

-- for each dimension of a mask whether another mask has it too
abbrev pub kept_dims : Mask → Mask → List Bool
kept_dims whole part = map (has part) (dims_of whole)

-- the numbers of a key that are kept
abbrev pub kept_numbers : List Bool → List ℕ → List ℕ
kept_numbers [] key = []
kept_numbers (keep ∷ keeps) [] = []
kept_numbers (true ∷ keeps) (id ∷ key) = id ∷ kept_numbers keeps key
kept_numbers (false ∷ keeps) (id ∷ key) = kept_numbers keeps key

-- the part of a key of one mask that is of the dimensions of another
abbrev pub part_of : Mask → Mask → List ℕ → List ℕ
part_of whole part key = kept_numbers (kept_dims whole part) key
