-- The cuboids that a cube builds.
use Rattle.std.specs.Prelude.{ℕ, ◌-◌, ◌^◌, ◌<◌, ◌≤◌, Bool, ◌⊎◌, ◌↔◌, List, [], ◌∷◌, fold, All, Contains, IsTrue}
use Rattle.std.specs.declared.cmp.Ordering.{Ordering}
use Rattle.std.specs.Ordering.{nat_cmp}
use Rattle.std.specs.BTreeSet.{insert_key}
use Rattle.std.specs.List.{flat_map}
use Rattle.agg_group.specs.declared.mask.Mask.{Mask}
use Rattle.agg_group.specs.Limits.{most_dimensions}
use Rattle.agg_group.specs.Mask.{has, IsRising}
use Rattle.agg_group.specs.Rules.{Rules, IsGiven}
use Rattle.agg_group.specs.Faults.{IsSound}
use Rattle.agg_group.specs.Units.{group_masks}

-- The cuboids of a cube with n dimensions and these groups. A set is built where it has exactly the n dimensions, or some group gives it.
abbrev pub IsBuilt : ℕ → List Rules → (ℕ → Bool) → Type 0
IsBuilt n groups s = ((d : ℕ) → IsTrue (s d) ↔ (d < n)) ⊎ ((g : Rules) × Contains groups g × IsGiven g s)

-- the groups include none but the cube's dimensions
abbrev pub AreOf : ℕ → List Rules → Type 0
AreOf n groups = All (λ g. All (λ d. d < n) g.includes) groups

-- masks are ordered by their numbers
abbrev pub mask_cmp : Mask → Mask → Ordering
mask_cmp a b = nat_cmp a.0 b.0

-- rising masks, and with them these others, each in its place and once
abbrev pub with_masks : List Mask → List Mask → List Mask
with_masks rising others = fold (insert_key mask_cmp) rising others

-- the mask of all n dimensions
abbrev pub base_mask : ℕ → Mask
base_mask n = record { 0 = 2 ^ n - 1 }

-- the built masks, rising, each once: the base, and the masks of each group
unfoldable pub built_masks : ℕ → List Rules → List Mask
built_masks n groups = with_masks [] (base_mask n ∷ flat_map group_masks groups)

-- What they are: the masks of the built sets, and no others.
abbrev pub BuiltMasksAreBuilt : Type 0
BuiltMasksAreBuilt =
    (n : ℕ) (groups : List Rules) → n ≤ most_dimensions → AreOf n groups → All IsSound groups
    → IsRising (built_masks n groups) × ((m : Mask) → Contains (built_masks n groups) m ↔ IsBuilt n groups (has m))
