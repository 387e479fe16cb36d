-- The cuboid that a query reads: of those that have every needed dimension the one with the fewest rows.
use Rattle.std.specs.Prelude.{◌≡◌, ℕ, ◌<◌, ◌≤◌, Bool, List, length, slice_index, Option, IsTrue}
use Rattle.agg_group.specs.declared.mask.Mask.{Mask}
use Rattle.agg_group.specs.Mask.{mask_at, is_within}
use Rattle.agg_group.specs.Least.{least_place}

-- the mask at the place has every needed dimension
abbrev pub serves : List Mask → Mask → ℕ → Bool
serves masks needed k = is_within needed (mask_at masks k)

-- its place: of those that serve, the one with the least length, and of several such the first
abbrev pub least_cuboid : List Mask → List ℕ → Mask → Option ℕ
least_cuboid masks lens needed = least_place (serves masks needed) (λ k. slice_index lens k) (length masks)

-- one of the masks has every needed dimension
abbrev pub IsServed : List Mask → Mask → Type 0
IsServed masks needed = (k : ℕ) × (k < length masks) × IsTrue (serves masks needed k)

-- The same as a fact of the place p: it serves, and none that serves is shorter; of several as short, it has the least mask.
pub record IsLeastCuboid (masks : List Mask) (lens : List ℕ) (needed : Mask) (p : ℕ) : Type 0 where
  pub inside : p < length masks
  pub serving : IsTrue (serves masks needed p)
  pub shortest : (k : ℕ) → k < length masks → IsTrue (serves masks needed k) → slice_index lens p ≤ slice_index lens k
  pub tie : (k : ℕ) → k < length masks → IsTrue (serves masks needed k) → slice_index lens k ≡ slice_index lens p → (mask_at masks p).0 ≤ (mask_at masks k).0
