-- A mask as a set of dimensions: the numbers of its one bits.
use Rattle.std.specs.Prelude.{ℕ, Bool, ◌==◌, ◌-◌, ◌<◌, List, length, count_by, AllPairs, slice_index_or, IsTrue}
use Rattle.std.specs.Int.{bit_at}
use Rattle.agg_group.specs.declared.mask.Mask.{Mask}
use Rattle.agg_group.specs.Sets.{dimensions, is_subset}

-- the dimension is in the mask's set: bit d of its number is 1
abbrev pub has : Mask → ℕ → Bool
has m d = bit_at m.0 d == 1

-- how many dimensions the mask's set has
unfoldable pub count_of : Mask → ℕ
count_of m = count_by (has m) (dimensions 64)

-- each dimension of a is one of b
abbrev pub is_within : Mask → Mask → Bool
is_within a b = is_subset (has a) (has b)

abbrev pub IsWithin : Mask → Mask → Type 0
IsWithin a b = (d : ℕ) → IsTrue (has a d) → IsTrue (has b d)

-- the mask at a place of a list
abbrev pub mask_at : List Mask → ℕ → Mask
mask_at masks i = slice_index_or masks i (record { 0 = 0 })

-- the masks rise strictly, so that each stands once
abbrev pub IsRising : List Mask → Type 0
IsRising masks = AllPairs (λ a b. a.0 < b.0) masks

-- the last mask has every dimension of each other
abbrev pub HasBase : List Mask → Type 0
HasBase masks =
    (k : ℕ) (d : Mask) → k < length masks → IsWithin (slice_index_or masks k d) (slice_index_or masks (length masks - 1) d)
