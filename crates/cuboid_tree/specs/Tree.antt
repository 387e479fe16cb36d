-- The tree of cuboids, over the list of their masks. A place is an index of the list.
use Rattle.std.specs.Prelude.{◌≡◌, ℕ, ◌<◌, ◌≤◌, Bool, false, ◌&&◌, not, ◌==◌, List, length, filter, Option, Some, None, IsTrue}
use Rattle.std.specs.List.{range_with_len}
use Rattle.agg_group.specs.declared.mask.Mask.{Mask}
use Rattle.agg_group.specs.Mask.{count_of, mask_at, is_within, IsRising, HasBase}
use Rattle.agg_group.specs.Least.{least_place}

-- What a tree is made of: masks that rise, of which the last has every dimension of each other.
pub record SpansTree (masks : List Mask) : Type 0 where
  pub some : 0 < length masks
  pub rising : IsRising masks
  pub base : HasBase masks

abbrev pub places : List Mask → List ℕ
places masks = range_with_len 0 (length masks)

-- the mask at k is a strict superset of the mask at i
abbrev pub is_above : List Mask → ℕ → ℕ → Bool
is_above masks i k = is_within (mask_at masks i) (mask_at masks k) && not ((mask_at masks i).0 == (mask_at masks k).0)

-- the place of the parent: of the strict supersets the one with the fewest dimensions, and of several such the first
abbrev pub parent_of : List Mask → ℕ → Option ℕ
parent_of masks i = least_place (is_above masks i) (λ k. count_of (mask_at masks k)) (length masks)

-- The same as a fact of the place p: a strict superset, and none has fewer dimensions; of several with as few, the least mask.
pub record IsParent (masks : List Mask) (i p : ℕ) : Type 0 where
  pub inside : p < length masks
  pub above : IsTrue (is_above masks i p)
  pub fewest : (k : ℕ) → k < length masks → IsTrue (is_above masks i k) → count_of (mask_at masks p) ≤ count_of (mask_at masks k)
  pub tie : (k : ℕ) → k < length masks → IsTrue (is_above masks i k) → count_of (mask_at masks k) ≡ count_of (mask_at masks p) → (mask_at masks p).0 ≤ (mask_at masks k).0

-- the place of the mask at j's parent is i
abbrev pub is_place : Option ℕ → ℕ → Bool
is_place None i = false
is_place (Some p) i = p == i

abbrev pub is_child : List Mask → ℕ → ℕ → Bool
is_child masks i j = is_place (parent_of masks j) i

-- the places of the children, rising
abbrev pub children_of : List Mask → ℕ → List ℕ
children_of masks i = filter (is_child masks i) (places masks)

-- the places with so many dimensions, rising
abbrev pub is_of_layer : List Mask → ℕ → ℕ → Bool
is_of_layer masks dims i = count_of (mask_at masks i) == dims

abbrev pub layer_of : List Mask → ℕ → List ℕ
layer_of masks dims = filter (is_of_layer masks dims) (places masks)
