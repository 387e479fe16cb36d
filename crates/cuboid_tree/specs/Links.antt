-- The links of the tree, over the list of its masks: each is the place of another cuboid.
use Rattle.std.specs.Prelude.{◌≡◌, ℕ, ◌+◌, ◌-◌, ◌^◌, ◌<◌, ◌≤◌, ◌↔◌, Bool, ◌&&◌, List, length, filter, map, slice_get, slice_index_or, Option, None, IsNone, option_and_then}
use Rattle.std.specs.List.{range_with_len}
use Rattle.agg_group.specs.declared.mask.Mask.{Mask}
use Rattle.agg_group.specs.Mask.{count_of, mask_at}
use Rattle.cuboid_tree.specs.declared.node.Node.{Node}
use Rattle.cuboid_tree.specs.Tree.{SpansTree, is_above, parent_of, is_child, is_of_layer}

-- the first of the places from i on, below n, that passes
unfoldable pub first_from : (ℕ → Bool) → ℕ → ℕ → Option ℕ
first_from passes i n = slice_get (filter passes (range_with_len i (n - i))) 0

-- the first child of k among the places from i on
abbrev pub child_from : List Mask → ℕ → ℕ → Option ℕ
child_from masks k i = first_from (is_child masks k) i (length masks)

-- the first place with so many dimensions among those from i on
abbrev pub in_layer_from : List Mask → ℕ → ℕ → Option ℕ
in_layer_from masks dims i = first_from (is_of_layer masks dims) i (length masks)

-- the next child of the parent, and the next place with as many dimensions
abbrev pub next_sibling_of : List Mask → ℕ → Option ℕ
next_sibling_of masks i = option_and_then (λ p. child_from masks p (i + 1)) (parent_of masks i)

abbrev pub next_in_layer_of : List Mask → ℕ → Option ℕ
next_in_layer_of masks i = in_layer_from masks (count_of (mask_at masks i)) (i + 1)

-- the mask at k has so many dimensions, and is a strict superset of the mask at i
abbrev pub is_above_in : List Mask → ℕ → ℕ → ℕ → Bool
is_above_in masks dims i k = is_of_layer masks dims k && is_above masks i k

-- a cuboid without links
abbrev pub no_links : Node
no_links = record { parent = None; first_child = None; next_sibling = None; next_in_layer = None }

-- layers without cuboids
unfoldable pub no_heads : ℕ → List (Option ℕ)
no_heads layers = map (λ _. None) (range_with_len 0 layers)

-- The nodes of a tree whose cuboids are linked from place `linked` on, and are children from place `children` on.
pub record HasNodes (masks : List Mask) (linked children : ℕ) (nodes : List Node) : Type 0 where
  pub long : length nodes ≡ length masks
  pub parent : (k : ℕ) (d : Node) → linked ≤ k → k < length masks → (slice_index_or nodes k d).parent ≡ parent_of masks k
  pub first_child : (k : ℕ) (d : Node) → k < length masks → (slice_index_or nodes k d).first_child ≡ child_from masks k children
  pub next_sibling : (k : ℕ) (d : Node) → linked ≤ k → k < length masks → (slice_index_or nodes k d).next_sibling ≡ next_sibling_of masks k
  pub next_in_layer : (k : ℕ) (d : Node) → linked ≤ k → k < length masks → (slice_index_or nodes k d).next_in_layer ≡ next_in_layer_of masks k

-- The first places of the layers of 0 to 64 dimensions, among the places from i on; no mask there has a dimension above 63.
pub record HasHeads (masks : List Mask) (i : ℕ) (heads : List (Option ℕ)) : Type 0 where
  pub long : length heads ≡ 65
  pub fits : (k : ℕ) → i ≤ k → k < length masks → (mask_at masks k).0 < 2 ^ 64
  pub each : (dims : ℕ) (d : Option ℕ) → dims < 65 → slice_index_or heads dims d ≡ in_layer_from masks dims i

-- What a tree keeps.
pub record HasLinks (masks : List Mask) (nodes : List Node) (heads : List (Option ℕ)) : Type 0 where
  pub spans : SpansTree masks
  pub linked : HasNodes masks 0 0 nodes
  pub layers : HasHeads masks 0 heads
  pub base : (k : ℕ) → k < length masks → IsNone (parent_of masks k) ↔ (k + 1 ≡ length masks)
