-- The nodes and the layers of a tree, while its cuboids are linked one after another.
use Rattle.std.proofs.Common.{◌≡◌, ◌≢◌, ◌∙◌, ℕ, ◌+◌, ◌^◌, ◌<◌, ◌≤◌, false, List, length, map, get_or, set, Option, Some, None, refl, sym, ap, subst, inl, inr, arith, zero-add, length-set, get_or-set_same, get_or-set_other}
use Rattle.std.specs.Prelude.{IsNone, slice_get, option_and_then}
use Rattle.std.proofs.Math.Numerals.{add-one}
use Rattle.std.proofs.lemmas.Bool.{cases_eq, eq-eqb, eqb-true, ne_eqb}
use Rattle.std.proofs.lemmas.List.FromFn.{length-map-range_with_len, get_or-map-range_with_len}
use Rattle.std.proofs.lemmas.List.Sums.{count_by-le-length}
use Rattle.agg_group.specs.declared.mask.Mask.{Mask}
use Rattle.agg_group.specs.Sets.{dimensions}
use Rattle.agg_group.specs.Mask.{count_of, has, mask_at}
use Rattle.cuboid_tree.specs.declared.node.Node.{Node}
use Rattle.cuboid_tree.specs.Tree.{places, parent_of, is_place, is_child, children_of, is_of_layer, layer_of}
use Rattle.cuboid_tree.specs.Links.{HasHeads, HasNodes, child_from, first_from, in_layer_from, next_in_layer_of, next_sibling_of, no_heads, no_links}
use Rattle.cuboid_tree.proofs.Kept.{after_kept, first_here, first_later, first_of_all, first_past, kept_passes, none_kept}
use Rattle.cuboid_tree.proofs.Parents.{parent_inside, parent_same}

-- a fact of the element at k, where the one at i was put
put_each : {X : Type 0} (P : ℕ → X → Type 0) (xs : List X) (i : ℕ) (x : X) → i < length xs → P i x → (k : ℕ) (d : X) → (k ≢ i → P k (get_or xs k d)) → P k (get_or (set xs i x) k d)
put_each P xs i x low here k d other =
    elim (cases_eq k i) [
      | inl same ↦ subst (λ j. P j (get_or (set xs i x) j d)) (sym same) (subst (P i) (sym (get_or-set_same xs i x d low)) here)
      | inr ne ↦ subst (P k) (sym (get_or-set_other xs i k x d ne)) (other ne)
    ]

-- ---- nothing is linked yet
pub none_linked : (masks : List Mask) (nodes : List Node) → nodes ≡ map (λ _. no_links) (places masks) → HasNodes masks (length masks) (length masks) nodes
none_linked masks nodes e = record {
  long = ap length e ∙ length-map-range_with_len (λ _. no_links) 0 (length masks);
  parent = λ k d from low. absurd (omega arith);
  first_child = λ k d low.
      ap (λ (ns : List Node). (get_or ns k d).first_child) e
      ∙ ap (λ (x : Node). x.first_child) (get_or-map-range_with_len (λ _. no_links) 0 (length masks) k k d low (zero-add k))
      ∙ sym (first_past (is_child masks k) (length masks));
  next_sibling = λ k d from low. absurd (omega arith);
  next_in_layer = λ k d from low. absurd (omega arith);
}

no_heads_are : (layers : ℕ) → (length (no_heads layers) ≡ layers) × ((dims : ℕ) (d : Option ℕ) → dims < layers → get_or (no_heads layers) dims d ≡ None)
unfolding no_heads
no_heads_are layers = (length-map-range_with_len (λ _. None) 0 layers, λ dims d low. get_or-map-range_with_len (λ _. None) 0 layers dims dims d low (zero-add dims))

pub none_headed : (masks : List Mask) (heads : List (Option ℕ)) → heads ≡ no_heads 65 → HasHeads masks (length masks) heads
none_headed masks heads e = record {
  long = ap length e ∙ (no_heads_are 65).0;
  fits = λ k from low. absurd (omega arith);
  each = λ dims d low. ap (λ hs. get_or hs dims d) e ∙ (no_heads_are 65).1 dims d low ∙ sym (first_past (is_of_layer masks dims) (length masks));
}

-- ---- the cuboid at i is linked
module _ (masks : List Mask) (i : ℕ) (low : i < length masks) where
  pub linked : (nodes : List Node) (x d : Node) → HasNodes masks (i + 1) (i + 1) nodes → x.parent ≡ parent_of masks i → x.first_child ≡ (get_or nodes i d).first_child
      → x.next_sibling ≡ next_sibling_of masks i → x.next_in_layer ≡ next_in_layer_of masks i → HasNodes masks i (i + 1) (set nodes i x)
  linked nodes x d h p c s l =
      let inside : i < length nodes = omega (arith, h.long) in
      record {
        long = length-set nodes i x ∙ h.long;
        parent = λ k e from below. put_each (λ j y. y.parent ≡ parent_of masks j) nodes i x inside p k e (λ ne. h.parent k e (omega arith) below);
        first_child = λ k e below. put_each (λ j y. y.first_child ≡ child_from masks j (i + 1)) nodes i x inside (c ∙ h.first_child i d low) k e (λ ne. h.first_child k e below);
        next_sibling = λ k e from below. put_each (λ j y. y.next_sibling ≡ next_sibling_of masks j) nodes i x inside s k e (λ ne. h.next_sibling k e (omega arith) below);
        next_in_layer = λ k e from below. put_each (λ j y. y.next_in_layer ≡ next_in_layer_of masks j) nodes i x inside l k e (λ ne. h.next_in_layer k e (omega arith) below);
      }

  -- .. and is a child of its parent
  no_child : (k : ℕ) → is_child masks k i ≡ false → child_from masks k (i + 1) ≡ child_from masks k i
  no_child k e = sym (first_later (is_child masks k) i (length masks) low e)

  pub child_of_none : (nodes : List Node) → HasNodes masks i (i + 1) nodes → parent_of masks i ≡ None → HasNodes masks i i nodes
  child_of_none nodes h e = record {
    long = h.long;
    parent = h.parent;
    first_child = λ k d below. h.first_child k d below ∙ no_child k (ap (λ o. is_place o k) e);
    next_sibling = h.next_sibling;
    next_in_layer = h.next_in_layer;
  }

  pub child_of : (nodes : List Node) (p : ℕ) (x : Node) → HasNodes masks i (i + 1) nodes → parent_of masks i ≡ Some p → x ≡ get_or nodes p x
      → HasNodes masks i i (set nodes p (record x { first_child = Some i }))
  child_of nodes p x h e is =
      let there = parent_inside masks i p e in
      let inside : p < length nodes = omega (arith, h.long, there) in
      let own : child_from masks p i ≡ Some i = first_here (is_child masks p) i (length masks) low (ap (λ o. is_place o p) e ∙ eq-eqb p p refl) in
      let new : Node = record x { first_child = Some i } in
      record {
        long = length-set nodes p new ∙ h.long;
        parent = λ k d from below. put_each (λ j y. i ≤ j → y.parent ≡ parent_of masks j) nodes p new inside (λ f. ap (λ (y : Node). y.parent) is ∙ h.parent p x f there) k d (λ ne f. h.parent k d f below) from;
        first_child = λ k d below. put_each (λ j y. y.first_child ≡ child_from masks j i) nodes p new inside (sym own) k d
            (λ ne. h.first_child k d below ∙ no_child k (ap (λ o. is_place o k) e ∙ ne_eqb p k (λ same. ne (sym same))));
        next_sibling = λ k d from below. put_each (λ j y. i ≤ j → y.next_sibling ≡ next_sibling_of masks j) nodes p new inside (λ f. ap (λ (y : Node). y.next_sibling) is ∙ h.next_sibling p x f there) k d (λ ne f. h.next_sibling k d f below) from;
        next_in_layer = λ k d from below. put_each (λ j y. i ≤ j → y.next_in_layer ≡ next_in_layer_of masks j) nodes p new inside (λ f. ap (λ (y : Node). y.next_in_layer) is ∙ h.next_in_layer p x f there) k d (λ ne f. h.next_in_layer k d f below) from;
      }

  -- .. and is the first of its layer
  pub headed : (heads : List (Option ℕ)) (dims : ℕ) → HasHeads masks (i + 1) heads → dims ≡ count_of (mask_at masks i) → dims < 65 → (mask_at masks i).0 < 2 ^ 64 → HasHeads masks i (set heads dims (Some i))
  headed heads dims h e few own =
      let inside : dims < length heads = omega (arith, h.long) in
      record {
        long = length-set heads dims (Some i) ∙ h.long;
        fits = λ k from below. elim (cases_eq k i) [ inl same ↦ subst (λ j. (mask_at masks j).0 < 2 ^ 64) (sym same) own | inr ne ↦ h.fits k (omega arith) below ];
        each = λ k d below. put_each (λ j y. y ≡ in_layer_from masks j i) heads dims (Some i) inside
            (sym (first_here (is_of_layer masks dims) i (length masks) low (eq-eqb (count_of (mask_at masks i)) dims (sym e)))) k d
            (λ ne. h.each k d below ∙ sym (first_later (is_of_layer masks k) i (length masks) low (ne_eqb (count_of (mask_at masks i)) k (λ same. ne (sym same ∙ sym e)))));
      }

-- the first child so far of i's parent
pub sibling_says : (masks : List Mask) (i p : ℕ) (nodes : List Node) (d : Node) → HasNodes masks (i + 1) (i + 1) nodes → parent_of masks i ≡ Some p → (get_or nodes p d).first_child ≡ next_sibling_of masks i
sibling_says masks i p nodes d h e = h.first_child p d (parent_inside masks i p e) ∙ sym (ap (option_and_then (λ q. child_from masks q (i + 1))) e)

-- a mask has at most 64 dimensions
pub few_dimensions : (m : Mask) → count_of m < 65
unfolding count_of
few_dimensions m = omega (arith, count_by-le-length (has m) (dimensions 64))

-- ---- what the links say
pub child_said : (masks : List Mask) (i : ℕ) → child_from masks i 0 ≡ slice_get (children_of masks i) 0
child_said masks i = first_of_all (is_child masks i) (length masks)

pub sibling_said : (masks : List Mask) (i p k : ℕ) → slice_get (children_of masks p) k ≡ Some i → next_sibling_of masks i ≡ slice_get (children_of masks p) (k + 1)
sibling_said masks i p k at =
    ap (option_and_then (λ q. child_from masks q (i + 1))) (parent_same masks i p k at)
    ∙ ap (first_from (is_child masks p) (i + 1)) (sym (zero-add (length masks)))
    ∙ sym (after_kept (is_child masks p) 0 (length masks) k i at)
    ∙ ap (slice_get (children_of masks p)) (sym (add-one k))

no_parent : (o : Option ℕ) → IsNone o → o ≡ None
no_parent None h = refl
no_parent (Some p) h = cc

pub no_sibling : (masks : List Mask) (i : ℕ) → IsNone (parent_of masks i) → next_sibling_of masks i ≡ None
no_sibling masks i h = ap (option_and_then (λ q. child_from masks q (i + 1))) (no_parent (parent_of masks i) h)

pub layer_said : (masks : List Mask) (i dims k : ℕ) → slice_get (layer_of masks dims) k ≡ Some i → next_in_layer_of masks i ≡ slice_get (layer_of masks dims) (k + 1)
layer_said masks i dims k at =
    let same : count_of (mask_at masks i) ≡ dims = eqb-true (count_of (mask_at masks i)) dims (kept_passes (is_of_layer masks dims) 0 (length masks) k i at).0 in
    ap (λ n. in_layer_from masks n (i + 1)) same
    ∙ ap (first_from (is_of_layer masks dims) (i + 1)) (sym (zero-add (length masks)))
    ∙ sym (after_kept (is_of_layer masks dims) 0 (length masks) k i at)
    ∙ ap (slice_get (layer_of masks dims)) (sym (add-one k))

pub first_said : (masks : List Mask) (dims : ℕ) → in_layer_from masks dims 0 ≡ slice_get (layer_of masks dims) 0
first_said masks dims = first_of_all (is_of_layer masks dims) (length masks)

pub no_layer : (masks : List Mask) (dims : ℕ) → 65 ≤ dims → slice_get (layer_of masks dims) 0 ≡ None
no_layer masks dims high = none_kept (is_of_layer masks dims) 0 (length masks) (λ m from to. ne_eqb (count_of (mask_at masks m)) dims (λ same. omega (arith, few_dimensions (mask_at masks m))))
