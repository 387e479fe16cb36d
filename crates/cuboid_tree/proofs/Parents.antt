-- The place that `parent_of` gives.
use Rattle.std.proofs.Common.{◌≡◌, ℕ, ◌+◌, ◌-◌, ◌^◌, ◌<◌, true, false, not, eqb, List, length, Option, Some, None, refl, sym, ap, ◌∙◌, subst, inl, inr, arith, ◌↔◌}
use Rattle.std.specs.Prelude.{IfSome, IsNone, slice_get}
use Rattle.std.specs.Int.{bit_at}
use Rattle.std.proofs.lemmas.Bool.{cases_eq, cases_lt, and_parts, and_from, eqb-true, eq-eqb, ne_eqb, not-true, not_from_false, false≢true}
use Rattle.std.proofs.lemmas.Nat.Bits.{bit_at-lt, same_from_bits}
use Rattle.agg_group.specs.declared.mask.Mask.{Mask}
use Rattle.agg_group.specs.Mask.{has, count_of, is_within, IsWithin, IsRising, mask_at}
use Rattle.agg_group.proofs.LeastLemmas.{least_is, none_passes}
use Rattle.agg_group.proofs.SetLemmas.{subset_decides, subset_from}
use Rattle.agg_group.proofs.MaskLemmas.{has_past}
use Rattle.cuboid_tree.specs.Tree.{SpansTree, is_above, parent_of, is_place, is_child, children_of, IsParent}
use Rattle.cuboid_tree.proofs.Kept.{kept_passes}

pub parent_is : (masks : List Mask) (i p : ℕ) → IsRising masks → parent_of masks i ≡ Some p → IsParent masks i p
parent_is masks i p rising e =
    let w = least_is (is_above masks i) (λ k. count_of (mask_at masks k)) (length masks) p e in
    record {
      inside = w.inside;
      above = w.passing;
      fewest = w.least;
      tie = λ k low at same.
          elim (cases_lt k p) [
            | inl before ↦ absurd (omega (arith, w.first k before at))
            | inr after ↦
                elim (cases_eq k p) [
                  | inl here ↦ omega (arith, ap (λ x. (mask_at masks x).0) here)
                  | inr past ↦ omega (arith, rising p k (record { 0 = 0 }) (omega arith) low)
                ]
          ];
    }

-- the base is above each other mask
base_above : (masks : List Mask) (i : ℕ) → SpansTree masks → i + 1 < length masks → is_above masks i (length masks - 1) ≡ true
base_above masks i spans below =
    let lesser = spans.rising i (length masks - 1) (record { 0 = 0 }) (omega arith) (omega arith) in
    and_from _ _
    (subset_from (has (mask_at masks i)) (has (mask_at masks (length masks - 1))) (spans.base i (record { 0 = 0 }) (omega arith)))
    (not_from_false _ (ne_eqb (mask_at masks i).0 (mask_at masks (length masks - 1)).0 (λ same. omega arith)))

pub no_parent : (masks : List Mask) (i : ℕ) → SpansTree masks → i < length masks → parent_of masks i ≡ None → i + 1 ≡ length masks
no_parent masks i spans inside e =
    elim (cases_lt (i + 1) (length masks)) [
      | inl below ↦
          absurd (false≢true
          (sym (none_passes (is_above masks i) (λ k. count_of (mask_at masks k)) (length masks) e (length masks - 1) (omega arith))
          ∙ base_above masks i spans below))
      | inr end ↦ omega arith
    ]

-- two masks with the same dimensions are one
same_bits : (a b : Mask) → IsWithin a b → IsWithin b a → (d : ℕ) → bit_at a.0 d ≡ bit_at b.0 d
same_bits a b there back d =
    elim (cases_eq (bit_at a.0 d) 1) [
      | inl one ↦ one ∙ sym (eqb-true (bit_at b.0 d) 1 (there d (eq-eqb (bit_at a.0 d) 1 one)))
      | inr ne ↦
          elim (cases_eq (bit_at b.0 d) 1) [
            | inl other ↦ absurd (ne (eqb-true (bit_at a.0 d) 1 (back d (eq-eqb (bit_at b.0 d) 1 other))))
            | inr other ↦ omega (arith, bit_at-lt a.0 d, bit_at-lt b.0 d)
          ]
    ]

pub base_has_none : (masks : List Mask) (i p : ℕ) → SpansTree masks → (mask_at masks i).0 < 2 ^ 64 → i + 1 ≡ length masks → parent_of masks i ≡ Some p → ⊥
base_has_none masks i p spans fits last e =
    let w = least_is (is_above masks i) (λ k. count_of (mask_at masks k)) (length masks) p e in
    let parts = and_parts (is_within (mask_at masks i) (mask_at masks p)) (not (eqb (mask_at masks i).0 (mask_at masks p).0)) w.passing in
    let differ : eqb (mask_at masks i).0 (mask_at masks p).0 ≡ false = not-true _ parts.1 in
    let up : IsWithin (mask_at masks i) (mask_at masks p) = (subset_decides (has (mask_at masks i)) (has (mask_at masks p)) (has_past (mask_at masks i) fits)).0 parts.0 in
    let end : length masks - 1 ≡ i = omega arith in
    let down : IsWithin (mask_at masks p) (mask_at masks i) =
    subst (λ x. IsWithin (mask_at masks p) (mask_at masks x)) end (spans.base p (record { 0 = 0 }) w.inside) in
    let same : (mask_at masks i).0 ≡ (mask_at masks p).0 = same_from_bits _ _ (same_bits (mask_at masks i) (mask_at masks p) up down) in
    false≢true (sym differ ∙ eq-eqb _ _ same)

pub parent_says : (masks : List Mask) (i : ℕ) (o : Option ℕ) → IsRising masks → o ≡ parent_of masks i → IfSome o (IsParent masks i)
parent_says masks i None rising e = tt
parent_says masks i (Some p) rising e = parent_is masks i p rising (sym e)

pub base_says : (masks : List Mask) (i : ℕ) → SpansTree masks → i < length masks → (mask_at masks i).0 < 2 ^ 64 → (o : Option ℕ) → o ≡ parent_of masks i → IsNone o ↔ (i + 1 ≡ length masks)
base_says masks i spans inside fits None e = (λ _. no_parent masks i spans inside (sym e), λ _. refl)
base_says masks i spans inside fits (Some p) e = (λ h. absurd cc, λ last. absurd (base_has_none masks i p spans fits last (sym e)))

-- a child of p has the parent p
pub child_parent : (masks : List Mask) (p i : ℕ) (o : Option ℕ) → o ≡ parent_of masks i → is_child masks p i ≡ true → o ≡ Some p
child_parent masks p i None e h = absurd (false≢true (ap (λ o. is_place o p) e ∙ h))
child_parent masks p i (Some x) e h = ap (λ y. Some y) (eqb-true x p (ap (λ o. is_place o p) e ∙ h))

-- the cuboid whose child i is, is i's parent
pub parent_same : (masks : List Mask) (i p k : ℕ) → slice_get (children_of masks p) k ≡ Some i → parent_of masks i ≡ Some p
parent_same masks i p k at = child_parent masks p i (parent_of masks i) refl (kept_passes (is_child masks p) 0 (length masks) k i at).0

-- a parent is there
pub parent_inside : (masks : List Mask) (i p : ℕ) → parent_of masks i ≡ Some p → p < length masks
parent_inside masks i p e = (least_is (is_above masks i) (λ k. count_of (mask_at masks k)) (length masks) p e).inside
