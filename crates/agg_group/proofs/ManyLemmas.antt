-- The masks of the groups, one group after another.
use Rattle.std.proofs.Common.{◌≡◌, ℕ, ◌+◌, ◌<◌, ◌≤◌, List, [], ◌∷◌, ◌++◌, length, get_or, take, drop, All, sym, ap, ◌∙◌, subst, arith}
use Rattle.std.specs.List.{flat_map}
use Rattle.std.proofs.lemmas.List.{flat_map_more, take_all, take_more, take-append-drop}
use Rattle.std.proofs.lemmas.List.Concat.{flat_map-append}
use Rattle.agg_group.specs.declared.mask.Mask.{Mask}
use Rattle.agg_group.specs.Rules.{Rules}
use Rattle.agg_group.specs.Faults.{IsSound}
use Rattle.agg_group.specs.Units.{group_masks}
use Rattle.agg_group.specs.Built.{base_mask, with_masks, built_masks}
use Rattle.agg_group.proofs.BuiltLemmas.{with_masks-append, with_masks_longer}

-- the base, and the masks of the groups before a place
abbrev pub masks_before : ℕ → List Rules → ℕ → List Mask
masks_before n groups i = with_masks [] (base_mask n ∷ flat_map group_masks (take i groups))

pub group_on : (n : ℕ) (groups : List Rules) (i : ℕ) (g : Rules) (keys : List Mask) → i < length groups → g ≡ get_or groups i g → keys ≡ masks_before n groups i
    → with_masks keys (group_masks g) ≡ masks_before n groups (i + 1)
group_on n groups i g keys low is k =
    ap (λ ks. with_masks ks (group_masks g)) k ∙ sym (with_masks-append [] (base_mask n ∷ flat_map group_masks (take i groups)) (group_masks g))
    ∙ ap (with_masks []) (flat_map_more group_masks (base_mask n ∷ []) (take i groups) g)
    ∙ ap (λ gs. with_masks [] (base_mask n ∷ flat_map group_masks gs)) (ap (λ x. take i groups ++ x ∷ []) is ∙ sym (take_more groups i g low))

pub before_fewer : (n : ℕ) (groups : List Rules) (i : ℕ) → length (masks_before n groups i) ≤ length (built_masks n groups)
unfolding built_masks
before_fewer n groups i =
    let all : built_masks n groups ≡ with_masks (masks_before n groups i) (flat_map group_masks (drop i groups)) =
    ap (λ gs. with_masks [] (base_mask n ∷ flat_map group_masks gs)) (sym (take-append-drop i groups))
    ∙ ap (λ ms. with_masks [] (base_mask n ∷ ms)) (flat_map-append group_masks (take i groups) (drop i groups))
    ∙ with_masks-append [] (base_mask n ∷ flat_map group_masks (take i groups)) (flat_map group_masks (drop i groups)) in
    omega (arith, ap length all, with_masks_longer (masks_before n groups i) (flat_map group_masks (drop i groups)))

pub many_before : (n : ℕ) (groups : List Rules) (i limit : ℕ) → limit < length (masks_before n groups i) → limit < length (built_masks n groups)
many_before n groups i limit h = omega (arith, h, before_fewer n groups i)

-- at the end
pub masks_of_all : (n : ℕ) (groups : List Rules) (i : ℕ) (keys : List Mask) → length groups ≤ i → keys ≡ masks_before n groups i → keys ≡ built_masks n groups
unfolding built_masks
masks_of_all n groups i keys end k = k ∙ ap (λ gs. with_masks [] (base_mask n ∷ flat_map group_masks gs)) (take_all i groups end)

pub sound_all : (groups : List Rules) (i : ℕ) → length groups ≤ i → All IsSound (take i groups) → All IsSound groups
sound_all groups i end h = subst (All IsSound) (take_all i groups end) h
