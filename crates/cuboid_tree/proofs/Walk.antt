-- The walk along the layers to the parent of a cuboid.
use Rattle.std.proofs.Common.{◌≡◌, ◌∙◌, ℕ, ◌+◌, ◌-◌, ◌^◌, ◌<◌, ◌≤◌, Bool, true, false, List, length, Option, Some, None, refl, sym, ap, inl, inr, arith}
use Rattle.std.specs.Prelude.{◌&&◌, unwrap_or}
use Rattle.std.proofs.lemmas.Bool.{and_from, and_parts, cases_eq, eq-eqb, eqb-true, false≢true}
use Rattle.agg_group.specs.declared.mask.Mask.{Mask}
use Rattle.agg_group.specs.Mask.{IsRising, count_of, mask_at}
use Rattle.cuboid_tree.specs.Links.{first_from, in_layer_from, is_above_in, next_in_layer_of}
use Rattle.cuboid_tree.specs.Tree.{is_above, is_of_layer, parent_of}
use Rattle.cuboid_tree.proofs.Above.{above_later, least_found, none_found}
use Rattle.cuboid_tree.proofs.Kept.{first_here, first_later}
use Rattle.cuboid_tree.proofs.Linked.{few_dimensions}
use Rattle.cuboid_tree.proofs.Seek.{first_none, first_says, first_skip, none_says}

-- ---- one layer
module _ (masks : List Mask) (dims i : ℕ) where
  -- no place of another layer is sought
  other_layer : (m : ℕ) → is_of_layer masks dims m ≡ false → is_above_in masks dims i m ≡ false
  other_layer m e = ap (λ b. b && is_above masks i m) e

  pub at_next : (j p : ℕ) → in_layer_from masks dims j ≡ Some p → first_from (is_above_in masks dims i) j (length masks) ≡ first_from (is_above_in masks dims i) p (length masks)
  at_next j p e =
      let w = first_says (is_of_layer masks dims) j (length masks) p e in
      first_skip (is_above_in masks dims i) j p (length masks) w.from (omega (arith, w.below)) (λ m low high. other_layer m (w.before m low high))

  pub found_here : (j p : ℕ) → in_layer_from masks dims j ≡ Some p → is_above masks i p ≡ true → first_from (is_above_in masks dims i) j (length masks) ≡ Some p
  found_here j p e above =
      let w = first_says (is_of_layer masks dims) j (length masks) p e in
      at_next j p e ∙ first_here (is_above_in masks dims i) p (length masks) w.below (and_from _ _ w.passes above)

  pub goes_on : (j p : ℕ) → in_layer_from masks dims j ≡ Some p → is_above masks i p ≡ false → first_from (is_above_in masks dims i) j (length masks) ≡ first_from (is_above_in masks dims i) (p + 1) (length masks)
  goes_on j p e not_above =
      let w = first_says (is_of_layer masks dims) j (length masks) p e in
      at_next j p e ∙ first_later (is_above_in masks dims i) p (length masks) w.below (ap (λ b. b && is_above masks i p) w.passes ∙ not_above)

  -- the next of the layer
  pub next_of : (j p : ℕ) → in_layer_from masks dims j ≡ Some p → next_in_layer_of masks p ≡ in_layer_from masks dims (p + 1)
  next_of j p e =
      let w = first_says (is_of_layer masks dims) j (length masks) p e in
      ap (λ n. in_layer_from masks n (p + 1)) (eqb-true (count_of (mask_at masks p)) dims w.passes)

  pub layer_ends : (j : ℕ) → in_layer_from masks dims j ≡ None → first_from (is_above_in masks dims i) j (length masks) ≡ None
  layer_ends j e = first_none (is_above_in masks dims i) j (length masks) (λ m low high. other_layer m (none_says (is_of_layer masks dims) j (length masks) e m low high))

-- the places that are left grow fewer
rest_falls : (n p : ℕ) (o : Option ℕ) → p < n → ((x : ℕ) → o ≡ Some x → p < x) → n - unwrap_or o n < n - p
rest_falls n p None low h = omega arith
rest_falls n p (Some x) low h = omega (arith, h x refl)

pub falls : (masks : List Mask) (dims j p : ℕ) (next later : Option ℕ) → in_layer_from masks dims j ≡ Some p → next ≡ Some p → later ≡ in_layer_from masks dims (p + 1)
    → length masks - unwrap_or later (length masks) < length masks - unwrap_or next (length masks)
falls masks dims j p next later e is after =
    let w = first_says (is_of_layer masks dims) j (length masks) p e in
    let own : unwrap_or next (length masks) ≡ p = ap (λ o. unwrap_or o (length masks)) is in
    let less = rest_falls (length masks) p later w.below (λ x at. omega (arith, (first_says (is_of_layer masks dims) (p + 1) (length masks) x (sym after ∙ at)).from)) in
    omega (arith, own, less)

-- ---- all layers

-- each superset of the mask at i has at least so many dimensions
abbrev pub HaveMore : List Mask → ℕ → ℕ → Type 0
HaveMore masks i dims = (k : ℕ) → k < length masks → is_above masks i k ≡ true → dims ≤ count_of (mask_at masks k)

module _ (masks : List Mask) (i : ℕ) (rising : IsRising masks) (low : i < length masks) (fits : (mask_at masks i).0 < 2 ^ 64) where
  pub one_more : (dims : ℕ) → HaveMore masks i dims → first_from (is_above_in masks dims i) (i + 1) (length masks) ≡ None → HaveMore masks i (dims + 1)
  one_more dims all e k below above =
      elim (cases_eq (count_of (mask_at masks k)) dims) [
        | inl same ↦
            (let later = above_later masks i k rising low fits above in
            absurd (false≢true
            (sym (none_says (is_above_in masks dims i) (i + 1) (length masks) e k (omega arith) below)
            ∙ and_from _ _ (eq-eqb (count_of (mask_at masks k)) dims same) above)))
        | inr ne ↦ omega (arith, all k below above)
      ]

  pub parent_there : (dims p : ℕ) → HaveMore masks i dims → first_from (is_above_in masks dims i) (i + 1) (length masks) ≡ Some p → parent_of masks i ≡ Some p
  parent_there dims p all e =
      let w = first_says (is_above_in masks dims i) (i + 1) (length masks) p e in
      let parts = and_parts (is_of_layer masks dims p) (is_above masks i p) w.passes in
      let own : count_of (mask_at masks p) ≡ dims = eqb-true (count_of (mask_at masks p)) dims parts.0 in
      least_found (is_above masks i) (λ k. count_of (mask_at masks k)) (length masks) p (record {
        inside = w.below;
        passing = parts.1;
        least = λ k below above. omega (arith, own, all k below above);
        first = λ k before above.
            let later = above_later masks i k rising low fits above in
            elim (cases_eq (count_of (mask_at masks k)) dims) [
              | inl same ↦ absurd (false≢true
                  (sym (w.before k (omega arith) before) ∙ and_from _ _ (eq-eqb (count_of (mask_at masks k)) dims same) above))
              | inr ne ↦ omega (arith, own, w.below, all k (omega (arith, w.below)) above)
            ];
      })

  pub no_parent_there : HaveMore masks i 65 → parent_of masks i ≡ None
  no_parent_there all = none_found (is_above masks i) (λ k. count_of (mask_at masks k)) (length masks) (λ k below. by k below (is_above masks i k) refl)
    where
      by : (k : ℕ) → k < length masks → (b : Bool) → is_above masks i k ≡ b → b ≡ false
      by k below true e = absurd (omega (arith, all k below e, few_dimensions (mask_at masks k)))
      by k below false e = refl
