-- The masks that are added for a list of units: those without the first unit, then its fronts one step after another.
use Rattle.std.proofs.Common.{◌≡◌, ℕ, ◌+◌, ◌<◌, ◌≤◌, true, false, cond, List, [], ◌∷◌, ◌++◌, length, get_or, drop, Option, sym, ap, ◌∙◌, subst, arith}
use Rattle.std.proofs.lemmas.List.{at_drop_more, drop_all}
use Rattle.agg_group.specs.declared.mask.Mask.{Mask}
use Rattle.agg_group.specs.Units.{joined, is_capped, with_fronts, masks_with}
use Rattle.agg_group.specs.Built.{with_masks}
use Rattle.agg_group.proofs.BuiltLemmas.{with_masks-append, with_masks_longer}

-- more masks don't make fewer
more_masks : (limit : ℕ) (keys xs ys : List Mask) → limit < length (with_masks keys xs) → limit < length (with_masks keys (xs ++ ys))
more_masks limit keys xs ys h = omega (arith, h, with_masks_longer (with_masks keys xs) ys, ap length (with_masks-append keys xs ys))

module _ (cap : Option ℕ) (unit : List Mask) (later : List (List Mask)) where
  abbrev rest : Mask → List Mask
  rest m = masks_with cap later m

  abbrev fronts_from : ℕ → Mask → List Mask
  fronts_from i m = with_fronts rest cap (drop i unit) m

  -- the first unit is left out
  pub left_out : (limit : ℕ) (units : List (List Mask)) (keys : List Mask) (m : Mask) → units ≡ unit ∷ later → limit < length (with_masks keys (rest m)) → limit < length (with_masks keys (masks_with cap units m))
  left_out limit units keys m e h =
      subst (λ us. limit < length (with_masks keys (masks_with cap us m))) (sym e) (more_masks limit keys (rest m) (with_fronts rest cap unit m) h)

  -- all masks: those without the first unit, then its fronts
  pub all_masks : (units : List (List Mask)) (keys first : List Mask) (m : Mask) → units ≡ unit ∷ later → first ≡ with_masks keys (rest m)
      → with_masks first (with_fronts rest cap unit m) ≡ with_masks keys (masks_with cap units m)
  all_masks units keys first m e f =
      ap (λ ks. with_masks ks (with_fronts rest cap unit m)) f ∙ sym (with_masks-append keys (rest m) (with_fronts rest cap unit m))
      ∙ ap (λ us. with_masks keys (masks_with cap us m)) (sym e)

  fronts_at : (i : ℕ) (m d next : Mask) → i < length unit → next ≡ joined m (get_or unit i d)
      → fronts_from i m ≡ cond (is_capped cap next) (rest next ++ fronts_from (i + 1) next) []
  fronts_at i m d next low e =
      at_drop_more (λ l. with_fronts rest cap l m) unit i d low
      ∙ ap (λ k. cond (is_capped cap k) (rest k ++ fronts_from (i + 1) k) []) (sym e)

  -- one step more
  pub step_on : (i : ℕ) (m d next : Mask) (keys more : List Mask) → i < length unit → next ≡ joined m (get_or unit i d) → is_capped cap next ≡ true
      → more ≡ with_masks keys (rest next) → with_masks more (fronts_from (i + 1) next) ≡ with_masks keys (fronts_from i m)
  step_on i m d next keys more low e fits f =
      ap (λ ks. with_masks ks (fronts_from (i + 1) next)) f
      ∙ sym (with_masks-append keys (rest next) (fronts_from (i + 1) next))
      ∙ ap (λ b. with_masks keys (cond b (rest next ++ fronts_from (i + 1) next) [])) (sym fits)
      ∙ ap (λ ms. with_masks keys ms) (sym (fronts_at i m d next low e))

  -- the next front is above the cap
  pub step_above : (i : ℕ) (m d next : Mask) (keys : List Mask) → i < length unit → next ≡ joined m (get_or unit i d) → is_capped cap next ≡ false
      → with_masks keys (fronts_from i m) ≡ keys
  step_above i m d next keys low e above =
      ap (λ ms. with_masks keys ms) (fronts_at i m d next low e ∙ ap (λ b. cond b (rest next ++ fronts_from (i + 1) next) []) above)

  -- no step is left
  pub no_step : (i : ℕ) (m : Mask) (keys : List Mask) → length unit ≤ i → with_masks keys (fronts_from i m) ≡ keys
  no_step i m keys end = ap (λ l. with_masks keys (with_fronts rest cap l m)) (drop_all i unit end)

  -- too many already
  pub step_many : (limit i : ℕ) (m d next : Mask) (keys : List Mask) → i < length unit → next ≡ joined m (get_or unit i d) → is_capped cap next ≡ true
      → limit < length (with_masks keys (rest next)) → limit < length (with_masks keys (fronts_from i m))
  step_many limit i m d next keys low e fits h =
      subst (λ ms. limit < length (with_masks keys ms)) (sym (fronts_at i m d next low e))
      (subst (λ b. limit < length (with_masks keys (cond b (rest next ++ fronts_from (i + 1) next) []))) (sym fits)
      (more_masks limit keys (rest next) (fronts_from (i + 1) next) h))
