-- Places of masks that pass a test.
use Rattle.std.proofs.Common.{◌≡◌, ◌≤◌, ◌<◌, ◌+◌, ◌^◌, ◌++◌, ◌∙◌, ℕ, zero, suc, Bool, true, false, cond, ◌||◌, List, [], ◌∷◌, length, refl, sym, ap, arith}
use Rattle.std.specs.Prelude.{filter, map}
use Rattle.std.specs.List.{AllByRecursion, list_any, range_with_len}
use Rattle.std.proofs.lemmas.List.{append-nil, length-map, map-append, map-id}
use Rattle.std.proofs.lemmas.List.Elements.{filter-append}
use Rattle.std.proofs.lemmas.List.Folds.{list_any-append, list_any_at}
use Rattle.std.proofs.lemmas.List.FromFn.{get_or-range_with_len, length-range_with_len, map-range_with_len_more}
use Rattle.agg_group.specs.declared.mask.Mask.{Mask}
use Rattle.agg_group.specs.Mask.{mask_at}

range_more : (n : ℕ) → range_with_len 0 (n + 1) ≡ range_with_len 0 n ++ n ∷ []
range_more n =
    sym (map-id (range_with_len 0 (n + 1))) ∙ map-range_with_len_more (λ x. x) 0 n n (omega arith)
    ∙ ap (λ (xs : List ℕ). xs ++ n ∷ []) (map-id (range_with_len 0 n))

kept : (q : ℕ → Bool) (n : ℕ) → q n ≡ true → filter q (range_with_len 0 (n + 1)) ≡ filter q (range_with_len 0 n) ++ n ∷ []
kept q n h = ap (filter q) (range_more n) ∙ filter-append q (range_with_len 0 n) (n ∷ []) ∙ ap (λ (xs : List ℕ). filter q (range_with_len 0 n) ++ xs) (ap (λ (b : Bool). cond b (n ∷ []) []) h)

left : (q : ℕ → Bool) (n : ℕ) → q n ≡ false → filter q (range_with_len 0 (n + 1)) ≡ filter q (range_with_len 0 n)
left q n h =
    ap (filter q) (range_more n) ∙ filter-append q (range_with_len 0 n) (n ∷ []) ∙ ap (λ (xs : List ℕ). filter q (range_with_len 0 n) ++ xs) (ap (λ (b : Bool). cond b (n ∷ []) []) h)
    ∙ append-nil (filter q (range_with_len 0 n))

module _ {X : Type 0} (f : ℕ → X) (q : ℕ → Bool) where
  pub place_kept : (n : ℕ) → q n ≡ true → map f (filter q (range_with_len 0 (n + 1))) ≡ map f (filter q (range_with_len 0 n)) ++ f n ∷ []
  place_kept n h = ap (map f) (kept q n h) ∙ map-append f (filter q (range_with_len 0 n)) (n ∷ [])

  pub place_left : (n : ℕ) → q n ≡ false → map f (filter q (range_with_len 0 (n + 1))) ≡ map f (filter q (range_with_len 0 n))
  place_left n h = ap (map f) (left q n h)

no_end : (b : Bool) → b ≡ false → (b || false) ≡ false
no_end false e = refl
no_end true e = absurd cc

-- a place more that doesn't pass
pub any_left : (q : ℕ → Bool) (n : ℕ) → list_any q (range_with_len 0 n) ≡ false → q n ≡ false → list_any q (range_with_len 0 (n + 1)) ≡ false
any_left q n none nothere = ap (list_any q) (range_more n) ∙ list_any-append q (range_with_len 0 n) (n ∷ []) ∙ ap (λ (b : Bool). b || (q n || false)) none ∙ no_end (q n) nothere

-- a place that passes
pub any_found : (q : ℕ → Bool) (n i : ℕ) → i < n → q i ≡ true → list_any q (range_with_len 0 n) ≡ true
any_found q n i lt here =
    let inside : i < length (range_with_len 0 n) = omega (arith, lt, length-range_with_len 0 n) in
    list_any_at q (range_with_len 0 n) i 0 inside (ap q (get_or-range_with_len 0 n i 0 lt ∙ no_more i) ∙ here) where
      no_more : (i : ℕ) → 0 + i ≡ i
      no_more i = omega arith

few_kept : (q : ℕ → Bool) (xs : List ℕ) → length (filter q xs) ≤ length xs
few_kept q [] = omega arith
few_kept q (x ∷ xs) = by (q x) (few_kept q xs) where
  by : (b : Bool) → length (filter q xs) ≤ length xs → length (cond b (x ∷ filter q xs) (filter q xs)) ≤ length (x ∷ xs)
  by true h = omega (arith, h)
  by false h = omega (arith, h)

pub few_places : (q : ℕ → Bool) (masks : List Mask) → length (map (mask_at masks) (filter q (range_with_len 0 (length masks)))) ≤ length masks
few_places q masks = omega (arith, length-map (filter q (range_with_len 0 (length masks))) (mask_at masks), few_kept q (range_with_len 0 (length masks)), length-range_with_len 0 (length masks))

pub small_at : (masks : List Mask) (i : ℕ) → AllByRecursion (λ (m : Mask). m.0 < 2 ^ 64) masks → (mask_at masks i).0 < 2 ^ 64
small_at [] i h = omega arith
small_at (m ∷ masks) zero h = h.0
small_at (m ∷ masks) (suc i) h = small_at masks i h.1

pub small_places : (masks : List Mask) (is : List ℕ) → AllByRecursion (λ (m : Mask). m.0 < 2 ^ 64) masks → AllByRecursion (λ (m : Mask). m.0 < 2 ^ 64) (map (mask_at masks) is)
small_places masks [] h = tt
small_places masks (i ∷ is) h = (small_at masks i h, small_places masks is h)
