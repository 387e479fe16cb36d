-- The masks that have, beside a mask, a front of each unit.
use Rattle.std.proofs.Common.{◌≡◌, ◌≢◌, ℕ, Bool, true, false, ◌||◌, cond, eqb, List, [], ◌∷◌, ◌++◌, map, Option, Contains, refl, sym, ap, ◌∙◌, subst, inl, inr, arith, append_assoc, ◌⊎◌}
use Rattle.std.specs.List.{AllByRecursion, concat, flat_map}
use Rattle.std.proofs.lemmas.Bool.{or_cases, or_from, or_left, or_right, eqb-false, ne_eqb, false≢true, false_from_ne_true}
use Rattle.std.proofs.lemmas.List.Elements.{All-nil, All-cons, All-contains, Contains-append_left, Contains-append_right, Contains-append_cases}
use Rattle.agg_group.specs.declared.mask.Mask.{Mask}
use Rattle.agg_group.specs.Sets.{is_among}
use Rattle.agg_group.specs.Mask.{has, IsWithin}
use Rattle.agg_group.specs.Faults.{has_repeat}
use Rattle.agg_group.specs.Units.{joined, mask_of, mask_units, is_capped, with_fronts, unless_empty, masks_with}
use Rattle.agg_group.proofs.MaskLemmas.{mask_same, has-joined, has-mask_of, capped_within}
use Rattle.agg_group.proofs.RepeatLemmas.{either_list, among_left, among_right, repeat_parts}

-- the set has each dimension of the list, and none of it
abbrev pub Has : (ℕ → Bool) → List ℕ → Type 0
Has s ds = (d : ℕ) → is_among d ds ≡ true → s d ≡ true

abbrev pub Lacks : (ℕ → Bool) → List ℕ → Type 0
Lacks s ds = (d : ℕ) → is_among d ds ≡ true → s d ≡ false

-- the set has a front of the steps
abbrev pub Takes : (ℕ → Bool) → List (List ℕ) → Type 0
Takes s [] = Unit {0}
Takes s (step ∷ steps) = (Has s step × Takes s steps) ⊎ Lacks s (step ++ concat steps)

-- the dimensions of units
abbrev pub dims_of : List (List (List ℕ)) → List ℕ
dims_of units = flat_map concat units

-- each dimension of the set is one of the mask or of the list
abbrev pub Covers : (ℕ → Bool) → Mask → List ℕ → Type 0
Covers s m ds = (d : ℕ) → s d ≡ true → (has m d || is_among d ds) ≡ true

-- the dimensions stand once, and the mask has none of them
pub record IsFresh (m : Mask) (ds : List ℕ) : Type 0 where
  pub once : has_repeat ds ≡ false
  pub lacks : Lacks (has m) ds

abbrev fronts : (Mask → List Mask) → Option ℕ → List (List ℕ) → Mask → List Mask
fronts rest cap steps m = rest m ++ with_fronts rest cap (map mask_of steps) m

-- ---- a mask with one step more
has_step : (m : Mask) (step : List ℕ) (d : ℕ) → has (joined m (mask_of step)) d ≡ (has m d || is_among d step)
has_step m step d = has-joined m (mask_of step) d ∙ ap (λ b. has m d || b) (has-mask_of step d)

step_within : (m : Mask) (step : List ℕ) (t : Mask) → IsWithin m t → Has (has t) step → IsWithin (joined m (mask_of step)) t
step_within m step t low at d h =
    elim (or_cases (has m d) (is_among d step) (sym (has_step m step d) ∙ h)) [ inl here ↦ low d here | inr there ↦ at d there ]

step_covers : (s : ℕ → Bool) (m : Mask) (step ds : List ℕ) → Covers s m (step ++ ds) → Covers s (joined m (mask_of step)) ds
step_covers s m step ds covers d h =
    elim (or_cases (has m d) (is_among d (step ++ ds)) (covers d h)) [
      | inl here ↦ or_left _ _ (has_step m step d ∙ or_left _ _ here)
      | inr there ↦
          elim (or_cases (is_among d step) (is_among d ds) (sym (either_list d step ds) ∙ there)) [
            | inl mine ↦ or_left _ _ (has_step m step d ∙ or_right (has m d) _ mine)
            | inr later ↦ or_right (has (joined m (mask_of step)) d) _ later
          ]
    ]

skip_covers : (s : ℕ → Bool) (m : Mask) (front ds : List ℕ) → Covers s m (front ++ ds) → Lacks s front → Covers s m ds
skip_covers s m front ds covers lacks d h =
    elim (or_cases (has m d) (is_among d (front ++ ds)) (covers d h)) [
      | inl here ↦ or_left _ _ here
      | inr there ↦
          elim (or_cases (is_among d front) (is_among d ds) (sym (either_list d front ds) ∙ there)) [
            | inl mine ↦ absurd (false≢true (sym (lacks d mine) ∙ h))
            | inr later ↦ or_right (has m d) _ later
          ]
    ]

fresh_rest : (m : Mask) (front ds : List ℕ) → IsFresh m (front ++ ds) → IsFresh m ds
fresh_rest m front ds w = record {
  once = (repeat_parts front ds w.once).0;
  lacks = λ d at. w.lacks d (among_right d front ds at);
}

fresh_step : (m : Mask) (step ds : List ℕ) → IsFresh m (step ++ ds) → IsFresh (joined m (mask_of step)) ds
fresh_step m step ds w = record {
  once = (repeat_parts step ds w.once).0;
  lacks = λ d at.
      has_step m step d
      ∙ or_from (has m d) (is_among d step) (w.lacks d (among_right d step ds at))
      (false_from_ne_true (is_among d step) (λ mine. false≢true (sym ((repeat_parts step ds w.once).1 d mine) ∙ at)));
}

-- ---- every set that takes a front of each unit is found
module _ (cap : Option ℕ) (t : Mask) (fits : is_capped cap t ≡ true) where
  fronts_found : (rest : Mask → List Mask) (ds : List ℕ)
      → ((m : Mask) → IsWithin m t → Covers (has t) m ds → Contains (rest m) t)
      → (steps : List (List ℕ)) (m : Mask) → IsWithin m t → Covers (has t) m (concat steps ++ ds) → Takes (has t) steps → Contains (fronts rest cap steps m) t
  fronts_found rest ds found [] m low covers takes = Contains-append_left (rest m) [] t (found m low covers)
  fronts_found rest ds found (step ∷ steps) m low covers (inl takes) =
      let more = joined m (mask_of step) in
      let low_more = step_within m step t low takes.0 in
      let covers_more = step_covers (has t) m step (concat steps ++ ds) (subst (λ ls. Covers (has t) m ls) (append_assoc step (concat steps) ds) covers) in
      let later = fronts_found rest ds found steps more low_more covers_more takes.1 in
      Contains-append_right (rest m) _ t
      (subst (λ b. Contains (cond b (fronts rest cap steps more) []) t) (sym (capped_within cap more t low_more fits)) later)
  fronts_found rest ds found (step ∷ steps) m low covers (inr lacks) =
      Contains-append_left (rest m) _ t (found m low (skip_covers (has t) m (step ++ concat steps) ds covers lacks))

  pub units_found : t.0 ≢ 0 → (units : List (List (List ℕ))) (m : Mask) → IsWithin m t → Covers (has t) m (dims_of units) → AllByRecursion (Takes (has t)) units
      → Contains (masks_with cap (mask_units units) m) t
  units_found some [] m low covers takes =
      let same : m ≡ t = mask_same m t (λ d. both (has m d) (has t d) (low d) (λ h. elim (or_cases (has m d) false (covers d h)) [ inl here ↦ here | inr none ↦ absurd (false≢true none) ])) in
      subst (λ x. Contains (unless_empty x) t) (sym same) (subst (λ b. Contains (cond b [] (t ∷ [])) t) (sym (ne_eqb t.0 0 some)) (0, omega arith, refl))
    where
      both : (x y : Bool) → (x ≡ true → y ≡ true) → (y ≡ true → x ≡ true) → x ≡ y
      both true y to from = sym (to refl)
      both false true to from = from refl
      both false false to from = refl
  units_found some (unit ∷ units) m low covers takes =
      fronts_found (masks_with cap (mask_units units)) (dims_of units) (λ k low_k covers_k. units_found some units k low_k covers_k takes.1) unit m low covers takes.0

-- ---- and what is found takes a front of each unit
pub record IsFound (cap : Option ℕ) (m t : Mask) (ds : List ℕ) : Type 0 where
  pub above : IsWithin m t
  pub covered : Covers (has t) m ds
  pub capped : is_capped cap m ≡ true → is_capped cap t ≡ true
  pub some : t.0 ≢ 0

module _ (cap : Option ℕ) (t : Mask) where
  found_more : (m : Mask) (step ds : List ℕ) → is_capped cap (joined m (mask_of step)) ≡ true → IsFound cap (joined m (mask_of step)) t ds → IsFound cap m t (step ++ ds)
  found_more m step ds fits w = record {
    above = λ d h. w.above d (has_step m step d ∙ or_left _ _ h);
    covered = λ d h.
        elim (or_cases (has (joined m (mask_of step)) d) (is_among d ds) (w.covered d h)) [
          | inl here ↦
              elim (or_cases (has m d) (is_among d step) (sym (has_step m step d) ∙ here)) [
                | inl old ↦ or_left _ _ old
                | inr new ↦ or_right (has m d) _ (among_left d step ds new)
              ]
          | inr later ↦ or_right (has m d) _ (among_right d step ds later)
        ];
    capped = λ _. w.capped fits;
    some = w.some;
  }

  found_wider : (m : Mask) (front ds : List ℕ) → IsFound cap m t ds → IsFound cap m t (front ++ ds)
  found_wider m front ds w = record {
    above = w.above;
    covered = λ d h. elim (or_cases (has m d) (is_among d ds) (w.covered d h)) [ inl here ↦ or_left _ _ here | inr later ↦ or_right (has m d) _ (among_right d front ds later) ];
    capped = w.capped;
    some = w.some;
  }

  -- of a front that the mask has none of, what is found beside it has none
  lacked : (m : Mask) (front ds : List ℕ) → IsFresh m (front ++ ds) → IsFound cap m t ds → Lacks (has t) front
  lacked m front ds fresh w d at =
      false_from_ne_true (has t d)
      (λ h. elim (or_cases (has m d) (is_among d ds) (w.covered d h)) [
        | inl here ↦ false≢true (sym (fresh.lacks d (among_left d front ds at)) ∙ here)
        | inr later ↦ false≢true (sym ((repeat_parts front ds fresh.once).1 d at) ∙ later)
      ])

  module _ (rest : Mask → List Mask) (ds : List ℕ) (P : Type 0) (found : (m : Mask) → IsFresh m ds → Contains (rest m) t → IsFound cap m t ds × P) where
    one_more : (step : List ℕ) (steps : List (List ℕ)) (m : Mask) (b : Bool) → is_capped cap (joined m (mask_of step)) ≡ b → IsFresh m (step ++ (concat steps ++ ds))
        → (IsFresh (joined m (mask_of step)) (concat steps ++ ds) → Contains (fronts rest cap steps (joined m (mask_of step))) t
        → IsFound cap (joined m (mask_of step)) t (concat steps ++ ds) × (Takes (has t) steps × P))
        → Contains (cond b (fronts rest cap steps (joined m (mask_of step))) []) t → IsFound cap m t (step ++ (concat steps ++ ds)) × (Takes (has t) (step ∷ steps) × P)
    one_more step steps m true fits fresh says at =
        let w = says (fresh_step m step (concat steps ++ ds) fresh) at in
        let has_it : Has (has t) step = λ d mine. w.0.above d (has_step m step d ∙ or_right (has m d) _ mine) in
        (found_more m step (concat steps ++ ds) fits w.0, (inl (has_it, w.1.0), w.1.1))
    one_more step steps m false fits fresh says at = absurd (omega (arith, at.1))

    front_says : (steps : List (List ℕ)) (m : Mask) → IsFresh m (concat steps ++ ds) → Contains (fronts rest cap steps m) t → IsFound cap m t (concat steps ++ ds) × (Takes (has t) steps × P)
    front_says [] m fresh at =
        elim (Contains-append_cases (rest m) [] t at) [
          | inl here ↦ (let w = found m fresh here in (w.0, (tt, w.1)))
          | inr none ↦ absurd (omega (arith, none.1))
        ]
    front_says (step ∷ steps) m fresh at =
        elim (Contains-append_cases (rest m) _ t at) [
          | inl here ↦
              (let w = found m (fresh_rest m (step ++ concat steps) ds fresh) here in
              (found_wider m (step ++ concat steps) ds w.0, (inr (lacked m (step ++ concat steps) ds fresh w.0), w.1)))
          | inr later ↦
              (let same = append_assoc step (concat steps) ds in
              let w = one_more step steps m (is_capped cap (joined m (mask_of step))) refl (subst (λ ls. IsFresh m ls) same fresh) (front_says steps (joined m (mask_of step))) later in
              (subst (λ ls. IsFound cap m t ls) (sym same) w.0, w.1))
        ]

  found_alone : (m : Mask) (b : Bool) → eqb m.0 0 ≡ b → Contains (cond b [] (m ∷ [])) t → (m ≡ t) × (m.0 ≢ 0)
  found_alone m true e at = absurd (omega (arith, at.1))
  found_alone m false e at = (
    All-contains (λ x. m ≡ x) (m ∷ []) t (All-cons (λ x. m ≡ x) m [] refl (All-nil (λ x. m ≡ x))) at,
    eqb-false m.0 0 e,
  )

  pub units_say : (units : List (List (List ℕ))) (m : Mask) → IsFresh m (dims_of units) → Contains (masks_with cap (mask_units units) m) t
      → IsFound cap m t (dims_of units) × AllByRecursion (Takes (has t)) units
  units_say [] m fresh at =
      let w = found_alone m (eqb m.0 0) refl at in (
        record {
          above = λ d h. ap (λ x. has x d) (sym w.0) ∙ h;
          covered = λ d h. or_left _ _ (ap (λ x. has x d) w.0 ∙ h);
          capped = λ fits. ap (is_capped cap) (sym w.0) ∙ fits;
          some = λ e. w.1 (ap (λ (x : Mask). x.0) w.0 ∙ e);
        },
        tt,
      )
  units_say (unit ∷ units) m fresh at =
      let w = front_says (masks_with cap (mask_units units)) (dims_of units) (AllByRecursion (Takes (has t)) units) (units_say units) unit m fresh at in
      (w.0, (w.1.0, w.1.1))
