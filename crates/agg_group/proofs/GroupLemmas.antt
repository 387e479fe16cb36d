-- The masks of a group are those of the sets that it gives.
use Rattle.std.proofs.Common.{◌≡◌, ◌≢◌, ℕ, zero, suc, ◌<◌, ◌≤◌, Bool, true, false, ◌||◌, cond, eqb, List, [], ◌∷◌, ◌++◌, length, get_or, map, count_by, All, Contains, IsTrue, Option, None, ◌↔◌, refl, sym, ap, ◌∙◌, subst, inl, inr, arith, append_assoc}
use Rattle.std.specs.Prelude.{AllPairs}
use Rattle.std.specs.List.{AllByRecursion, concat, list_any}
use Rattle.std.proofs.lemmas.Bool.{cases_Bool, or_cases, or_parts, or_from, or_left, or_right, eqb-true, eq-eqb, ltb-false, not-true, not_from_false, false≢true, false_from_ne_true}
use Rattle.std.proofs.lemmas.List.{append-nil}
use Rattle.std.proofs.lemmas.List.Folds.{concat-append, list_any-append}
use Rattle.std.proofs.lemmas.List.Concat.{flat_map-append}
use Rattle.std.proofs.lemmas.List.Elements.{All-cons, All-append, All-contains, All-from_recursion, recursion_from_All, Contains-get_or}
use Rattle.agg_group.specs.declared.mask.Mask.{Mask}
use Rattle.agg_group.specs.declared.fault.GroupFault.{GroupFault}
use Rattle.agg_group.specs.Sets.{is_among, KeepsHierarchy, KeepsJoint}
use Rattle.agg_group.specs.Mask.{has, IsWithin}
use Rattle.agg_group.specs.Rules.{Rules, rule_lists, IsGiven, AreDimensions, HasDimensions}
use Rattle.agg_group.specs.Faults.{has_repeat, has_other, repeats, strays, overlaps, is_in_two, lacks_includes, otherwise, group_fault, IsSound}
use Rattle.agg_group.specs.Units.{members, whole, is_free, free_dimensions, units_of, mask_of, mask_units, is_capped, masks_with, group_masks}
use Rattle.agg_group.proofs.MaskLemmas.{mask_same, has-mask_of, has_none_of_zero, capped_within, capped_says, capped_tested}
use Rattle.agg_group.proofs.RepeatLemmas.{among_decides, either_list, among_concat, repeat_parts, repeat_append, concat_once, lists_below, filter_among, among_filter, filter_once, no_list_strays}
use Rattle.agg_group.proofs.ListLemmas.{overlap_at}
use Rattle.agg_group.proofs.UnitLemmas.{Takes, dims_of, Covers, IsFresh, units_found, units_say}

-- ---- what the faultless lists say
unfaulty : (b : Bool) (f : GroupFault) (rest : Option GroupFault) → otherwise b f rest ≡ None → (b ≡ false) × (rest ≡ None)
unfaulty true f rest e = absurd cc
unfaulty false f rest e = (refl, e)

record IsApart (g : Rules) : Type 0 where
  once_included : has_repeat g.includes ≡ false
  once_lists : list_any has_repeat (rule_lists g) ≡ false
  inside : list_any (has_other g.includes) (rule_lists g) ≡ false
  one_rule : overlaps g ≡ false

apart_of : (g : Rules) → group_fault g ≡ None → IsApart g
apart_of g e =
    let some = unfaulty (lacks_includes g) _ _ e in
    let once = unfaulty (repeats g) _ _ some.1 in
    let inside = unfaulty (strays g) _ _ once.1 in
    let one = unfaulty (overlaps g) _ _ inside.1 in
    let r3 = or_parts (has_repeat g.includes || has_repeat g.mandatory || list_any has_repeat g.hierarchies) (list_any has_repeat g.joints) once.0 in
    let r2 = or_parts (has_repeat g.includes || has_repeat g.mandatory) (list_any has_repeat g.hierarchies) r3.0 in
    let r1 = or_parts (has_repeat g.includes) (has_repeat g.mandatory) r2.0 in
    let s2 = or_parts (has_other g.includes g.mandatory || list_any (has_other g.includes) g.hierarchies) (list_any (has_other g.includes) g.joints) inside.0 in
    let s1 = or_parts (has_other g.includes g.mandatory) (list_any (has_other g.includes) g.hierarchies) s2.0 in
    record {
      once_included = r1.0;
      once_lists = or_from (has_repeat g.mandatory) _ r1.1 (list_any-append has_repeat g.hierarchies g.joints ∙ or_from _ _ r2.1 r3.1);
      inside = or_from (has_other g.includes g.mandatory) _ s1.0 (list_any-append (has_other g.includes) g.hierarchies g.joints ∙ or_from _ _ s1.1 s2.1);
      one_rule = one.0;
    }

-- ---- the units' dimensions
concat_members : (ds : List ℕ) → concat (members ds) ≡ ds
concat_members [] = refl
concat_members (d ∷ ds) = ap (λ l. d ∷ l) (concat_members ds)

dims-members : (lists : List (List ℕ)) → dims_of (map members lists) ≡ concat lists
dims-members [] = refl
dims-members (l ∷ lists) = ap (λ x. x ++ dims_of (map members lists)) (concat_members l) ∙ ap (λ x. l ++ x) (dims-members lists)

dims-whole : (lists : List (List ℕ)) → dims_of (map whole lists) ≡ concat lists
dims-whole [] = refl
dims-whole (l ∷ lists) = ap (λ x. x ++ dims_of (map whole lists)) (append-nil l) ∙ ap (λ x. l ++ x) (dims-whole lists)

dims-single : (ds : List ℕ) → dims_of (map (λ d. whole (d ∷ [])) ds) ≡ ds
dims-single [] = refl
dims-single (d ∷ ds) = ap (λ l. d ∷ l) (dims-single ds)

rule_dims : (g : Rules) → dims_of (units_of g) ≡ concat g.hierarchies ++ (concat g.joints ++ free_dimensions g)
rule_dims g =
    flat_map-append concat (map members g.hierarchies) (map whole g.joints ++ map (λ d. whole (d ∷ [])) (free_dimensions g))
    ∙ ap (λ x. x ++ dims_of (map whole g.joints ++ map (λ d. whole (d ∷ [])) (free_dimensions g))) (dims-members g.hierarchies)
    ∙ ap (λ x. concat g.hierarchies ++ x)
    (flat_map-append concat (map whole g.joints) (map (λ d. whole (d ∷ [])) (free_dimensions g))
    ∙ ap (λ x. x ++ dims_of (map (λ d. whole (d ∷ [])) (free_dimensions g))) (dims-whole g.joints)
    ∙ ap (λ x. concat g.joints ++ x) (dims-single (free_dimensions g)))

-- the dimensions of all rules, and then the free ones
all_dims : (g : Rules) → concat (rule_lists g) ++ free_dimensions g ≡ g.mandatory ++ dims_of (units_of g)
all_dims g =
    ap (λ x. (g.mandatory ++ x) ++ free_dimensions g) (concat-append g.hierarchies g.joints)
    ∙ append_assoc g.mandatory (concat g.hierarchies ++ concat g.joints) (free_dimensions g)
    ∙ ap (λ x. g.mandatory ++ x) (append_assoc (concat g.hierarchies) (concat g.joints) (free_dimensions g) ∙ sym (rule_dims g))

-- the mandatory dimensions and those of the units stand once
fresh_of : (g : Rules) → IsApart g → HasDimensions g → IsFresh (mask_of g.mandatory) (dims_of (units_of g))
fresh_of g w fits =
    let lists : All AreDimensions (rule_lists g) =
    All-cons AreDimensions g.mandatory (g.hierarchies ++ g.joints) fits.mandatory (All-append AreDimensions g.hierarchies g.joints fits.hierarchies fits.joints) in
    let few : (d : ℕ) → is_among d (concat (rule_lists g)) ≡ true → count_by (is_among d) (rule_lists g) ≤ 1 =
    λ d at. ltb-false 1 (count_by (is_among d) (rule_lists g))
    (false_from_ne_true (is_in_two (rule_lists g) d) (λ h. false≢true (sym w.one_rule ∙ overlap_at g d (lists_below d (rule_lists g) lists at) h))) in
    let ruled : has_repeat (concat (rule_lists g)) ≡ false = concat_once (rule_lists g) w.once_lists few in
    let apart : (d : ℕ) → is_among d (concat (rule_lists g)) ≡ true → is_among d (free_dimensions g) ≡ false =
    λ d at. false_from_ne_true (is_among d (free_dimensions g))
    (λ h. false≢true (sym (not-true (list_any (is_among d) (rule_lists g)) (filter_among (is_free g) d g.includes h).1) ∙ sym (among_concat d (rule_lists g)) ∙ at)) in
    let once : has_repeat (g.mandatory ++ dims_of (units_of g)) ≡ false =
    subst (λ ds. has_repeat ds ≡ false) (all_dims g) (repeat_append (concat (rule_lists g)) (free_dimensions g) ruled (filter_once (is_free g) g.includes w.once_included) apart) in
    let parts = repeat_parts g.mandatory (dims_of (units_of g)) once in
    record {
      once = parts.0;
      lacks = λ d at. has-mask_of g.mandatory d ∙ false_from_ne_true (is_among d g.mandatory) (λ h. false≢true (sym (parts.1 d h) ∙ at));
    }

-- they are the included dimensions
covered_is : (g : Rules) (d : ℕ) → (has (mask_of g.mandatory) d || is_among d (dims_of (units_of g))) ≡ (is_among d (concat (rule_lists g)) || is_among d (free_dimensions g))
covered_is g d =
    ap (λ b. b || is_among d (dims_of (units_of g))) (has-mask_of g.mandatory d) ∙ sym (either_list d g.mandatory (dims_of (units_of g)))
    ∙ ap (λ ds. is_among d ds) (sym (all_dims g)) ∙ either_list d (concat (rule_lists g)) (free_dimensions g)

included : (g : Rules) → IsApart g → (d : ℕ) → (has (mask_of g.mandatory) d || is_among d (dims_of (units_of g))) ≡ true → is_among d g.includes ≡ true
included g w d h =
    elim (or_cases (is_among d (concat (rule_lists g))) (is_among d (free_dimensions g)) (sym (covered_is g d) ∙ h)) [
      | inl ruled ↦ no_list_strays g.includes d (rule_lists g) w.inside ruled
      | inr free ↦ (filter_among (is_free g) d g.includes free).0
    ]

covering : (g : Rules) (d : ℕ) → is_among d g.includes ≡ true → (has (mask_of g.mandatory) d || is_among d (dims_of (units_of g))) ≡ true
covering g d h =
    covered_is g d
    ∙ elim (cases_Bool (list_any (is_among d) (rule_lists g))) [
      | inl ruled ↦ or_left (is_among d (concat (rule_lists g))) (is_among d (free_dimensions g)) (among_concat d (rule_lists g) ∙ ruled)
      | inr none ↦ or_right (is_among d (concat (rule_lists g))) (is_among d (free_dimensions g)) (among_filter (is_free g) d g.includes (not_from_false _ none) h)
    ]

-- ---- a set that has each dimension of a list, or none
all_has : (s : ℕ → Bool) (b : Bool) (ds : List ℕ) → All (λ d. s d ≡ b) ds → (d : ℕ) → is_among d ds ≡ true → s d ≡ b
all_has s b ds all d at = All-contains (λ x. s x ≡ b) ds d all ((among_decides d ds).0 at)

has_all : (s : ℕ → Bool) (b : Bool) (ds : List ℕ) → ((d : ℕ) → is_among d ds ≡ true → s d ≡ b) → All (λ d. s d ≡ b) ds
has_all s b ds h = λ k d low. h (get_or ds k d) ((among_decides (get_or ds k d) ds).1 (Contains-get_or ds k d low))

-- ---- a front of a hierarchy
hierarchy_taken : (s : ℕ → Bool) (ds : List ℕ) → KeepsHierarchy s ds → Takes s (members ds)
hierarchy_taken s [] h = tt
hierarchy_taken s (d ∷ ds) h =
    elim (cases_Bool (s d)) [
      | inl passes ↦ inl (
        λ e at. elim (or_cases (eqb d e) false at) [ inl same ↦ ap s (sym (eqb-true d e same)) ∙ passes | inr none ↦ absurd (false≢true none) ],
        hierarchy_taken s ds (λ i j e lt low. h (suc i) (suc j) e (omega arith) (omega arith)),
      )
      | inr fails ↦ inr
          (λ e at. elim (or_cases (eqb d e) (is_among e (concat (members ds))) at) [
            | inl same ↦ ap s (sym (eqb-true d e same)) ∙ fails
            | inr later ↦
                (let there = (among_decides e ds).0 (ap (λ l. is_among e l) (sym (concat_members ds)) ∙ later) in
                false_from_ne_true (s e)
                (λ has_it. false≢true (sym fails ∙ h 0 (suc there.0) e (omega arith) (omega (arith, there.1)) (ap s there.2 ∙ has_it))))
          ])
    ]

pairs_cons : (R : ℕ → ℕ → Type 0) (x : ℕ) (xs : List ℕ) → All (R x) xs → AllPairs R xs → AllPairs R (x ∷ xs)
pairs_cons R x xs a p = λ i j d lt low. at i j d lt low
  where
    at : (i j : ℕ) (d : ℕ) → i < j → j < length (x ∷ xs) → R (get_or (x ∷ xs) i d) (get_or (x ∷ xs) j d)
    at zero zero d lt low = absurd (omega arith)
    at zero (suc j) d lt low = a j d (omega arith)
    at (suc i) zero d lt low = absurd (omega arith)
    at (suc i) (suc j) d lt low = p i j d (omega arith) (omega arith)

hierarchy_kept : (s : ℕ → Bool) (ds : List ℕ) → Takes s (members ds) → KeepsHierarchy s ds
hierarchy_kept s [] takes = λ i j d lt low. absurd (omega arith)
hierarchy_kept s (d ∷ ds) (inl takes) =
    pairs_cons (λ earlier later. IsTrue (s later) → IsTrue (s earlier)) d ds (λ k e low has_it. takes.0 d (or_left (eqb d d) false (eq-eqb d d refl))) (hierarchy_kept s ds takes.1)
hierarchy_kept s (d ∷ ds) (inr lacks) = λ i j e lt low has_it.
    let at = (among_decides (get_or (d ∷ ds) j e) (d ∷ ds)).1 (Contains-get_or (d ∷ ds) j e low) in
    absurd (false≢true (sym (lacks (get_or (d ∷ ds) j e) (ap (λ l. is_among (get_or (d ∷ ds) j e) (d ∷ l)) (concat_members ds) ∙ at)) ∙ has_it))

-- ---- a joint, and a dimension alone
joint_taken : (s : ℕ → Bool) (ds : List ℕ) → KeepsJoint s ds → Takes s (whole ds)
joint_taken s ds (inl all) = inl (all_has s true ds all, tt)
joint_taken s ds (inr none) = inr (λ d at. all_has s false ds none d (ap (λ l. is_among d l) (sym (append-nil ds)) ∙ at))

joint_kept : (s : ℕ → Bool) (ds : List ℕ) → Takes s (whole ds) → KeepsJoint s ds
joint_kept s ds (inl takes) = inl (has_all s true ds takes.0)
joint_kept s ds (inr lacks) = inr (has_all s false ds (λ d at. lacks d (ap (λ l. is_among d l) (append-nil ds) ∙ at)))

single_taken : (s : ℕ → Bool) (d : ℕ) → Takes s (whole (d ∷ []))
single_taken s d =
    let is_it : (e : ℕ) → is_among e (d ∷ []) ≡ true → d ≡ e =
    λ e at. elim (or_cases (eqb d e) false at) [ inl same ↦ eqb-true d e same | inr none ↦ absurd (false≢true none) ] in
    elim (cases_Bool (s d)) [
      | inl passes ↦ inl (λ e at. ap s (sym (is_it e at)) ∙ passes, tt)
      | inr fails ↦ inr (λ e at. ap s (sym (is_it e at)) ∙ fails)
    ]

-- ---- all units
module _ {X : Type 0} (P : List (List ℕ) → Type 0) where
  each_unit : (f : X → List (List ℕ)) (xs : List X) → AllByRecursion (λ x. P (f x)) xs → AllByRecursion P (map f xs)
  each_unit f [] h = tt
  each_unit f (x ∷ xs) h = (h.0, each_unit f xs h.1)

  unit_each : (f : X → List (List ℕ)) (xs : List X) → AllByRecursion P (map f xs) → AllByRecursion (λ x. P (f x)) xs
  unit_each f [] h = tt
  unit_each f (x ∷ xs) h = (h.0, unit_each f xs h.1)

module _ (P : List (List ℕ) → Type 0) where
  both_units : (us vs : List (List (List ℕ))) → AllByRecursion P us → AllByRecursion P vs → AllByRecursion P (us ++ vs)
  both_units [] vs a b = b
  both_units (u ∷ us) vs a b = (a.0, both_units us vs a.1 b)

  units_both : (us vs : List (List (List ℕ))) → AllByRecursion P (us ++ vs) → AllByRecursion P us × AllByRecursion P vs
  units_both [] vs h = (tt, h)
  units_both (u ∷ us) vs h = let w = units_both us vs h.1 in ((h.0, w.0), w.1)

weaker : {X : Type 0} (P Q : X → Type 0) → ((x : X) → P x → Q x) → (xs : List X) → AllByRecursion P xs → AllByRecursion Q xs
weaker P Q to [] h = tt
weaker P Q to (x ∷ xs) h = (to x h.0, weaker P Q to xs h.1)

always : {X : Type 0} (P : X → Type 0) → ((x : X) → P x) → (xs : List X) → AllByRecursion P xs
always P h [] = tt
always P h (x ∷ xs) = (h x, always P h xs)

units_taken : (g : Rules) (s : ℕ → Bool) → All (KeepsHierarchy s) g.hierarchies → All (KeepsJoint s) g.joints → AllByRecursion (Takes s) (units_of g)
units_taken g s hierarchies joints =
    both_units (Takes s) (map members g.hierarchies) _
    (each_unit (Takes s) members g.hierarchies (weaker (KeepsHierarchy s) (λ ds. Takes s (members ds)) (hierarchy_taken s) g.hierarchies (recursion_from_All (KeepsHierarchy s) g.hierarchies hierarchies)))
    (both_units (Takes s) (map whole g.joints) _
    (each_unit (Takes s) whole g.joints (weaker (KeepsJoint s) (λ ds. Takes s (whole ds)) (joint_taken s) g.joints (recursion_from_All (KeepsJoint s) g.joints joints)))
    (each_unit (Takes s) (λ d. whole (d ∷ [])) (free_dimensions g) (always (λ d. Takes s (whole (d ∷ []))) (single_taken s) (free_dimensions g))))

units_kept : (g : Rules) (s : ℕ → Bool) → AllByRecursion (Takes s) (units_of g) → All (KeepsHierarchy s) g.hierarchies × All (KeepsJoint s) g.joints
units_kept g s h =
    let first = units_both (Takes s) (map members g.hierarchies) _ h in
    let second = units_both (Takes s) (map whole g.joints) _ first.1 in (
      All-from_recursion (KeepsHierarchy s) g.hierarchies (weaker (λ ds. Takes s (members ds)) (KeepsHierarchy s) (hierarchy_kept s) g.hierarchies (unit_each (Takes s) members g.hierarchies first.0)),
      All-from_recursion (KeepsJoint s) g.joints (weaker (λ ds. Takes s (whole ds)) (KeepsJoint s) (joint_kept s) g.joints (unit_each (Takes s) whole g.joints second.0)),
    )

-- ---- a mask that isn't empty has a dimension
some_of : (m : Mask) (ds : List ℕ) → m.0 ≢ 0 → ((d : ℕ) → has m d ≡ true → is_among d ds ≡ true) → (d : ℕ) × (has m d ≡ true)
some_of m ds some inside =
    elim (cases_Bool (list_any (has m) ds)) [
      | inl any ↦ one_of ds any
      | inr none ↦ absurd
          (some (ap (λ (x : Mask). x.0) (mask_same m (record { 0 = 0 })
          (λ d. false_from_ne_true (has m d) (λ h. false≢true (sym (none_of ds none d (inside d h)) ∙ h)) ∙ sym (has_none_of_zero d)))))
    ]
  where
    one_of : (xs : List ℕ) → list_any (has m) xs ≡ true → (d : ℕ) × (has m d ≡ true)
    one_of [] h = absurd (false≢true h)
    one_of (x ∷ xs) h = elim (or_cases (has m x) (list_any (has m) xs) h) [ inl here ↦ (x, here) | inr later ↦ one_of xs later ]

    none_of : (xs : List ℕ) → list_any (has m) xs ≡ false → (d : ℕ) → is_among d xs ≡ true → has m d ≡ false
    none_of [] h d at = absurd (false≢true at)
    none_of (x ∷ xs) h d at =
        let parts = or_parts (has m x) (list_any (has m) xs) h in
        elim (or_cases (eqb x d) (is_among d xs) at) [ inl same ↦ ap (has m) (sym (eqb-true x d same)) ∙ parts.0 | inr later ↦ none_of xs parts.1 d later ]

-- ---- a group
given_found : (g : Rules) → IsSound g → (m : Mask) (b : Bool) → is_capped g.cap (mask_of g.mandatory) ≡ b
    → Contains (cond b (masks_with g.cap (mask_units (units_of g)) (mask_of g.mandatory)) []) m → IsGiven g (has m)
given_found g sound m true fits at =
    let w = apart_of g sound.faultless in
    let found = units_say g.cap m (units_of g) (mask_of g.mandatory) (fresh_of g w sound.fits) at in
    let kept = units_kept g (has m) found.1 in
    let inside : (d : ℕ) → has m d ≡ true → is_among d g.includes ≡ true = λ d h. included g w d (found.0.covered d h) in
    record {
      some = some_of m g.includes found.0.some inside;
      chosen = λ d h. (among_decides d g.includes).0 (inside d h);
      mandatory = has_all (has m) true g.mandatory (λ d h. found.0.above d (has-mask_of g.mandatory d ∙ h));
      hierarchies = kept.0;
      joints = kept.1;
      capped = capped_says g.cap m (found.0.capped fits);
    }
given_found g sound m false fits at = absurd (omega (arith, at.1))

-- the masks of a group are those of the sets that it gives
pub group_masks_each : (g : Rules) → IsSound g → (m : Mask) → Contains (group_masks g) m ↔ IsGiven g (has m)
unfolding group_masks
group_masks_each g sound m = (
  λ at. given_found g sound m (is_capped g.cap (mask_of g.mandatory)) refl at,
  λ w.
      let some : m.0 ≢ 0 = λ e. false≢true (sym (ap (λ n. has (record { 0 = n }) w.some.0) e ∙ has_none_of_zero w.some.0) ∙ w.some.1) in
      let fits = capped_tested g.cap m w.capped in
      let low : IsWithin (mask_of g.mandatory) m = λ d h. all_has (has m) true g.mandatory w.mandatory d (sym (has-mask_of g.mandatory d) ∙ h) in
      let covers : Covers (has m) (mask_of g.mandatory) (dims_of (units_of g)) = λ d h. covering g d ((among_decides d g.includes).1 (w.chosen d h)) in
      subst (λ b. Contains (cond b (masks_with g.cap (mask_units (units_of g)) (mask_of g.mandatory)) []) m) (sym (capped_within g.cap (mask_of g.mandatory) m low fits))
      (units_found g.cap m fits some (units_of g) (mask_of g.mandatory) low covers (units_taken g (has m) w.hierarchies w.joints)),
)

-- a group whose mandatory dimensions are above its cap has no masks
pub above_cap : (g : Rules) (cap : Option ℕ) (m : Mask) → cap ≡ g.cap → m ≡ mask_of g.mandatory → is_capped cap m ≡ false → group_masks g ≡ []
unfolding group_masks
above_cap g cap m c e above =
    ap (λ b. cond b (masks_with g.cap (mask_units (units_of g)) (mask_of g.mandatory)) []) (ap (λ k. is_capped k (mask_of g.mandatory)) (sym c) ∙ ap (is_capped cap) (sym e) ∙ above)

pub below_cap : (g : Rules) (cap : Option ℕ) (m : Mask) (units : List (List Mask)) → cap ≡ g.cap → m ≡ mask_of g.mandatory → units ≡ mask_units (units_of g) → is_capped cap m ≡ true
    → group_masks g ≡ masks_with cap units m
unfolding group_masks
below_cap g cap m units c e u fits =
    ap (λ b. cond b (masks_with g.cap (mask_units (units_of g)) (mask_of g.mandatory)) []) (ap (λ k. is_capped k (mask_of g.mandatory)) (sym c) ∙ ap (is_capped cap) (sym e) ∙ fits)
    ∙ ap (λ k. masks_with k (mask_units (units_of g)) (mask_of g.mandatory)) (sym c) ∙ ap (λ us. masks_with cap us (mask_of g.mandatory)) (sym u) ∙ ap (masks_with cap units) (sym e)
