-- The wanted cuboids of a layer, and their tables.
use Rattle.std.proofs.Common.{◌≡◌, ◌∙◌, ◌<◌, ◌≤◌, ◌+◌, ◌^◌, ◌++◌, ◌∷◌, [], ℕ, zero, suc, Bool, true, false, List, Option, Some, None, ap, arith, get_or, length, refl, subst, sym, cond, Result, Ok, Err, OnOk, IfOk, Vec, Global}
use Rattle.std.specs.Prelude.{◌&&◌, ◌||◌, eqb, filter, is_ok, is_some, map, not, unwrap_or}
use Rattle.std.specs.List.{AllByRecursion, AllZip, list_all, list_any, position_or_len}
use Rattle.std.proofs.Math.Nat.{pow-le-pow_right}
use Rattle.std.proofs.lemmas.Bool.{eqb-true}
use Rattle.std.proofs.lemmas.List.Elements.{recursion_from_All}
use Rattle.agg_group.specs.declared.mask.Mask.{Mask}
use Rattle.agg_group.specs.Built.{built_masks}
use Rattle.agg_group.specs.Mask.{IsRising, IsWithin, has, is_within, mask_at}
use Rattle.agg_group.proofs.BuiltLemmas.{built_below, built_has_base, built_rises}
use Rattle.agg_group.proofs.MaskLemmas.{has_past}
use Rattle.agg_group.proofs.SetLemmas.{subset_decides}
use Rattle.cube_desc.specs.Cube.{Cube}
use Rattle.cube_desc.specs.Sound.{IsSound}
use Rattle.cuboid_tree.specs.Tree.{SpansTree, is_of_layer, parent_of}
use Rattle.cuboid_tree.proofs.Parents.{parent_is}
use Rattle.cell_store.specs.Cells.{CellRows}
use Rattle.layer_builder.specs.Layers.{HasParent, IsRegrouped, IsWanted}
use Rattle.layer_builder.specs.declared.layers.Want.{Want}
use Rattle.step_compute.specs.Values.{has_mask, is_in_layer, no_table, parent_mask, regrouped, table_with}
use Rattle.step_compute.specs.Wants.{made_of, want_of}

-- ---- tables

regrouped_is : (parent table : CellRows) (mask : Mask) → IsRegrouped parent mask table → table ≡ regrouped parent mask
regrouped_is parent table mask h = λ i. record { mask = h.mask i; forms = h.forms i; rows = h.rows i }

pub tables_are : (parents : List CellRows) (wants : List Want) (tables : List CellRows) → AllZip (IsWanted parents) wants tables → tables ≡ map (made_of parents) wants
tables_are parents [] [] h = refl
tables_are parents [] (t ∷ tables) h = absurd h
tables_are parents (w ∷ wants) [] h = absurd h
tables_are parents (w ∷ wants) (t ∷ tables) h =
    let own = regrouped_is (get_or parents w.parent no_table) t w.mask (h.0 no_table) in
    let rest = tables_are parents wants tables h.1 in
    λ i. own i ∷ rest i

-- ---- parents

has_true : (b : Bool) (n : ℕ) → b ≡ true → cond (not b) n 0 ≡ 0
has_true true n e = refl
has_true false n e = absurd cc

-- a test that passes somewhere passes at the first such place
pub first_passes : {X : Type 0} (t : X → Bool) (xs : List X) (d : X) → list_any t xs ≡ true → (position_or_len t xs < length xs) × (t (get_or xs (position_or_len t xs) d) ≡ true)
first_passes t [] d e = absurd cc
first_passes t (x ∷ xs) d e = by (t x) refl e (first_passes t xs d) where
  by : (b : Bool) → t x ≡ b → (b || list_any t xs) ≡ true → (list_any t xs ≡ true → (position_or_len t xs < length xs) × (t (get_or xs (position_or_len t xs) d) ≡ true))
      → (position_or_len t (x ∷ xs) < length (x ∷ xs)) × (t (get_or (x ∷ xs) (position_or_len t (x ∷ xs)) d) ≡ true)
  by true is e rest =
      let here : position_or_len t (x ∷ xs) ≡ 0 = ap (λ b. cond (not b) (1 + position_or_len t xs) 0) is in
      (omega (arith, here), ap (λ k. t (get_or (x ∷ xs) k d)) here ∙ is)
  by false is e rest =
      let own = rest e in
      let here : position_or_len t (x ∷ xs) ≡ suc (position_or_len t xs) = ap (λ b. cond (not b) (1 + position_or_len t xs) 0) is ∙ omega arith in
      (omega (arith, here, own.0), ap (λ k. t (get_or (x ∷ xs) k d)) here ∙ own.1)

pub both_true : (a b : Bool) → (a && b) ≡ true → (a ≡ true) × (b ≡ true)
both_true true b e = (refl, e)
both_true false b e = absurd cc

pub all_pass : {X : Type 0} (t : X → Bool) (xs : List X) → AllByRecursion (λ x. t x ≡ true) (filter t xs)
all_pass t [] = tt
all_pass t (x ∷ xs) = by (t x) refl (all_pass t xs) where
  by : (b : Bool) → t x ≡ b → AllByRecursion (λ x. t x ≡ true) (filter t xs) → AllByRecursion (λ x. t x ≡ true) (cond b (x ∷ filter t xs) (filter t xs))
  by true is rest = (is, rest)
  by false is rest = rest

-- the parent's table is there, and has the dimensions
want_has : (masks : List Mask) (parents : List CellRows) (i : ℕ) → IsRising masks → (mask_at masks i).0 < 2 ^ 64 → is_some (parent_of masks i) ≡ true → list_any (has_mask (parent_mask masks i)) parents ≡ true → HasParent parents (want_of masks parents i)
want_has masks parents i rising fits some found = by (parent_of masks i) refl some where
  by : (o : Option ℕ) → parent_of masks i ≡ o → is_some o ≡ true → HasParent parents (want_of masks parents i)
  by None e h = absurd cc
  by (Some p) e h =
      let own = parent_is masks i p rising e in
      let parent : parent_mask masks i ≡ mask_at masks p = ap (λ o. mask_at masks (unwrap_or o 0)) e in
      let above = (both_true (is_within (mask_at masks i) (mask_at masks p)) (not (eqb (mask_at masks i).0 (mask_at masks p).0)) own.above).0 in
      record {
        there = (first_passes (has_mask (parent_mask masks i)) parents no_table found).0;
        within = λ d.
            let at = (first_passes (has_mask (parent_mask masks i)) parents d found).1 in
            let table : CellRows = get_or parents (position_or_len (has_mask (parent_mask masks i)) parents) d in
            let same : table.mask ≡ mask_at masks p = ap (λ n. record { 0 = n }) (eqb-true table.mask.0 (parent_mask masks i).0 at) ∙ parent in
            subst (λ (m : Mask). IsWithin (mask_at masks i) m) (sym same) ((subset_decides (has (mask_at masks i)) (has (mask_at masks p)) (has_past (mask_at masks i) fits)).0 above);
      }

pub mask_small : (bound : ℕ) (masks : List Mask) (i : ℕ) → 0 < bound → AllByRecursion (λ (m : Mask). m.0 < bound) masks → (mask_at masks i).0 < bound
mask_small bound [] i some all = some
mask_small bound (m ∷ masks) zero some all = all.0
mask_small bound (m ∷ masks) (suc i) some all = mask_small bound masks i some all.1

-- the masks of a cube are those of few dimensions
pub cube_masks_small : (c : Cube) → IsSound c → (i : ℕ) → (mask_at c.masks i).0 < 2 ^ 64
cube_masks_small c s i =
    let bound = 2 ^ length c.rowkey in
    let some : 0 < bound = pow_some (length c.rowkey) in
    let all = recursion_from_All (λ (m : Mask). m.0 < bound) (built_masks (length c.rowkey) c.groups) (built_below (length c.rowkey) c.groups s.included s.groups) in
    let own = mask_small bound c.masks i some (subst (AllByRecursion (λ (m : Mask). m.0 < bound)) (sym s.masks) all) in
    let wide : bound ≤ 2 ^ 64 = pow-le-pow_right {n = 2} (omega arith) {i = length c.rowkey} {j = 64} (omega (arith, s.few_dimensions)) in
    omega (arith, own, wide)
  where
    pow_some : (n : ℕ) → 0 < 2 ^ n
    pow_some n = pow-le-pow_right {n = 2} (omega arith) {i = 0} {j = n} (omega arith)

pub wants_have : (masks : List Mask) (dims : ℕ) (parents : List CellRows) (ks : List ℕ) → IsRising masks → ((i : ℕ) → (mask_at masks i).0 < 2 ^ 64)
    → AllByRecursion (λ i. is_in_layer masks dims i ≡ true) ks → list_all (λ i. list_any (has_mask (parent_mask masks i)) parents) ks ≡ true → AllByRecursion (HasParent parents) (map (want_of masks parents) ks)
wants_have masks dims parents [] rising small all there = tt
wants_have masks dims parents (i ∷ ks) rising small all there =
    let own = both_true (list_any (has_mask (parent_mask masks i)) parents) (list_all (λ i. list_any (has_mask (parent_mask masks i)) parents) ks) there in
    let some = (both_true (is_of_layer masks dims i) (is_some (parent_of masks i)) all.0).1 in
    (want_has masks parents i rising (small i) some own.0, wants_have masks dims parents ks rising small all.1 own.1)

-- ---- a layer

pub cube_spans : (c : Cube) → IsSound c → SpansTree c.masks
cube_spans c s =
    let base = built_has_base (length c.rowkey) c.groups s.included s.groups in
    subst (λ (ms : List Mask). SpansTree ms) (sym s.masks) (record { some = base.0; rising = built_rises (length c.rowkey) c.groups; base = base.1 })

pub made_are : (masks : List Mask) (parents : List CellRows) (ks : List ℕ) → map (made_of parents) (map (want_of masks parents) ks) ≡ map (λ i. regrouped (table_with parents (parent_mask masks i)) (mask_at masks i)) ks
made_are masks parents [] = refl
made_are masks parents (i ∷ ks) = ap (λ l. regrouped (table_with parents (parent_mask masks i)) (mask_at masks i) ∷ l) (made_are masks parents ks)

pub appended : {E X : Type 0} (r : Result (Unit {0}) E) (new old made wanted : List X) → new ≡ cond (is_ok r) (old ++ made) old → made ≡ wanted → OnOk r (new ≡ old ++ wanted)
appended (Ok u) new old made wanted e g = e ∙ ap (λ l. old ++ l) g
appended (Err x) new old made wanted e g = tt

pub items_are : {E X : Type 0} (r : Result (Vec X Global) E) (xs ys : List X) → xs ≡ ys → IfOk r (λ v. v.items ≡ xs) → IfOk r (λ v. v.items ≡ ys)
items_are (Ok v) xs ys e h = h ∙ e
items_are (Err x) xs ys e h = tt
