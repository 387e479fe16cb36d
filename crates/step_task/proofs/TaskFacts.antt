-- What a valid task has for its step.
use Rattle.std.proofs.Common.{◌≡◌, ◌≤◌, ◌<◌, ◌+◌, ◌∙◌, ℕ, zero, suc, Bool, true, false, cond, List, [], ◌∷◌, length, Option, Some, None, map, refl, sym, ap, subst, arith, inl, inr}
use Rattle.std.specs.Prelude.{◌&&◌, ◌||◌, eqb, filter, is_some, unwrap_or}
use Rattle.std.specs.List.{list_all, list_any, range_with_len}
use Rattle.std.proofs.lemmas.Bool.{cases_eq, eq-eqb, eqb-true}
use Rattle.std.proofs.lemmas.List.{length-map}
use Rattle.agg_group.specs.declared.mask.Mask.{Mask}
use Rattle.agg_group.specs.Mask.{IsRising, mask_at}
use Rattle.byte_frame.specs.Spelling.{EachFits}
use Rattle.cell_store.specs.Cells.{CellRows}
use Rattle.cube_desc.specs.Cube.{Cube}
use Rattle.cube_fields.specs.Cells.{FitsTable, FitsTables}
use Rattle.cube_fields.specs.Dicts.{FitsDict}
use Rattle.cube_fields.specs.declared.forms.CellTableForm.{CellTableForm}
use Rattle.cube_val.specs.declared.val.Val.{Val}
use Rattle.cuboid_tree.specs.Tree.{is_child, is_of_layer, is_place, parent_of, places}
use Rattle.cuboid_tree.proofs.Parents.{parent_is}
use Rattle.step_codec.specs.Bodies.{FitsHolding}
use Rattle.step_codec.specs.Layouts.{dict_forms, is_above_layer, parent_masks}
use Rattle.cube_desc.specs.Kept.{dict_places}
use Rattle.step_files.specs.Cubes.{dict_column, flat_columns, layout_of}
use Rattle.step_files.proofs.ShortFacts.{each_length}
use Rattle.step_compute.specs.Values.{HasParents, has_mask, is_in_layer, parent_mask}
use Rattle.step_compute.proofs.LayerFacts.{both_true}

-- ---- dictionaries

-- as many dictionaries as the cube has columns with one
pub dicts_counted : (c : Cube) (limit : ℕ) (flat dicts : List (List Val)) → FitsHolding (layout_of c) limit flat dicts → length dicts ≡ length (dict_places c)
unfolding layout_of
dicts_counted c limit flat dicts h =
    each_length FitsDict (dict_forms (layout_of c) limit) dicts h.0
    ∙ length-map (map (dict_column (flat_columns c)) (dict_places c)) _ ∙ length-map (dict_places c) (dict_column (flat_columns c))

-- ---- parents

among_tables : (f : CellTableForm) (ms : List Mask) (tables : List CellRows) (m : Mask) → EachFits (FitsTable f) ms tables → list_any (λ k. eqb k.0 m.0) ms ≡ true → list_any (has_mask m) tables ≡ true
among_tables f [] [] m h e = absurd cc
among_tables f [] (t ∷ tables) m h e = absurd h
among_tables f (k ∷ ms) [] m h e = absurd h
among_tables f (k ∷ ms) (t ∷ tables) m h e =
    by (eqb k.0 m.0) e (ap (λ (x : Mask). eqb x.0 m.0) h.0.mask) (among_tables f ms tables m h.1) where
      by : (b : Bool) → (b || list_any (λ k. eqb k.0 m.0) ms) ≡ true → eqb t.mask.0 m.0 ≡ b → (list_any (λ k. eqb k.0 m.0) ms ≡ true → list_any (has_mask m) tables ≡ true)
          → (eqb t.mask.0 m.0 || list_any (has_mask m) tables) ≡ true
      by true e same rest = ap (λ b. b || list_any (has_mask m) tables) same
      by false e same rest = ap (λ b. b || list_any (has_mask m) tables) same ∙ rest e

later : (a b : Bool) → b ≡ true → (a || b) ≡ true
later true b e = refl
later false b e = e

abbrev found : List Mask → ℕ → List ℕ → Bool
found masks p l = list_any (λ k. eqb k.0 (mask_at masks p).0) (map (mask_at masks) l)

-- a place that passes is among those that are kept
kept_mask : (masks : List Mask) (test : ℕ → Bool) (p : ℕ) (ks : List ℕ) → list_any (λ k. eqb k p) ks ≡ true → test p ≡ true
    → list_any (λ k. eqb k.0 (mask_at masks p).0) (map (mask_at masks) (filter test ks)) ≡ true
kept_mask masks test p [] e h = absurd cc
kept_mask masks test p (k ∷ ks) e h = by (eqb k p) refl (test k) refl e (λ g. kept_mask masks test p ks g h) where
  by : (a : Bool) → eqb k p ≡ a → (b : Bool) → test k ≡ b → (a || list_any (λ k. eqb k p) ks) ≡ true → (list_any (λ k. eqb k p) ks ≡ true → found masks p (filter test ks) ≡ true) → found masks p (cond b (k ∷ filter test ks) (filter test ks)) ≡ true
  by true is true passes e rest =
      let same : k ≡ p = eqb-true k p is in
      ap (λ b. b || found masks p (filter test ks)) (eq-eqb (mask_at masks k).0 (mask_at masks p).0 (ap (λ q. (mask_at masks q).0) same))
  by true is false passes e rest = absurd (let same : k ≡ p = eqb-true k p is in let t = ap test same in cc)
  by false is true passes e rest = later (eqb (mask_at masks k).0 (mask_at masks p).0) (found masks p (filter test ks)) (rest e)
  by false is false passes e rest = rest e

-- a test that passes at a place of a range passes somewhere
any_in_range : (t : ℕ → Bool) (a n i : ℕ) → a ≤ i → i < a + n → t i ≡ true → list_any t (range_with_len a n) ≡ true
any_in_range t a zero i low high h = absurd (omega arith)
any_in_range t a (suc n) i low high h = elim (cases_eq a i) [
  | inl same ↦ ap (λ b. b || list_any t (range_with_len (a + 1) n)) (ap t same ∙ h)
  | inr ne ↦ later (t a) (list_any t (range_with_len (a + 1) n)) (any_in_range t (a + 1) n i (omega (arith, ne)) (omega arith) h)
]

all_in_range : (q t : ℕ → Bool) (a n : ℕ) → ((i : ℕ) → a ≤ i → i < a + n → q i ≡ true → t i ≡ true) → list_all t (filter q (range_with_len a n)) ≡ true
all_in_range q t a zero each = refl
all_in_range q t a (suc n) each = by (q a) refl (all_in_range q t (a + 1) n (λ i low high h. each i (omega (arith, low)) (omega (arith, high)) h)) where
  by : (b : Bool) → q a ≡ b → list_all t (filter q (range_with_len (a + 1) n)) ≡ true → list_all t (cond b (a ∷ filter q (range_with_len (a + 1) n)) (filter q (range_with_len (a + 1) n))) ≡ true
  by true is rest = let own : t a ≡ true = each a (omega arith) (omega arith) is in ap (λ b. b && list_all t (filter q (range_with_len (a + 1) n))) own ∙ rest
  by false is rest = rest

-- the table of the parent of each cuboid of a layer is there
pub parents_are : (masks : List Mask) (dims : ℕ) (f : CellTableForm) (parents : List CellRows) → IsRising masks → FitsTables f (parent_masks masks dims) parents → HasParents masks dims parents
parents_are masks dims f parents rising h = all_in_range (is_in_layer masks dims) (λ i. list_any (has_mask (parent_mask masks i)) parents) 0 (length masks) each where
  each : (i : ℕ) → 0 ≤ i → i < 0 + length masks → is_in_layer masks dims i ≡ true → list_any (has_mask (parent_mask masks i)) parents ≡ true
  each i low high e = by (parent_of masks i) refl (both_true (is_of_layer masks dims i) (is_some (parent_of masks i)) e) where
    by : (o : Option ℕ) → parent_of masks i ≡ o → (is_of_layer masks dims i ≡ true) × (is_some (parent_of masks i) ≡ true) → list_any (has_mask (parent_mask masks i)) parents ≡ true
    by None is g = absurd (let t = g.1 in cc)
    by (Some p) is g =
        let own = parent_is masks i p rising is in
        let child : is_child masks p i ≡ true = ap (λ o. is_place o p) is ∙ eq-eqb p p refl in
        let below : (is_of_layer masks dims i && is_child masks p i) ≡ true = ap (λ b. b && is_child masks p i) g.0 ∙ child in
        let above : is_above_layer masks dims p ≡ true = any_in_range (λ i. is_of_layer masks dims i && is_child masks p i) 0 (length masks) i low high below in
        let there = kept_mask masks (is_above_layer masks dims) p (places masks) (any_in_range (λ k. eqb k p) 0 (length masks) p (omega arith) (omega (arith, own.inside)) (eq-eqb p p refl)) above in
        let parent : parent_mask masks i ≡ mask_at masks p = ap (λ o. mask_at masks (unwrap_or o 0)) is in
        subst (λ (m : Mask). list_any (has_mask m) parents ≡ true) (sym parent) (among_tables f (parent_masks masks dims) parents (mask_at masks p) h there)
