-- The cuboids of a layer are valid tables.
use Rattle.std.proofs.Common.{◌<◌, ◌^◌, ℕ, zero, suc, List, [], ◌∷◌, length, get_or, map, refl, sym, subst, arith}
use Rattle.std.specs.List.{AllByRecursion, position_or_len, range_with_len}
use Rattle.agg_group.specs.declared.mask.Mask.{Mask}
use Rattle.agg_group.specs.Mask.{IsRising, IsWithin, mask_at}
use Rattle.byte_frame.specs.Spelling.{EachFits}
use Rattle.cell_store.specs.Cells.{CellRows}
use Rattle.cube_fields.specs.Cells.{FitsRow, FitsTable, FitsTables, sizes_in}
use Rattle.cube_fields.specs.declared.forms.CellTableForm.{CellTableForm}
use Rattle.layer_builder.specs.Layers.{HasParent}
use Rattle.step_codec.specs.Layouts.{layer_masks}
use Rattle.step_compute.specs.Values.{HasParents, has_mask, is_in_layer, layer_places, layer_value, no_table, parent_mask, regrouped, table_with}
use Rattle.step_compute.specs.Wants.{want_of}
use Rattle.step_compute.proofs.LayerFacts.{all_pass, wants_have}
use Rattle.step_task.proofs.GroupFits.{AreExtremes, gathered_fits}

-- a table that fits a mask fits its own
fits_own : (f : CellTableForm) (m : Mask) (t : CellRows) → FitsTable f m t → FitsTable f t.mask t
fits_own f m t h = record {
  mask = refl;
  measures = h.measures;
  rows = subst (λ (k : Mask). AllByRecursion (FitsRow (sizes_in f.sizes k) f) t.rows) (sym h.mask) h.rows;
  rising = h.rising;
  few = h.few;
}

all_own : (f : CellTableForm) (ms : List Mask) (tables : List CellRows) → EachFits (FitsTable f) ms tables → AllByRecursion (λ (t : CellRows). FitsTable f t.mask t) tables
all_own f [] [] h = tt
all_own f [] (t ∷ tables) h = absurd h
all_own f (m ∷ ms) [] h = absurd h
all_own f (m ∷ ms) (t ∷ tables) h = (fits_own f m t h.0, all_own f ms tables h.1)

at_place : {X : Type 0} (P : X → Type 0) (xs : List X) (i : ℕ) (d : X) → AllByRecursion P xs → i < length xs → P (get_or xs i d)
at_place P [] i d all lt = absurd (omega arith)
at_place P (x ∷ xs) zero d all lt = all.0
at_place P (x ∷ xs) (suc i) d all lt = at_place P xs i d all.1 (omega arith)

-- a valid table, gathered by some of its dimensions
regrouped_fits : (f : CellTableForm) (t : CellRows) (m : Mask) → FitsTable f t.mask t → IsWithin m t.mask → AllByRecursion (AreExtremes f.cells) f.extremes → FitsTable f m (regrouped t m)
regrouped_fits f t m h within extremes =
    let own = gathered_fits f t.mask m t.rows within h.rows h.few extremes in
    subst (λ forms. FitsTable f m (regrouped (record t { forms = forms }) m)) (sym h.measures) own

each_mapped : {C A : Type 0} (F : C → A → Type 0) (g : ℕ → C) (h : ℕ → A) (ks : List ℕ) → AllByRecursion (λ i. F (g i) (h i)) ks → EachFits F (map g ks) (map h ks)
each_mapped F g h [] all = tt
each_mapped F g h (k ∷ ks) all = (all.0, each_mapped F g h ks all.1)

all_wanted : {X : Type 0} (P : X → Type 0) (Q : ℕ → Type 0) (f : ℕ → X) (ks : List ℕ) → ((i : ℕ) → P (f i) → Q i) → AllByRecursion P (map f ks) → AllByRecursion Q ks
all_wanted P Q f [] each all = tt
all_wanted P Q f (k ∷ ks) each all = (each k all.0, all_wanted P Q f ks each all.1)

-- the cuboids of a layer, made from valid tables of their parents
pub layer_fits : (f : CellTableForm) (masks : List Mask) (dims : ℕ) (ms : List Mask) (parents : List CellRows) → IsRising masks → ((i : ℕ) → (mask_at masks i).0 < 2 ^ 64)
    → FitsTables f ms parents → HasParents masks dims parents → AllByRecursion (AreExtremes f.cells) f.extremes → FitsTables f (layer_masks masks dims) (layer_value masks dims parents)
layer_fits f masks dims ms parents rising small h there extremes =
    let ks = layer_places masks dims in
    let own = all_own f ms parents h in
    let wanted = wants_have masks dims parents ks rising small (all_pass (is_in_layer masks dims) (range_with_len 0 (length masks))) there in
    each_mapped (FitsTable f) (mask_at masks) (λ i. regrouped (table_with parents (parent_mask masks i)) (mask_at masks i)) ks
    (all_wanted (HasParent parents) (λ i. FitsTable f (mask_at masks i) (regrouped (table_with parents (parent_mask masks i)) (mask_at masks i))) (want_of masks parents) ks
    (λ i has. regrouped_fits f (table_with parents (parent_mask masks i)) (mask_at masks i)
    (at_place (λ (t : CellRows). FitsTable f t.mask t) parents (position_or_len (has_mask (parent_mask masks i)) parents) no_table own has.there) (has.within no_table) extremes)
    wanted)
