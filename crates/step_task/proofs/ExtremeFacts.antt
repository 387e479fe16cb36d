-- The extremes of a layout are the least and the greatest values of one column.
use Rattle.std.proofs.Common.{◌≡◌, ◌+◌, ◌++◌, ◌∙◌, ℕ, zero, suc, Bool, true, false, cond, List, [], ◌∷◌, length, Option, Some, None, map, refl, ap, arith}
use Rattle.std.specs.Prelude.{filter, slice_get}
use Rattle.std.specs.List.{AllByRecursion, flat_map, range_with_len}
use Rattle.cube_desc.specs.declared.kept.Kept.{Kept}
use Rattle.cube_fields.specs.declared.forms.Extremes.{Extremes}
use Rattle.measure_laws.specs.declared.measure.MeasureForm.{MeasureForm}
use Rattle.measure_laws.specs.declared.measure.MeasureForm.TheVariants as measure
use Rattle.measure_laws.specs.Kinds.{item_kind}
use Rattle.step_codec.specs.Layouts.{fields_of, sizes_after}
use Rattle.step_files.specs.Cubes.{are_extremes, are_forms, extremes_at, extremes_of, extremes_with, is_same}
use Rattle.step_task.proofs.CellFits.{form_in}
use Rattle.step_task.proofs.GroupFits.{AreExtremes, both_parts}

-- ---- measures that are kept

pub mapped_at : {X Y : Type 0} (f : X → Y) (xs : List X) (i : ℕ) (x : X) → slice_get xs i ≡ Some x → slice_get (map f xs) i ≡ Some (f x)
mapped_at f [] i x e = absurd cc
mapped_at f (y ∷ xs) zero x e = let same : y ≡ x = cc in ap (λ z. Some (f z)) same
mapped_at f (y ∷ xs) (suc i) x e = mapped_at f xs i x e

-- the fields of forms are of these forms
pub fields_forms : (sizes : List ℕ) (forms : List MeasureForm) → map form_in (fields_of sizes forms) ≡ forms
fields_forms sizes [] = refl
fields_forms sizes (f ∷ forms) = ap (λ l. f ∷ l) (fields_forms (sizes_after (item_kind f) sizes) forms)

abbrev pub forms_kept : List Kept → List MeasureForm
forms_kept ks = map (λ (k : Kept). k.form) ks

-- the form of a measure stands at its place
form_there : (sizes : List ℕ) (ks : List Kept) (i : ℕ) (k : Kept) (f : MeasureForm) → slice_get ks i ≡ Some k → k.form ≡ f → slice_get (map form_in (fields_of sizes (forms_kept ks))) i ≡ Some f
form_there sizes ks i k f e is =
    ap (λ (l : List MeasureForm). slice_get l i) (fields_forms sizes (forms_kept ks)) ∙ mapped_at (λ (q : Kept). q.form) ks i k e ∙ ap (λ (g : MeasureForm). Some g) is

-- ---- pairs of extremes

ends_are : (a b : MeasureForm) → are_forms a b ≡ true → (a ≡ measure.Min) × (b ≡ measure.Max)
ends_are measure.Min measure.Max e = (refl, refl)
ends_are a b e = absurd cc

-- two measures that are extremes of one column
pub record ArePair (ms : List Kept) (i j : ℕ) : Type 0 where
  pub lower : Kept
  pub upper : Kept
  pub lower_at : slice_get ms i ≡ Some lower
  pub upper_at : slice_get ms j ≡ Some upper
  pub lower_is : lower.form ≡ measure.Min
  pub upper_is : upper.form ≡ measure.Max
  pub same : is_same lower.column upper.column ≡ true

pub pair_at : (ms : List Kept) (i j : ℕ) → are_extremes (slice_get ms i) (slice_get ms j) ≡ true → ArePair ms i j
pair_at ms i j e = by (slice_get ms i) (slice_get ms j) refl refl e
  where
    by : (x y : Option Kept) → slice_get ms i ≡ x → slice_get ms j ≡ y → are_extremes x y ≡ true → ArePair ms i j
    by (Some a) (Some b) p q h =
        let both = both_parts (are_forms a.form b.form) (is_same a.column b.column) h in
        let ends = ends_are a.form b.form both.0 in
        record { lower = a; upper = b; lower_at = p; upper_at = q; lower_is = ends.0; upper_is = ends.1; same = both.1 }
    by (Some a) None p q h = absurd cc
    by None y p q h = absurd cc

-- what holds of each pair holds of all extremes
all_joined : {X : Type 0} (P : X → Type 0) (xs ys : List X) → AllByRecursion P xs → AllByRecursion P ys → AllByRecursion P (xs ++ ys)
all_joined P [] ys a b = b
all_joined P (x ∷ xs) ys a b = (a.0, all_joined P xs ys a.1 b)

all_flat : {X : Type 0} (P : X → Type 0) (f : ℕ → List X) → ((i : ℕ) → AllByRecursion P (f i)) → (is : List ℕ) → AllByRecursion P (flat_map f is)
all_flat P f each [] = tt
all_flat P f each (i ∷ is) = all_joined P (f i) (flat_map f is) (each i) (all_flat P f each is)

all_kept : {X : Type 0} (P : X → Type 0) (g : ℕ → X) (q : ℕ → Bool) → ((j : ℕ) → q j ≡ true → P (g j)) → (js : List ℕ) → AllByRecursion P (map g (filter q js))
all_kept P g q each [] = tt
all_kept P g q each (j ∷ js) = by (q j) refl (all_kept P g q each js) where
  by : (b : Bool) → q j ≡ b → AllByRecursion P (map g (filter q js)) → AllByRecursion P (map g (cond b (j ∷ filter q js) (filter q js)))
  by true e rest = (each j e, rest)
  by false e rest = rest

pub all_pairs : (P : Extremes → Type 0) (ks : List Kept) → ((i j : ℕ) → ArePair ks i j → P (extremes_at i j)) → AllByRecursion P (extremes_of ks)
unfolding extremes_of
all_pairs P ks each =
    all_flat P (extremes_with ks)
    (λ i. all_kept P (extremes_at i) (λ j. are_extremes (slice_get ks i) (slice_get ks j)) (λ j e. each i j (pair_at ks i j e)) (range_with_len 0 (length ks)))
    (range_with_len 0 (length ks))

next : (i : ℕ) → i + 1 ≡ suc i
next i = omega arith

-- each pair stands at the places of a least and of a greatest value
pub are_extremes_at : (sizes : List ℕ) (ks : List Kept) → AllByRecursion (AreExtremes (fields_of sizes (forms_kept ks))) (extremes_of ks)
are_extremes_at sizes ks = all_pairs (AreExtremes (fields_of sizes (forms_kept ks))) ks (λ i j pair. record {
  least = i;
  greatest = j;
  at_least = next i;
  at_greatest = next j;
  is_least = form_there sizes ks i pair.lower measure.Min pair.lower_at pair.lower_is;
  is_greatest = form_there sizes ks j pair.upper measure.Max pair.upper_at pair.upper_is;
})
