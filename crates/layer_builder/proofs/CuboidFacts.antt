-- The base cuboid and the regrouped ones are aggregates of the rows.
use Rattle.std.proofs.Common.{◌≡◌, ◌≤◌, ◌<◌, ◌+◌, ◌∙◌, ℕ, zero, suc, List, [], ◌∷◌, ◌++◌, map, Bool, true, false, cond, eqb, refl, sym, ap, arith}
use mathlib.Core.Bool.{true≢false}
use Rattle.std.specs.List.{filter, range_with_len}
use Rattle.std.proofs.lemmas.List.{append-nil}
use Rattle.std.proofs.lemmas.Nat.Bits.{bit_at_ones, bit_at_ones_above}
use Rattle.agg_group.specs.declared.mask.Mask.{Mask}
use Rattle.agg_group.specs.Mask.{IsWithin, has}
use Rattle.agg_group.specs.Sets.{dimensions}
use Rattle.cube_val.specs.declared.val.Val.{Val}
use Rattle.plain_answer.specs.Aggregates.{cell as value}
use Rattle.cell_gather.specs.Gathers.{RowMeasure, aggregated, forms_of, gathered}
use Rattle.cell_gather.specs.Keys.{dims_of, kept_numbers, part_of}
use Rattle.cell_gather.proofs.GatherFacts.{law}
use Rattle.layer_builder.specs.Base.{base_mask, dict_at, key_in, key_width, measures_from, number_in}
use Rattle.layer_builder.specs.Cuboids.{BaseIsCuboid, RegroupedIsCuboid, key_by}
use Rattle.layer_builder.proofs.BaseFacts.{forms_from}

-- ---- the dimensions of the base

module _ (p : ℕ → Bool) (n : ℕ) (low : (d : ℕ) → d < n → p d ≡ true) (high : (d : ℕ) → n ≤ d → p d ≡ false) where
  none_high : (a k : ℕ) → n ≤ a → filter p (range_with_len a k) ≡ []
  none_high a zero le = refl
  none_high a (suc k) le = let rest = filter p (range_with_len (a + 1) k) in ap (λ b. cond b (a ∷ rest) rest) (high a le) ∙ none_high (a + 1) k (omega arith)

  filter_range : (a k m : ℕ) → a + m ≡ n → m ≤ k → filter p (range_with_len a k) ≡ range_with_len a m
  filter_range a k zero e le = none_high a k (omega arith)
  filter_range a zero (suc m) e le = absurd (omega arith)
  filter_range a (suc k) (suc m) e le =
      let rest = filter p (range_with_len (a + 1) k) in ap (λ b. cond b (a ∷ rest) rest) (low a (omega arith)) ∙ ap (λ l. a ∷ l) (filter_range (a + 1) k m (omega arith) (omega arith))

dims_of-base : (n : ℕ) → n ≤ 64 → dims_of (base_mask n) ≡ dimensions n
unfolding dims_of
dims_of-base n few =
    filter_range (has (base_mask n)) n (λ d lt. ap (λ x. eqb x 1) (bit_at_ones n d lt)) (λ d le. ap (λ x. eqb x 1) (bit_at_ones_above n d le)) 0 64 n (omega arith) few

-- ---- a part of a key

module _ {X : Type 0} (p q : X → Bool) (within : (x : X) → p x ≡ true → q x ≡ true) where
  filter_within : (xs : List X) → filter p (filter q xs) ≡ filter p xs
  filter_within [] = refl
  filter_within (x ∷ xs) = by (q x) (p x) refl refl (filter_within xs)
    where
      by : (a b : Bool) → q x ≡ a → p x ≡ b → filter p (filter q xs) ≡ filter p xs → filter p (cond a (x ∷ filter q xs) (filter q xs)) ≡ cond (p x) (x ∷ filter p xs) (filter p xs)
      by true b e f h = ap (λ l. cond (p x) (x ∷ l) l) h
      by false true e f h = absurd (true≢false (sym (within x f) ∙ e))
      by false false e f h = h ∙ sym (ap (λ c. cond c (x ∷ filter p xs) (filter p xs)) f)

kept-map : (p : ℕ → Bool) (f : ℕ → ℕ) (ds : List ℕ) → kept_numbers (map p ds) (map f ds) ≡ map f (filter p ds)
kept-map p f [] = refl
kept-map p f (d ∷ ds) = by (p d) (kept-map p f ds)
  where
    by : (b : Bool) → kept_numbers (map p ds) (map f ds) ≡ map f (filter p ds) → kept_numbers (b ∷ map p ds) (f d ∷ map f ds) ≡ map f (cond b (d ∷ filter p ds) (filter p ds))
    by true h = ap (λ l. f d ∷ l) h
    by false h = h

pub part_of_key : (dicts : List (List Val)) (whole dims : Mask) → IsWithin dims whole → (row : List Val) → part_of whole dims (key_by dicts whole row) ≡ key_by dicts dims row
unfolding dims_of
part_of_key dicts whole dims within row =
    let number : ℕ → ℕ = λ column. number_in (dict_at dicts column) (value row column) in
    kept-map (has dims) number (filter (has whole) (dimensions 64)) ∙ ap (map number) (filter_within (has dims) (has whole) within (dimensions 64))

-- ---- the laws

pub base_is_cuboid : BaseIsCuboid
base_is_cuboid aggs dicts flat table few base =
    let width = key_width aggs dicts in
    let same : (row : List Val) → key_in dicts width row ≡ key_by dicts (base_mask width) row
    = λ row. ap (map (λ column. number_in (dict_at dicts column) (value row column))) (sym (dims_of-base width few)) in
    record {
      mask = base.mask;
      forms = base.forms;
      rows = base.rows ∙ (λ i. aggregated (measures_from dicts width aggs) (λ row. same row i) flat);
    }

pub regrouped_is_cuboid : RegroupedIsCuboid
regrouped_is_cuboid aggs dicts flat whole dims parent table within cuboid regrouped =
    let ms : List (RowMeasure (List Val)) = measures_from dicts (key_width aggs dicts) aggs in
    let forms : parent.forms ≡ forms_of ms = cuboid.forms ∙ sym (forms_from dicts (key_width aggs dicts) aggs) in
    let rows : parent.rows ≡ aggregated ms (key_by dicts whole) flat ++ [] = cuboid.rows ∙ sym (append-nil (aggregated ms (key_by dicts whole) flat)) in
    record {
      mask = regrouped.mask;
      forms = regrouped.forms ∙ cuboid.forms;
      rows = regrouped.rows ∙ (λ i. gathered (forms i) (part_of (cuboid.mask i) dims) (rows i)) ∙ law ms (key_by dicts whole) (part_of whole dims) (flat ∷ [])
          ∙ (λ i. aggregated ms (λ row. part_of_key dicts whole dims within row i) (append-nil flat i));
    }
