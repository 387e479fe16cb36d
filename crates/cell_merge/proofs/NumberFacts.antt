-- New numbers keep the values of the old ones, and so their order.
use Rattle.std.proofs.Common.{◌≡◌, ◌<◌, ◌+◌, ◌∙◌, ℕ, zero, suc, List, [], ◌∷◌, map, length, drop, get_or, refl, sym, ap, arith, Some, None}
use Rattle.std.specs.declared.cmp.Ordering.TheVariants.{Less}
use Rattle.std.specs.Prelude.{Contains, slice_get}
use Rattle.std.specs.List.{AllByRecursion}
use Rattle.std.specs.Cmp.{nat_cmp_total}
use Rattle.std.specs.List.Sorted.{IsStrictlySortedBy}
use Rattle.std.specs.Ordering.{nat_cmp}
use Rattle.std.proofs.lemmas.Option.{get_or_from_slice_get, slice_get-get_or, slice_get_within}
use Rattle.cube_val.specs.declared.val.Val.{Val}
use Rattle.cube_val.specs.declared.val.Val.TheVariants.{Null}
use Rattle.cube_val.specs.Order.{val_cmp}
use Rattle.cube_val.proofs.OrderFacts.{val_cmp_same}
use Rattle.aggregation.specs.Groups.{distinct}
use Rattle.dim_dictionary.specs.Dictionaries.{KeepsValues}
use Rattle.dim_dictionary.proofs.DictLemmas.{count_to_found, keeps_order}
use Rattle.layer_builder.specs.Base.{number_in}
use Rattle.layer_builder.specs.Meanings.{value_in}
use Rattle.layer_builder.proofs.MeaningFacts.{distinct-renamed, number-fits, number-value}
use Rattle.measure_laws.specs.Ids.{different, rises-different}
use Rattle.measure_laws.specs.RisingFacts.{rising_at}
use Rattle.std.proofs.lemmas.Cmp.{ranked}
use Rattle.measure_laws.specs.IdFacts.{different-rising}
use Rattle.std.specs.BTreeSet.{insert_key}
use Rattle.cell_merge.specs.Renumbered.{new_number}

pub value-at : (merged : List Val) (numbers : List ℕ) (old : List Val) → KeepsValues merged old numbers → (id : ℕ) → id < length old
    → slice_get merged (get_or numbers id 0) ≡ Some (get_or old id Null)
value-at merged [] [] e id lt = absurd (omega arith)
value-at merged [] (v ∷ old) e id lt = let size : 0 ≡ suc (length (map Some old)) = ap length e in absurd (omega arith)
value-at merged (n ∷ numbers) [] e id lt = absurd (omega arith)
value-at merged (n ∷ numbers) (v ∷ old) e zero lt = ap (λ l. get_or l 0 None) e
value-at merged (n ∷ numbers) (v ∷ old) e (suc id) lt = value-at merged numbers old (ap (drop 1) e) id (omega arith)

different-is : (xs : List ℕ) → different xs ≡ distinct nat_cmp xs
different-is [] = refl
different-is (x ∷ xs) = ap (λ l. insert_key nat_cmp l x) (different-is xs)

module _ (merged old : List Val) (numbers : List ℕ) (up : IsStrictlySortedBy val_cmp merged) (up_old : IsStrictlySortedBy val_cmp old) (keeps : KeepsValues merged old numbers) where
  new-fits : (id : ℕ) → id < length old → new_number numbers id < length merged
  new-fits id lt = slice_get_within merged (new_number numbers id) (get_or old id Null) (value-at merged numbers old keeps id lt)

  -- the order of old numbers is that of the new ones
  pub number-ordered : (i j : ℕ) → i < length old → j < length old → nat_cmp i j ≡ nat_cmp (new_number numbers i) (new_number numbers j)
  number-ordered i j first second =
      keeps_order old i j (get_or old i Null) (get_or old j Null) up_old (slice_get-get_or old i Null first) (slice_get-get_or old j Null second)
      ∙ sym (keeps_order merged (new_number numbers i) (new_number numbers j) (get_or old i Null) (get_or old j Null) up (value-at merged numbers old keeps i first) (value-at merged numbers old keeps j second))

  -- the new number of a value is its number in the merged dictionary
  pub number-moved : (v : Val) → Contains old v → new_number numbers (number_in old v) ≡ number_in merged v
  number-moved v there =
      let id = number_in old v in
      let fits : id < length old = number-fits old v up_old there in
      let at : slice_get merged (new_number numbers id) ≡ Some v = value-at merged numbers old keeps id fits ∙ ap Some (number-value old v up_old there) in
      sym (count_to_found merged (new_number numbers id) v up (new-fits id fits) (λ d. ap (λ x. val_cmp x v) (get_or_from_slice_get merged (new_number numbers id) v d at) ∙ val_cmp_same v))

  -- the different new numbers are the new ones of the different old ones
  pub different-moved : (ids : List ℕ) → AllByRecursion (λ id. id < length old) ids → different (map (new_number numbers) (different ids)) ≡ different (map (new_number numbers) ids)
  different-moved ids fits =
      let moved : map (new_number numbers) (different ids) ≡ different (map (new_number numbers) ids)
      = ap (map (new_number numbers)) (different-is ids)
      ∙ distinct-renamed nat_cmp nat_cmp (new_number numbers) (λ (id : ℕ). id < length old) number-ordered ids fits
      ∙ sym (different-is (map (new_number numbers) ids)) in
      ap different moved ∙ different-rising (different (map (new_number numbers) ids)) (rises-different (map (new_number numbers) ids))

-- ---- new numbers that rise

module _ (numbers : List ℕ) (up : IsStrictlySortedBy nat_cmp numbers) where
  moved_above : (x : ℕ) (ys : List ℕ) → AllByRecursion (λ y. nat_cmp x y ≡ Less) ys → AllByRecursion (λ y. y < length numbers) ys
      → AllByRecursion (λ y. nat_cmp (new_number numbers x) y ≡ Less) (map (new_number numbers) ys)
  moved_above x [] less fits = tt
  moved_above x (y ∷ ys) less fits = (rising_at nat_cmp_total numbers x y 0 up (ranked x y Less (sym less.0)) fits.0, moved_above x ys less.1 fits.1)

  -- so the new numbers of a rising list rise
  pub rises_moved : (ids : List ℕ) → IsStrictlySortedBy nat_cmp ids → AllByRecursion (λ id. id < length numbers) ids → IsStrictlySortedBy nat_cmp (map (new_number numbers) ids)
  unfolding IsStrictlySortedBy
  rises_moved [] rise fits = tt
  rises_moved (x ∷ ids) rise fits = (moved_above x ids rise.0 fits.1, rises_moved ids rise.1 fits.1)
