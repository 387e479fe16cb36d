-- What the tables of a segment mean in values.
use Rattle.std.proofs.Common.{◌≡◌, ◌<◌, ◌≤◌, ◌+◌, ◌-◌, ◌^◌, ◌++◌, ◌∙◌, ℕ, true, eqb, List, [], ◌∷◌, length, map, get_or, refl, ap, sym, subst, arith, All, inl, inr}
use Rattle.std.specs.Prelude.{Contains, IsTrue, Option, Some, None, option_map, slice_get, unwrap_or}
use Rattle.std.specs.Int.{bit_at}
use Rattle.std.specs.List.{AllByRecursion as ByRecursion, cons_option, range_with_len}
use Rattle.std.proofs.lemmas.Bool.{cases_lt}
use Rattle.std.proofs.lemmas.List.{append_assoc, get_or-map, length-map, length_push}
use Rattle.std.proofs.lemmas.List.Elements.{Contains-get_or, filter_passes, recursion_from_All}
use Rattle.std.proofs.lemmas.List.FromFn.{get_or-range_with_len, length-range_with_len}
use Rattle.std.proofs.lemmas.Nat.Bits.{bit_at_ones_above}
use Rattle.std.proofs.lemmas.Option.{slice_get-get_or, slice_get-map}
use Rattle.agg_group.specs.Mask.{IsWithin, has}
use Rattle.agg_group.specs.Sets.{dimensions}
use Rattle.agg_group.specs.declared.mask.Mask.{Mask}
use Rattle.aggregation.proofs.GroupFacts.{rises-distinct}
use Rattle.cell_gather.specs.Keys.{dims_of}
use Rattle.cell_store.specs.Cells.{CellRows}
use Rattle.cube_val.proofs.OrderFacts.{val_cmp_exact}
use Rattle.cube_val.specs.OrderLaws.{val_cmp_total}
use Rattle.cube_val.specs.declared.val.Val.{Val}
use Rattle.dim_dictionary.proofs.DictLemmas.{keeps_values}
use Rattle.dim_dictionary.specs.Dictionaries.{dictionary_of}
use Rattle.layer_builder.proofs.MeaningFacts.{cuboid_means_rows}
use Rattle.layer_builder.specs.Base.{base_mask, dict_at, key_width, next_after, value_at}
use Rattle.layer_builder.specs.Meanings.{HasDistincts, HasKnown, HasValues, IsNumbered}
use Rattle.measure_laws.specs.Kinds.{has_dictionary}
use Rattle.plain_answer.specs.Aggregates.{cell, known_values}
use Rattle.plain_answer.specs.Kinds.{form_of_kind}
use Rattle.plain_answer.specs.declared.ask.Agg.{Agg}
use Rattle.plain_answer.specs.declared.ask.AggKind.{AggKind}
use Rattle.plain_answer.specs.declared.ask.AggKind.TheVariants.{Count, Known, Sum, Min, Max, Distinct, Avg}
use Rattle.run_history.proofs.Laws.{slice_get-front}
use Rattle.segment_store.specs.Laws.{MeansRows}
use Rattle.segment_store.specs.Segments.{IsKept, IsOfRows, IsSegment, dictionaries_of, distinct_column, distinct_columns, distinct_dictionary, key_dictionary, plan_of, width_of}
use Rattle.segment_store.specs.declared.parts.SegmentParts.{SegmentParts}

-- the dictionary of a column has the values of its rows
has_values : (rows : List (List Val)) (value : List Val → Val) → HasValues (dictionary_of (map value rows)) value rows
has_values rows value = record {
  rising = rises-distinct val_cmp_total val_cmp_exact (map value rows);
  there = λ k d within. (keeps_values (map value rows) (value (get_or rows k d))).1 (contained k d within);
}
  where
    contained : (k : ℕ) (d : List Val) → k < length rows → Contains (map value rows) (value (get_or rows k d))
    contained k d within =
        let long : k < length (map value rows) = omega (arith, length-map rows value) in
        subst (λ (v : Val). Contains (map value rows) v) (get_or-map value rows k d (value d) within) (Contains-get_or (map value rows) k (value d) long)

-- and that of a column whose different values are counted those that aren't null
has_known : (rows : List (List Val)) (column : ℕ) → HasKnown (distinct_dictionary rows column) (value_at (Some column)) rows
has_known rows column =
    let vs : List Val = known_values (Some column) rows in
    record {
      rising = rises-distinct val_cmp_total val_cmp_exact vs;
      there = λ k d within. (keeps_values vs (get_or vs k d)).1 (Contains-get_or vs k d within);
    }

at_end : {X : Type 0} (front rest : List X) (x : X) → slice_get (front ++ x ∷ rest) (length front) ≡ Some x
at_end [] rest x = refl
at_end (y ∷ front) rest x = at_end front rest x

module _ (rows : List (List Val)) where
  -- ---- the dictionaries of the COUNT_DISTINCTs

  abbrev counted : List ℕ → List (List Val)
  counted columns = map (distinct_dictionary rows) columns

  -- behind other dictionaries
  abbrev HasAll : List (List Val) → List Agg → Type 0
  HasAll front kept = HasDistincts (front ++ counted (distinct_columns kept)) (length front) kept rows

  module _ (kept : List Agg) (wide : ℕ) (rest : (front : List (List Val)) → HasAll front kept) (front : List (List Val)) where
    abbrev later : List ℕ
    later = distinct_columns kept

    abbrev One : AggKind → Option ℕ → Type 0
    One kind column =
        (IsTrue (has_dictionary (form_of_kind kind)) → HasKnown (dict_at (front ++ counted (cons_option (distinct_column kind column) later)) (length front)) (value_at column) rows)
        × HasDistincts (front ++ counted (cons_option (distinct_column kind column) later)) (next_after kind (length front)) kept rows

    pub one : (kind : AggKind) (column : Option ℕ) → IsKept wide kind column → One kind column
    one Count column k = ((λ e. let never : ⊥ = cc in absurd never), rest front)
    one Known column k = ((λ e. let never : ⊥ = cc in absurd never), rest front)
    one Sum column k = ((λ e. let never : ⊥ = cc in absurd never), rest front)
    one Min column k = ((λ e. let never : ⊥ = cc in absurd never), rest front)
    one Max column k = ((λ e. let never : ⊥ = cc in absurd never), rest front)
    one Avg column k = ((λ e. let never : ⊥ = cc in absurd never), rest front)
    one Distinct None k = absurd k
    one Distinct (Some c) k =
        let own : List Val = distinct_dictionary rows c in
        let at : dict_at (front ++ own ∷ counted later) (length front) ≡ own = ap (λ o. unwrap_or o []) (at_end front (counted later) own) in (
          (λ e. subst (λ (dict : List Val). HasKnown dict (value_at (Some c)) rows) (sym at) (has_known rows c)),
          subst (λ (n : ℕ). HasDistincts (front ++ own ∷ counted later) n kept rows) (length_push front own)
              (subst (λ (l : List (List Val)). HasDistincts l (length (front ++ own ∷ [])) kept rows) (append_assoc front (own ∷ []) (counted later)) (rest (front ++ own ∷ []))),
        )

  distincts : (wide : ℕ) (kept : List Agg) → ByRecursion (λ agg. IsKept wide agg.kind agg.column) kept → (front : List (List Val)) → HasAll front kept
  distincts wide [] h front = tt
  distincts wide (agg ∷ kept) h front = one kept wide (distincts wide kept h.1) front agg.kind agg.column h.0

  -- ---- the dictionaries of the rowkey

  -- a dimension of a mask within that of the first columns is one of these
  below : (width : ℕ) (mask : Mask) (d : ℕ) → IsWithin mask (base_mask width) → has mask d ≡ true → d < width
  below width mask d within e =
      elim (cases_lt d width) [
        | inl lt ↦ lt
        | inr ge ↦ let out = bit_at_ones_above width d ge in let inside = within d e in absurd (nothing out inside)
      ]
    where
      nothing : bit_at (2 ^ width - 1) d ≡ 0 → eqb (bit_at (2 ^ width - 1) d) 1 ≡ true → ⊥
      nothing out inside = let never : eqb 0 1 ≡ true = subst (λ n. eqb n 1 ≡ true) out inside in cc

  abbrev of_keys : ℕ → List (List Val)
  of_keys width = map (key_dictionary rows) (range_with_len 0 width)

  many_keys : (width : ℕ) → length (of_keys width) ≡ width
  many_keys width = length-map (range_with_len 0 width) (key_dictionary rows) ∙ length-range_with_len 0 width

  -- the dictionary at the place of a rowkey column
  key_there : (width : ℕ) (others : List (List Val)) (column : ℕ) → column < width → dict_at (of_keys width ++ others) column ≡ key_dictionary rows column
  key_there width others column lt =
      let front = length-range_with_len 0 width in
      let within : column < length (of_keys width) = omega (arith, many_keys width) in
      let long : column < length (range_with_len 0 width) = omega (arith, front) in
      let same : get_or (range_with_len 0 width) column 0 ≡ column = omega (arith, get_or-range_with_len 0 width column 0 lt) in
      let at : slice_get (range_with_len 0 width) column ≡ Some column = slice_get-get_or (range_with_len 0 width) column 0 long ∙ ap Some same in
      ap (λ o. unwrap_or o []) (slice_get-front (of_keys width) others column within ∙ slice_get-map (key_dictionary rows) (range_with_len 0 width) column ∙ ap (option_map (key_dictionary rows)) at)

  pub keys : (width : ℕ) (kept : List Agg) (mask : Mask) → IsWithin mask (base_mask width)
      → All (λ column. HasValues (dict_at (dictionaries_of width kept rows) column) (λ row. cell row column) rows) (dims_of mask)
  unfolding dims_of
  keys width kept mask within k d lt =
      let passes = filter_passes (has mask) (dimensions 64) k d lt in
      let column = get_or (dims_of mask) k d in
      subst (λ (dict : List Val). HasValues dict (λ row. cell row column) rows) (sym (key_there width (counted (distinct_columns kept)) column (below width mask column within passes))) (has_values rows (λ row. cell row column))

-- each table of a segment of joined rows is their aggregate in values
pub segment_means_rows : (s : SegmentParts) (rows : List (List Val)) → IsSegment s → IsOfRows s rows → MeansRows s rows
segment_means_rows s rows i h k d lt =
    let t : CellRows = get_or s.tables k d in
    let table = i.tables k d lt in
    let width = width_of s in
    let dicts : List (List Val) = dictionaries_of width s.kept rows in
    let kept = recursion_from_All (λ (agg : Agg). IsKept (length (plan_of s).wide) agg.kind agg.column) s.kept i.kept in
    let all = distincts rows (length (plan_of s).wide) s.kept kept (of_keys rows width) in
    let numbered : IsNumbered s.kept dicts t.mask rows = record {
      keys = keys rows width s.kept t.mask table.within;
      distincts = subst (λ (n : ℕ). HasDistincts dicts n s.kept rows) (many_keys rows width ∙ ap (key_width s.kept) h.dicts) all;
    } in
    cuboid_means_rows s.kept s.dicts rows t.mask t (subst (λ (l : List (List Val)). IsNumbered s.kept l t.mask rows) (sym h.dicts) numbered) (h.tables k d lt)
