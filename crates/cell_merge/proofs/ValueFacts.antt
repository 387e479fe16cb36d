-- Merged dictionaries have the values of all rows, so that the merge of cuboids means the aggregate of all rows.
use Rattle.std.proofs.Common.{◌≡◌, ◌<◌, ◌-◌, ◌++◌, ◌∙◌, ℕ, List, [], ◌∷◌, get_or, length, refl, sym, ap, subst, arith}
use Rattle.std.specs.Prelude.{All, Contains, IsTrue}
use Rattle.std.specs.List.{AllByRecursion, filter_map, flat_map}
use Rattle.std.specs.List.Sorted.{IsStrictlySortedBy}
use Rattle.std.proofs.lemmas.List.{get_or_default}
use Rattle.std.proofs.lemmas.List.Elements.{All-append, All-from_recursion, filter_map-append, recursion_from_All}
use Rattle.std.proofs.lemmas.Option.{get_or_from_slice_get, slice_get_within}
use Rattle.agg_group.specs.declared.mask.Mask.{Mask}
use Rattle.cell_gather.specs.Keys.{dims_of}
use Rattle.cube_val.specs.declared.val.Val.{Val}
use Rattle.cube_val.specs.declared.val.Val.TheVariants.{Null}
use Rattle.cube_val.specs.Order.{val_cmp}
use Rattle.dim_dictionary.specs.Dictionaries.{KeepsValues}
use Rattle.layer_builder.specs.Base.{count_of_distincts, dict_at, key_width, next_after, value_at}
use Rattle.layer_builder.specs.Meanings.{HasDistincts, HasKnown, HasValues, IsNumbered, known_in}
use Rattle.layer_builder.proofs.MeaningFacts.{cuboid_means_rows}
use Rattle.measure_laws.specs.Kinds.{has_dictionary}
use Rattle.plain_answer.specs.Aggregates.{cell, known}
use Rattle.plain_answer.specs.declared.ask.Agg.{Agg}
use Rattle.plain_answer.specs.Kinds.{form_of_kind}
use Rattle.cell_merge.specs.Laws.{IsPart, MergedMeansRows, Part}
use Rattle.cell_merge.specs.Renumbered.{new_number, remap_at}
use Rattle.cell_merge.proofs.CuboidFacts.{AreRising, merged_is_cuboid}
use Rattle.cell_merge.proofs.NumberFacts.{value-at}

-- a value of a part's dictionary is one of the merged one
contains-moved : (merged old : List Val) (numbers : List ℕ) → KeepsValues merged old numbers → (v : Val) → Contains old v → Contains merged v
contains-moved merged old numbers keeps v there =
    let id = there.0 in
    let new = new_number numbers id in
    let at = value-at merged numbers old keeps id there.1 in
    let was : get_or old id Null ≡ v = get_or_default old id Null v there.1 ∙ there.2 in
    (new, slice_get_within merged new (get_or old id Null) at, get_or_from_slice_get merged new (get_or old id Null) v at ∙ was)

module _ {X : Type 0} (P Q : X → Type 0) (then : (x : X) → P x → Q x) where
  all-weaker : (xs : List X) → AllByRecursion P xs → AllByRecursion Q xs
  all-weaker [] all = tt
  all-weaker (x ∷ xs) all = (then x all.0, all-weaker xs all.1)

abbrev rows_of : List Part → List (List Val)
rows_of parts = flat_map (λ (part : Part). part.flat) parts

-- what holds of the rows of each part holds of all rows
of_each : (P : List Val → Type 0) (parts : List Part) → AllByRecursion (λ (part : Part). All P part.flat) parts → All P (rows_of parts)
of_each P [] all = All-from_recursion P [] tt
of_each P (part ∷ parts) all = All-append P part.flat (rows_of parts) all.0 (of_each P parts all.1)

-- and what holds of the values of a column in each, of those in all
of_known : (P : Val → Type 0) (value : List Val → Val) (parts : List Part) → AllByRecursion (λ (part : Part). All P (known_in value part.flat)) parts → All P (known_in value (rows_of parts))
of_known P value [] all = All-from_recursion P [] tt
of_known P value (part ∷ parts) all =
    subst (λ (l : List Val). All P l) (sym (filter_map-append (λ row. known (value row)) part.flat (rows_of parts)))
    (All-append P (known_in value part.flat) (known_in value (rows_of parts)) all.0 (of_known P value parts all.1))

module _ (aggs : List Agg) (dims : Mask) (merged : List (List Val)) (up : AreRising merged) where
  moved : {X : Type 0} (value : X → Val) (place : ℕ) (part : Part) → IsPart aggs dims merged part → (xs : List X) → All (λ x. Contains (dict_at part.dicts place) (value x)) xs
      → All (λ x. Contains (dict_at merged place) (value x)) xs
  moved value place part is xs all k d lt = contains-moved (dict_at merged place) (dict_at part.dicts place) (remap_at part.remaps place) (is.keeps place) _ (all k d lt)

  keys_there : (k d : ℕ) → k < length (dims_of dims) → (parts : List Part) → AllByRecursion (IsPart aggs dims merged) parts
      → AllByRecursion (λ (part : Part). All (λ row. Contains (dict_at merged (get_or (dims_of dims) k d)) (cell row (get_or (dims_of dims) k d))) part.flat) parts
  keys_there k d lt [] all = tt
  keys_there k d lt (part ∷ parts) all =
      (moved (λ row. cell row (get_or (dims_of dims) k d)) (get_or (dims_of dims) k d) part all.0 part.flat (all.0.numbered.keys k d lt).there, keys_there k d lt parts all.1)

  -- of a COUNT_DISTINCT each part's dictionary has the values that aren't null
  abbrev Each : ℕ → List Agg → List Part → Type 0
  Each place some parts = AllByRecursion (λ (part : Part). HasDistincts part.dicts place some part.flat) parts

  here : (place : ℕ) (agg : Agg) (some : List Agg) (parts : List Part) → AllByRecursion (IsPart aggs dims merged) parts → Each place (agg ∷ some) parts → IsTrue (has_dictionary (form_of_kind agg.kind))
      → AllByRecursion (λ (part : Part). All (λ v. Contains (dict_at merged place) v) (known_in (value_at agg.column) part.flat)) parts
  here place agg some [] all each h = tt
  here place agg some (part ∷ parts) all each h =
      (moved (λ v. v) place part all.0 (known_in (value_at agg.column) part.flat) (each.0.0 h).there, here place agg some parts all.1 each.1 h)

  distincts : (place : ℕ) (some : List Agg) (parts : List Part) → AllByRecursion (IsPart aggs dims merged) parts → Each place some parts → HasDistincts merged place some (rows_of parts)
  distincts place [] parts all each = tt
  distincts place (agg ∷ some) parts all each =
      let rest = all-weaker (λ (part : Part). HasDistincts part.dicts place (agg ∷ some) part.flat) (λ (part : Part). HasDistincts part.dicts (next_after agg.kind place) some part.flat) (λ part has. has.1) parts each in (
        λ h. record { rising = up place; there = of_known (λ v. Contains (dict_at merged place) v) (value_at agg.column) parts (here place agg some parts all each h) },
        distincts (next_after agg.kind place) some parts all rest,
      )

  each_part : (parts : List Part) → AllByRecursion (IsPart aggs dims merged) parts → Each (key_width aggs merged) aggs parts
  each_part parts all =
      all-weaker (IsPart aggs dims merged) (λ (part : Part). HasDistincts part.dicts (key_width aggs merged) aggs part.flat)
      (λ part is. subst (λ (n : ℕ). HasDistincts part.dicts n aggs part.flat) (ap (λ n. n - count_of_distincts aggs) is.dicts) is.numbered.distincts) parts all

  all_numbered : (parts : List Part) → AllByRecursion (IsPart aggs dims merged) parts → IsNumbered aggs merged dims (rows_of parts)
  all_numbered parts all = record {
    keys = λ k d lt.
        record { rising = up (get_or (dims_of dims) k d); there = of_each (λ row. Contains (dict_at merged (get_or (dims_of dims) k d)) (cell row (get_or (dims_of dims) k d))) parts (keys_there k d lt parts all) };
    distincts = distincts (key_width aggs merged) aggs parts all (each_part parts all);
  }

pub merged_means_rows : MergedMeansRows
merged_means_rows aggs dims merged parts table up all mask forms merge =
    cuboid_means_rows aggs merged (rows_of parts) dims table (all_numbered aggs dims merged up parts (recursion_from_All (IsPart aggs dims merged) parts all)) (merged_is_cuboid aggs dims merged parts table up all mask forms merge)
