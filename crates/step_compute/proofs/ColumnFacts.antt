-- The dictionaries and the aggregates of a cube.
use Rattle.std.proofs.Common.{◌≡◌, ◌+◌, ◌∙◌, ◌∷◌, [], ℕ, cond, List, Some, None, ap, arith, length, length-append, map, refl}
use Rattle.std.specs.List.{cons_option, filter_map, range_with_len}
use Rattle.std.proofs.lemmas.List.FromFn.{length-range_with_len}
use Rattle.cube_desc.specs.Cube.{Cube}
use Rattle.cube_desc.specs.FlatRow.{place_of}
use Rattle.cube_desc.specs.Kept.{dict_place, dict_places, distinct_places, kept_behind}
use Rattle.cube_desc.specs.declared.kept.Kept.{Kept}
use Rattle.layer_builder.specs.Base.{count_of_distincts}
use Rattle.measure_laws.specs.declared.kinds.ItemKind.{ItemKind}
use Rattle.measure_laws.specs.declared.kinds.ItemKind.TheVariants.{Rows, Values, Numbers, Ids}
use Rattle.measure_laws.specs.declared.measure.MeasureForm.{MeasureForm}
use Rattle.measure_laws.specs.Kinds.{are_ids, dict_after, item_kind, place_after}
use Rattle.plain_answer.proofs.KindFacts.{kept_form}
use Rattle.step_compute.specs.Columns.{agg_of, kept_aggs}

-- a measure of ids has a dictionary, and no other measure has one
one_more : (k : ItemKind) (place : ℕ) (places : List ℕ) → place_after k (length places) ≡ length (cons_option (cond (are_ids k) (Some place) None) places)
one_more Rows place places = refl
one_more Values place places = refl
one_more Numbers place places = refl
one_more Ids place places = omega arith

distincts_counted : (c : Cube) (ks : List Kept) → count_of_distincts (map (agg_of c) ks) ≡ length (filter_map (dict_place c) ks)
distincts_counted c [] = refl
distincts_counted c (k ∷ ks) =
    ap (λ (f : MeasureForm). dict_after f (count_of_distincts (map (agg_of c) ks))) (kept_form k.form)
    ∙ ap (dict_after k.form) (distincts_counted c ks)
    ∙ one_more (item_kind k.form) (place_of c k.column) (filter_map (dict_place c) ks)

-- as many dictionaries as rowkey columns and COUNT_DISTINCTs
pub places_counted : (c : Cube) → length (dict_places c) ≡ length c.rowkey + count_of_distincts (kept_aggs c)
unfolding distinct_places
places_counted c =
    omega (arith, length-append (range_with_len 0 (length c.rowkey)) (filter_map (dict_place c) (kept_behind c)), length-range_with_len 0 (length c.rowkey), distincts_counted c (kept_behind c))
