use Rattle.std.proofs.Common.{◌≡◌, ◌++◌, ◌∙◌, List, ℕ, ap, length, map}
use Rattle.std.specs.List.{range_with_len}
use Rattle.cube_desc.specs.Cube.{Cube}
use Rattle.cube_desc.specs.Kept.{distinct_places}
use Rattle.cube_val.specs.declared.val.Val.{Val}
use Rattle.dim_dictionary.specs.Dictionaries.{dictionary_of}
use Rattle.step_compute.specs.Values.{known_in, values_in}
use Rattle.step_compute.proofs.dicts.dict_value.Goals as goal

pub returns-clause-dicts : goal.returns-clause-dicts
returns-clause-dicts g c =
    let cube = c.args.desc.now.cube in
    let flat = c.args.flat.now in
    let of_keys : List (List Val) → ℕ → List Val = λ rows place. dictionary_of (values_in rows place) in
    let of_sets : List (List Val) → ℕ → List Val = λ rows place. dictionary_of (known_in rows place) in
    let width : c.len.result ≡ length cube.rowkey = c.len.ensures ∙ ap (λ (k : Cube). length k.rowkey) (c.cube.view_is ∙ c.parts-cube.ensures.value) in
    let places : c.as_slice.result.now ≡ distinct_places cube = c.as_slice.ensures.value ∙ c.in_ok-places.ensures ∙ ap distinct_places c.parts-cube.ensures.value in
    let keys : c.push_rowkey.new.dicts.items ≡ map (of_keys flat) (range_with_len 0 (length cube.rowkey)) =
    c.in_ok-push_rowkey.ensures.dicts
    ∙ ap (λ (l : List (List Val)). l ++ map (of_keys c.rows.result.now) (range_with_len 0 c.len.result)) c.new-dicts.ensures.items
    ∙ (λ i. map (of_keys (c.rows.ensures i)) (range_with_len 0 (width i))) in
    c.new.ensures ∙ c.in_ok-push_distinct.ensures.dicts ∙ (λ i. keys i ++ map (of_sets (c.rows-2.ensures i)) (places i))
