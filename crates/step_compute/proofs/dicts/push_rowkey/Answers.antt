use Rattle.std.proofs.Common.{◌≡◌, ◌+◌, ◌++◌, ◌∷◌, ◌∙◌, [], List, ℕ, ap, append_assoc, map, rules, sym}
use Rattle.std.specs.List.{range_with_len}
use Rattle.std.proofs.lemmas.List.{map-append}
use Rattle.cube_desc.proofs.FlatRowFacts.{range_more}
use Rattle.cube_val.specs.declared.val.Val.{Val}
use Rattle.dim_dictionary.specs.Dictionaries.{dictionary_of}
use Rattle.step_compute.specs.Values.{values_in}
use Rattle.step_compute.proofs.dicts.push_rowkey.Goals as goal

pub loop-place-preserved : goal.loop-place-preserved
loop-place-preserved g c =
    let f = λ (place : ℕ). dictionary_of (values_in c.args.rows.now place) in
    let place = c.loop-place.place in
    let front = c.args.dicts.now.items in
    let before = map f (range_with_len 0 place) in
    let dict = c.in_ok-rowkey_dict.field-0 in
    let more : before ++ dict ∷ [] ≡ map f (range_with_len 0 (place + 1)) =
    ap (λ (d : List Val). before ++ d ∷ []) c.in_ok-rowkey_dict.ensures.dict ∙ sym (map-append f (range_with_len 0 place) (place ∷ [])) ∙ ap (map f) (sym (range_more place)) in
    record {
      dicts = c.in_ok-push.ensures.items ∙ ap (λ (l : List (List Val)). l ++ dict ∷ []) c.loop-place.invariant.dicts ∙ append_assoc front before (dict ∷ []) ∙ ap (λ (l : List (List Val)). front ++ l) more;
      looked = search rules;
    }
