use Rattle.std.proofs.Common.{◌≡◌, ◌+◌, ◌++◌, ◌∙◌, ◌<◌, List, Option, ap, get_or, length, sym, take, ℕ}
use Rattle.std.specs.Prelude.{option_to_list}
use Rattle.std.specs.List.{filter_map}
use Rattle.std.proofs.lemmas.List.{take_more}
use Rattle.cube_desc.specs.Kept.{dict_place}
use Rattle.cube_desc.proofs.FlatRowFacts.{kept_more}
use Rattle.cube_desc.proofs.kept.distinct_places.Goals as goal

-- the items kept of the first items, with one item more
one_more :
    {X : Type 0} (h : X → Option ℕ) (xs : List X) (i : ℕ) (x : X) (before after : List ℕ) (kept : Option ℕ)
    → i < length xs → before ≡ filter_map h (take i xs) → kept ≡ h (get_or xs i x) → after ≡ before ++ option_to_list kept
    → after ≡ filter_map h (take (i + 1) xs)
one_more h xs i x before after kept less was is now =
    now ∙ ap (λ l. l ++ option_to_list kept) was ∙ ap (λ o. filter_map h (take i xs) ++ option_to_list o) is
    ∙ sym (ap (filter_map h) (take_more xs i x less) ∙ kept_more h (take i xs) (get_or xs i x))

pub loop-measure-preserved : goal.loop-measure-preserved
loop-measure-preserved c =
    one_more (dict_place c.args.cube.now) c.as_slice-measure-items.result.now c.loop-measure.measure-index _ _ _ c.dict_place.result
    c.loop-measure-test.true c.loop-measure.invariant c.dict_place.ensures c.in_ok-push_place.ensures
