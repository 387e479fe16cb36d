use Rattle.std.proofs.Common.{◌≡◌, ◌<◌, ◌∙◌, List, ℕ, ap, length, map, subst, sym}
use Rattle.std.specs.Prelude.{All}
use Rattle.std.specs.List.Sorted.{IsStrictlySortedBy}
use Rattle.std.specs.Ordering.{nat_cmp}
use Rattle.std.proofs.lemmas.List.Elements.{recursion_from_All}
use Rattle.measure_laws.specs.Ids.{different}
use Rattle.measure_laws.specs.IdFacts.{different-rising, same_ids}
use Rattle.cell_merge.specs.Renumbered.{new_number, renumbered_ids}
use Rattle.cell_merge.proofs.NumberFacts.{rises_moved}
use Rattle.cell_merge.proofs.renumbering.renumbered_set.Goals as goal

pub of-requires-clause-rising : goal.of-requires-clause-rising
of-requires-clause-rising c =
    let numbers = c.args.numbers.now in
    let ids = c.args.set.now.ids in
    let made : c.deref.result.now ≡ map (new_number numbers) ids = c.deref.ensures.value ∙ c.in_ok-new.ensures ∙ ap (map (new_number numbers)) c.ids.ensures.ids in
    let fits = recursion_from_All (λ id. id < length numbers) ids c.requires.there in
    subst (λ (l : List ℕ). IsStrictlySortedBy nat_cmp l) (sym made) (rises_moved numbers c.requires.rising ids c.args.set.now.rising fits)

pub returns : goal.returns
returns c =
    let numbers = c.args.numbers.now in
    let ids = c.args.set.now.ids in
    let made : c.deref.result.now ≡ map (new_number numbers) ids = c.deref.ensures.value ∙ c.in_ok-new.ensures ∙ ap (map (new_number numbers)) c.ids.ensures.ids in
    let fits = recursion_from_All (λ id. id < length numbers) ids c.requires.there in
    same_ids c.in_ok-set.set (renumbered_ids numbers c.args.set.now) (c.in_ok-set.ensures.items ∙ c.items.ensures.items)
    (c.in_ok-set.ensures.ids ∙ made ∙ sym (different-rising (map (new_number numbers) ids) (rises_moved numbers c.requires.rising ids c.args.set.now.rising fits)))
