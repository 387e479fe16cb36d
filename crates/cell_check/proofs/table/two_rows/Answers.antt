use Rattle.std.proofs.Common.{◌≡◌, ◌++◌, ◌∷◌, [], ◌∙◌, ℕ, List, ap, map, refl, subst, sym}
use Rattle.std.specs.List.Sorted.{IsStrictlySortedBy}
use Rattle.agg_group.specs.declared.mask.Mask.{Mask}
use Rattle.agg_group.specs.Mask.{count_of}
use Rattle.cell_store.specs.declared.cell.Cell.{Cell}
use Rattle.cell_store.specs.Cells.{key_cmp}
use Rattle.cell_check.proofs.table.two_rows.Goals as goal

abbrev five : Mask
five = record { 0 = 5 }

two_dimensions : 2 ≡ count_of five
unfolding count_of
two_dimensions = refl

abbrev Rises : List ℕ → List (List ℕ × List Cell) → Type 0
Rises key rows = IsStrictlySortedBy key_cmp (map (λ row. row.0) rows ++ key ∷ [])

rises_alone : (key : List ℕ) → Rises key []
unfolding IsStrictlySortedBy
rises_alone key = (tt, tt)

rises_above : (cells : List Cell) → Rises (2 ∷ 0 ∷ []) ((1 ∷ 4 ∷ [], cells) ∷ [])
unfolding IsStrictlySortedBy
rises_above cells = ((refl, tt), (tt, tt))

pub push-requires-clause-width : goal.push-requires-clause-width
push-requires-clause-width c = two_dimensions ∙ ap count_of (sym c.in_ok-table.ensures.mask)

pub push-requires-clause-rising : goal.push-requires-clause-rising
push-requires-clause-rising c = subst (Rises (1 ∷ 4 ∷ [])) (sym c.in_ok-table.ensures.rows) (rises_alone (1 ∷ 4 ∷ []))

pub push-requires-2-clause-width : goal.push-requires-2-clause-width
push-requires-2-clause-width c = two_dimensions ∙ ap count_of (sym (c.in_ok-push.ensures.mask ∙ c.in_ok-table.ensures.mask))

pub push-requires-2-clause-rising : goal.push-requires-2-clause-rising
push-requires-2-clause-rising c =
    let row : List ℕ × List Cell = (1 ∷ 4 ∷ [], c.in_ok-counted.field-0.items) in
    subst (Rises (2 ∷ 0 ∷ [])) (sym (c.in_ok-push.ensures.ok ∙ ap (λ l. l ++ row ∷ []) c.in_ok-table.ensures.rows)) (rises_above c.in_ok-counted.field-0.items)
