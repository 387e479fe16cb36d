use Rattle.std.proofs.Common.{◌≡◌, ◌+◌, ◌≤◌, ◌++◌, ◌∷◌, [], List, ℤ, length, arith, rules, w64, take, ap, sym, ◌∙◌}
use Rattle.std.proofs.lemmas.Int.{to_z-of_z}
use mir.Val.{SFits}
use Rattle.std.proofs.lemmas.List.{length-take, take_all, take_more}
use Rattle.std.specs.BTreeMap.{get}
use Rattle.cube_val.specs.declared.val.Val.{Val}
use Rattle.cube_val.specs.Order.{row_cmp}
use Rattle.cube_val.proofs.OrderFacts.{row_cmp_exact}
use Rattle.cube_val.specs.OrderLaws.{row_cmp_total}
use Rattle.aggregation.proofs.CellFacts.{fill_step_at, filled_is_grouped, measure_grows, measured_room}
use Rattle.measure_laws.specs.MeasureFacts.{sum_laws}
use Rattle.measure_laws.specs.Measures.{most_items, summed}
use Rattle.fixed_cube.specs.Rows.{item_of_row, key_of_row}
use Rattle.fixed_cube.proofs.steps.base_map.Goals as goal

pub add-requires : goal.add-requires
add-requires c x e =
    let rows = take c.loop-row.row-index c.args.rows.now in
    let front = length-take c.loop-row.row-index c.args.rows.now in
    let fits : length rows + 1 ≤ most_items = omega arith in
    let one : c.in_ok-one.one.items ≡ 1 = ap (λ s. s.items) c.in_ok-one.ensures in
    let room = measured_room sum_laws row_cmp key_of_row item_of_row rows c.in_ok-key.key x most_items (sym (c.loop-row.invariant.1 c.in_ok-key.key) ∙ e) fits in
    omega (arith, one, room)

pub loop-row-preserved : goal.loop-row-preserved
loop-row-preserved c =
    let row = c.row-item.result in
    let i = c.loop-row.row-index in
    let rows = c.args.rows.now in
    let more : take (i + 1) rows ≡ take i rows ++ row ∷ [] = take_more rows i row (omega arith) ∙ ap (λ (x : List Val). take i rows ++ x ∷ []) (sym c.row-item.is) in
    let fits : SFits w64 c.item_of.result = search rules in
    let part : c.in_ok-one.one ≡ summed (item_of_row row ∷ []) = (simp to_z-of_z at c.in_ok-one.ensures) ∙ ap (λ (n : ℤ). summed (n ∷ [])) c.item_of.ensures in
    let filled = fill_step_at row_cmp_total row_cmp_exact key_of_row item_of_row (measure_grows sum_laws) (take i rows) row
    (get row_cmp c.loop-row.cells) (get row_cmp c.add.new.cells) c.in_ok-key.key c.in_ok-one.one c.in_ok-key.ensures part c.loop-row.invariant.1 c.in_ok-add.ensures.adds in
    (c.add.ensures.ordered, rw more filled)

pub returns : goal.returns
returns c =
    let all : take c.loop-row.row-index c.args.rows.now ≡ c.args.rows.now = take_all _ _ (omega arith) in
    filled_is_grouped row_cmp_total row_cmp_exact key_of_row item_of_row (measure_grows sum_laws) c.args.rows.now c.loop-row.cells c.loop-row.invariant.0 (rw all at c.loop-row.invariant.1)
