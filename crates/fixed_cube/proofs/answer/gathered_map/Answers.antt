use Rattle.std.proofs.Common.{◌≡◌, ◌+◌, ◌≤◌, ◌++◌, ◌∷◌, [], List, length, arith, take, drop, ap, sym, subst, ◌∙◌, drop-cons}
use Rattle.std.proofs.lemmas.List.{take_all, take_more, take-append-drop}
use Rattle.std.specs.List.{sum_by}
use Rattle.std.specs.BTreeMap.{get}
use Rattle.cube_val.specs.Order.{row_cmp}
use Rattle.cube_val.proofs.OrderFacts.{row_cmp_exact}
use Rattle.cube_val.specs.OrderLaws.{row_cmp_total}
use Rattle.aggregation.proofs.CellFacts.{fill_step_at, filled_is_grouped, merged_grows, merged_room}
use Rattle.measure_laws.specs.MeasureFacts.{sum_laws}
use Rattle.measure_laws.specs.Measures.{most_items}
use Rattle.fixed_cube.specs.Answers.{first_of}
use Rattle.fixed_cube.specs.Cells.{Cell, count_of}
use Rattle.fixed_cube.proofs.AddFacts.{around}
use Rattle.fixed_cube.proofs.answer.gathered_map.Goals as goal

pub add-requires : goal.add-requires
add-requires c x e =
    let cells = c.args.refs.now in
    let i = c.loop-i.i in
    let next = c.cell-cell.result.now in
    let split : cells ≡ take i cells ++ next ∷ drop (i + 1) cells = around cells i next (omega arith) c.cell-cell.ensures in
    let few = subst (λ (cs : List Cell). sum_by count_of cs ≤ most_items) split c.requires in
    let room = merged_room sum_laws row_cmp (λ (c : Cell). first_of c.0) (take i cells) (drop (i + 1) cells) next c.in_ok-key.key x most_items (sym (c.loop-i.invariant.1 c.in_ok-key.key) ∙ e) few in
    let part : c.copy_sum-part.result.items ≡ next.1.items = ap (λ s. s.items) (c.copy_sum-part.ensures ∙ c.sum.ensures) in
    omega (arith, part, room)

pub loop-i-preserved : goal.loop-i-preserved
loop-i-preserved c =
    let cells = c.args.refs.now in
    let i = c.loop-i.i in
    let next = c.cell-cell.result.now in
    let more : take (i + 1) cells ≡ take i cells ++ next ∷ [] = take_more cells i next (omega arith) ∙ ap (λ (x : Cell). take i cells ++ x ∷ []) (sym c.cell-cell.ensures) in
    let key : c.in_ok-key.key ≡ first_of next.0 = c.in_ok-key.ensures ∙ ap first_of c.key.ensures in
    let filled = fill_step_at row_cmp_total row_cmp_exact (λ (c : Cell). first_of c.0) (λ (c : Cell). c.1) (merged_grows sum_laws) (take i cells) next
    (get row_cmp c.loop-i.cells) (get row_cmp c.add.new.cells) c.in_ok-key.key c.copy_sum-part.result key (c.copy_sum-part.ensures ∙ c.sum.ensures) c.loop-i.invariant.1 c.in_ok-add.ensures.adds in
    (c.add.ensures.ordered, rw more filled)

pub returns : goal.returns
returns c =
    let all : take c.loop-i.i c.args.refs.now ≡ c.args.refs.now = take_all _ _ (omega arith) in
    filled_is_grouped row_cmp_total row_cmp_exact (λ (c : Cell). first_of c.0) (λ (c : Cell). c.1) (merged_grows sum_laws) c.args.refs.now c.loop-i.cells c.loop-i.invariant.0 (rw all at c.loop-i.invariant.1)
