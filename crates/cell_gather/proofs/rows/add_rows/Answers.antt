use Rattle.std.proofs.Common.{◌≡◌, ◌+◌, ◌∷◌, ◌++◌, ◌∙◌, [], List, ℕ, ap, append_assoc, arith, get_or, map, sym, take}
use Rattle.std.proofs.lemmas.List.{map_more}
use Rattle.cell_store.specs.Selects.{row_at}
use Rattle.cell_store.specs.declared.cell.Cell.{Cell}
use Rattle.cell_gather.specs.Keys.{kept_numbers}
use Rattle.cell_gather.proofs.rows.add_rows.Goals as goal

abbrev Row : Type 0
Row = List ℕ × List Cell

pub loop-i-preserved : goal.loop-i-preserved
loop-i-preserved g c =
    let i = c.loop-i.i in
    let all = c.args.table.now.rows in
    let had = c.args.rows.now.items in
    let kept : Row → Row = λ r. (kept_numbers c.args.keeps.now r.0, r.1) in
    let more : map kept (take (i + 1) all) ≡ map kept (take i all) ++ kept (row_at all i) ∷ [] = map_more kept all i ([], []) (omega arith) in
    record {
      rows = c.in_ok-add_row.ensures.row ∙ ap (λ (l : List Row). l ++ kept (row_at all i) ∷ []) c.loop-i.invariant.rows ∙ append_assoc had (map kept (take i all)) (kept (row_at all i) ∷ []) ∙ ap (λ l. had ++ l) (sym more);
      steps = omega (arith, c.add_row.ensures.step, c.loop-i.invariant.steps);
    }
