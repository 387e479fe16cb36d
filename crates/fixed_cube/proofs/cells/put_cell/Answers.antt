use Rattle.std.proofs.Common.{◌≡◌, ◌++◌, ℕ, List, ap, ◌∙◌, OnOk}
use Rattle.std.specs.Prelude.{FitsSigned}
use Rattle.std.specs.Int.{w64, w128, to_be_bytes}
use Rattle.std.proofs.lemmas.Int.{to_z-of_z}
use Rattle.std.proofs.lemmas.Result.{on_ok_weaker}
use Rattle.byte_frame.specs.Spelling.{signed_text}
use Rattle.step_fields.specs.Spelling.{row_text}
use Rattle.fixed_cube.specs.Spelling.{cell_text}
use Rattle.fixed_cube.proofs.AddFacts.{four_parts}
use Rattle.fixed_cube.proofs.cells.put_cell.Goals as goal

pub returns : goal.returns
returns c =
    let old = c.args.out.now.items in
    let key = row_text c.key.result.now in
    let count = to_be_bytes w64 c.items.result in
    let total = signed_text w128 c.value.result in
    let fits : FitsSigned w128 c.value.result = record { sfits = c.value.type_inv } in
    let put = simp to_z-of_z at c.put_i128.ensures.put in
    let before : c.put_u64.new.out.items ≡ (old ++ key) ++ count = c.in_ok-put_u64.ensures.put ∙ ap (λ (t : List ℕ). t ++ count) c.in_ok-put_row.ensures in
    let fields : key ++ (count ++ total) ≡ cell_text (c.key.result.now, c.sum-sum.result.now) = λ i. key ++ (to_be_bytes w64 (c.items.ensures i) ++ signed_text w128 (c.value.ensures.value i)) in
    let cell : cell_text (c.key.result.now, c.sum-sum.result.now) ≡ cell_text c.args.cell.now = λ i. cell_text (c.key.ensures i, c.sum-sum.ensures i) in
    on_ok_weaker c.put_i128.result
    (λ last. last ∙ ap (λ (t : List ℕ). t ++ total) before ∙ four_parts old key count total ∙ ap (λ (t : List ℕ). old ++ t) (fields ∙ cell)) put
