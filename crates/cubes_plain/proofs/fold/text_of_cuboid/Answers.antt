use Rattle.std.proofs.Common.{◌≡◌, ◌++◌, ◌∙◌, [], ap, arith, sym, take}
use Rattle.std.specs.List.{flat_map}
use Rattle.std.proofs.lemmas.List.{flat_map_more, take_more}
use Rattle.cell_store.specs.Selects.{row_at}
use Rattle.cubes_plain.specs.Cuboids.{row_line}
use Rattle.cubes_plain.specs.Folds.{header_line}
use Rattle.cubes_plain.proofs.fold.text_of_cuboid.Goals as goal

pub loop-i-preserved : goal.loop-i-preserved
loop-i-preserved g c =
    let rows = c.args.cuboid.now.rows in
    let dict = c.args.dict.now in
    let i = c.loop-i.i in
    let line : c.as_slice-in-loop-i.result.now ≡ row_line dict (row_at rows i) = c.as_slice-in-loop-i.ensures.value ∙ c.in_ok-line.ensures in
    c.in_ok-extend_from_slice.ensures.items ∙ (λ k. c.loop-i.invariant k ++ line k) ∙ flat_map_more (row_line dict) header_line (take i rows) (row_at rows i)
    ∙ ap (λ l. header_line ++ flat_map (row_line dict) l) (sym (take_more rows i ([], []) (omega arith)))
