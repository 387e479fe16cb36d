use Rattle.std.proofs.Common.{◌≡◌, ◌∙◌, ◌++◌, ◌∷◌, [], ap, arith, length, sym}
use Rattle.std.specs.Prelude.{map}
use Rattle.std.specs.List.{range_with_len}
use Rattle.std.proofs.lemmas.List.FromFn.{map-range_with_len_more}
use Rattle.cube_desc.specs.Cube.{Cube}
use Rattle.step_files.specs.Cubes.{table_of, tables_of}
use Rattle.step_files.proofs.cube.tables_of.Goals as goal

pub loop-t-preserved : goal.loop-t-preserved
loop-t-preserved c =
    let own = table_of c.args.desc.now.cube in
    let t = c.loop-t.t in
    let inv : c.loop-t.tables.items ≡ map own (range_with_len 0 t) = c.loop-t.invariant in
    c.in_ok-push.ensures.items ∙ (λ i. inv i ++ c.in_ok-table_of.ensures i ∷ []) ∙ sym (map-range_with_len_more own 0 t t (omega arith))

pub returns : goal.returns
unfolding tables_of
returns c =
    let count : c.loop-t.t ≡ length c.cube.inside.tables = omega arith in
    let all : length c.cube.inside.tables ≡ length c.args.desc.now.cube.tables = ap (λ (cube : Cube). length cube.tables) (c.cube.view_is ∙ c.parts-cube.ensures.value) in
    c.loop-t.invariant ∙ ap (λ n. map (table_of c.args.desc.now.cube) (range_with_len 0 n)) (count ∙ all)
