use Rattle.std.proofs.Common.{◌≡◌, ◌++◌, ◌∷◌, ◌∙◌, [], ℕ, List, Some, All, ap, arith, map, refl, subst, sym}
use Rattle.std.specs.List.{flat_map, slice_get}
use Rattle.std.proofs.lemmas.Result.{IfOk-weaker}
use Rattle.cell_store.specs.declared.cell.Cell.{Cell}
use Rattle.cube_val.specs.Values.{FitsType}
use Rattle.cube_val.specs.declared.val.ColType.TheVariants as ty
use Rattle.cube_val.specs.declared.val.Val.{Val}
use Rattle.layer_builder.specs.Cuboids.{IsCuboid}
use Rattle.cubes_plain.specs.Cuboids.{IsSumRow, column_dict, d1_alone, dicts_of, row_line, sum_of_m}
use Rattle.cubes_plain.specs.Folds.{header_line}
use Rattle.cubes_plain.proofs.CellFacts.{cuboid_groups, cuboid_lines, cuboid_rows, dict_fits, groups_by_d1, numbered}
use Rattle.cubes_plain.proofs.fold.fold_text.Goals as goal

pub text_of_cuboid-requires-clause-blank : goal.text_of_cuboid-requires-clause-blank
text_of_cuboid-requires-clause-blank g c = (refl, refl, omega (arith, c.new.ensures))

pub text_of_cuboid-requires-clause-rows : goal.text_of_cuboid-requires-clause-rows
text_of_cuboid-requires-clause-rows g c =
    let rows = c.args.rows.items in
    let table = c.in_ok-table.table in
    let dict = column_dict rows 0 in
    let dicts : c.in_ok-dicts.dicts ≡ dicts_of rows = c.in_ok-dicts.ensures ∙ ap dicts_of (c.rows.ensures ∙ c.of-flat.ensures) in
    let at : Some dict ≡ Some c.get.result.now = ap (λ l. slice_get l 0) (sym dicts) ∙ c.get.ensures in
    let first : dict ≡ c.get.result.now = cc at in
    let is : IsCuboid (sum_of_m ∷ []) (dicts_of rows) rows d1_alone table = subst (λ (f : List (List Val)). IsCuboid (sum_of_m ∷ []) (dicts_of f) f d1_alone table) c.of-flat.ensures c.in_ok-table.ensures in
    subst (λ (l : List (List ℕ × List Cell)). All (IsSumRow c.get.result.now) l) (sym (cuboid_groups rows table c.requires.rows is))
    (subst (λ (d : List Val). All (IsSumRow d) (map (numbered dict) (groups_by_d1 rows))) first (cuboid_rows rows))

pub text_of_cuboid-requires-clause-texts : goal.text_of_cuboid-requires-clause-texts
text_of_cuboid-requires-clause-texts g c =
    let rows = c.args.rows.items in
    let dicts : c.in_ok-dicts.dicts ≡ dicts_of rows = c.in_ok-dicts.ensures ∙ ap dicts_of (c.rows.ensures ∙ c.of-flat.ensures) in
    let at : Some (column_dict rows 0) ≡ Some c.get.result.now = ap (λ l. slice_get l 0) (sym dicts) ∙ c.get.ensures in
    let first : column_dict rows 0 ≡ c.get.result.now = cc at in
    subst (λ (d : List Val). All (FitsType ty.Text) d) first (dict_fits rows c.requires.rows)

pub returns : goal.returns
returns g c =
    let rows = c.args.rows.items in
    let table = c.in_ok-table.table in
    let dicts : c.in_ok-dicts.dicts ≡ dicts_of rows = c.in_ok-dicts.ensures ∙ ap dicts_of (c.rows.ensures ∙ c.of-flat.ensures) in
    let at : Some (column_dict rows 0) ≡ Some c.get.result.now = ap (λ l. slice_get l 0) (sym dicts) ∙ c.get.ensures in
    let first : column_dict rows 0 ≡ c.get.result.now = cc at in
    let is : IsCuboid (sum_of_m ∷ []) (dicts_of rows) rows d1_alone table = subst (λ (f : List (List Val)). IsCuboid (sum_of_m ∷ []) (dicts_of f) f d1_alone table) c.of-flat.ensures c.in_ok-table.ensures in
    let groups = cuboid_groups rows table c.requires.rows is in
    IfOk-weaker c.text_of_cuboid.result _ _ (λ text h. h ∙ (λ i. header_line ++ flat_map (row_line (sym first i)) (groups i)) ∙ ap (λ l. header_line ++ l) (cuboid_lines rows)) c.text_of_cuboid.ensures
