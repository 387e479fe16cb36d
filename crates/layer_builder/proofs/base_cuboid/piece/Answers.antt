use Rattle.std.proofs.Common.{◌≡◌, ◌-◌, ◌∙◌, List, ap, arith, length, map, subst}
use Rattle.std.specs.Prelude.{IfOk}
use Rattle.std.proofs.lemmas.List.{length-map}
use Rattle.std.proofs.lemmas.List.Sorted.{length_permutation}
use Rattle.cell_gather.proofs.TableFacts.{Row}
use Rattle.cube_val.specs.declared.val.Val.{Val}
use Rattle.layer_builder.specs.Base.{key_in, key_width, measures_from}
use Rattle.layer_builder.specs.Runs.{cells_by_key}
use Rattle.layer_builder.proofs.RunFacts.{Keyed, by_key-rows, table_is, widths_of}
use Rattle.layer_builder.proofs.base_cuboid.piece.Goals as goal

pub keyed_rows-requires : goal.keyed_rows-requires
keyed_rows-requires c = omega (arith, c.len.ensures)

pub table_of-requires : goal.table_of-requires
table_of-requires c =
    let dicts = c.args.dicts.now in
    let rows = c.args.rows.now in
    let width = c.len.result - c.distincts.result in
    let with_key : List Val → Keyed = λ row. (key_in dicts width row, row) in
    let same = c.deref.ensures.value in
    let moved = c.in_ok-sorted.ensures.permutation in
    let sizes = length_permutation c.in_ok-keyed.keyed.items c.in_ok-sorted.sorted.items moved in
    let made = ap length c.in_ok-keyed.ensures in
    let all = length-map rows with_key in
    rw same (record {
      places = omega (arith, c.requires.dicts, c.len.ensures, c.distincts.ensures);
      fits = omega (arith, c.len.ensures, c.len.type_inv);
      dims = omega (arith, c.requires.few_dims, c.len.ensures, c.distincts.ensures);
      forms = c.requires.forms;
      sorted = c.in_ok-sorted.ensures.sorted;
      widths = widths_of dicts width rows c.in_ok-keyed.keyed.items c.in_ok-sorted.sorted.items c.in_ok-keyed.ensures moved;
      few = omega (arith, c.requires.few);
    })

pub returns : goal.returns
returns c =
    let aggs = c.args.aggs.now in
    let dicts = c.args.dicts.now in
    let rows = c.args.rows.now in
    let width : c.len.result - c.distincts.result ≡ key_width aggs dicts = λ i. c.len.ensures i - c.distincts.ensures i in
    let ms = measures_from dicts (key_width aggs dicts) aggs in
    let key = key_in dicts (key_width aggs dicts) in
    let keyed : c.in_ok-keyed.keyed.items ≡ map (λ row. (key row, row)) rows = c.in_ok-keyed.ensures ∙ (λ i. map (λ row. (key_in dicts (width i) row, row)) rows) in
    let all = (λ i. cells_by_key (measures_from dicts (width i) aggs) (c.deref.ensures.value i)) ∙ c.in_ok-sorted.ensures.groups ms ∙ ap (cells_by_key ms) keyed ∙ by_key-rows ms key rows in
    table_is aggs dicts rows c.table_of.result (rw width at c.table_of.ensures.mask) (rw c.requires.forms at c.table_of.ensures.forms)
    (subst (λ (l : List Row). IfOk c.table_of.result (λ t. t.rows ≡ l)) all c.table_of.ensures.rows)
