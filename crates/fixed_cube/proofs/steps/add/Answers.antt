use Rattle.std.proofs.Common.{◌≡◌, rules, sym, refl, Some, None}
use Rattle.std.specs.Prelude.{IsSome}
use Rattle.std.specs.BTreeMap.{get}
use Rattle.cube_val.specs.Order.{row_cmp}
use Rattle.cube_val.specs.OrderLaws.{row_cmp_total}
use Rattle.measure_laws.specs.Measures.{merged_sum}
use Rattle.fixed_cube.proofs.AddFacts.{adds_at, on_any}
use Rattle.fixed_cube.proofs.steps.add.Goals as goal

pub returns-in-Some-clause-adds : goal.returns-in-Some-clause-adds
returns-in-Some-clause-adds c =
    let was : get row_cmp c.args.cells.now c.args.key ≡ Some c.in-Some.cell.now = sym c.in-Some.ensures.value in
    let some : IsSome (get row_cmp c.args.cells.now c.args.key) = rw was refl in
    on_any c.merge.result (adds_at row_cmp_total merged_sum c.args.cells.now (c.get_mut.follows.lender c.merge.new.self) c.args.key
    c.args.part c.merge.new.self (Some c.in-Some.cell.now) was c.merge.ensures.value ((c.get_mut.follows.holds c.merge.new.self).3 some).0)

pub returns-clause-adds : goal.returns-clause-adds
returns-clause-adds c =
    let same : c.get_mut.follows.lender-at-none ≡ c.args.cells.now = search rules in
    let was : get row_cmp c.get_mut.follows.lender-at-none c.args.key ≡ None = search rules in
    rw same at (adds_at row_cmp_total merged_sum c.get_mut.follows.lender-at-none c.insert.new.self c.args.key
    c.args.part c.args.part None was refl c.in_ok-insert.ensures.updates.0)
