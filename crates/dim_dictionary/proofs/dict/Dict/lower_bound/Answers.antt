use Rattle.std.proofs.Common.{◌∙◌, sym, subst}
use Rattle.std.specs.List.Sorted.{IsStrictlySortedBy}
use Rattle.cube_val.specs.Order.{val_cmp}
use Rattle.cube_val.specs.OrderLaws.{val_cmp_total}
use Rattle.measure_laws.specs.RisingFacts.{searchable}
use Rattle.dim_dictionary.proofs.DictLemmas.{count_to_found, count_to_place}
use Rattle.dim_dictionary.proofs.dict.Dict.lower_bound.Goals as goal

pub returns-in-Ok : goal.returns-in-Ok
returns-in-Ok c =
    let same = c.deref.ensures.value ∙ c.self.view_is in
    let up = subst (IsStrictlySortedBy val_cmp) c.self.view_is c.self.invariant.rising in
    sym (count_to_found c.args.self.now c.in-Ok.id c.args.v.now up (rw same at c.in-Ok.ensures.bound) (rw same at c.in-Ok.ensures.ok))

pub returns-in-Err : goal.returns-in-Err
returns-in-Err c =
    let same = c.deref.ensures.value ∙ c.self.view_is in
    let up = subst (IsStrictlySortedBy val_cmp) c.self.view_is c.self.invariant.rising in
    let found = rw same at c.in-Err.ensures.position in
    sym (count_to_place c.args.self.now c.in-Err.place c.args.v.now (rw same at c.in-Err.ensures.bound) (found (searchable val_cmp_total c.args.self.now c.args.v.now up)))
