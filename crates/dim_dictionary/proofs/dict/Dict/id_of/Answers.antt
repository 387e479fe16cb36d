use Rattle.std.proofs.Common.{◌∙◌, refl, subst}
use mathlib.Core.Bool.{true≢false}
use Rattle.std.specs.List.Sorted.{IsStrictlySortedBy}
use Rattle.cube_val.specs.Order.{val_cmp}
use Rattle.cube_val.specs.OrderLaws.{val_cmp_total}
use Rattle.measure_laws.specs.RisingFacts.{searchable}
use Rattle.dim_dictionary.proofs.DictLemmas.{found_is_there, found_value, not_there}
use Rattle.dim_dictionary.proofs.dict.Dict.id_of.Goals as goal

pub returns-in-Ok-clause-found : goal.returns-in-Ok-clause-found
returns-in-Ok-clause-found c =
    let same = c.deref.ensures.value ∙ c.self.view_is in
    found_value c.args.self.now c.in-Ok.id c.args.v.now (rw same at c.in-Ok.ensures.bound) (rw same at c.in-Ok.ensures.ok)

pub returns-in-Ok-clause-absent : goal.returns-in-Ok-clause-absent
returns-in-Ok-clause-absent c =
    let same = c.deref.ensures.value ∙ c.self.view_is in
    (λ none. absurd (true≢false none), λ not. absurd (not (found_is_there c.args.self.now c.in-Ok.id c.args.v.now (rw same at c.in-Ok.ensures.bound) (rw same at c.in-Ok.ensures.ok))))

pub returns-in-Err-clause-absent : goal.returns-in-Err-clause-absent
returns-in-Err-clause-absent c =
    let same = c.deref.ensures.value ∙ c.self.view_is in
    let up = subst (IsStrictlySortedBy val_cmp) c.self.view_is c.self.invariant.rising in
    let found = rw same at c.in-Err.ensures.position in
    (λ none there. not_there c.args.self.now c.in-Err._place c.args.v.now (found (searchable val_cmp_total c.args.self.now c.args.v.now up)) there, λ not. refl)
