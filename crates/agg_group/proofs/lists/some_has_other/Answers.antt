use Rattle.std.proofs.Common.{sym, ◌∙◌, rules, tests}
use Rattle.std.proofs.lemmas.Iterator.{YieldsList-from_slice}
use Rattle.std.proofs.lemmas.Iterator.Search.{any_from_yields_List}
use Rattle.agg_group.specs.Faults.{has_other}
use Rattle.agg_group.proofs.ListLemmas.{list_any-map}
use Rattle.agg_group.proofs.lists.some_has_other.Goals as goal

pub returns : goal.returns
returns c =
    let e = any_from_yields_List (λ l. has_other c.args.includes.now l.items) _ _ c.any.result c.any.ensures.ran (YieldsList-from_slice c.args.lists.now cc) (λ x b q k. search (rules, tests)) in
    e ∙ sym (list_any-map (has_other c.args.includes.now) (λ l. l.items) c.args.lists.now)
