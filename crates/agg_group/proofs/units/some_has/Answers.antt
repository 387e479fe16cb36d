use Rattle.std.proofs.Common.{sym, ◌∙◌, rules, tests}
use Rattle.std.proofs.lemmas.Iterator.{YieldsList-from_slice}
use Rattle.std.proofs.lemmas.Iterator.Search.{any_from_yields_List}
use Rattle.agg_group.specs.Sets.{is_among}
use Rattle.agg_group.proofs.ListLemmas.{list_any-map}
use Rattle.agg_group.proofs.units.some_has.Goals as goal

pub returns : goal.returns
returns c =
    let e = any_from_yields_List (λ l. is_among c.args.d l.items) _ _ c.any.result c.any.ensures.ran (YieldsList-from_slice c.args.lists.now cc) (λ x b q k. search (rules, tests)) in
    e ∙ sym (list_any-map (is_among c.args.d) (λ l. l.items) c.args.lists.now)
