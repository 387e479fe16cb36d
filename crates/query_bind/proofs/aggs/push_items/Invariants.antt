use Rattle.std.proofs.Common.{◌≡◌, take, fold}
use Rattle.std.specs.List.{flat_map}
use Rattle.query_bind.specs.Asks.{given_agg, with_agg}
use Rattle.query_bind.proofs.aggs.push_items.Given as goal

abbrev pub invariant-loop-item : goal.invariant-loop-item
invariant-loop-item l = l.aggs.items ≡ fold with_agg l.initial.aggs.items (flat_map (λ item. given_agg l.scope.parts.now l.scope.query.now item.term) (take l.item-index l.items))
