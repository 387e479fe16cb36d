use Rattle.std.proofs.Common.{◌≡◌, take, map}
use Rattle.query_bind.specs.Asks.{bound_item}
use Rattle.query_bind.proofs.terms.bound_items.Given as goal

abbrev pub invariant-loop-item : goal.invariant-loop-item
invariant-loop-item l = l.outs ≡ map (bound_item l.scope.parts.now l.scope.query.now l.aggs) (take l.item-index l.items)
