use Rattle.std.proofs.Common.{◌≡◌, take, map}
use Rattle.query_bind.specs.Asks.{bound_key}
use Rattle.query_bind.proofs.terms.bound_keys.Given as goal

abbrev pub invariant-loop-key : goal.invariant-loop-key
invariant-loop-key l = l.order ≡ map (bound_key l.scope.parts.now l.scope.query.now l.aggs) (take l.key-index l.keys)
