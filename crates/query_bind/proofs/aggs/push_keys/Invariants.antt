use Rattle.std.proofs.Common.{◌≡◌, take, fold}
use Rattle.std.specs.List.{flat_map}
use Rattle.query_names.specs.Parts.{key_term}
use Rattle.query_bind.specs.Asks.{given_agg, with_agg}
use Rattle.query_bind.proofs.aggs.push_keys.Given as goal

abbrev pub invariant-loop-key : goal.invariant-loop-key
invariant-loop-key l =
    l.aggs.items ≡ fold with_agg l.initial.aggs.items (flat_map (λ key. given_agg l.scope.parts.now l.scope.query.now (key_term l.scope.query.now key.term)) (take l.key-index l.keys))
