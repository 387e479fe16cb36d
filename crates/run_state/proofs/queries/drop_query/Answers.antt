use Rattle.std.proofs.Common.{◌==◌, not, rules, tests}
use Rattle.std.proofs.lemmas.Fn.{filter_same}
use Rattle.run_state.proofs.queries.drop_query.Goals as goal

pub returns : goal.returns
returns c = filter_same _ (λ q. not (q.line == c.args.line)) _ (λ x b q h. (search (rules, tests), search (rules, tests))) _ _ c.retain.ensures.filtered
