use Rattle.std.proofs.Common.{◌∙◌, sym}
use Rattle.layer_builder.proofs.place_cache.stands_at.Goals as goal

pub returns-in-Some-clause-within : goal.returns-in-Some-clause-within
returns-in-Some-clause-within c told = c.in-Some.ensures.lookup.3.0

pub returns-in-Some-clause-there : goal.returns-in-Some-clause-there
returns-in-Some-clause-there c told = sym (c.in-Some.ensures.lookup.3.1 c.args.v.now) ∙ c.are_equal.ensures told
