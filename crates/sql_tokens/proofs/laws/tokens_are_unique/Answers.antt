use Rattle.sql_tokens.proofs.Cutting.{tokens_are_unique}
use Rattle.sql_tokens.proofs.laws.tokens_are_unique.Goals as goal

pub returns : goal.returns
returns c = tokens_are_unique
