use Rattle.query_names.proofs.AskedFacts.{asked_kept}
use Rattle.query_names.proofs.laws.what_is_asked_is_kept.Goals as goal

pub returns : goal.returns
returns c = asked_kept
