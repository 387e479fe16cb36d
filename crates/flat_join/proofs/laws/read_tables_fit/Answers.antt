use Rattle.flat_join.proofs.FitFacts as facts
use Rattle.flat_join.proofs.laws.read_tables_fit.Goals as goal

pub returns : goal.returns
returns c = facts.read_tables_fit
