use Rattle.std.proofs.Common.{[], refl, rules}
use Rattle.run_transcript.proofs.examples.worked_history.Goals as goal

pub returns-clause-whole : goal.returns-clause-whole
returns-clause-whole c = record { legal = record { later = []; in_order = refl; allowed = search rules }; whole = refl }
