use Rattle.entry_laws.proofs.OpenEntryFacts.{opened_world}
use Rattle.entry_laws.proofs.laws.asked_are_open.Goals as goal

pub returns : goal.returns
returns g c = λ served inputs history legal line. opened_world served inputs history legal line
