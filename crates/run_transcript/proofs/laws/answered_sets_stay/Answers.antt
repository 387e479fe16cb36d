use Rattle.run_transcript.proofs.Histories.{sets-stay}
use Rattle.run_transcript.proofs.laws.answered_sets_stay.Goals as goal

pub returns : goal.returns
returns g c = λ served inputs history later steps initial legal version within. sets-stay served inputs history later steps initial legal version within
