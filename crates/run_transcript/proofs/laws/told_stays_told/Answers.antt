use Rattle.run_transcript.proofs.Histories.{told-front}
use Rattle.run_transcript.proofs.Told.{told-along}
use Rattle.run_transcript.proofs.laws.told_stays_told.Goals as goal

pub returns-clause-along : goal.returns-clause-along
returns-clause-along g c = λ served script w entries turns. told-along served script w entries turns

pub returns-clause-front : goal.returns-clause-front
returns-clause-front g c = λ served inputs history later. told-front served inputs history later
