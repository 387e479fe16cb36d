use Rattle.run_transcript.proofs.Told.{told-block, told-first_filled, told-open}
use Rattle.run_transcript.proofs.laws.more_is_told.Goals as goal

pub returns-clause-block : goal.returns-clause-block
returns-clause-block c = λ entries line block h. told-block entries line block h

pub returns-clause-open : goal.returns-clause-open
returns-clause-open c = λ entries back line. told-open entries back line

pub returns-clause-filled : goal.returns-clause-filled
returns-clause-filled c = λ front back line block h. told-first_filled front back line block h
