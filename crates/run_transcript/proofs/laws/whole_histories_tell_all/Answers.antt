use Rattle.run_transcript.proofs.Unanswered.{count_entries, settled_told}
use Rattle.run_transcript.proofs.laws.whole_histories_tell_all.Goals as goal

pub returns-clause-entries : goal.returns-clause-entries
returns-clause-entries g c = λ served inputs history. count_entries served inputs history

pub returns-clause-told : goal.returns-clause-told
returns-clause-told g c = λ served inputs history settled. settled_told served inputs history settled
