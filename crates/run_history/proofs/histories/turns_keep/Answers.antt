use Rattle.run_history.proofs.Kept.{kept_turns, task_kept, query_stays, answers_rise}
use Rattle.run_history.proofs.histories.turns_keep.Goals as goal

pub returns-clause-work : goal.returns-clause-work
returns-clause-work g c = λ cube steps w i turns a. kept_turns cube steps w turns i a

pub returns-clause-query : goal.returns-clause-query
returns-clause-query g c = λ cube w turn line q e h. query_stays cube w turn line q e h

pub returns-clause-answers : goal.returns-clause-answers
returns-clause-answers g c = λ cube w turn fresh session. answers_rise cube w turn fresh session

pub returns-clause-task : goal.returns-clause-task
returns-clause-task g c = λ cube old new s t attempt h le current. task_kept cube old new s t attempt h le current
