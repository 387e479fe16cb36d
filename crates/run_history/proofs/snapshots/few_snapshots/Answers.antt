use Rattle.run_history.proofs.FewSnapshots.{few_accepted_jobs, few_finished_jobs}
use Rattle.run_history.proofs.snapshots.few_snapshots.Goals as goal

pub returns-clause-finished : goal.returns-clause-finished
returns-clause-finished g c = λ cube workers initial turns version. few_finished_jobs cube workers initial turns version

pub returns-clause-accepted : goal.returns-clause-accepted
returns-clause-accepted g c = λ cube workers initial turns version. few_accepted_jobs cube workers initial turns version
