use Rattle.run_history.proofs.Loads.{job_loaded, job_tables}
use Rattle.run_history.proofs.snapshots.loaded_stays.Goals as goal

pub returns-clause-loaded : goal.returns-clause-loaded
returns-clause-loaded g c = λ cube workers initial turns job s e reads. job_loaded cube workers initial turns job s e reads

pub returns-clause-tables : goal.returns-clause-tables
returns-clause-tables g c = λ cube workers initial turns job s e reads. job_tables cube workers initial turns job s e reads
