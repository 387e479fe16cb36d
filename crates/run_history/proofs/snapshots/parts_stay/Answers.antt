use Rattle.run_history.proofs.Kept.{merge_stays}
use Rattle.run_history.proofs.snapshots.parts_stay.Goals as goal

pub returns : goal.returns
returns g c = λ cube steps w i turns a job s t e f merge live. merge_stays cube steps w i turns a job s t e f merge live
