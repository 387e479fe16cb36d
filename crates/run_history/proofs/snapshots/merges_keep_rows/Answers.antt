use Rattle.run_history.proofs.MergedRows.{merge_rows}
use Rattle.run_history.proofs.snapshots.merges_keep_rows.Goals as goal

pub returns : goal.returns
returns g c = λ cube w i job attempt outcome s at merge. merge_rows cube w i job attempt outcome s at merge
