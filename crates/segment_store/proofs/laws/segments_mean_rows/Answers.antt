use Rattle.segment_store.proofs.Means.{segment_means_rows}
use Rattle.segment_store.proofs.laws.segments_mean_rows.Goals as goal

pub returns : goal.returns
returns c = segment_means_rows
