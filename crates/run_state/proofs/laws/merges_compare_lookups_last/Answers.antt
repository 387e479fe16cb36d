use Rattle.run_state.proofs.Ranges.{merge_lookups}
use Rattle.run_state.proofs.laws.merges_compare_lookups_last.Goals as goal

pub returns : goal.returns
returns g c = λ cube w range. merge_lookups cube w range
