use Rattle.table_reader.proofs.OutcomeFacts.{one_outcome}
use Rattle.table_reader.proofs.laws.files_have_one_outcome.Goals as goal

pub returns : goal.returns
returns c = one_outcome
