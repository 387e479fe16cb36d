use Rattle.plain_answer.proofs.GroupLemmas.{groups_grouped}
use Rattle.plain_answer.proofs.laws.groups_are_grouped.Goals as goal

pub returns : goal.returns
returns c = groups_grouped
