use Rattle.std.proofs.Common.{length}
use Rattle.plain_answer.proofs.terms.+find_in_key.Given as goal

abbrev pub decreases-find_in_key : goal.decreases-find_in_key
decreases-find_in_key l = length l.columns.now
