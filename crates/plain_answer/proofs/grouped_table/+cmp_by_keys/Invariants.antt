use Rattle.std.proofs.Common.{length}
use Rattle.plain_answer.proofs.grouped_table.+cmp_by_keys.Given as goal

abbrev pub decreases-cmp_by_keys : goal.decreases-cmp_by_keys
decreases-cmp_by_keys l = length l.order.now
