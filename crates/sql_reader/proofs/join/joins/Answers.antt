use Rattle.std.proofs.Common.{sym}
use Rattle.sql_reader.proofs.Levels.{d_join}
use Rattle.sql_reader.proofs.Loops.{next_one, shorter}
use Rattle.sql_reader.proofs.join.joins.Goals as goal

pub more-smaller : goal.more-smaller
more-smaller c = shorter d_join.exact c.more.rest.now _ _ c.in_ok-join.ensures

pub more-preserved : goal.more-preserved
more-preserved c = rw c.in_ok-push.ensures.ok (next_one d_join.exact c.more.joins c.more.rest.now _ _ _ (sym c.more-test.ensures) c.in_ok-join.ensures c.more.invariant)
