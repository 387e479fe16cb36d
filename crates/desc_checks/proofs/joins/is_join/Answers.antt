use Rattle.std.proofs.Common.{rules}
use Rattle.desc_checks.proofs.joins.is_join.Goals as goal

pub returns-then-is_join_kind : goal.returns-then-is_join_kind
returns-then-is_join_kind c = rw (← c.lookup_columns.ensures, ← c.fact_columns.ensures) (search rules)
