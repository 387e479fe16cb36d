use Rattle.version_row.specs.Rows.{IsOf}
use Rattle.set_check.proofs.threads.pin_all.Given as goal

abbrev pub invariant-loop : goal.invariant-loop
invariant-loop l = IsOf l.row l.session
