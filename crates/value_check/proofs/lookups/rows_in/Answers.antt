use Rattle.value_check.proofs.lookups.rows_in.Goals as goal

pub returns : goal.returns
returns c = c.loop-row.invariant
