use Rattle.query_names.proofs.uses.NotGroupedCheckSqlTerm.least.Goals as goal

pub returns-in-Col : goal.returns-in-Col
returns-in-Col c = rw (c.in-Col.is, ← c.found.ensures) (cc)
