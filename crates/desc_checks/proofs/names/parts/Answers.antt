use Rattle.desc_checks.proofs.PartLemmas.{table_is, column_is, table_all, column_none}
use Rattle.desc_checks.proofs.names.parts.Goals as goal

pub returns-in-Some-clause-table : goal.returns-in-Some-clause-table
returns-in-Some-clause-table c = table_is _ _ c.in-Some.ensures

pub returns-in-Some-clause-column : goal.returns-in-Some-clause-column
returns-in-Some-clause-column c = column_is _ _ c.in-Some.ensures

pub returns-in-None-clause-table : goal.returns-in-None-clause-table
returns-in-None-clause-table c = table_all _ c.in-None.ensures

pub returns-in-None-clause-column : goal.returns-in-None-clause-column
returns-in-None-clause-column c = column_none _ c.in-None.ensures
