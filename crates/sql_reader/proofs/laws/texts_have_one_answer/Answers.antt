use Rattle.sql_reader.proofs.Least.{not_both, one_fault, one_query}
use Rattle.sql_reader.proofs.laws.texts_have_one_answer.Goals as goal

pub returns-clause-query : goal.returns-clause-query
returns-clause-query c = one_query

pub returns-clause-fault : goal.returns-clause-fault
returns-clause-fault c = one_fault

pub returns-clause-either : goal.returns-clause-either
returns-clause-either c = not_both
