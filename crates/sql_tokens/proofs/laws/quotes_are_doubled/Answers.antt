use Rattle.sql_tokens.proofs.QuoteFacts.{doubled_is_read, read_is_doubled}
use Rattle.sql_tokens.proofs.laws.quotes_are_doubled.Goals as goal

pub returns-clause-read : goal.returns-clause-read
returns-clause-read c = doubled_is_read

pub returns-clause-written : goal.returns-clause-written
returns-clause-written c = read_is_doubled
