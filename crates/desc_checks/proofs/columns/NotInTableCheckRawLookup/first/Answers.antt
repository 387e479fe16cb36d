use Rattle.desc_checks.proofs.FirstLemmas.{first_append}
use Rattle.desc_checks.proofs.columns.NotInTableCheckRawLookup.first.Goals as goal

pub returns : goal.returns
returns c = rw (← c.lookup_columns-own.ensures, ← c.fact_columns-fact.ensures) (simp first_append (cc))
