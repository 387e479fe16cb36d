use Rattle.desc_checks.proofs.FirstLemmas.{first_append}
use Rattle.desc_checks.proofs.columns.no_column_place.Goals as goal

pub returns : goal.returns
returns c = simp first_append (cc)
