use Rattle.desc_checks.proofs.FirstLemmas.{first_append}
use Rattle.desc_checks.proofs.limits.too_many_place.Goals as goal

pub returns : goal.returns
returns c = simp first_append (cc)
