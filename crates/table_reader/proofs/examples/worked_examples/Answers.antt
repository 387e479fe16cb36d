use Rattle.std.proofs.Common.{refl}
use Rattle.table_reader.proofs.examples.worked_examples.Goals as goal

pub returns-clause-named : goal.returns-clause-named
returns-clause-named c = refl

pub returns-clause-places : goal.returns-clause-places
returns-clause-places c = refl

pub returns-clause-missing : goal.returns-clause-missing
returns-clause-missing c = refl

pub returns-clause-repeated : goal.returns-clause-repeated
returns-clause-repeated c = refl

pub returns-clause-missing_first : goal.returns-clause-missing_first
returns-clause-missing_first c = refl
