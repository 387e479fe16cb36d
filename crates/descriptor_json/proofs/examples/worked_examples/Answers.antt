use Rattle.std.proofs.Common.{refl}
use Rattle.std.specs.Fmt.{digits}
use Rattle.descriptor_json.proofs.examples.worked_examples.Goals as goal

pub returns-clause-places : goal.returns-clause-places
unfolding digits
returns-clause-places c = refl
