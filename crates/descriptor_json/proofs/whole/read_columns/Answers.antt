use Rattle.std.proofs.Common.{refl}
use Rattle.descriptor_json.proofs.whole.read_columns.Goals as goal

pub returns : goal.returns
returns c = rw (c.in_ok-partition.ensures, c.in_ok-dimensions.ensures, c.in_ok-measures.ensures) refl
