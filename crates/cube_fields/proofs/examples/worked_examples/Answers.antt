use Rattle.std.proofs.Common.{refl}
use Rattle.byte_frame.specs.Reading.{items_at}
use Rattle.step_fields.specs.Reading.{typed_at}
use Rattle.cube_fields.proofs.examples.worked_examples.Goals as goal

pub returns-clause-falls : goal.returns-clause-falls
unfolding items_at typed_at
returns-clause-falls c = refl
