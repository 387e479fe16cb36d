use Rattle.std.proofs.Common.{refl}
use Rattle.byte_frame.specs.Reading.{items_at, each_at}
use Rattle.byte_frame.proofs.examples.worked_examples.Goals as goal

pub returns-clause-list : goal.returns-clause-list
unfolding items_at each_at
returns-clause-list c = refl

pub returns-clause-counted : goal.returns-clause-counted
unfolding items_at each_at
returns-clause-counted c = refl
