use Rattle.run_history.proofs.Growth.{small_world}
use Rattle.run_history.proofs.bounds.numbers_are_small.Goals as goal

pub returns : goal.returns
returns g c = λ cube workers initial turns. small_world cube workers initial turns
