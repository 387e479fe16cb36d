use Rattle.step_task.proofs.TextFacts.{texts}
use Rattle.step_task.proofs.laws.texts_are_of_tasks.Goals as goal

pub returns : goal.returns
returns c = texts
