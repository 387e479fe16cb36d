use Rattle.std.proofs.Common.{refl}
use Rattle.std.specs.Prelude.{codes}
use Rattle.cubes_plain.proofs.step_examples.worked_steps.Goals as goal

pub returns-clause-task : goal.returns-clause-task
returns-clause-task c = (codes "!ab", refl, λ e. cc e)

pub returns-clause-untold : goal.returns-clause-untold
returns-clause-untold c = (codes "!ab", tt, λ e. cc e)

pub returns-clause-produced : goal.returns-clause-produced
returns-clause-produced c = (codes "!ab", refl, λ e. cc e, refl)
