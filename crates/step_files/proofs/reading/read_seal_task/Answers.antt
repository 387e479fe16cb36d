use Rattle.step_codec.specs.Seals.{seal_at}
use Rattle.step_files.specs.declared.task.Task.TheVariants.{Seal}
use Rattle.step_files.proofs.ReadFacts.{as_fails, as_gives}
use Rattle.step_files.proofs.reading.read_seal_task.Goals as goal

pub returns-in-Ok : goal.returns-in-Ok
returns-in-Ok c = as_gives Seal seal_at c.args.r.now c.in-Ok.seal c.read_seal.new.r c.in-Ok.ensures

pub returns-in-Err : goal.returns-in-Err
returns-in-Err c = as_fails Seal seal_at c.args.r.now c.in-Err.e c.in-Err.ensures
