use Rattle.std.proofs.Common.{ap, sym}
use Rattle.std.specs.Result.{result_ok}
use Rattle.step_task.proofs.CubeFacts.{cube_is}
use Rattle.step_task.proofs.making.descriptor.Goals as goal

pub returns-in-Ok : goal.returns-in-Ok
returns-in-Ok c = sym (cube_is c.args.bytes.now c.in-Ok.desc.cube (ap result_ok c.in-Ok.ensures.ok))
