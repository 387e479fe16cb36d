use Rattle.std.proofs.Common.{Option, Some, None, subst, sym}
use Rattle.byte_frame.specs.Outcomes.{Gives}
use Rattle.step_files.specs.declared.task.Task.{Task}
use Rattle.step_files.proofs.FileReads.{task_with}
use Rattle.step_files.proofs.files.task_in.Goals as goal

pub returns-in-Some : goal.returns-in-Some
returns-in-Some c = subst (λ (o : Option Task). Gives (λ (t : Task). t) c.read_body.result o) (sym (task_with c.args.bytes.now (Some c.in-Some.body.now) c.in-Some.ensures)) c.read_body.ensures

pub returns-in-None : goal.returns-in-None
returns-in-None c = task_with c.args.bytes.now None c.in-None.ensures
