use Rattle.std.proofs.Common.{List, refl}
use Rattle.script_text.specs.declared.verb.Line.{Line}
use Rattle.run_inputs.proofs.Faults.{bad_script, fault_is}
use Rattle.run_inputs.proofs.file.read_script_at.Goals as goal

pub returns-in-Err-BadScript-clause-fault : goal.returns-in-Err-BadScript-clause-fault
returns-in-Err-BadScript-clause-fault g c = λ f e.
    let refused = rw c.in-Err-BadScript.field-0-is at c.in-Err-BadScript.ensures in
    bad_script (g.F.Files.contents c.args.files.now) c.args.path.now c.in-Ok.bytes.items c.in-Err-BadScript.line f (fault_is (List Line) _ f e)
    c.in-Ok.ensures.stands c.in-Ok.ensures.short (rw c.as_slice.ensures.value at (refused.bad c.in-Err-BadScript.line refl))
