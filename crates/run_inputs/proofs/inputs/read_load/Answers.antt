use Rattle.std.proofs.Common.{refl}
use Rattle.std.proofs.lemmas.List.Elements.{All-push}
use Rattle.run_inputs.specs.Inputs.{HasFittingRows}
use Rattle.run_inputs.proofs.Faults.{load_read}
use Rattle.run_inputs.proofs.inputs.read_load.Goals as goal

pub returns-in-Ok-push-clause-ok : goal.returns-in-Ok-push-clause-ok
returns-in-Ok-push-clause-ok g c = λ loads h.
    load_read (g.F.Files.contents c.args.files.now) c.in-Some.path.now c.args.line.now.number c.args.line.now.verb loads c.args.tables.now c.push.new.self _
    (c.in-Some.ensures.some c.args.line.now.number) c.in-Ok-push.ensures.ok refl c.in-Ok.ensures.ok h

pub returns-in-Ok-push-clause-fits : goal.returns-in-Ok-push-clause-fits
returns-in-Ok-push-clause-fits g c = λ h. rw c.in-Ok-push.ensures.ok (All-push HasFittingRows c.args.tables.now _ h c.in-Ok.ensures.fits)
