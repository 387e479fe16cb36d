use Rattle.std.proofs.Common.{◌≡◌, ◌∙◌, ℕ, List, ap, subst, Err}
use Rattle.cube_desc.specs.Meaning.{meaning}
use Rattle.cubes_plain.proofs.FileFacts.{not_described, not_misdescribed}
use Rattle.fault_lines.proofs.FileFacts.{not_longer, not_nothing}
use Rattle.fault_lines.specs.Lines.{AppendsAll}
use Rattle.outside.specs.Written.{AppendsPart}
use Rattle.cubes_plain.proofs.cuboids.run_cuboids.Goals as goal

pub returns-in-Ok-clause-done : goal.returns-in-Ok-clause-done
returns-in-Ok-clause-done g c same =
    let read = c.in-Ok.ensures.ok in (
      read.0,
      read.1,
      subst (λ (text : List ℕ). AppendsAll (g.S.Sink.written c.args.sink.now) (g.S.Sink.written c.finish.new.sink) text) (c.as_slice.ensures.value ∙ read.2) (c.finish.ensures.done same),
    )

pub returns-in-Ok-clause-write_fault_part : goal.returns-in-Ok-clause-write_fault_part
returns-in-Ok-clause-write_fault_part g c same =
    let read = c.in-Ok.ensures.ok in (
      read.0,
      read.1,
      subst (λ (text : List ℕ). AppendsPart (g.S.Sink.written c.args.sink.now) (g.S.Sink.written c.finish.new.sink) text) (c.as_slice.ensures.value ∙ read.2) (c.finish.ensures.part same),
    )

pub returns-in-Ok-clause-misdescribed : goal.returns-in-Ok-clause-misdescribed
returns-in-Ok-clause-misdescribed g c fault told =
    let read = c.in-Ok.ensures.ok in
    absurd (not_misdescribed (g.F.Files.contents c.args.files.now) c.args.path.now read.0 fault read.1 told)

pub returns-in-Err-BadDescriptor-clause-nothing_there : goal.returns-in-Err-BadDescriptor-clause-nothing_there
returns-in-Err-BadDescriptor-clause-nothing_there g c told =
    let bad = c.in-Err-BadDescriptor.ensures.bad c.in-Err-BadDescriptor.fault (ap Err c.in-Err-BadDescriptor.field-0-is) in
    absurd (not_nothing (g.F.Files.contents c.args.files.now) c.args.path.now (λ bytes. meaning bytes ≡ Err c.in-Err-BadDescriptor.fault) bad told)

pub returns-in-Err-BadDescriptor-clause-longer : goal.returns-in-Err-BadDescriptor-clause-longer
returns-in-Err-BadDescriptor-clause-longer g c told =
    let bad = c.in-Err-BadDescriptor.ensures.bad c.in-Err-BadDescriptor.fault (ap Err c.in-Err-BadDescriptor.field-0-is) in
    absurd (not_longer (g.F.Files.contents c.args.files.now) c.args.path.now (λ bytes. meaning bytes ≡ Err c.in-Err-BadDescriptor.fault) bad told)

pub returns-in-Err-BadDescriptor-clause-complete : goal.returns-in-Err-BadDescriptor-clause-complete
returns-in-Err-BadDescriptor-clause-complete g c cube told no_read no_write =
    let bad = c.in-Err-BadDescriptor.ensures.bad c.in-Err-BadDescriptor.fault (ap Err c.in-Err-BadDescriptor.field-0-is) in
    absurd (not_described (g.F.Files.contents c.args.files.now) c.args.path.now cube c.in-Err-BadDescriptor.fault bad told)
