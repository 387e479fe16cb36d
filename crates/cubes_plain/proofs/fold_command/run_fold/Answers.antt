use Rattle.std.proofs.Common.{ap, Err}
use Rattle.cubes_plain.proofs.FileFacts.{not_accepted, not_faulty}
use Rattle.cubes_plain.specs.Tables.{IsFoldFault}
use Rattle.fault_lines.proofs.FileFacts.{not_longer, not_nothing}
use Rattle.cubes_plain.proofs.fold_command.run_fold.Goals as goal

pub returns-in-Ok-clause-faulty : goal.returns-in-Ok-clause-faulty
returns-in-Ok-clause-faulty g c fault told =
    let read = c.in-Ok.ensures.ok in
    absurd (not_faulty (g.F.Files.contents c.args.files.now) c.args.path.now read.0 fault read.1 told)

pub returns-in-Err-BadTable-clause-nothing_there : goal.returns-in-Err-BadTable-clause-nothing_there
returns-in-Err-BadTable-clause-nothing_there g c told =
    let bad = c.in-Err-BadTable.ensures.bad c.in-Err-BadTable.fault (ap Err c.in-Err-BadTable.field-0-is) in
    absurd (not_nothing (g.F.Files.contents c.args.files.now) c.args.path.now (λ bytes. IsFoldFault bytes c.in-Err-BadTable.fault) bad told)

pub returns-in-Err-BadTable-clause-longer : goal.returns-in-Err-BadTable-clause-longer
returns-in-Err-BadTable-clause-longer g c told =
    let bad = c.in-Err-BadTable.ensures.bad c.in-Err-BadTable.fault (ap Err c.in-Err-BadTable.field-0-is) in
    absurd (not_longer (g.F.Files.contents c.args.files.now) c.args.path.now (λ bytes. IsFoldFault bytes c.in-Err-BadTable.fault) bad told)

pub returns-in-Err-BadTable-clause-complete : goal.returns-in-Err-BadTable-clause-complete
returns-in-Err-BadTable-clause-complete g c rows told no_read no_write =
    let bad = c.in-Err-BadTable.ensures.bad c.in-Err-BadTable.fault (ap Err c.in-Err-BadTable.field-0-is) in
    absurd (not_accepted (g.F.Files.contents c.args.files.now) c.args.path.now rows c.in-Err-BadTable.fault bad told)
