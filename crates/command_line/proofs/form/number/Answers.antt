use Rattle.command_line.proofs.FormFacts.{no_number}
use Rattle.command_line.proofs.form.number.Goals as goal

pub returns-clause-none : goal.returns-clause-none
returns-clause-none c = rw c.ok.ensures.value (no_number c.args.most c.args.word.now c.parse.result c.requires c.parse.ensures.value.0)
