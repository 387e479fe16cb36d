use Rattle.run_inputs.proofs.Outcomes.{answers_as}
use Rattle.run_inputs.proofs.inputs.read_inputs.Goals as goal

pub returns-clause-told : goal.returns-clause-told
returns-clause-told g c = λ outcome t.
    answers_as (g.F.Files.contents c.args.files.now) c.args.path.now outcome c.read_files.result t c.read_files.ensures.ok c.read_files.ensures.fault
