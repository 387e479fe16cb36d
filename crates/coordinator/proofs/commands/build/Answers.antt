use Rattle.std.proofs.Common.{Some}
use Rattle.job_board.specs.BoardModel.{now}
use Rattle.coordinator.proofs.Blocks.{built_entry}
use Rattle.coordinator.proofs.commands.build.Goals as goal

pub returns-in-Ok-clause-block : goal.returns-in-Ok-clause-block
returns-in-Ok-clause-block g c = λ said. built_entry (now c.args.board.now) c.args.line c.args.range (Some said) c.in-Ok.id c.in-Ok.ensures.number c.in-Ok.ensures.accepted
