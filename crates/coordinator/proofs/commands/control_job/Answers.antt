use Rattle.std.proofs.Common.{Some}
use Rattle.job_board.specs.BoardModel.{now}
use Rattle.coordinator.proofs.Blocks.{steered_entry}
use Rattle.coordinator.proofs.commands.control_job.Goals as goal

pub returns-after-controlled-clause-block : goal.returns-after-controlled-clause-block
returns-after-controlled-clause-block g c = λ said. steered_entry (now c.args.board.now) c.args.line c.args.job c.args.control (Some said) _ c.in-Ok.ensures.answer

pub returns-in-Err-clause-block : goal.returns-in-Err-clause-block
returns-in-Err-clause-block g c = λ said. steered_entry (now c.args.board.now) c.args.line c.args.job c.args.control (Some said) _ c.in-Err.ensures.answer
