use Rattle.std.proofs.Common.{◌≡◌, drop}
use Rattle.run_state.specs.States.{answered_in}
use Rattle.job_board.proofs.board.answered_of.Given as goal

abbrev pub invariant-loop-listed : goal.invariant-loop-listed
invariant-loop-listed l = answered_in (drop l.listed-index l.sessions) l.session ≡ answered_in l.sessions l.session
