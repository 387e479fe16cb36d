use Rattle.job_board.proofs.Added.{jobs_few, rest_there}
use Rattle.job_board.proofs.board.Board.jobs.Goals as goal

pub returns-clause-few : goal.returns-clause-few
returns-clause-few g c = rw c.deref.ensures.value (jobs_few g.H.Honest.honest c.self.inside.workers c.self.inside.room c.self.inside.names.items c.self.inside.state c.self.inside.log c.args.self.now c.self.view_is c.self.invariant)

pub returns-clause-rest : goal.returns-clause-rest
returns-clause-rest g c = rest_there g.H.Honest.honest c.self.inside.workers c.self.inside.room c.self.inside.names.items c.self.inside.state c.self.inside.log c.args.self.now c.self.view_is c.self.invariant
