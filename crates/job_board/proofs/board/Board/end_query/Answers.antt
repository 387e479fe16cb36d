use Rattle.job_board.proofs.Added.{added_query_end, asked_there, w}
use Rattle.job_board.proofs.board.Board.end_query.Goals as goal

pub end_query-requires : goal.end_query-requires
end_query-requires g c = asked_there g.H.Honest.honest c.self.inside.workers c.self.inside.room c.self.inside.names.items c.self.inside.state c.self.inside.log c.args.self.now c.self.view_is c.self.invariant c.args.line c.requires.in_flight

pub invariant_of-self : goal.invariant_of-self
invariant_of-self g c = added_query_end g.H.Honest.honest c.self.inside.workers c.self.inside.room c.self.inside.names.items c.self.inside.state c.self.inside.log c.args.self.now c.self.view_is c.self.invariant c.requires.room c.end_query.new.state c.record_turn.new.log c.args.line c.args.out c.record_turn.ensures c.requires.in_flight c.requires.fresh (c.end_query.ensures.state (w g.H.Honest.honest c.self.inside.workers c.self.inside.room c.self.inside.names.items c.self.inside.state c.self.inside.log c.args.self.now c.self.view_is c.self.invariant) c.self.invariant.state) c.end_query.ensures.kept
