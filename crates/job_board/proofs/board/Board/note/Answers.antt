use Rattle.job_board.proofs.Added.{added_note, w}
use Rattle.job_board.proofs.board.Board.note.Goals as goal

pub invariant_of-self : goal.invariant_of-self
invariant_of-self g c = added_note g.H.Honest.honest c.self.inside.workers c.self.inside.room c.self.inside.names.items c.self.inside.state c.self.inside.log c.args.self.now c.self.view_is c.self.invariant c.requires.room c.set_line.new.state c.record_turn.new.log c.args.line c.args.noted c.record_turn.ensures c.requires.above c.requires.may (c.set_line.ensures.state (w g.H.Honest.honest c.self.inside.workers c.self.inside.room c.self.inside.names.items c.self.inside.state c.self.inside.log c.args.self.now c.self.view_is c.self.invariant) c.self.invariant.state) c.set_line.ensures.kept
