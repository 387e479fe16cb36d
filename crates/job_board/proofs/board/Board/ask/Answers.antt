use Rattle.std.proofs.Common.{◌≡◌, subst}
use Rattle.fixed_cube.specs.Answers.{by_first}
use Rattle.fixed_state.specs.States.{StandsFor}
use Rattle.plain_answer.specs.declared.ask.Ask.{Ask as Query}
use Rattle.run_history.specs.Commands.Command.{Ask}
use Rattle.run_history.specs.Steps.{accepted}
use Rattle.job_board.proofs.Added.{accepted_small, added_ask, w}
use Rattle.job_board.proofs.board.Board.ask.Goals as goal

pub ask-requires-clause-few : goal.ask-requires-clause-few
ask-requires-clause-few g c = accepted_small g.H.Honest.honest c.self.inside.workers c.self.inside.room c.self.inside.names.items c.self.inside.state c.self.inside.log c.args.self.now c.self.view_is c.self.invariant

pub invariant_of-self-2 : goal.invariant_of-self-2
invariant_of-self-2 g c =
    let e : c.in-Ok.query ≡ by_first = c.in-Ok.ensures in
    let stands = subst (λ (query : Query). StandsFor (accepted 0 (record (w g.H.Honest.honest c.self.inside.workers c.self.inside.room c.self.inside.names.items c.self.inside.state c.self.inside.log c.args.self.now c.self.view_is c.self.invariant) { line = c.args.line }) (Ask c.args.session query)) c.ask.new.state) e (c.in-Ok-ask.ensures.state (w g.H.Honest.honest c.self.inside.workers c.self.inside.room c.self.inside.names.items c.self.inside.state c.self.inside.log c.args.self.now c.self.view_is c.self.invariant) c.self.invariant.state) in
    added_ask g.H.Honest.honest c.self.inside.workers c.self.inside.room c.self.inside.names.items c.self.inside.state c.self.inside.log c.args.self.now c.self.view_is c.self.invariant c.requires.room c.ask.new.state c.record_turn.new.log c.args.line c.args.session c.record_turn.ensures c.requires.above stands c.in-Ok-ask.ensures.kept
