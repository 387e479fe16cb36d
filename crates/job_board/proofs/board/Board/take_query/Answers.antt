use Rattle.std.proofs.Common.{◌≡◌, ◌⊎◌, ◌∙◌, ◌==◌, [], Some, None, ap, subst, sym}
use Rattle.std.specs.Prelude.{find, option_map}
use Rattle.byte_frame.specs.Spelling.{EachFits}
use Rattle.fixed_cube.specs.Answers.{by_first}
use Rattle.fixed_state.specs.Kept.{IsReadyKept}
use Rattle.fixed_state.specs.Ready.{AreCellsOf}
use Rattle.job_board.specs.BoardModel.{next_query}
use Rattle.plain_answer.specs.declared.ask.Ask.{Ask as Query}
use Rattle.run_history.specs.World.{Waiting, World}
use Rattle.run_state.specs.States.{waiting_of}
use Rattle.job_board.proofs.Queries.{by_first_is, cells_here, line_is, next_is, next_none}
use Rattle.job_board.proofs.Added.{added_take, cells_small, forth, version_there, w}
use Rattle.job_board.proofs.board.Board.take_query.Goals as goal

pub returns-in_default-clause-first : goal.returns-in_default-clause-first
returns-in_default-clause-first g c = sym (ap (option_map (λ (q : Waiting Query). q.line)) (forth g.H.Honest.honest c.self.inside.workers c.self.inside.room c.self.inside.names.items c.self.inside.state c.self.inside.log c.args.self.now c.self.view_is c.self.invariant (λ (v : World Query). next_query v ≡ None) (next_none (w g.H.Honest.honest c.self.inside.workers c.self.inside.room c.self.inside.names.items c.self.inside.state c.self.inside.log c.args.self.now c.self.view_is c.self.invariant) c.self.inside.state c.self.invariant.state (sym c.in_default.ensures.place))))

pub ready_cells-requires : goal.ready_cells-requires
ready_cells-requires g c = cells_small g.H.Honest.honest c.self.inside.workers c.self.inside.room c.self.inside.names.items c.self.inside.state c.self.inside.log c.args.self.now c.self.view_is c.self.invariant

pub invariant_of-self-2 : goal.invariant_of-self-2
invariant_of-self-2 g c = added_take g.H.Honest.honest c.self.inside.workers c.self.inside.room c.self.inside.names.items c.self.inside.state c.self.inside.log c.args.self.now c.self.view_is c.self.invariant c.requires.room c.take_query.new.state c.record_turn.new.log c.in-Ok-take_query.query.line c.record_turn.ensures c.requires.worker (c.in-Some.ensures.next c.in-Ok-take_query.query c.in-Ok-take_query.ensures.query (w g.H.Honest.honest c.self.inside.workers c.self.inside.room c.self.inside.names.items c.self.inside.state c.self.inside.log c.args.self.now c.self.view_is c.self.invariant) c.self.invariant.state) (c.in-Ok-take_query.ensures.state (w g.H.Honest.honest c.self.inside.workers c.self.inside.room c.self.inside.names.items c.self.inside.state c.self.inside.log c.args.self.now c.self.view_is c.self.invariant) c.self.invariant.state) c.in-Ok-take_query.ensures.kept

pub returns-clause-first : goal.returns-clause-first
returns-clause-first g c = sym (ap (option_map (λ (q : Waiting Query). q.line)) (forth g.H.Honest.honest c.self.inside.workers c.self.inside.room c.self.inside.names.items c.self.inside.state c.self.inside.log c.args.self.now c.self.view_is c.self.invariant (λ (v : World Query). next_query v ≡ Some (waiting_of c.in-Ok-take_query.query)) (next_is (w g.H.Honest.honest c.self.inside.workers c.self.inside.room c.self.inside.names.items c.self.inside.state c.self.inside.log c.args.self.now c.self.view_is c.self.invariant) c.self.inside.state c.self.invariant.state c.in-Some.place c.in-Ok-take_query.query (sym c.in-Some.ensures.place) c.in-Ok-take_query.ensures.query)))

pub returns-clause-session : goal.returns-clause-session
returns-clause-session g c = forth g.H.Honest.honest c.self.inside.workers c.self.inside.room c.self.inside.names.items c.self.inside.state c.self.inside.log c.args.self.now c.self.view_is c.self.invariant (λ (v : World Query). (q : Waiting Query) → find (λ other. other.line == c.in-Ok-take_query.query.line) v.waiting ≡ Some q → c.in-Ok-take_query.query.session ≡ q.session)
    (λ q e. ap (λ (x : Waiting Query). x.session) (line_is (w g.H.Honest.honest c.self.inside.workers c.self.inside.room c.self.inside.names.items c.self.inside.state c.self.inside.log c.args.self.now c.self.view_is c.self.invariant) c.self.inside.state c.self.invariant.state c.in-Some.place c.in-Ok-take_query.query q c.in-Ok-take_query.ensures.query e))

pub returns-clause-query : goal.returns-clause-query
returns-clause-query g c = forth g.H.Honest.honest c.self.inside.workers c.self.inside.room c.self.inside.names.items c.self.inside.state c.self.inside.log c.args.self.now c.self.view_is c.self.invariant (λ (v : World Query). (q : Waiting Query) → find (λ other. other.line == c.in-Ok-take_query.query.line) v.waiting ≡ Some q → q.query ≡ by_first)
    (λ q e. by_first_is (w g.H.Honest.honest c.self.inside.workers c.self.inside.room c.self.inside.names.items c.self.inside.state c.self.inside.log c.args.self.now c.self.view_is c.self.invariant) c.self.inside.state c.self.invariant.state g.H.Honest.honest c.in-Ok-take_query.query.line q c.self.invariant.kept e)

pub returns-clause-cells : goal.returns-clause-cells
returns-clause-cells g c = forth g.H.Honest.honest c.self.inside.workers c.self.inside.room c.self.inside.names.items c.self.inside.state c.self.inside.log c.args.self.now c.self.view_is c.self.invariant (λ (v : World Query). g.H.Honest.honest ⊎ (v.ready ≡ []) → AreCellsOf v.ready c.in-Ok.cells)
    (λ h. cells_here g.H.Honest.honest (w g.H.Honest.honest c.self.inside.workers c.self.inside.room c.self.inside.names.items c.self.inside.state c.self.inside.log c.args.self.now c.self.view_is c.self.invariant).ready c.in-Ok.cells (subst (EachFits (IsReadyKept g.H.Honest.honest) (w g.H.Honest.honest c.self.inside.workers c.self.inside.room c.self.inside.names.items c.self.inside.state c.self.inside.log c.args.self.now c.self.view_is c.self.invariant).ready) (sym c.in-Ok.ensures) c.self.invariant.kept.ready) h)

pub returns-clause-version : goal.returns-clause-version
returns-clause-version g c = c.version-version.ensures ∙ version_there g.H.Honest.honest c.self.inside.workers c.self.inside.room c.self.inside.names.items c.self.inside.state c.self.inside.log c.args.self.now c.self.view_is c.self.invariant
