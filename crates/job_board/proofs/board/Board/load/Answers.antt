use Rattle.std.proofs.Common.{◌≡◌, ◌∙◌, subst, sym}
use Rattle.fixed_cube.specs.Columns.{fact_columns, row_limit}
use Rattle.fixed_state.specs.States.{StandsFor}
use Rattle.run_history.specs.Commands.Command.{Load}
use Rattle.run_history.specs.Cubes.{Rows}
use Rattle.run_history.specs.Steps.{accepted}
use Rattle.step_fields.specs.Fits.{FitsRows}
use Rattle.job_board.proofs.Added.{added_load, w}
use Rattle.job_board.proofs.board.Board.load.Goals as goal

pub invariant_of-self : goal.invariant_of-self
invariant_of-self g c =
    let e : c.of.result ≡ c.of-logged.result = c.of.ensures ∙ sym (c.of-logged.ensures ∙ c.in-Ok.ensures.cases) in
    let fits : FitsRows fact_columns row_limit c.of-logged.result = subst (FitsRows fact_columns row_limit) (sym c.of.ensures ∙ e) c.requires.fits in
    let stands = subst (λ (rows : Rows). StandsFor (accepted 0 (record (w g.H.Honest.honest c.self.inside.workers c.self.inside.room c.self.inside.names.items c.self.inside.state c.self.inside.log c.args.self.now c.self.view_is c.self.invariant) { line = c.args.line }) (Load c.args.table rows)) c.load.new.state) e (c.load.ensures.state (w g.H.Honest.honest c.self.inside.workers c.self.inside.room c.self.inside.names.items c.self.inside.state c.self.inside.log c.args.self.now c.self.view_is c.self.invariant) c.self.invariant.state) in
    added_load g.H.Honest.honest c.self.inside.workers c.self.inside.room c.self.inside.names.items c.self.inside.state c.self.inside.log c.args.self.now c.self.view_is c.self.invariant c.requires.room c.load.new.state c.record_turn.new.log c.args.line c.args.table c.of-logged.result c.record_turn.ensures c.requires.above c.requires.there fits stands c.load.ensures.kept
