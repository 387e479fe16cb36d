use Rattle.std.proofs.Common.{[], ◌∷◌, map, sym, subst}
use Rattle.run_transcript.specs.Served.{Inputs}
use Rattle.coordinator.specs.Coordinator.{RisesFrom, inputs_in, load_of}
use Rattle.coordinator.specs.Runs.{IsRunOver, status_of}
use Rattle.coordinator.specs.Served.{inputs_of}
use Rattle.coordinator.proofs.Endings.{err_status, inputs-are, no-run, ok_status, start-counted, start-sound, start-written}
use Rattle.coordinator.proofs.Whole.{run-over}
use Rattle.std.proofs.Common.{All, refl, ap, ◌∙◌}
use Rattle.job_board.specs.BoardModel.{turns}
use Rattle.coordinator.specs.Served.{served}
use Rattle.coordinator.specs.Stops.{stops_of}
use Rattle.step_outcomes.specs.Ends.{IsUndamaged}
use Rattle.step_outcomes.specs.Faults.{IsEndBy, StandsAmong}
use Rattle.coordinator.proofs.Asked.{asks-none, asks-over, no-turns, requests-none}
use Rattle.step_outcomes.proofs.CallFacts.{calls-none, with_calls}
use Rattle.coordinator.proofs.HandAgreementFacts.{calls-none_over, calls-over, none-all, agrees-start}
use Rattle.step_outcomes.proofs.FaultFacts.{all-stand}
use Rattle.coordinator.proofs.run.run_script.Goals as goal

pub drive-ended-requires-clause-sound : goal.drive-ended-requires-clause-sound
drive-ended-requires-clause-sound g c κs within =
    let d = c.in-Ok.coordinator in
    start-sound d.script (map load_of d.loads.items) d.board d.taken c.in-Ok.ensures.board c.in-Ok.ensures.taken (subst (RisesFrom 0) (sym c.in-Ok.ensures.script) c.requires.given.rise)

pub returns-in-Err-clause-ran : goal.returns-in-Err-clause-ran
returns-in-Err-clause-ran g c = no-run g.H.Honest.honest (inputs_of 1 c.args.inputs) c.new.result.items (g.S.Sink.written c.args.sink.now) refl c.new.ensures.items

pub returns-in-Ok-clause-ran : goal.returns-in-Ok-clause-ran
returns-in-Ok-clause-ran g c =
    let d = c.in-Ok.coordinator in
    let e = c.drive-ended.ensures in
    let ended = c.drive-ended.result in
    let before = g.S.Sink.written c.args.sink.now in
    let first = start-written g.H.Honest.honest d.script d.board before c.in-Ok.ensures.board in
    subst (λ (inputs : Inputs). IsRunOver g.H.Honest.honest inputs c.into_history.result.items (status_of ended) before (g.S.Sink.written c.drive-ended.new.sink))
    (inputs-are c.args.inputs d.script (map load_of d.loads.items) c.in-Ok.ensures.script c.in-Ok.ensures.loads)
    (run-over g.H.Honest.honest (inputs_in d.script (map load_of d.loads.items)) c.drive-ended.new.coordinator.board c.drive-ended.new.coordinator.taken (status_of ended) c.into_history.result.items
    before (g.S.Sink.written c.drive-ended.new.sink) e.front c.into_history.ensures.history c.into_history.ensures.legal c.into_history.ensures.fresh (ok_status ended _ e.sound) (ok_status ended _ e.done)
    (λ z. ok_status ended _ e.written z before first) (λ z. err_status ended _ e.part z before first))

pub returns-in-Ok-clause-runs : goal.returns-in-Ok-clause-runs
returns-in-Ok-clause-runs g c =
    let d = c.in-Ok.coordinator in
    let first = start-counted g.H.Hand.runs g.H.Hand.faults (d.hand ∷ []) d.board c.in-Ok.ensures.board in
    let counted = c.drive-ended.ensures.counted (d.hand ∷ []) first in
    rw c.into_history.ensures.history (rw (sym c.in-Ok.ensures.hand) counted.ran)

pub returns-in-Ok-clause-faults : goal.returns-in-Ok-clause-faults
returns-in-Ok-clause-faults g c =
    let d = c.in-Ok.coordinator in
    let first = start-counted g.H.Hand.runs g.H.Hand.faults (d.hand ∷ []) d.board c.in-Ok.ensures.board in
    let counted = c.drive-ended.ensures.counted (d.hand ∷ []) first in
    rw c.into_history.ensures.history (rw (sym c.in-Ok.ensures.hand) counted.failed)

-- ---- no turn was taken

pub returns-in-Err-clause-fails : goal.returns-in-Err-clause-fails
returns-in-Err-clause-fails g c = λ told e. none-all (IsEndBy told) c.new.result.items c.new.ensures.items

pub returns-in-Err-clause-fails_stand : goal.returns-in-Err-clause-fails_stand
returns-in-Err-clause-fails_stand g c = λ told e. none-all (StandsAmong told) c.new.result.items c.new.ensures.items

pub returns-in-Err-clause-fails_same : goal.returns-in-Err-clause-fails_same
returns-in-Err-clause-fails_same g c = ap g.H.Hand.fails c.in-Err.ensures.back

pub returns-in-Err-clause-calls : goal.returns-in-Err-clause-calls
returns-in-Err-clause-calls g c =
    ([], ap g.H.Hand.calls c.in-Err.ensures.back ∙ calls-none (g.H.Hand.calls c.args.hand), calls-none_over g.H.Honest.honest (inputs_of 1 c.args.inputs) c.new.result.items c.new.ensures.items)

pub returns-in-Err-clause-undamaged : goal.returns-in-Err-clause-undamaged
returns-in-Err-clause-undamaged g c = λ honest. none-all IsUndamaged c.new.result.items c.new.ensures.items

pub returns-in-Err-clause-asks : goal.returns-in-Err-clause-asks
returns-in-Err-clause-asks g c = asks-none c.args.stopper.now c.args.stopper.now refl g.P.Stopper.asks (inputs_of 1 c.args.inputs) c.new.result.items c.new.ensures.items

pub returns-in-Err-clause-requests : goal.returns-in-Err-clause-requests
returns-in-Err-clause-requests g c = requests-none c.args.stopper.now c.args.stopper.now refl g.P.Stopper.requests (stops_of served (inputs_of 1 c.args.inputs) c.new.result.items)

-- ---- what the hand did, and the stopper

pub returns-in-Ok-clause-fails : goal.returns-in-Ok-clause-fails
returns-in-Ok-clause-fails g c = λ told e.
    let d = c.in-Ok.coordinator in
    let agrees = c.drive-ended.ensures.agrees d.hand (agrees-start g.H.Honest.honest g.H.Hand.fails g.H.Hand.calls d.hand d.board c.in-Ok.ensures.board) in
    subst (All (IsEndBy told)) (sym c.into_history.ensures.history) (agrees.follows told (ap g.H.Hand.fails c.in-Ok.ensures.hand ∙ e))

pub returns-in-Ok-clause-fails_stand : goal.returns-in-Ok-clause-fails_stand
returns-in-Ok-clause-fails_stand g c = λ told e.
    let d = c.in-Ok.coordinator in
    let agrees = c.drive-ended.ensures.agrees d.hand (agrees-start g.H.Honest.honest g.H.Hand.fails g.H.Hand.calls d.hand d.board c.in-Ok.ensures.board) in
    all-stand told c.into_history.result.items (subst (All (IsEndBy told)) (sym c.into_history.ensures.history) (agrees.follows told (ap g.H.Hand.fails c.in-Ok.ensures.hand ∙ e)))

pub returns-in-Ok-clause-fails_same : goal.returns-in-Ok-clause-fails_same
returns-in-Ok-clause-fails_same g c =
    let d = c.in-Ok.coordinator in
    let agrees = c.drive-ended.ensures.agrees d.hand (agrees-start g.H.Honest.honest g.H.Hand.fails g.H.Hand.calls d.hand d.board c.in-Ok.ensures.board) in
    agrees.fails_same ∙ ap g.H.Hand.fails c.in-Ok.ensures.hand

pub returns-in-Ok-clause-calls : goal.returns-in-Ok-clause-calls
returns-in-Ok-clause-calls g c =
    let d = c.in-Ok.coordinator in
    let agrees = c.drive-ended.ensures.agrees d.hand (agrees-start g.H.Honest.honest g.H.Hand.fails g.H.Hand.calls d.hand d.board c.in-Ok.ensures.board) in
    let inputs = inputs-are c.args.inputs d.script (map load_of d.loads.items) c.in-Ok.ensures.script c.in-Ok.ensures.loads in (
      agrees.new_calls,
      agrees.told_calls ∙ ap (λ hand. with_calls (g.H.Hand.calls hand) agrees.new_calls) c.in-Ok.ensures.hand,
      calls-over g.H.Honest.honest (inputs_in d.script (map load_of d.loads.items)) (inputs_of 1 c.args.inputs) inputs c.drive-ended.new.coordinator.board c.into_history.result.items
          agrees.new_calls c.drive-ended.ensures.front c.into_history.ensures.history agrees.are_calls,
    )

pub returns-in-Ok-clause-undamaged : goal.returns-in-Ok-clause-undamaged
returns-in-Ok-clause-undamaged g c = λ honest.
    let d = c.in-Ok.coordinator in
    let agrees = c.drive-ended.ensures.agrees d.hand (agrees-start g.H.Honest.honest g.H.Hand.fails g.H.Hand.calls d.hand d.board c.in-Ok.ensures.board) in
    subst (All IsUndamaged) (sym c.into_history.ensures.history) (agrees.sound honest)

pub returns-in-Ok-clause-asks : goal.returns-in-Ok-clause-asks
returns-in-Ok-clause-asks g c =
    let d = c.in-Ok.coordinator in
    let inputs = inputs-are c.args.inputs d.script (map load_of d.loads.items) c.in-Ok.ensures.script c.in-Ok.ensures.loads in
    asks-over c.args.stopper.now c.drive-ended.new.stopper c.drive-ended.ensures.stopper g.P.Stopper.asks (inputs_in d.script (map load_of d.loads.items)) (inputs_of 1 c.args.inputs) inputs
    c.drive-ended.new.coordinator.board c.into_history.result.items c.drive-ended.ensures.front c.into_history.ensures.history

pub returns-in-Ok-clause-requests : goal.returns-in-Ok-clause-requests
returns-in-Ok-clause-requests g c =
    requests-none c.args.stopper.now c.drive-ended.new.stopper c.drive-ended.ensures.stopper g.P.Stopper.requests (stops_of served (inputs_of 1 c.args.inputs) c.into_history.result.items)

pub returns-in-Ok-clause-quiet : goal.returns-in-Ok-clause-quiet
returns-in-Ok-clause-quiet g c = λ some none.
    let d = c.in-Ok.coordinator in
    c.drive-ended.ensures.quiet (λ e. some (sym c.in-Ok.ensures.script ∙ e)) (ap turns c.in-Ok.ensures.board)
    (no-turns (turns c.drive-ended.new.coordinator.board) c.into_history.result.items c.into_history.ensures.history none)
