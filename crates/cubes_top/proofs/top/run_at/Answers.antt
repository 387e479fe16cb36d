use Rattle.std.proofs.Common.{[], ◌∷◌, ℕ, Ok, Err, length, refl, sym, ap, ◌∙◌, subst, inl, inr}
use Rattle.step_outcomes.specs.Ends.{fault_ends, run_ends}
use Rattle.coordinator.specs.Served.{inputs_of}
use Rattle.coordinator.specs.Stops.{AsksAmong}
use Rattle.step_outcomes.specs.Ends.{IsUndamaged}
use Rattle.step_outcomes.specs.Faults.{IsEndBy, StandsAmong}
use Rattle.coordinator.proofs.Asked.{asks-none, requests-none}
use Rattle.coordinator.proofs.HandAgreementFacts.{none-all}
use Rattle.outside.specs.Rises.{Risen, entries_of}
use Rattle.run_inputs.specs.declared.inputs.FixedInputs.{FixedInputs}
use Rattle.run_inputs.specs.Lines.{Refuses}
use Rattle.cubes_top.specs.Outcomes.{EndsAs}
use Rattle.cubes_top.specs.Ties.{HaveCalled, stops_over}
use Rattle.cubes_top.proofs.Given.{given-by}
use Rattle.cubes_top.proofs.HandFacts.{called-none, same-none}
use Rattle.cubes_top.proofs.SomeCommand.{some-command}
use Rattle.cubes_top.proofs.Refusals.{none-risen, refusal-is, refused-memory, refused-no_words, refused-no_write, refused-status, refused-unread, run-no_words, run-unread, told-given, told-refused, told-run}
use Rattle.cubes_top.proofs.top.run_at.Goals as goal

-- ---- over inputs

pub run_over-requires-clause-given : goal.run_over-requires-clause-given
run_over-requires-clause-given g c = λ κs h. given-by (g.F.Files.contents c.args.files.now) c.args.path.now c.in-Ok.inputs c.in-Ok.ensures.ok c.in-Ok.ensures.fits

pub returns-in-Ok-clause-ran : goal.returns-in-Ok-clause-ran
returns-in-Ok-clause-ran g c = inl (record { given = c.in-Ok.inputs; inputs = c.in-Ok.ensures.ok; over = c.run_over.ensures.ran; which = c.run_over.ensures.status })

pub returns-in-Ok-clause-told : goal.returns-in-Ok-clause-told
returns-in-Ok-clause-told g c = λ outcome t. told-run outcome c.in-Ok.inputs c.run_over.result.status (c.in-Ok.ensures.told outcome t) c.run_over.ensures.status

pub returns-in-Ok-clause-good_words : goal.returns-in-Ok-clause-good_words
returns-in-Ok-clause-good_words g c = run-no_words c.run_over.result.status c.run_over.ensures.status

pub returns-in-Ok-clause-read_fault : goal.returns-in-Ok-clause-read_fault
returns-in-Ok-clause-read_fault g c = λ e. absurd (run-unread c.run_over.result.status c.run_over.ensures.status e)

pub returns-in-Ok-clause-calls : goal.returns-in-Ok-clause-calls
returns-in-Ok-clause-calls g c = λ given t.
    let same = told-given given c.in-Ok.inputs (c.in-Ok.ensures.told (Ok given) t) in
    subst (λ (i : FixedInputs). HaveCalled g.H.Hand.calls g.H.Honest.honest i c.run_over.result.history.items c.args.hands.items c.run_over.result.hands.items) (sym same) c.run_over.ensures.calls

pub returns-in-Ok-clause-asks : goal.returns-in-Ok-clause-asks
returns-in-Ok-clause-asks g c = λ given t.
    let same = told-given given c.in-Ok.inputs (c.in-Ok.ensures.told (Ok given) t) in
    subst (λ (i : FixedInputs). Risen g.P.Stopper.asks (c.args.stopper.now ∷ []) (c.run_over.new.stopper ∷ []) (length (stops_over i c.run_over.result.history.items))) (sym same) c.run_over.ensures.asks

pub returns-in-Ok-clause-requests : goal.returns-in-Ok-clause-requests
returns-in-Ok-clause-requests g c = λ given t.
    let same = told-given given c.in-Ok.inputs (c.in-Ok.ensures.told (Ok given) t) in
    subst (λ (i : FixedInputs). AsksAmong (stops_over i c.run_over.result.history.items) (g.P.Stopper.requests c.args.stopper.now) (g.P.Stopper.requests c.run_over.new.stopper)) (sym same) c.run_over.ensures.requests

pub returns-in-Ok-clause-quiet : goal.returns-in-Ok-clause-quiet
returns-in-Ok-clause-quiet g c = λ memory none.
    c.run_over.ensures.quiet (some-command (g.F.Files.contents c.args.files.now) c.args.path.now c.in-Ok.inputs c.in-Ok.ensures.ok) none

-- ---- refused

pub returns-in-Err-clause-ran : goal.returns-in-Err-clause-ran
returns-in-Err-clause-ran g c =
    inr (record {
      refusal = c.in-Err.refusal;
      why = refusal-is (g.F.Files.contents c.args.files.now) c.args.path.now c.in-Err.refusal (λ fault k. c.in-Err.ensures.fault fault (ap Err k));
      none = c.without_run.ensures.none;
      refuses = subst (λ (status : ℕ). Refuses (g.S.Sink.faults c.args.sink.now) (g.S.Sink.faults c.refuse_inputs-status.new.sink) (g.S.Sink.written c.args.sink.now) (g.S.Sink.written c.refuse_inputs-status.new.sink) c.in-Err.refusal status) (sym c.without_run.ensures.status) c.refuse_inputs-status.ensures;
    })

pub returns-in-Err-clause-told : goal.returns-in-Err-clause-told
returns-in-Err-clause-told g c = λ outcome t.
    subst (λ (status : ℕ). EndsAs outcome status) (sym c.without_run.ensures.status)
    (told-refused _ _ _ _ outcome c.in-Err.refusal c.refuse_inputs-status.result (c.in-Err.ensures.told outcome t) c.refuse_inputs-status.ensures)

pub returns-in-Err-clause-good_words : goal.returns-in-Err-clause-good_words
returns-in-Err-clause-good_words g c = λ e. refused-no_words c.refuse_inputs-status.result (refused-status _ _ _ _ c.in-Err.refusal c.refuse_inputs-status.result c.refuse_inputs-status.ensures) (sym c.without_run.ensures.status ∙ e)

pub returns-in-Err-clause-write_fault : goal.returns-in-Err-clause-write_fault
returns-in-Err-clause-write_fault g c = λ e. absurd (refused-no_write c.refuse_inputs-status.result (refused-status _ _ _ _ c.in-Err.refusal c.refuse_inputs-status.result c.refuse_inputs-status.ensures) (sym c.without_run.ensures.status ∙ e))

pub returns-in-Err-clause-read_fault : goal.returns-in-Err-clause-read_fault
returns-in-Err-clause-read_fault g c = λ e.
    refused-unread _ _ _ _ c.in-Err.refusal c.refuse_inputs-status.result _ c.refuse_inputs-status.ensures (sym c.without_run.ensures.status ∙ e) (λ at k. c.in-Err.ensures.read at (ap Err k))

pub returns-in-Err-clause-runs : goal.returns-in-Err-clause-runs
returns-in-Err-clause-runs g c = none-risen g.H.Hand.runs run_ends refl c.args.hands.items c.without_run.result.hands.items c.without_run.result.history.items c.without_run.ensures.hands c.without_run.ensures.none

pub returns-in-Err-clause-faults : goal.returns-in-Err-clause-faults
returns-in-Err-clause-faults g c = none-risen g.H.Hand.faults fault_ends refl c.args.hands.items c.without_run.result.hands.items c.without_run.result.history.items c.without_run.ensures.hands c.without_run.ensures.none

pub returns-in-Err-clause-fails : goal.returns-in-Err-clause-fails
returns-in-Err-clause-fails g c = λ told all. none-all (IsEndBy told) c.without_run.result.history.items c.without_run.ensures.none

pub returns-in-Err-clause-fails_stand : goal.returns-in-Err-clause-fails_stand
returns-in-Err-clause-fails_stand g c = λ all. none-all (StandsAmong (entries_of g.H.Hand.fails c.args.hands.items)) c.without_run.result.history.items c.without_run.ensures.none

pub returns-in-Err-clause-fails_same : goal.returns-in-Err-clause-fails_same
returns-in-Err-clause-fails_same g c = same-none g.H.Hand.fails c.args.hands.items c.without_run.result.hands.items c.without_run.ensures.hands

pub returns-in-Err-clause-calls : goal.returns-in-Err-clause-calls
returns-in-Err-clause-calls g c = λ given t.
    called-none g.H.Hand.calls g.H.Honest.honest given c.without_run.result.history.items c.args.hands.items c.without_run.result.hands.items c.without_run.ensures.hands c.without_run.ensures.none

pub returns-in-Err-clause-undamaged : goal.returns-in-Err-clause-undamaged
returns-in-Err-clause-undamaged g c = λ honest. none-all IsUndamaged c.without_run.result.history.items c.without_run.ensures.none

pub returns-in-Err-clause-asks : goal.returns-in-Err-clause-asks
returns-in-Err-clause-asks g c = λ given t.
    asks-none c.args.stopper.now c.args.stopper.now refl g.P.Stopper.asks (inputs_of 1 given) c.without_run.result.history.items c.without_run.ensures.none

pub returns-in-Err-clause-requests : goal.returns-in-Err-clause-requests
returns-in-Err-clause-requests g c = λ given t.
    requests-none c.args.stopper.now c.args.stopper.now refl g.P.Stopper.requests (stops_over given c.without_run.result.history.items)

pub returns-in-Err-clause-quiet : goal.returns-in-Err-clause-quiet
returns-in-Err-clause-quiet g c = λ memory none.
    refused-memory _ _ _ _ c.in-Err.refusal c.refuse_inputs-status.result c.refuse_inputs-status.ensures (sym c.without_run.ensures.status ∙ memory)
