use Rattle.std.proofs.Common.{◌≡◌, ◌⊎◌, ℕ, List, Ok, refl, sym, ◌∙◌, subst, inr}
use Rattle.std.specs.String.{string_bytes}
use Rattle.step_outcomes.specs.Ends.{fault_ends, run_ends}
use Rattle.coordinator.specs.Served.{inputs_of}
use Rattle.step_outcomes.specs.Ends.{IsUndamaged}
use Rattle.step_outcomes.specs.Faults.{IsEndBy, StandsAmong}
use Rattle.coordinator.proofs.Asked.{asks-none, requests-none}
use Rattle.coordinator.proofs.HandAgreementFacts.{none-all}
use Rattle.outside.specs.Rises.{entries_of}
use Rattle.cubes_top.specs.Ties.{stops_over}
use Rattle.cubes_top.proofs.HandFacts.{called-none, same-none}
use Rattle.run_inputs.specs.Laws.{TellsOutcomeAt}
use Rattle.run_inputs.specs.declared.fault.InputRefusal.TheVariants.{Memory}
use Rattle.cubes_top.specs.Outcomes.{IsRun}
use Rattle.cubes_top.specs.Outside.{seen}
use Rattle.cubes_top.specs.Plain.{IsPlain}
use Rattle.cubes_top.proofs.PlainFacts.{plain-memory}
use Rattle.cubes_top.proofs.Refusals.{complete-told, ends_memory, none-risen}
use Rattle.cubes_plain.specs.Steps.{IsStepRun, files_at, sink_at}
use Rattle.cubes_plain.proofs.StepFacts.{step_memory}
use Rattle.step_task.specs.Steps.{IsTask, made_of}
use Rattle.cubes_top.proofs.RunWords.{one_run, step-no_run}
use Rattle.cubes_top.proofs.top.run.Goals as goal

-- ---- a run

pub returns-in-Ok-Some-clause-ran : goal.returns-in-Ok-Some-clause-ran
returns-in-Ok-Some-clause-ran g c = λ path r.
    let said = rw c.in-Ok-Some.field-0-is at c.in-Ok-Some.ensures.some in
    let same = c.as_str.ensures.value ∙ one_run c.args.words.now (string_bytes c.in-Ok-Some.path) path said r in
    subst
    (λ (p : List ℕ). IsRun g.H.Honest.honest
    (seen (g.F.Files.contents c.args.files.now) (g.F.Files.faults c.args.files.now) (g.F.Files.faults c.run_at.new.files) (g.S.Sink.faults c.args.sink.now) (g.S.Sink.faults c.run_at.new.sink)
    (g.S.Sink.written c.args.sink.now) (g.S.Sink.written c.run_at.new.sink)) p c.run_at.result.history.items c.run_at.result.status) same c.run_at.ensures.ran

pub returns-in-Ok-Some-clause-told : goal.returns-in-Ok-Some-clause-told
returns-in-Ok-Some-clause-told g c = λ path outcome r t.
    let said = rw c.in-Ok-Some.field-0-is at c.in-Ok-Some.ensures.some in
    let same = c.as_str.ensures.value ∙ one_run c.args.words.now (string_bytes c.in-Ok-Some.path) path said r in
    c.run_at.ensures.told outcome (subst (λ (p : List ℕ). TellsOutcomeAt (g.F.Files.contents c.args.files.now) p outcome) (sym same) t)

pub returns-in-Ok-Some-clause-complete : goal.returns-in-Ok-Some-clause-complete
returns-in-Ok-Some-clause-complete g c = λ path inputs r t none.
    let said = rw c.in-Ok-Some.field-0-is at c.in-Ok-Some.ensures.some in
    let same = c.as_str.ensures.value ∙ one_run c.args.words.now (string_bytes c.in-Ok-Some.path) path said r in
    complete-told inputs c.run_at.result.status (c.run_at.ensures.told (Ok inputs) (subst (λ (p : List ℕ). TellsOutcomeAt (g.F.Files.contents c.args.files.now) p (Ok inputs)) (sym same) t))
    (λ e. none.0 (c.run_at.ensures.read_fault e)) (λ e. none.1 (c.run_at.ensures.write_fault e))

pub returns-in-Ok-Some-clause-plain : goal.returns-in-Ok-Some-clause-plain
returns-in-Ok-Some-clause-plain g c = λ no_run no_step. absurd (no_run (string_bytes c.in-Ok-Some.path) (rw c.in-Ok-Some.field-0-is at c.in-Ok-Some.ensures.some))

pub returns-in-Ok-Some-clause-step : goal.returns-in-Ok-Some-clause-step
returns-in-Ok-Some-clause-step g c = λ task product stop s. absurd (step-no_run c.args.words.now task product stop s (string_bytes c.in-Ok-Some.path) (rw c.in-Ok-Some.field-0-is at c.in-Ok-Some.ensures.some))

pub returns-in-Ok-Some-clause-no_event : goal.returns-in-Ok-Some-clause-no_event
returns-in-Ok-Some-clause-no_event g c = λ no_run. absurd (no_run (string_bytes c.in-Ok-Some.path) (rw c.in-Ok-Some.field-0-is at c.in-Ok-Some.ensures.some))

pub returns-in-Ok-Some-clause-same_plain : goal.returns-in-Ok-Some-clause-same_plain
returns-in-Ok-Some-clause-same_plain g c = λ no_run. absurd (no_run (string_bytes c.in-Ok-Some.path) (rw c.in-Ok-Some.field-0-is at c.in-Ok-Some.ensures.some))

pub returns-in-Ok-Some-clause-bad_words : goal.returns-in-Ok-Some-clause-bad_words
returns-in-Ok-Some-clause-bad_words g c = λ e. absurd (c.run_at.ensures.good_words e)

pub returns-in-Ok-Some-clause-no_command : goal.returns-in-Ok-Some-clause-no_command
returns-in-Ok-Some-clause-no_command g c = λ bad. absurd (bad.0 (string_bytes c.in-Ok-Some.path) (rw c.in-Ok-Some.field-0-is at c.in-Ok-Some.ensures.some))

pub returns-in-Ok-Some-clause-bad_words_line : goal.returns-in-Ok-Some-clause-bad_words_line
returns-in-Ok-Some-clause-bad_words_line g c = λ e. absurd (c.run_at.ensures.good_words e)

pub returns-in-Ok-Some-clause-calls : goal.returns-in-Ok-Some-clause-calls
returns-in-Ok-Some-clause-calls g c = λ path given r t.
    let said = rw c.in-Ok-Some.field-0-is at c.in-Ok-Some.ensures.some in
    let same = c.as_str.ensures.value ∙ one_run c.args.words.now (string_bytes c.in-Ok-Some.path) path said r in
    c.run_at.ensures.calls given (subst (λ (p : List ℕ). TellsOutcomeAt (g.F.Files.contents c.args.files.now) p (Ok given)) (sym same) t)

pub returns-in-Ok-Some-clause-asks : goal.returns-in-Ok-Some-clause-asks
returns-in-Ok-Some-clause-asks g c = λ path given r t.
    let said = rw c.in-Ok-Some.field-0-is at c.in-Ok-Some.ensures.some in
    let same = c.as_str.ensures.value ∙ one_run c.args.words.now (string_bytes c.in-Ok-Some.path) path said r in
    c.run_at.ensures.asks given (subst (λ (p : List ℕ). TellsOutcomeAt (g.F.Files.contents c.args.files.now) p (Ok given)) (sym same) t)

pub returns-in-Ok-Some-clause-requests : goal.returns-in-Ok-Some-clause-requests
returns-in-Ok-Some-clause-requests g c = λ path given r t.
    let said = rw c.in-Ok-Some.field-0-is at c.in-Ok-Some.ensures.some in
    let same = c.as_str.ensures.value ∙ one_run c.args.words.now (string_bytes c.in-Ok-Some.path) path said r in
    c.run_at.ensures.requests given (subst (λ (p : List ℕ). TellsOutcomeAt (g.F.Files.contents c.args.files.now) p (Ok given)) (sym same) t)

pub returns-in-Ok-Some-clause-stopper_same : goal.returns-in-Ok-Some-clause-stopper_same
returns-in-Ok-Some-clause-stopper_same g c = λ no_run. absurd (no_run (string_bytes c.in-Ok-Some.path) (rw c.in-Ok-Some.field-0-is at c.in-Ok-Some.ensures.some))

-- ---- words that are no run

pub returns-in-Ok-None-clause-ran : goal.returns-in-Ok-None-clause-ran
returns-in-Ok-None-clause-ran g c = λ path r. absurd (rw c.in-Ok-None.field-0-is at c.in-Ok-None.ensures.none path r)

pub returns-in-Ok-None-clause-told : goal.returns-in-Ok-None-clause-told
returns-in-Ok-None-clause-told g c = λ path outcome r t. absurd (rw c.in-Ok-None.field-0-is at c.in-Ok-None.ensures.none path r)

pub returns-in-Ok-None-clause-complete : goal.returns-in-Ok-None-clause-complete
returns-in-Ok-None-clause-complete g c = λ path inputs r t none. absurd (rw c.in-Ok-None.field-0-is at c.in-Ok-None.ensures.none path r)

pub returns-in-Ok-None-clause-plain : goal.returns-in-Ok-None-clause-plain
returns-in-Ok-None-clause-plain g c = λ no_run no_step.
    let p = c.run_plain-status.ensures in
    subst (λ (status : ℕ). IsPlain c.args.words.now
    (seen (g.F.Files.contents c.args.files.now) (g.F.Files.faults c.args.files.now) (g.F.Files.faults c.run_plain-status.new.files) (g.S.Sink.faults c.args.sink.now) (g.S.Sink.faults c.run_plain-status.new.sink)
    (g.S.Sink.written c.args.sink.now) (g.S.Sink.written c.run_plain-status.new.sink)) status) (sym c.without_run.ensures.status) (record {
      which = p.other_status no_step;
      done = p.done no_step;
      memory = p.memory;
      read_fault = p.read_fault_line no_step;
      write_fault = p.write_fault_part no_step;
      bad_descriptor = p.bad_descriptor;
      bad_table = p.bad_table;
      too_large = p.too_large;
      nothing_there = p.nothing_there;
      longer = p.longer;
      misdescribed = p.misdescribed;
      faulty = p.faulty;
      accepted = λ path rows w t none. p.complete path rows w t none.0 none.1;
      described = λ path cube w t none. p.complete_cuboids path cube w t none.0 none.1;
    })

pub returns-in-Ok-None-clause-step : goal.returns-in-Ok-None-clause-step
returns-in-Ok-None-clause-step g c = λ task product stop s.
    subst (λ (status : ℕ). IsStepRun IsTask made_of
    (files_at (g.F.Files.contents c.args.files.now) (g.F.Files.faults c.args.files.now) (g.F.Files.write_faults c.args.files.now) (g.F.Files.seen c.args.files.now))
    (files_at (g.F.Files.contents c.run_plain-status.new.files) (g.F.Files.faults c.run_plain-status.new.files) (g.F.Files.write_faults c.run_plain-status.new.files) (g.F.Files.seen c.run_plain-status.new.files))
    (sink_at (g.S.Sink.written c.args.sink.now) (g.S.Sink.faults c.args.sink.now)) (sink_at (g.S.Sink.written c.run_plain-status.new.sink) (g.S.Sink.faults c.run_plain-status.new.sink)) task product stop status)
    (sym c.without_run.ensures.status) (c.run_plain-status.ensures.step task product stop s)

pub returns-in-Ok-None-clause-bad_words : goal.returns-in-Ok-None-clause-bad_words
returns-in-Ok-None-clause-bad_words g c = λ e. (rw c.in-Ok-None.field-0-is at c.in-Ok-None.ensures.none, c.run_plain-status.ensures.bad_words (sym c.without_run.ensures.status ∙ e))

pub returns-in-Ok-None-clause-no_command : goal.returns-in-Ok-None-clause-no_command
returns-in-Ok-None-clause-no_command g c = λ bad.
    subst (λ (status : ℕ). (status ≡ 2) ⊎ (status ≡ 1)) (sym c.without_run.ensures.status) (c.run_plain-status.ensures.no_command bad.1)

pub returns-in-Ok-None-clause-bad_words_line : goal.returns-in-Ok-None-clause-bad_words_line
returns-in-Ok-None-clause-bad_words_line g c = λ e. c.run_plain-status.ensures.bad_words_line (sym c.without_run.ensures.status ∙ e)

pub returns-in-Ok-None-clause-read_fault : goal.returns-in-Ok-None-clause-read_fault
returns-in-Ok-None-clause-read_fault g c = λ e. c.run_plain-status.ensures.read_fault (sym c.without_run.ensures.status ∙ e)

pub returns-in-Ok-None-clause-write_fault : goal.returns-in-Ok-None-clause-write_fault
returns-in-Ok-None-clause-write_fault g c = λ no_step e. c.run_plain-status.ensures.write_fault no_step (sym c.without_run.ensures.status ∙ e)

pub returns-in-Ok-None-clause-runs : goal.returns-in-Ok-None-clause-runs
returns-in-Ok-None-clause-runs g c = none-risen g.H.Hand.runs run_ends refl c.args.hands.items c.without_run.result.hands.items c.without_run.result.history.items c.without_run.ensures.hands c.without_run.ensures.none

pub returns-in-Ok-None-clause-faults : goal.returns-in-Ok-None-clause-faults
returns-in-Ok-None-clause-faults g c = none-risen g.H.Hand.faults fault_ends refl c.args.hands.items c.without_run.result.hands.items c.without_run.result.history.items c.without_run.ensures.hands c.without_run.ensures.none

pub returns-in-Ok-None-clause-fails : goal.returns-in-Ok-None-clause-fails
returns-in-Ok-None-clause-fails g c = λ told all. none-all (IsEndBy told) c.without_run.result.history.items c.without_run.ensures.none

pub returns-in-Ok-None-clause-fails_stand : goal.returns-in-Ok-None-clause-fails_stand
returns-in-Ok-None-clause-fails_stand g c = λ all. none-all (StandsAmong (entries_of g.H.Hand.fails c.args.hands.items)) c.without_run.result.history.items c.without_run.ensures.none

pub returns-in-Ok-None-clause-fails_same : goal.returns-in-Ok-None-clause-fails_same
returns-in-Ok-None-clause-fails_same g c = same-none g.H.Hand.fails c.args.hands.items c.without_run.result.hands.items c.without_run.ensures.hands

pub returns-in-Ok-None-clause-undamaged : goal.returns-in-Ok-None-clause-undamaged
returns-in-Ok-None-clause-undamaged g c = λ honest. none-all IsUndamaged c.without_run.result.history.items c.without_run.ensures.none

pub returns-in-Ok-None-clause-calls : goal.returns-in-Ok-None-clause-calls
returns-in-Ok-None-clause-calls g c = λ path given r t. absurd (rw c.in-Ok-None.field-0-is at c.in-Ok-None.ensures.none path r)

pub returns-in-Ok-None-clause-asks : goal.returns-in-Ok-None-clause-asks
returns-in-Ok-None-clause-asks g c = λ path given r t. absurd (rw c.in-Ok-None.field-0-is at c.in-Ok-None.ensures.none path r)

pub returns-in-Ok-None-clause-requests : goal.returns-in-Ok-None-clause-requests
returns-in-Ok-None-clause-requests g c = λ path given r t. absurd (rw c.in-Ok-None.field-0-is at c.in-Ok-None.ensures.none path r)

pub returns-in-Ok-None-clause-quiet : goal.returns-in-Ok-None-clause-quiet
returns-in-Ok-None-clause-quiet g c = λ memory none. c.run_plain-status.ensures.memory (sym c.without_run.ensures.status ∙ memory)

-- ---- want of memory for the words

pub returns-in-Err-clause-ran : goal.returns-in-Err-clause-ran
returns-in-Err-clause-ran g c = λ path r. inr (record { refusal = Memory; why = tt; none = c.without_run-in-Err.ensures.none; refuses = (c.without_run-in-Err.ensures.status, refl) })

pub returns-in-Err-clause-told : goal.returns-in-Err-clause-told
returns-in-Err-clause-told g c = λ path outcome r t. ends_memory outcome c.without_run-in-Err.result.status c.without_run-in-Err.ensures.status

pub returns-in-Err-clause-plain : goal.returns-in-Err-clause-plain
returns-in-Err-clause-plain g c = λ no_run no_step. subst (λ (status : ℕ). IsPlain c.args.words.now
    (seen (g.F.Files.contents c.args.files.now) (g.F.Files.faults c.args.files.now) (g.F.Files.faults c.args.files.now) (g.S.Sink.faults c.args.sink.now) (g.S.Sink.faults c.args.sink.now)
    (g.S.Sink.written c.args.sink.now) (g.S.Sink.written c.args.sink.now)) status) (sym c.without_run-in-Err.ensures.status) (plain-memory c.args.words.now
    (seen (g.F.Files.contents c.args.files.now) (g.F.Files.faults c.args.files.now) (g.F.Files.faults c.args.files.now) (g.S.Sink.faults c.args.sink.now) (g.S.Sink.faults c.args.sink.now)
    (g.S.Sink.written c.args.sink.now) (g.S.Sink.written c.args.sink.now)) refl)

pub returns-in-Err-clause-step : goal.returns-in-Err-clause-step
returns-in-Err-clause-step g c = λ task product stop s.
    let files = files_at (g.F.Files.contents c.args.files.now) (g.F.Files.faults c.args.files.now) (g.F.Files.write_faults c.args.files.now) (g.F.Files.seen c.args.files.now) in
    let sink = sink_at (g.S.Sink.written c.args.sink.now) (g.S.Sink.faults c.args.sink.now) in
    subst (λ (status : ℕ). IsStepRun IsTask made_of files files sink sink task product stop status) (sym c.without_run-in-Err.ensures.status) (step_memory IsTask made_of files sink task product stop)

pub returns-in-Err-clause-runs : goal.returns-in-Err-clause-runs
returns-in-Err-clause-runs g c = none-risen g.H.Hand.runs run_ends refl c.args.hands.items c.without_run-in-Err.result.hands.items c.without_run-in-Err.result.history.items c.without_run-in-Err.ensures.hands c.without_run-in-Err.ensures.none

pub returns-in-Err-clause-faults : goal.returns-in-Err-clause-faults
returns-in-Err-clause-faults g c = none-risen g.H.Hand.faults fault_ends refl c.args.hands.items c.without_run-in-Err.result.hands.items c.without_run-in-Err.result.history.items c.without_run-in-Err.ensures.hands c.without_run-in-Err.ensures.none

pub returns-in-Err-clause-fails : goal.returns-in-Err-clause-fails
returns-in-Err-clause-fails g c = λ told all. none-all (IsEndBy told) c.without_run-in-Err.result.history.items c.without_run-in-Err.ensures.none

pub returns-in-Err-clause-fails_stand : goal.returns-in-Err-clause-fails_stand
returns-in-Err-clause-fails_stand g c = λ all. none-all (StandsAmong (entries_of g.H.Hand.fails c.args.hands.items)) c.without_run-in-Err.result.history.items c.without_run-in-Err.ensures.none

pub returns-in-Err-clause-fails_same : goal.returns-in-Err-clause-fails_same
returns-in-Err-clause-fails_same g c = same-none g.H.Hand.fails c.args.hands.items c.without_run-in-Err.result.hands.items c.without_run-in-Err.ensures.hands

pub returns-in-Err-clause-undamaged : goal.returns-in-Err-clause-undamaged
returns-in-Err-clause-undamaged g c = λ honest. none-all IsUndamaged c.without_run-in-Err.result.history.items c.without_run-in-Err.ensures.none

pub returns-in-Err-clause-calls : goal.returns-in-Err-clause-calls
returns-in-Err-clause-calls g c = λ path given r t.
    called-none g.H.Hand.calls g.H.Honest.honest given c.without_run-in-Err.result.history.items c.args.hands.items c.without_run-in-Err.result.hands.items c.without_run-in-Err.ensures.hands
    c.without_run-in-Err.ensures.none

pub returns-in-Err-clause-asks : goal.returns-in-Err-clause-asks
returns-in-Err-clause-asks g c = λ path given r t.
    asks-none c.args.stopper.now c.args.stopper.now refl g.P.Stopper.asks (inputs_of 1 given) c.without_run-in-Err.result.history.items c.without_run-in-Err.ensures.none

pub returns-in-Err-clause-requests : goal.returns-in-Err-clause-requests
returns-in-Err-clause-requests g c = λ path given r t.
    requests-none c.args.stopper.now c.args.stopper.now refl g.P.Stopper.requests (stops_over given c.without_run-in-Err.result.history.items)
