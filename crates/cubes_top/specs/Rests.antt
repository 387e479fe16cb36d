-- What last happened to a job, and what it says of the job's state.
use Rattle.std.specs.Prelude.{◌≡◌, ◌≢◌, ◌⊎◌, ◌==◌, ⊤, ℕ, List, [], ◌∷◌, Option, Some, None, if◌then◌else◌, length}
use Rattle.coordinator.specs.Served.{served}
use Rattle.job_machine.specs.Job.{Act, is_current, state_after}
use Rattle.job_machine.specs.declared.state.JobState.{JobState}
use Rattle.job_machine.specs.declared.state.JobState.TheVariants as state
use Rattle.plain_answer.specs.declared.ask.Ask.{Ask}
use Rattle.run_history.specs.Commands.{Command, Turn}
use Rattle.run_history.specs.Commands.Command.{Load, Submit, Drop, Steer, Ask as Asks, Note}
use Rattle.run_history.specs.Commands.Turn.{Takes, Claims, StepEnds, QueryTakes, QueryEnds}
use Rattle.run_history.specs.Invariants.{IsStart}
use Rattle.run_history.specs.Steps.{step}
use Rattle.run_history.specs.Verdicts.{verdict}
use Rattle.run_history.specs.World.{Submitted, World, job_of, start}
use Rattle.run_history.specs.declared.command.Control.{Control}
use Rattle.run_history.specs.declared.command.Control.TheVariants.{Pause, Discard}
use Rattle.run_history.specs.declared.event.Outcome.{Outcome}
use Rattle.run_history.specs.declared.event.Outcome.TheVariants as outcome
use Rattle.run_history.specs.declared.event.Event.{Event}
use Rattle.run_history.specs.declared.refused.Refused.{Refused}
use Rattle.run_transcript.specs.Runs.{IsWhole, turns_of, world_of}
use Rattle.job_board.specs.Ledger.{cube}
use Rattle.run_transcript.specs.Served.{Inputs}

-- what can happen to a job: it is claimed, its attempt in flight ends, or it is paused, resumed or discarded
pub data Last : Type 0 where
  Claimed : Last
  Ended : Outcome → Last
  Steered : Control → Last

abbrev pub moved_by : Option JobState → Option Last → Option Last
moved_by None before = before
moved_by (Some after) before = Some Claimed

-- .. by the job table for a claim, by the verdict for a command, and for an end where it is that of the attempt in flight
abbrev pub claimed_by : Option Submitted → Option Last → Option Last
claimed_by None before = before
claimed_by (Some s) before = moved_by (state_after Act.Claim s.job.state) before

abbrev pub steered_by : Option Refused → Control → Option Last → Option Last
steered_by None control before = Some (Steered control)
steered_by (Some refused) control before = before

abbrev pub ended_by : Option Submitted → ℕ → Outcome → Option Last → Option Last
ended_by None attempt outcome before = before
ended_by (Some s) attempt outcome before = if is_current s.job attempt then Some (Ended outcome) else before

-- what a command does to a job of this number
abbrev pub last_by : World Ask → Command Ask → ℕ → Option Last → Option Last
last_by w (Steer control job) n before = if job == n then steered_by (verdict cube w (Steer control job)) control before else before
last_by w (Load place rows) n before = before
last_by w (Submit kind range) n before = before
last_by w (Drop range) n before = before
last_by w (Asks session query) n before = before
last_by w (Note noted) n before = before

abbrev pub last_after : World Ask → Turn Ask → ℕ → Option Last → Option Last
last_after w (Takes line command) n before = last_by w command n before
last_after w (Claims job attempt) n before = if job == n then claimed_by (job_of w job) before else before
last_after w (StepEnds job attempt outcome) n before = if job == n then ended_by (job_of w job) attempt outcome before else before
last_after w (QueryTakes line) n before = before
last_after w (QueryEnds line out) n before = before

-- what last happened to the job of this number in these turns
abbrev pub last_along : World Ask → List (Turn Ask) → ℕ → Option Last → Option Last
last_along w [] n before = before
last_along w (turn ∷ turns) n before = last_along (step cube w turn) turns n (last_after w turn n before)

-- a job in this state is there by what last happened to it: ERROR by the end of its attempt in flight, which was not Done, STOPPED by a
-- pause, DISCARDED by a discard
abbrev pub IsThereBy : JobState → Option Last → Type 0
IsThereBy state.Error last = (o : Outcome) × (last ≡ Some (Ended o)) × (o ≢ outcome.Done)
IsThereBy state.Stopped last = last ≡ Some (Steered Pause)
IsThereBy state.Discarded last = last ≡ Some (Steered Discard)
IsThereBy state.Pending last = ⊤
IsThereBy state.Running last = ⊤
IsThereBy state.Finished last = ⊤

-- a job at the end of a whole run: it is FINISHED, or was paused or discarded last, or its last attempt ended, and was not Done
abbrev pub IsAtEnd : JobState → Option Last → Type 0
IsAtEnd now last =
    (now ≡ state.Finished) ⊎ (last ≡ Some (Steered Pause)) ⊎ (last ≡ Some (Steered Discard))
    ⊎ ((o : Outcome) × (last ≡ Some (Ended o)) × (o ≢ outcome.Done))

-- so is each job of a whole run, whatever ready set the run starts with
abbrev pub WholeRunsRest : Type 0
WholeRunsRest =
    (inputs : Inputs) (history : List Event) → IsStart inputs.ready → IsWhole served inputs history → (n : ℕ) (s : Submitted) → job_of (world_of served inputs history) n ≡ Some s
    → IsAtEnd s.job.state (last_along (start inputs.workers (length cube.tables) inputs.ready) (turns_of served inputs history) n None)
