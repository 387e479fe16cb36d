-- The job table: what each act makes of a job.
use Rattle.std.specs.Prelude.{ℕ, ◌+◌, ◌≤◌, ◌≡◌, ◌↔◌, Bool, true, false, not, ◌&&◌, ◌==◌, if◌then◌else◌, Option, Some, None, Result, Ok, Err}
use Rattle.job_machine.specs.declared.state.JobState.{JobState}
use Rattle.job_machine.specs.declared.state.JobState.TheVariants.{Pending, Running, Error, Stopped, Discarded, Finished}
use Rattle.job_machine.specs.declared.state.JobKind.{JobKind}
use Rattle.job_machine.specs.declared.state.Ended.{Ended}
use Rattle.job_machine.specs.declared.state.Ended.TheVariants as ended
use Rattle.job_machine.specs.declared.state.JobRefusal.{JobRefusal}
use Rattle.job_machine.specs.declared.state.JobRefusal.TheVariants.{JobEnded, WrongState}

-- a job: its number, its kind, the steps of its kind and how many of them are done, the number of its claims,
-- whether its last claim is in flight, and its state
pub record JobRecord : Type 0 where
  pub id : ℕ
  pub kind : JobKind
  pub steps : ℕ
  pub done : ℕ
  pub attempt : ℕ
  pub in_flight : Bool
  pub state : JobState

-- what may be done to a job; the success of a step is Finish where it was the last step, else Advance
pub data Act : Type 0 where
  Claim : Act
  Advance : Act
  Finish : Act
  Fail : Act
  Pause : Act
  Resume : Act
  Discard : Act

-- the job table: the state that an act leads to from the state that it finds; None where the table has no such row
abbrev pub state_after : Act → JobState → Option JobState
state_after Claim Pending = Some Running
state_after Claim Running = Some Running
state_after Advance Running = Some Running
state_after Finish Running = Some Finished
state_after Fail Running = Some Error
state_after Pause Pending = Some Stopped
state_after Pause Running = Some Stopped
state_after Resume Error = Some Pending
state_after Resume Stopped = Some Pending
state_after Discard Pending = Some Discarded
state_after Discard Running = Some Discarded
state_after Discard Error = Some Discarded
state_after Discard Stopped = Some Discarded
state_after _ _ = None

-- the job in the state that an act leads to; what the act doesn't name stays as it was
abbrev pub moved : Act → JobState → JobRecord → JobRecord
moved Claim state job = record job { state = state; in_flight = true; attempt = job.attempt + 1 }
moved Advance state job = record job { state = state; in_flight = false; done = job.done + 1 }
moved Finish state job = record job { state = state; in_flight = false; done = job.done + 1 }
moved _ state job = record job { state = state; in_flight = false }

abbrev pub moved_or_same : Act → Option JobState → JobRecord → JobRecord
moved_or_same act (Some state) job = moved act state job
moved_or_same act None job = job

-- the job after an act: by the table, and as it was where the table has no row
abbrev pub next : Act → JobRecord → JobRecord
next act job = moved_or_same act (state_after act job.state) job

-- a job as it is submitted
abbrev pub new_job : ℕ → JobKind → ℕ → JobRecord
new_job id kind steps =
    record { id = id; kind = kind; steps = steps; done = 0; attempt = 0; in_flight = false; state = Pending }

abbrev pub is_running : JobState → Bool
is_running Running = true
is_running _ = false

-- a job waits for a claim where it is PENDING, or RUNNING and not in flight
abbrev pub waits_in : JobState → Bool → Bool
waits_in Pending in_flight = true
waits_in Running in_flight = not in_flight
waits_in _ in_flight = false

abbrev pub is_claimable : JobRecord → Bool
is_claimable job = waits_in job.state job.in_flight

-- the end of an attempt counts where the job is RUNNING and in flight with this attempt
abbrev pub is_current : JobRecord → ℕ → Bool
is_current job attempt = is_running job.state && (job.in_flight && (job.attempt == attempt))

-- the next step is the last one
abbrev pub is_last_step : JobRecord → Bool
is_last_step job = job.done + 1 == job.steps

-- what a step's success and its failure are to the job
abbrev pub ended_ok : JobRecord → ℕ → Ended
ended_ok job attempt =
    if is_current job attempt then (if is_last_step job then ended.Finished else ended.Advanced) else ended.Stale

abbrev pub ended_failed : JobRecord → ℕ → Ended
ended_failed job attempt = if is_current job attempt then ended.Failed else ended.Stale

-- the job after such an end; a stale one has no effect
abbrev pub after_end : Ended → JobRecord → JobRecord
after_end ended.Stale job = job
after_end ended.Advanced job = next Advance job
after_end ended.Finished job = next Finish job
after_end ended.Failed job = next Fail job

-- the attempt in flight, if one is
abbrev pub attempt_in_flight : JobRecord → Option ℕ
attempt_in_flight job = if job.in_flight then Some job.attempt else None

-- how a command on a job is refused, by the job's state
abbrev pub refusal_in : JobState → JobRefusal
refusal_in Discarded = JobEnded Discarded
refusal_in Finished = JobEnded Finished
refusal_in state = WrongState state

-- a command's answer: this value where the table has a row for it, and else the refusal
abbrev pub answer_by : {A : Type 0} → Option JobState → A → JobState → Result A JobRefusal
answer_by (Some after) value before = Ok value
answer_by None value before = Err (refusal_in before)

abbrev pub answer_to : {A : Type 0} → Act → A → JobRecord → Result A JobRefusal
answer_to act value job = answer_by (state_after act job.state) value job.state

-- what every job keeps
pub record IsJob (job : JobRecord) : Type 0 where
  pub progress : job.done ≤ job.steps
  pub finished : (job.done ≡ job.steps) ↔ (job.state ≡ Finished)
  pub flight : job.in_flight ≡ true → job.state ≡ Running
