-- The states of one job through pauses, resumes and stale ends.
use Rattle.std.specs.Prelude.{ℕ, Bool}
use Rattle.job_machine.specs.declared.state.JobState.{JobState}
use Rattle.job_machine.specs.declared.state.JobKind.TheVariants.{Build}
use Rattle.job_machine.specs.Job.{JobRecord}

-- job 1, a BUILD of two steps, with this many steps done, this attempt, in flight or not, in this state
abbrev pub example : ℕ → ℕ → Bool → JobState → JobRecord
example done attempt in_flight state =
    record { id = 1; kind = Build; steps = 2; done = done; attempt = attempt; in_flight = in_flight; state = state }
