-- A step between its claim and its end.
use Rattle.std.specs.Prelude.{◌≡◌, ◌<◌, ◌≤◌, ◌∷◌, [], ℕ, List, Some, true}
use Rattle.job_board.specs.Ledger.{IsTask, cube}
use Rattle.job_board.specs.BoardModel.{IsAdded, BoardModel, now}
use Rattle.job_board.specs.declared.answers.Work.{Work}
use Rattle.job_machine.specs.Job.{is_current}
use Rattle.plain_answer.specs.declared.ask.Ask.{Ask}
use Rattle.run_history.specs.Commands.Turn.{Claims}
use Rattle.run_history.specs.World.{Submitted, World, job_at, job_of, next_task, number}

-- no job is in flight but this one with this attempt
abbrev pub IsAloneInFlight : ℕ → ℕ → List Submitted → Type 0
IsAloneInFlight job attempt jobs =
    (n : ℕ) (s : Submitted) → job_at jobs n ≡ Some s → s.job.in_flight ≡ true → (n ≡ job) × (is_current s.job attempt ≡ true)

-- this claim alone is without its end, and no query waits or is in flight
pub record IsStepping (w : World Ask) (job attempt : ℕ) : Type 0 where
  pub workers : 0 < w.workers
  pub answers : (session : ℕ) → w.answered session ≤ number w
  pub steps : w.steps ≡ (job, attempt) ∷ []
  pub waiting : w.waiting ≡ []
  pub asked : w.asked ≡ []
  pub alone : IsAloneInFlight job attempt w.jobs

-- the work's task is a task, and where hands are honest it is that of the next step of its job
pub record IsWorkOf (honest : Type 0) (w : World Ask) (work : Work) : Type 0 where
  pub stepping : IsStepping w work.job work.attempt
  pub task : honest → (s : Submitted) → job_of w work.job ≡ Some s → work.task.items ≡ next_task cube w s
  pub is_task : IsTask work.task.items

-- a step was claimed, of a job that is there
pub record IsClaimed (honest : Type 0) (old : BoardModel) (work : Work) (new : BoardModel) : Type 0 where
  pub added : IsAdded old (Claims work.job work.attempt) new
  pub job : Submitted
  pub there : job_of (now old) work.job ≡ Some job
  pub task : honest → work.task.items ≡ next_task cube (now old) job
  pub work_of : IsWorkOf honest (now new) work
