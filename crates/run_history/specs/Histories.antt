-- Which turns may come next, whether their answers are fresh, and when a run is settled.
use Rattle.std.specs.Prelude.{◌≡◌, ◌<◌, ◌≤◌, ◌+◌, ℕ, ⊤, Bool, true, false, ◌&&◌, ◌==◌, List, [], ◌∷◌, find, length, count_by, Option, Some, None, slice_get, option_map}
use Rattle.std.specs.List.{list_any}
use Rattle.range_list.specs.Ranges.{IsRange}
use Rattle.run_history.specs.Commands.{Command, Turn}
use Rattle.run_history.specs.Commands.Command.{Load, Submit, Drop, Steer, Ask, Note}
use Rattle.run_history.specs.Commands.Turn.{Takes, Claims, StepEnds, QueryTakes, QueryEnds}
use Rattle.run_history.specs.Cubes.{CubeSemantics}
use Rattle.run_history.specs.Sets.{ReadySet}
use Rattle.run_history.specs.Steps.{step}
use Rattle.run_history.specs.World.{Asked, Submitted, Waiting, World, busy, is_under_way, job_of, number, start}
use Rattle.run_history.specs.declared.command.Noted.{Noted}
use Rattle.run_history.specs.declared.command.Noted.TheVariants.{AwaitJob, AwaitJobs, AwaitQueries, Other}
use Rattle.run_history.specs.declared.event.QueryOut.TheVariants.{Answered, Memory as NoAnswer}

-- P holds of each turn, in the world before it
abbrev pub Along : {Query Answer : Type 0} → CubeSemantics Query Answer → (World Query → Turn Query → Type 0) → World Query → List (Turn Query) → Type 0
Along cube P w [] = ⊤
Along cube P w (turn ∷ turns) = P w turn × Along cube P (step cube w turn) turns

-- a job is not there, or is neither PENDING nor RUNNING
abbrev pub IsAtRest : Option Submitted → Type 0
IsAtRest None = ⊤
IsAtRest (Some s) = is_under_way s.job.state ≡ false

-- no job is PENDING or RUNNING
abbrev pub AreAtRest : List Submitted → Type 0
AreAtRest jobs = list_any (λ s. is_under_way s.job.state) jobs ≡ false

-- the attempt that a claim begins
abbrev pub IsNextAttempt : Option Submitted → ℕ → Type 0
IsNextAttempt None attempt = ⊥
IsNextAttempt (Some s) attempt = attempt ≡ s.job.attempt + 1

-- how many claims of this job and attempt are without their end
abbrev pub claim_count : ℕ → ℕ → List (ℕ × ℕ) → ℕ
claim_count job attempt claims = count_by (λ claim. (claim.0 == job) && (claim.1 == attempt)) claims

module _ {Query : Type 0} where
  -- what a command waits for is there
  abbrev pub MayNote : World Query → Noted → Type 0
  MayNote w (AwaitJob job) = IsAtRest (job_of w job)
  MayNote w AwaitJobs = AreAtRest w.jobs
  MayNote w AwaitQueries = (w.waiting ≡ []) × (w.asked ≡ [])
  MayNote w Other = ⊤

  -- a command may take effect: what it waits for is there, and what it names is a table's place or a range
  abbrev pub MayTake : World Query → Command Query → Type 0
  MayTake w (Load table rows) = table < length w.loaded
  MayTake w (Submit kind range) = IsRange range
  MayTake w (Drop range) = IsRange range
  MayTake w (Steer control job) = ⊤
  MayTake w (Ask session query) = ⊤
  MayTake w (Note noted) = MayNote w noted

  -- a query is the first of its session that waits, and no query of its session is in flight
  abbrev pub IsNextOfSession : World Query → Option (Waiting Query) → Type 0
  IsNextOfSession w None = ⊥
  IsNextOfSession w (Some q) =
      (option_map (λ first. first.line) (find (λ first. first.session == q.session) w.waiting) ≡ Some q.line)
      × (list_any (λ other. other.waiting.session == q.session) w.asked ≡ false)

  abbrev pub IsInFlight : World Query → ℕ → Type 0
  IsInFlight w line = list_any (λ q. q.waiting.line == line) w.asked ≡ true

  -- a turn may come next
  abbrev pub Allowed : World Query → Turn Query → Type 0
  Allowed w (Takes line command) = (w.line < line) × MayTake w command
  Allowed w (Claims job attempt) = (busy w < w.workers) × (slice_get w.queue 0 ≡ Some job) × IsNextAttempt (job_of w job) attempt
  Allowed w (StepEnds job attempt outcome) = 0 < claim_count job attempt w.steps
  Allowed w (QueryTakes line) = (busy w < w.workers) × IsNextOfSession w (find (λ q. q.line == line) w.waiting)
  Allowed w (QueryEnds line out) = IsInFlight w line

  -- a version is no older than those at the query's command and taking and of its session's last answer, and no newer than the last
  abbrev pub IsLawful : World Query → Option (Asked Query) → ℕ → Type 0
  IsLawful w None version = ⊥
  IsLawful w (Some q) version =
      (q.waiting.at_command ≤ version) × (q.at_take ≤ version) × (w.answered q.waiting.session ≤ version) × (version ≤ number w)

  -- an answer's version is lawful
  abbrev pub IsFresh : World Query → Turn Query → Type 0
  IsFresh w (Takes line command) = ⊤
  IsFresh w (Claims job attempt) = ⊤
  IsFresh w (StepEnds job attempt outcome) = ⊤
  IsFresh w (QueryTakes line) = ⊤
  IsFresh w (QueryEnds line (Answered version)) = IsLawful w (find (λ q. q.waiting.line == line) w.asked) version
  IsFresh w (QueryEnds line NoAnswer) = ⊤

-- a history from the start with this ready set: every turn may come; and every answer's version is lawful
abbrev pub IsLegal : {Query Answer : Type 0} → CubeSemantics Query Answer → ℕ → ReadySet → List (Turn Query) → Type 0
IsLegal cube workers initial turns = Along cube Allowed (start workers (length cube.tables) initial) turns

abbrev pub HasFreshAnswers : {Query Answer : Type 0} → CubeSemantics Query Answer → ℕ → ReadySet → List (Turn Query) → Type 0
HasFreshAnswers cube workers initial turns = Along cube IsFresh (start workers (length cube.tables) initial) turns

abbrev pub is_empty : {A : Type 0} → List A → Bool
is_empty [] = true
is_empty (x ∷ xs) = false

-- the queue is empty, nothing is in flight, and each accepted query has its end
abbrev pub is_settled : {Query : Type 0} → World Query → Bool
is_settled w = is_empty w.queue && is_empty w.steps && is_empty w.waiting && is_empty w.asked
