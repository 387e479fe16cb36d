-- Which worlds a state stands for.
use Rattle.std.specs.Prelude.{◌≡◌, ◌==◌, ℕ, zero, suc, List, [], ◌∷◌, Vec, Option, None, map, option_map, unwrap_or, length, slice_get, if◌then◌else◌}
use Rattle.std.specs.declared.alloc.Global.{Global}
use Rattle.run_history.specs.Cubes.{Rows}
use Rattle.run_history.specs.World.{Asked, Submitted, Waiting, World}
use Rattle.run_state.specs.Numbered.{NumberedSet}
use Rattle.run_state.specs.declared.parts.Claim.{Claim}
use Rattle.run_state.specs.declared.parts.JobEntry.{JobEntry}
use Rattle.run_state.specs.declared.parts.QueryInFlight.{QueryInFlight}
use Rattle.run_state.specs.declared.parts.RunState.{RunState}
use Rattle.run_state.specs.declared.parts.Session.{Session}
use Rattle.run_state.specs.declared.parts.WaitingQuery.{WaitingQuery}

-- the rows of tables in a list; those that were not loaded have none
abbrev pub rows_in_force : {T : Type 0} → (T → Rows) → List (Option T) → List Rows
rows_in_force rows tables = map (λ table. unwrap_or table []) (map (option_map rows) tables)

-- the rows of the tables of a job's first claim
abbrev pub snapshot_of : {T : Type 0} → (T → Rows) → Option (Vec (Option T) Global) → Option (List Rows)
snapshot_of rows tables = option_map (λ list. rows_in_force rows list.items) tables

-- a job as the world has it: with the rows of its tables
abbrev pub submitted_of : {T P : Type 0} → (T → Rows) → JobEntry T P → Submitted
submitted_of rows entry = record { job = entry.job; range = entry.range; tables = snapshot_of rows entry.tables }

-- the job of a number among jobs, of which the first is job 1
abbrev pub entry_at : {X : Type 0} → List X → ℕ → Option X
entry_at jobs zero = None
entry_at jobs (suc place) = slice_get jobs place

abbrev pub claim_of : Claim → ℕ × ℕ
claim_of claim = (claim.job, claim.attempt)

abbrev pub waiting_of : {Q : Type 0} → WaitingQuery Q → Waiting Q
waiting_of q = record { line = q.line; session = q.session; query = q.query; at_command = q.at_command }

-- a query in flight, without what it asks
abbrev pub in_flight_of : {Q : Type 0} → Asked Q → QueryInFlight
in_flight_of q = record { line = q.waiting.line; session = q.waiting.session; at_command = q.waiting.at_command; at_take = q.at_take }

-- the version of a session's last answer
abbrev pub answered_in : List Session → ℕ → ℕ
answered_in [] session = 0
answered_in (s ∷ rest) session = if s.session == session then s.answered else answered_in rest session

-- what is kept is the world's, field by field: of jobs, loads and ready sets what their handles show, of queries in flight all but what they
-- ask
pub record IsStateOf {T P R Q : Type 0} (rows : T → Rows) (ready_set : R → NumberedSet) (w : World Q) (s : RunState T P R Q) : Type 0 where
  pub workers : w.workers ≡ s.workers
  pub line : w.line ≡ s.line
  pub loaded : w.loaded ≡ map (option_map rows) s.loaded.items
  pub jobs : w.jobs ≡ map (submitted_of rows) s.jobs.items
  pub queue : w.queue ≡ s.queue.items
  pub steps : w.steps ≡ map claim_of s.steps.items
  pub version : length w.past ≡ (ready_set s.ready).version
  pub ready : w.ready ≡ (ready_set s.ready).segments
  pub waiting : w.waiting ≡ map waiting_of s.waiting.items
  pub asked : map in_flight_of w.asked ≡ s.asked.items
  pub accepted : w.accepted ≡ s.accepted
  pub answered : (session : ℕ) → w.answered session ≡ answered_in s.sessions.items session
