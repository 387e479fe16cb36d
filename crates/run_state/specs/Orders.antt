-- What is asked of states, and what calls change.
use Rattle.std.specs.Prelude.{◌≡◌, ◌==◌, ◌<◌, ◌≤◌, ℕ, Bool, true, false, List, [], ◌∷◌, Option, Some, None, map, length, slice_get, slice_set, unwrap_or}
use Rattle.std.specs.List.{list_any}
use Rattle.job_machine.specs.Job.{Act, JobRecord, after_end, ended_ok, is_claimable, is_current, is_last_step, next as next_job}
use Rattle.job_list.specs.JobList.{has}
use Rattle.run_history.specs.Cubes.{Rows}
use Rattle.run_history.specs.World.{is_under_way}
use Rattle.run_state.specs.States.{entry_at, snapshot_of, submitted_of}
use Rattle.run_state.specs.declared.parts.JobEntry.{JobEntry}
use Rattle.run_state.specs.declared.parts.QueryInFlight.{QueryInFlight}
use Rattle.run_state.specs.declared.parts.RunState.{RunState}

-- a query of the session is in flight
abbrev pub is_asking : List QueryInFlight → ℕ → Bool
is_asking asked session = list_any (λ q. q.session == session) asked

-- whether a job waits for a claim; one that isn't there doesn't
abbrev pub is_claimable_at : {T P : Type 0} → Option (JobEntry T P) → Bool
is_claimable_at None = false
is_claimable_at (Some entry) = is_claimable entry.job

-- the queue has exactly the jobs that wait for a claim
abbrev pub IsQueued : {T P R Q : Type 0} → RunState T P R Q → Type 0
IsQueued s = (number : ℕ) → has s.queue.items number ≡ is_claimable_at (entry_at s.jobs.items number)

-- whether the end of an attempt of a job counts
abbrev pub is_current_at : {T P : Type 0} → Option (JobEntry T P) → ℕ → Bool
is_current_at None attempt = false
is_current_at (Some entry) attempt = is_current entry.job attempt

-- whether a job is PENDING or RUNNING
abbrev pub is_under_way_at : {T P : Type 0} → Option (JobEntry T P) → Bool
is_under_way_at None = false
is_under_way_at (Some entry) = is_under_way entry.job.state

-- whether the next step of a job is its last
abbrev pub is_last_at : {T P : Type 0} → Option (JobEntry T P) → Bool
is_last_at None = false
is_last_at (Some entry) = is_last_step entry.job

-- ---- what is kept of cubes

-- the products kept of each job's steps done
abbrev pub products_of : {T P R Q : Type 0} → RunState T P R Q → List (List P)
products_of s = map (λ entry. entry.products.items) s.jobs.items

-- the products and the ready set are as they were
pub record KeepsData {T P R Q : Type 0} (old new : RunState T P R Q) : Type 0 where
  pub products : products_of new ≡ products_of old
  pub ready : new.ready ≡ old.ready

-- ---- one job

-- the job at a place is another one, and what was kept of it stays
pub record ChangesJob {T P : Type 0} (old new : List (JobEntry T P)) (place : ℕ) (after : JobRecord → JobRecord) : Type 0 where
  pub entry : JobEntry T P
  pub at : slice_get old place ≡ Some entry
  pub now : new ≡ slice_set old place (record entry { job = after entry.job })

-- the job at a place was claimed: where it had no tables it has those in force
pub record ClaimsJob {T P : Type 0} (rows : T → Rows) (old new : List (JobEntry T P)) (place : ℕ) (in_force : List Rows) : Type 0 where
  pub entry : JobEntry T P
  pub next : JobEntry T P
  pub at : slice_get old place ≡ Some entry
  pub now : new ≡ slice_set old place next
  pub claimed : submitted_of rows next ≡ record (submitted_of rows entry) { job = next_job Act.Claim entry.job; tables = Some (unwrap_or (snapshot_of rows entry.tables) in_force) }
  pub products : next.products.items ≡ entry.products.items

-- the job at a place is another one, and these products are kept of it
pub record MovesJob {T P : Type 0} (old new : List (JobEntry T P)) (place : ℕ) (after : JobRecord → JobRecord) (kept : List P → List P) : Type 0 where
  pub entry : JobEntry T P
  pub next : JobEntry T P
  pub at : slice_get old place ≡ Some entry
  pub now : new ≡ slice_set old place next
  pub job : next.job ≡ after entry.job
  pub range : next.range ≡ entry.range
  pub tables : next.tables ≡ entry.tables
  pub products : next.products.items ≡ kept entry.products.items

-- a step of the job at a place succeeded, and these products are kept
abbrev pub EndsJob : {T P : Type 0} → List (JobEntry T P) → List (JobEntry T P) → ℕ → ℕ → (List P → List P) → Type 0
EndsJob old new place attempt kept = MovesJob old new place (λ job. after_end (ended_ok job attempt) job) kept

-- the jobs are as they were, and so is what was kept of them
pub record SameJobs {T P : Type 0} (old new : List (JobEntry T P)) : Type 0 where
  pub submitted : (rows : T → Rows) → map (submitted_of rows) new ≡ map (submitted_of rows) old
  pub products : map (λ entry. entry.products.items) new ≡ map (λ entry. entry.products.items) old
  pub count : length new ≡ length old
