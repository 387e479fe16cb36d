-- The world of a run: what a history leaves.
use Rattle.std.specs.Prelude.{ℕ, zero, suc, ◌+◌, Bool, true, false, ◌&&◌, List, [], ◌∷◌, ◌++◌, length, map, count_by, Option, None, slice_get, unwrap_or}
use Rattle.std.specs.List.{flat_map}
use Rattle.job_machine.specs.Job.{JobRecord}
use Rattle.job_machine.specs.declared.state.JobKind.{JobKind}
use Rattle.job_machine.specs.declared.state.JobKind.TheVariants.{Build, Refresh, Merge}
use Rattle.job_machine.specs.declared.state.JobState.{JobState}
use Rattle.job_machine.specs.declared.state.JobState.TheVariants.{Pending, Running, Discarded, Finished}
use Rattle.range_list.specs.Ranges.{Interval}
use Rattle.run_history.specs.Cubes.{CubeSemantics, Rows, Snapshot}
use Rattle.run_history.specs.Sets.{ReadySet, inside}

-- a job with its range, and the tables in force at its first claim
pub record Submitted : Type 0 where
  pub job : JobRecord
  pub range : Interval
  pub tables : Option (List Rows)

-- a query that waits: its line, its session, and the version at its command
pub record Waiting (Query : Type 0) : Type 0 where
  pub line : ℕ
  pub session : ℕ
  pub query : Query
  pub at_command : ℕ

-- a query in flight, with the version at its taking
pub record Asked (Query : Type 0) : Type 0 where
  pub waiting : Waiting Query
  pub at_take : ℕ

-- the number of workers; the line of the last command; the rows of each table, where it was loaded; the jobs, of which the first is job 1;
-- the queue of jobs that wait; the claims without their end, by job and attempt; the ready sets before the last one, from number 0
-- on, and the last one; the queries that wait and those in flight; how many were accepted; and the version of each session's last answer
pub record World (Query : Type 0) : Type 0 where
  pub workers : ℕ
  pub line : ℕ
  pub loaded : List (Option Rows)
  pub jobs : List Submitted
  pub queue : List ℕ
  pub steps : List (ℕ × ℕ)
  pub past : List ReadySet
  pub ready : ReadySet
  pub waiting : List (Waiting Query)
  pub asked : List (Asked Query)
  pub accepted : ℕ
  pub answered : ℕ → ℕ

-- a list of so many absent entries
abbrev pub nothing_loaded : ℕ → List (Option Rows)
nothing_loaded zero = []
nothing_loaded (suc tables) = None ∷ nothing_loaded tables

-- before the first event, with the ready set of number 0
abbrev pub start : {Query : Type 0} → ℕ → ℕ → ReadySet → World Query
start workers tables initial = record {
  workers = workers;
  line = 0;
  loaded = nothing_loaded tables;
  jobs = [];
  queue = [];
  steps = [];
  past = [];
  ready = initial;
  waiting = [];
  asked = [];
  accepted = 0;
  answered = λ _. 0;
}

-- the job of a number among jobs, of which the first is job 1
abbrev pub job_at : List Submitted → ℕ → Option Submitted
job_at jobs zero = None
job_at jobs (suc place) = slice_get jobs place

module _ {Query : Type 0} where
  -- the number of the last ready set
  abbrev pub number : World Query → ℕ
  number w = length w.past

  -- the ready set of a number
  abbrev pub set_at : World Query → ℕ → ReadySet
  set_at w version = unwrap_or (slice_get (w.past ++ w.ready ∷ []) version) []

  -- the tables in force
  abbrev pub in_force : World Query → List Rows
  in_force w = map (λ rows. unwrap_or rows []) w.loaded

  -- how many pieces of work are in flight
  abbrev pub busy : World Query → ℕ
  busy w = length w.steps + length w.asked

  -- the job of a number
  abbrev pub job_of : World Query → ℕ → Option Submitted
  job_of w number = job_at w.jobs number

  -- what a job's segment is made of, part by part: a BUILD and a REFRESH have one part, of the tables in force at the first claim (or
  -- now, before it), a MERGE one for each segment in its range
  abbrev pub parts_by : JobKind → World Query → Submitted → List (List Snapshot)
  parts_by Build w s = (record { tables = unwrap_or s.tables (in_force w); range = s.range } ∷ []) ∷ []
  parts_by Refresh w s = (record { tables = unwrap_or s.tables (in_force w); range = s.range } ∷ []) ∷ []
  parts_by Merge w s = map (λ part. part.origin) (inside s.range w.ready)

  abbrev pub parts_of : World Query → Submitted → List (List Snapshot)
  parts_of w s = parts_by s.job.kind w s

  -- the parts' snapshots, end to end
  abbrev pub origin_of : World Query → Submitted → List Snapshot
  origin_of w s = flat_map (λ part. part) (parts_of w s)

-- the task of a job's next step
abbrev pub next_task : {Query Answer : Type 0} → CubeSemantics Query Answer → World Query → Submitted → List ℕ
next_task cube w s = cube.task s.job.kind s.range (parts_of w s) s.job.done

-- a job that is PENDING or RUNNING; a live one; and one that is FINISHED
abbrev pub is_under_way : JobState → Bool
is_under_way Pending = true
is_under_way Running = true
is_under_way _ = false

abbrev pub is_live : JobState → Bool
is_live Discarded = false
is_live Finished = false
is_live _ = true

abbrev pub is_build : JobKind → Bool
is_build Build = true
is_build _ = false

abbrev pub is_finished : JobState → Bool
is_finished Finished = true
is_finished _ = false

-- a job of this kind reads tables: a BUILD and a REFRESH do, a MERGE doesn't
abbrev pub reads_tables : JobKind → Bool
reads_tables Build = true
reads_tables Refresh = true
reads_tables Merge = false

-- how many jobs are in a state that passes the test
abbrev pub count_in : (JobState → Bool) → List Submitted → ℕ
count_in test jobs = count_by (λ s. test s.job.state) jobs

abbrev pub live_builds : List Submitted → ℕ
live_builds jobs = count_by (λ s. is_live s.job.state && is_build s.job.kind) jobs

-- how many jobs read tables, and how many of these are FINISHED
abbrev pub reading_jobs : List Submitted → ℕ
reading_jobs jobs = count_by (λ s. reads_tables s.job.kind) jobs

abbrev pub finished_readings : List Submitted → ℕ
finished_readings jobs = count_by (λ s. reads_tables s.job.kind && is_finished s.job.state) jobs
