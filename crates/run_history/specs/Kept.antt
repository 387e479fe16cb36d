-- What a turn leaves as it was.
use Rattle.std.specs.Prelude.{◌≡◌, ◌≤◌, ◌==◌, ℕ, Bool, true, false, List, Some}
use Rattle.job_machine.specs.Job.{is_current}
use Rattle.run_history.specs.Commands.{Turn}
use Rattle.run_history.specs.Commands.Turn.{Takes, Claims, StepEnds, QueryTakes, QueryEnds}
use Rattle.run_history.specs.Cubes.{Rows}
use Rattle.job_machine.specs.declared.state.JobKind.TheVariants.{Merge}
use Rattle.run_history.specs.World.{Submitted, World, is_live, job_of, number, parts_of, set_at}

-- the ready sets are as they were
pub record SameSets {Query : Type 0} (old new : World Query) : Type 0 where
  pub past : new.past ≡ old.past
  pub ready : new.ready ≡ old.ready

-- an attempt that counts counted before, with as many steps done and the same parts to make the segment of
pub record IsSameWork {Query : Type 0} (old new : World Query) (s t : Submitted) (attempt : ℕ) : Type 0 where
  pub current : is_current s.job attempt ≡ true
  pub done : t.job.done ≡ s.job.done
  pub parts : parts_of new t ≡ parts_of old s

-- a job, later on: its kind and range stay, and so do the tables of its first claim; its attempts never fall; it is live only where it
-- was; the parts of a live MERGE stay, also while it is at rest; and while one of the attempts that it had counts, its work stays
pub record IsJobKept {Query : Type 0} (old new : World Query) (s t : Submitted) : Type 0 where
  pub kind : t.job.kind ≡ s.job.kind
  pub range : t.range ≡ s.range
  pub tables : (first : List Rows) → s.tables ≡ Some first → t.tables ≡ Some first
  pub attempts : s.job.attempt ≤ t.job.attempt
  pub live : is_live t.job.state ≡ true → is_live s.job.state ≡ true
  pub parts : s.job.kind ≡ Merge → is_live t.job.state ≡ true → parts_of new t ≡ parts_of old s
  pub work : (attempt : ℕ) → attempt ≤ s.job.attempt → is_current t.job attempt ≡ true → IsSameWork old new s t attempt

-- every job is kept, versions never fall, and old ready sets stay
pub record IsKept {Query : Type 0} (old new : World Query) : Type 0 where
  pub jobs : (n : ℕ) (s : Submitted) → job_of old n ≡ Some s → (t : Submitted) × ((job_of new n ≡ Some t) × IsJobKept old new s t)
  pub versions : number old ≤ number new
  pub sets : (version : ℕ) → version ≤ number old → set_at new version ≡ set_at old version

-- whether a turn ends the query of this line
abbrev pub ends_query : {Query : Type 0} → ℕ → Turn Query → Bool
ends_query line (Takes other command) = false
ends_query line (Claims job attempt) = false
ends_query line (StepEnds job attempt outcome) = false
ends_query line (QueryTakes other) = false
ends_query line (QueryEnds other out) = other == line
