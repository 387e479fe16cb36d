-- What holds of jobs, queue and ready sets in every world that a legal history gives.
use Rattle.std.specs.Prelude.{◌≡◌, ◌≢◌, ◌<◌, ◌≤◌, ◌+◌, ℕ, true, false, ◌&&◌, ◌==◌, nat_le, if◌then◌else◌, List, [], ◌∷◌, ◌++◌, length, map, count_by, Option, Some, None, slice_get, is_some, unwrap_or, All, AllPairs}
use Rattle.std.specs.List.{list_any}
use Rattle.job_machine.specs.Job.{IsJob, is_claimable}
use Rattle.job_machine.specs.declared.state.JobKind.{JobKind}
use Rattle.job_machine.specs.declared.state.JobKind.TheVariants.{Build, Refresh, Merge}
use Rattle.range_list.specs.Ranges.{Interval, IsRange, IsApart, EndToEnd}
use Rattle.run_history.specs.Cubes.{CubeSemantics}
use Rattle.run_history.specs.Histories.{claim_count}
use Rattle.run_history.specs.Sets.{ReadySet, inside, is_overlap}
use Rattle.run_history.specs.Verdicts.{is_ready, most_segments}
use Rattle.run_history.specs.World.{Submitted, World, is_live, job_at, live_builds, number, job_of}

-- each kind of job has a step at least
abbrev pub HasSteps : {Query Answer : Type 0} → CubeSemantics Query Answer → Type 0
HasSteps cube = (kind : JobKind) → 0 < cube.steps kind

-- the ranges of a set, in its order
abbrev pub ranges_of : ReadySet → List Interval
ranges_of set = map (λ s. s.range) set

-- a run may start with this ready set: its ranges are apart, and there are no more segments than there may be
pub record IsStart (initial : ReadySet) : Type 0 where
  pub apart : IsApart (ranges_of initial)
  pub few : length initial ≤ most_segments

-- the segments inside a range fill it end to end, are two at least, and have the same lookups
pub record CanMerge {Query Answer : Type 0} (cube : CubeSemantics Query Answer) (r : Interval) (set : ReadySet) : Type 0 where
  pub filled : EndToEnd r.start r.end (ranges_of (inside r set))
  pub several : 2 ≤ length (inside r set)
  pub lookups : cube.lookup_that_differs (map (λ s. s.origin) (inside r set)) ≡ None

-- how the range of a live job stands to the ready set: a BUILD's overlaps no segment, a REFRESH's is a segment's, a MERGE's is filled
-- by several
abbrev pub IsInPlace : {Query Answer : Type 0} → CubeSemantics Query Answer → JobKind → Interval → ReadySet → Type 0
IsInPlace cube Build r set = list_any (λ s. is_overlap s.range r) set ≡ false
IsInPlace cube Refresh r set = is_ready r set ≡ true
IsInPlace cube Merge r set = CanMerge cube r set

-- how often a job's number stands in the queue: once where it waits for a claim
abbrev pub places_of : Option Submitted → ℕ
places_of None = 0
places_of (Some s) = if is_claimable s.job then 1 else 0

-- a job under its number, by the job table, with a range; where it is in flight it has the tables of its first claim
pub record IsSubmitted (number : ℕ) (s : Submitted) : Type 0 where
  pub id : s.job.id ≡ number
  pub by_table : IsJob s.job
  pub is_range : IsRange s.range
  pub snapshot : s.job.in_flight ≡ true → is_some s.tables ≡ true

-- jobs, queue and ready sets, as every legal history leaves them
pub record AreSound {Query Answer : Type 0} (cube : CubeSemantics Query Answer) (jobs : List Submitted) (queue : List ℕ) (past : List ReadySet) (ready : ReadySet) : Type 0 where
  -- every set is apart, from the first to the last
  pub set_apart : (version : ℕ) → IsApart (ranges_of (unwrap_or (slice_get (past ++ ready ∷ []) version) []))
  pub ready_apart : IsApart (ranges_of ready)
  -- job numbers are their places
  pub numbered : (n : ℕ) (s : Submitted) → job_at jobs n ≡ Some s → IsSubmitted n s
  -- live jobs' ranges don't overlap
  pub jobs_apart : (n m : ℕ) (s t : Submitted) → n ≢ m → job_at jobs n ≡ Some s → job_at jobs m ≡ Some t → is_live s.job.state ≡ true
      → is_live t.job.state ≡ true → is_overlap s.range t.range ≡ false
  -- each live job's range stands to the ready set as its kind asks
  pub in_place : (n : ℕ) (s : Submitted) → job_at jobs n ≡ Some s → is_live s.job.state ≡ true → IsInPlace cube s.job.kind s.range ready
  -- there are no more ready segments and live BUILD jobs together than there may be
  pub room : length ready + live_builds jobs ≤ most_segments
  -- the queue holds each job that waits for a claim once, and no other number
  pub queued : (n : ℕ) → count_by (λ other. other == n) queue ≡ places_of (job_at jobs n)

-- the invariant of a run
abbrev pub IsSound : {Query Answer : Type 0} → CubeSemantics Query Answer → World Query → Type 0
IsSound cube w = AreSound cube w.jobs w.queue w.past w.ready

-- how many claims of an attempt may be without their end: one where the job had this attempt, else none
abbrev pub claims_of : Option Submitted → ℕ → ℕ
claims_of None attempt = 0
claims_of (Some s) attempt = if nat_le 1 attempt && nat_le attempt s.job.attempt then 1 else 0

-- the claims without their end: at most one for each attempt of each job, and a job in flight has that of its last attempt
pub record AreClaims (jobs : List Submitted) (claims : List (ℕ × ℕ)) : Type 0 where
  pub each_once : (n attempt : ℕ) → claim_count n attempt claims ≤ claims_of (job_at jobs n) attempt
  pub in_flight : (n : ℕ) (s : Submitted) → job_at jobs n ≡ Some s → s.job.in_flight ≡ true → 0 < claim_count n s.job.attempt claims

-- the versions of queries and answers: none is beyond the last one; a query in flight was taken at a version no older than that at its
-- command and that of its session's last answer; and no two queries of a session are in flight
pub record AreQueries {Query : Type 0} (w : World Query) : Type 0 where
  pub last_answers : (session : ℕ) → w.answered session ≤ number w
  pub commands : All (λ q. q.at_command ≤ number w) w.waiting
  pub takes : All (λ q. (q.waiting.at_command ≤ q.at_take) × (w.answered q.waiting.session ≤ q.at_take) × (q.at_take ≤ number w)) w.asked
  pub sessions : AllPairs (λ q r. r.waiting.session ≢ q.waiting.session) w.asked

-- the job of this number is live and overlaps a range, and none of a smaller number does
pub record IsLeastOverlap {Query : Type 0} (w : World Query) (r : Interval) (n : ℕ) : Type 0 where
  pub there : Submitted
  pub at : job_of w n ≡ Some there
  pub live : is_live there.job.state ≡ true
  pub overlaps : is_overlap there.range r ≡ true
  pub before : (m : ℕ) (s : Submitted) → m < n → job_of w m ≡ Some s → is_live s.job.state ≡ true → is_overlap s.range r ≡ false
