-- The invariant of a run: each turn keeps it.
use Rattle.std.proofs.Common.{◌≡◌, ◌≢◌, ℕ, zero, suc, ◌+◌, ◌-◌, ◌≤◌, ◌<◌, ◌⊎◌, Bool, true, false, cond, not, ◌&&◌, ◌==◌, Option, Some, None, List, [], ◌∷◌, ◌++◌, length, drop, set, slice_get, refl, sym, ap, ◌∙◌, subst, inl, inr, arith, count_by, unwrap_or}
use Rattle.std.specs.Prelude.{find, is_some}
use Rattle.std.proofs.lemmas.Bool.{cases_eq, and_parts, and_from, eqb-true, eqb-false, eq-eqb, ne_eqb}
use Rattle.std.proofs.lemmas.List.Sums.{sum_by-cons, sum_by_push}
use Rattle.cube_val.specs.declared.val.Val.{Val}
use Rattle.job_machine.specs.Job.{Act, JobRecord, IsJob, next, new_job, is_claimable, waits_in, is_last_step, state_after}
use Rattle.job_machine.specs.declared.state.Ended.{Ended}
use Rattle.job_machine.specs.declared.state.Ended.TheVariants as ended
use Rattle.job_machine.specs.declared.state.JobKind.{JobKind}
use Rattle.job_machine.specs.declared.state.JobState.{JobState}
use Rattle.job_machine.specs.declared.state.JobState.TheVariants as state
use Rattle.range_list.specs.Ranges.{Interval, IsRange, IsApart}
use Rattle.run_history.specs.Commands.{Command, Turn}
use Rattle.run_history.specs.Commands.Command.{Load, Submit, Drop, Steer, Ask, Note}
use Rattle.run_history.specs.Commands.Turn.{Takes, Claims, StepEnds, QueryTakes, QueryEnds}
use Rattle.run_history.specs.Cubes.{CubeSemantics}
use Rattle.run_history.specs.Histories.{Along, Allowed, MayTake}
use Rattle.run_history.specs.Invariants.{HasSteps, IsStart, ranges_of, IsInPlace, places_of, IsSubmitted, AreSound, IsSound}
use Rattle.run_history.specs.Sets.{Segment, ReadySet, is_same_range, is_overlap, inside, swapped, dropped}
use Rattle.run_history.specs.Steps.{step, world, with_job, with_set, without, without_claim, steered_queue, end_by, submitted, steered, accepted, claimed, ended_as, step_ended, query_taken, query_ended, by_verdict, steps_of}
use Rattle.run_history.specs.Verdicts.{first_of, most_segments, act_of, steer_by, steer_refusal, submit_refusals, verdict, no_such_segment, overlaps_job}
use Rattle.run_history.specs.World.{Submitted, Waiting, Asked, World, start, job_at, job_of, is_live, is_build, live_builds, in_force, origin_of}
use Rattle.run_history.specs.declared.command.Control.{Control}
use Rattle.run_history.specs.declared.command.Control.TheVariants as control
use Rattle.run_history.specs.declared.event.Outcome.{Outcome}
use Rattle.run_history.specs.declared.event.QueryOut.{QueryOut}
use Rattle.run_history.specs.declared.refused.Refused.{Refused}
use Rattle.run_history.specs.declared.refused.Refused.TheVariants as refused
use Rattle.run_history.proofs.Lists.{Every, false_or, length_filter_le, find_none, map_none}
use Rattle.run_history.proofs.Ready.{AreApart, to_apart, from_apart, filter_apart, swapped_apart, overlap_sym}
use Rattle.run_history.proofs.Laws.{reached, job_at-with_job, job_at-with_other, job_at-added, job_at-next, job_at-added_other}
use Rattle.run_history.proofs.Jobs.{same_job, job_moves, job_is_new, steer_live, pause_rests, discard_rests, resume_waits, claim_live, claim_rests, current_counts, by_advanced, by_finished, by_failed, advance_waits, fail_rests, finish_ends, flight_rests, running_live, flight_next}
use Rattle.run_history.proofs.InPlace.{place_dropped, place_swapped, place_inside, place_replaces, length_swapped, found, first_none}

-- a run may start with no segment
pub empty_starts : IsStart []
empty_starts = record { apart = to_apart [] tt; few = omega arith }

-- ---- the queue

abbrev one_if : Bool → ℕ
one_if b = cond b 1 0

abbrev queue_count : ℕ → List ℕ → ℕ
queue_count n queue = count_by (λ other. other == n) queue

count_cons : (n first : ℕ) (queue : List ℕ) → queue_count n (first ∷ queue) ≡ one_if (first == n) + queue_count n queue
count_cons n first queue = sum_by-cons (λ other. one_if (other == n)) first queue

count_push : (n last : ℕ) (queue : List ℕ) → queue_count n (queue ++ last ∷ []) ≡ queue_count n queue + one_if (last == n)
count_push n last queue = sum_by_push (λ other. one_if (other == n)) queue last

one_at : (n : ℕ) → one_if (n == n) ≡ 1
one_at n = ap (λ b. one_if b) (eq-eqb n n refl)

none_at : (n m : ℕ) → n ≢ m → one_if (n == m) ≡ 0
none_at n m e = ap (λ b. one_if b) (ne_eqb n m e)

without_cond : (n m first : ℕ) (b : Bool) (queue : List ℕ) → (first == m) ≡ b → queue_count n (cond (not b) (first ∷ queue) queue) ≡ one_if (not b && (first == n)) + queue_count n queue
without_cond n m first true queue e = omega arith
without_cond n m first false queue e = count_cons n first queue

count_without : (n m : ℕ) (queue : List ℕ) → queue_count n (without m queue) ≡ cond (m == n) 0 (queue_count n queue)
count_without n m queue = by (m == n) refl queue
  where
    by : (b : Bool) → (m == n) ≡ b → (l : List ℕ) → queue_count n (without m l) ≡ cond b 0 (queue_count n l)
    by true e [] = refl
    by false e [] = refl
    by true e (first ∷ l) = without_cond n m first (first == m) (without m l) refl ∙ omega (arith, gone (first == m) refl, by true e l)
      where
        gone : (b : Bool) → (first == m) ≡ b → one_if (not b && (first == n)) ≡ 0
        gone true f = refl
        gone false f = ap (λ c. one_if c) (ne_eqb first n (λ same. eqb-false first m f (same ∙ sym (eqb-true m n e))))
    by false e (first ∷ l) = without_cond n m first (first == m) (without m l) refl ∙ omega (arith, stays (first == m) refl, by false e l, count_cons n first l)
      where
        stays : (b : Bool) → (first == m) ≡ b → one_if (not b && (first == n)) ≡ one_if (first == n)
        stays false f = refl
        stays true f = sym (ap (λ c. one_if c) (ne_eqb first n (λ same. eqb-false m n e (sym (eqb-true first m f) ∙ same))))

count_without_other : (n m : ℕ) (queue : List ℕ) → n ≢ m → queue_count n (without m queue) ≡ queue_count n queue
count_without_other n m queue e = count_without n m queue ∙ ap (λ b. cond b 0 (queue_count n queue)) (ne_eqb m n (λ same. e (sym same)))

count_without_same : (n : ℕ) (queue : List ℕ) → queue_count n (without n queue) ≡ 0
count_without_same n queue = count_without n n queue ∙ ap (λ b. cond b 0 (queue_count n queue)) (eq-eqb n n refl)

count_first : (n first : ℕ) (queue : List ℕ) → slice_get queue 0 ≡ Some first → queue_count n queue ≡ one_if (first == n) + queue_count n (drop 1 queue)
count_first n first [] e = cc
count_first n first (other ∷ queue) e = count_cons n other queue ∙ ap (λ (x : ℕ). one_if (x == n) + queue_count n queue) (same e)
  where
    same : Some other ≡ Some first → other ≡ first
    same f = cc

places_true : (s : Submitted) → is_claimable s.job ≡ true → places_of (Some s) ≡ 1
places_true s e = ap (λ b. one_if b) e

places_false : (s : Submitted) → is_claimable s.job ≡ false → places_of (Some s) ≡ 0
places_false s e = ap (λ b. one_if b) e

waits_from : (s : Submitted) → 0 < places_of (Some s) → is_claimable s.job ≡ true
waits_from s h = by (is_claimable s.job) h
  where
    by : (b : Bool) → 0 < one_if b → b ≡ true
    by true k = refl
    by false k = absurd (omega arith)

-- ---- jobs that are set

-- what stays of a job in the next world
record Follows (s t : Submitted) : Type 0 where
  range : t.range ≡ s.range
  id : t.job.id ≡ s.job.id
  kind : t.job.kind ≡ s.job.kind
  by_table : IsJob s.job → IsJob t.job
  snapshot : (s.job.in_flight ≡ true → is_some s.tables ≡ true) → t.job.in_flight ≡ true → is_some t.tables ≡ true
  live : is_live t.job.state ≡ true → is_live s.job.state ≡ true

follows_same : (s : Submitted) → Follows s s
follows_same s = record { range = refl; id = refl; kind = refl; by_table = λ h. h; snapshot = λ h. h; live = λ h. h }

-- each job of the next world is one of this world
abbrev AreFollowed : List Submitted → List Submitted → Type 0
AreFollowed jobs jobs2 = (n : ℕ) (t : Submitted) → job_at jobs2 n ≡ Some t → (s : Submitted) × ((job_at jobs n ≡ Some s) × Follows s t)

followed_set : (jobs : List Submitted) (n : ℕ) (s t : Submitted) → job_at jobs n ≡ Some s → Follows s t → AreFollowed jobs (with_job jobs n t)
followed_set jobs n s t at f m u e =
    elim (cases_eq m n) [
      | inl same ↦
          let there : job_at (with_job jobs n t) m ≡ Some t = subst (λ (k : ℕ). job_at (with_job jobs n t) k ≡ Some t) (sym same) (job_at-with_job jobs n s t at) in
          let is : t ≡ u = some_same t u (sym there ∙ e) in
          (s, (subst (λ (k : ℕ). job_at jobs k ≡ Some s) (sym same) at, subst (λ (x : Submitted). Follows s x) is f))
      | inr other ↦ (u, (sym (job_at-with_other jobs n m s t at other) ∙ e, follows_same u))
    ]
  where
    some_same : (a b : Submitted) → Some a ≡ Some b → a ≡ b
    some_same a b h = cc

pub count_set : (p : Submitted → Bool) (jobs : List Submitted) (place : ℕ) (s t : Submitted) → slice_get jobs place ≡ Some s
    → count_by p (set jobs place t) + one_if (p s) ≡ count_by p jobs + one_if (p t)
count_set p [] place s t e = cc
count_set p (x ∷ jobs) zero s t e =
    let same : x ≡ s = cc in
    omega (arith, sum_by-cons (λ y. one_if (p y)) t jobs, sum_by-cons (λ y. one_if (p y)) x jobs, ap (λ (y : Submitted). one_if (p y)) same)
count_set p (x ∷ jobs) (suc place) s t e =
    omega (arith, sum_by-cons (λ y. one_if (p y)) x (set jobs place t), sum_by-cons (λ y. one_if (p y)) x jobs, count_set p jobs place s t e)

abbrev is_live_build : Submitted → Bool
is_live_build s = is_live s.job.state && is_build s.job.kind

builds_set : (jobs : List Submitted) (n : ℕ) (s t : Submitted) → job_at jobs n ≡ Some s → live_builds (with_job jobs n t) + one_if (is_live_build s) ≡ live_builds jobs + one_if (is_live_build t)
builds_set jobs zero s t e = cc
builds_set jobs (suc place) s t e =
    let there : place ≡ suc place - 1 = omega arith in
    subst (λ (k : ℕ). live_builds (set jobs k t) + one_if (is_live_build s) ≡ live_builds jobs + one_if (is_live_build t)) there (count_set is_live_build jobs place s t e)

pub cond_le : (b c : Bool) → (b ≡ true → c ≡ true) → one_if b ≤ one_if c
cond_le true c h = rw (h refl) (omega arith)
cond_le false c h = omega arith

builds_less : (s t : Submitted) → Follows s t → one_if (is_live_build t) ≤ one_if (is_live_build s)
builds_less s t f = cond_le (is_live_build t) (is_live_build s) (λ e. (
    let parts = and_parts (is_live t.job.state) (is_build t.job.kind) e in
    and_from (is_live s.job.state) (is_build s.job.kind) (f.live parts.0) (ap is_build (sym f.kind) ∙ parts.1)
    ))

-- the queue where one job's place changes
queued_set : (jobs : List Submitted) (queue queue2 : List ℕ) (n : ℕ) (s t : Submitted) → job_at jobs n ≡ Some s
    → ((m : ℕ) → queue_count m queue ≡ places_of (job_at jobs m)) → ((m : ℕ) → m ≢ n → queue_count m queue2 ≡ queue_count m queue) → queue_count n queue2 ≡ places_of (Some t)
    → (m : ℕ) → queue_count m queue2 ≡ places_of (job_at (with_job jobs n t) m)
queued_set jobs queue queue2 n s t at h others here m =
    elim (cases_eq m n) [
      | inl same ↦ subst (λ (k : ℕ). queue_count k queue2 ≡ places_of (job_at (with_job jobs n t) k)) (sym same) (here ∙ sym (ap places_of (job_at-with_job jobs n s t at)))
      | inr other ↦ others m other ∙ h m ∙ sym (ap places_of (job_at-with_other jobs n m s t at other))
    ]

-- ---- events

module _ {Query Answer : Type 0} (cube : CubeSemantics Query Answer) where
  -- jobs move on: the ready sets stay
  moved_on : (jobs jobs2 : List Submitted) (queue queue2 : List ℕ) (past : List ReadySet) (ready : ReadySet) → AreFollowed jobs jobs2 → live_builds jobs2 ≤ live_builds jobs
      → ((n : ℕ) → queue_count n queue2 ≡ places_of (job_at jobs2 n)) → AreSound cube jobs queue past ready → AreSound cube jobs2 queue2 past ready
  moved_on jobs jobs2 queue queue2 past ready followed fewer places h = record {
    set_apart = h.set_apart;
    ready_apart = h.ready_apart;
    numbered = λ n t e. (
        let f = followed n t e in
        let was = h.numbered n f.0 f.1.0 in
        record { id = f.1.1.id ∙ was.id; by_table = f.1.1.by_table was.by_table; is_range = subst IsRange (sym f.1.1.range) was.is_range; snapshot = f.1.1.snapshot was.snapshot }
        );
    jobs_apart = λ n m t u other e g live live2. (
        let f = followed n t e in
        let k = followed m u g in
        ap (λ (r : Interval). is_overlap r u.range) f.1.1.range ∙ ap (is_overlap f.0.range) k.1.1.range ∙ h.jobs_apart n m f.0 k.0 other f.1.0 k.1.0 (f.1.1.live live) (k.1.1.live live2)
        );
    in_place = λ n t e live. (
        let f = followed n t e in
        let was = h.in_place n f.0 f.1.0 (f.1.1.live live) in
        subst (λ (r : Interval). IsInPlace cube t.job.kind r ready) (sym f.1.1.range) (subst (λ (k : JobKind). IsInPlace cube k f.0.range ready) (sym f.1.1.kind) was)
        );
    room = omega (arith, h.room);
    queued = places;
  }

  -- one job moves on
  one_moved : (jobs : List Submitted) (queue queue2 : List ℕ) (past : List ReadySet) (ready : ReadySet) (n : ℕ) (s t : Submitted) → job_at jobs n ≡ Some s → Follows s t
      → ((m : ℕ) → m ≢ n → queue_count m queue2 ≡ queue_count m queue) → queue_count n queue2 ≡ places_of (Some t) → AreSound cube jobs queue past ready
      → AreSound cube (with_job jobs n t) queue2 past ready
  one_moved jobs queue queue2 past ready n s t at f others here h =
      moved_on jobs (with_job jobs n t) queue queue2 past ready (followed_set jobs n s t at f) (omega (arith, builds_set jobs n s t at, builds_less s t f))
      (queued_set jobs queue queue2 n s t at h.queued others here) h

  -- a job that an act moves on
  follows_next : (act : Act) (s : Submitted) (tables : Option (List (List (List Val)))) → (act ≡ Act.Advance → s.job.done + 1 < s.job.steps) → (act ≡ Act.Finish → s.job.done + 1 ≡ s.job.steps) → is_live s.job.state ≡ true
      → (is_some s.tables ≡ true → is_some tables ≡ true) → (act ≡ Act.Claim → is_some tables ≡ true) → Follows s (record s { job = next act s.job; tables = tables })
  follows_next act s tables a f live kept first =
      let same = same_job act s.job in
      record {
        range = refl;
        id = same.id;
        kind = same.kind;
        by_table = λ h. job_moves act s.job.state s.job refl h a f;
        snapshot = λ h flight. elim (flight_next act s.job flight) [
          | inl claim ↦ first claim
          | inr before ↦ kept (h before)
        ];
        live = λ e. live;
      }

  -- ---- commands on jobs

  queue_steered : (control : Control) (n m : ℕ) (queue : List ℕ) → m ≢ n → queue_count m (steered_queue control n queue) ≡ queue_count m queue
  queue_steered control.Pause n m queue e = count_without_other m n queue e
  queue_steered control.Discard n m queue e = count_without_other m n queue e
  queue_steered control.Resume n m queue e = count_push m n queue ∙ omega (arith, none_at n m (λ same. e (sym same)))

  place_steered : (control : Control) (n : ℕ) (queue : List ℕ) (s : Submitted) → steer_by s.job.state (state_after (act_of control) s.job.state) ≡ None → queue_count n queue ≡ places_of (Some s)
      → queue_count n (steered_queue control n queue) ≡ places_of (Some (record s { job = next (act_of control) s.job }))
  place_steered control.Pause n queue s h q = count_without_same n queue ∙ sym (places_false (record s { job = next Act.Pause s.job }) (pause_rests s.job.state s.job h))
  place_steered control.Discard n queue s h q = count_without_same n queue ∙ sym (places_false (record s { job = next Act.Discard s.job }) (discard_rests s.job.state s.job h))
  place_steered control.Resume n queue s h q =
      let facts = resume_waits s.job.state s.job h in
      count_push n n queue ∙ omega (arith, q, places_false s facts.0, one_at n, places_true (record s { job = next Act.Resume s.job }) facts.1)

  act_steers : (control : Control) → (act_of control ≢ Act.Advance) × (act_of control ≢ Act.Finish) × (act_of control ≢ Act.Claim)
  act_steers control.Pause = ((λ e. cc), (λ e. cc), (λ e. cc))
  act_steers control.Resume = ((λ e. cc), (λ e. cc), (λ e. cc))
  act_steers control.Discard = ((λ e. cc), (λ e. cc), (λ e. cc))

  keeps_steered : (w : World Query) (control : Control) (n : ℕ) (o : Option Submitted) → job_at w.jobs n ≡ o → steer_refusal control n o ≡ None → IsSound cube w → IsSound cube (steered w control n o)
  keeps_steered w control n None at h i = i
  keeps_steered w control n (Some s) at h i =
      let never = act_steers control in
      one_moved w.jobs w.queue (steered_queue control n w.queue) w.past w.ready n s (record s { job = next (act_of control) s.job }) at
      (follows_next (act_of control) s s.tables (λ e. absurd (never.0 e)) (λ e. absurd (never.1 e)) (steer_live control s.job.state h) (λ e. e) (λ e. absurd (never.2 e)))
      (λ m e. queue_steered control n m w.queue e) (place_steered control n w.queue s h (i.queued n ∙ ap places_of at)) i

  -- ---- submissions

  pub some_is : (a b : Submitted) → Some a ≡ Some b → a ≡ b
  some_is a b h = cc

  added_cases : (jobs : List Submitted) (new : Submitted) (n : ℕ) (s : Submitted) → job_at (jobs ++ new ∷ []) n ≡ Some s → ((n ≡ length jobs + 1) × (new ≡ s)) ⊎ ((n ≢ length jobs + 1) × (job_at jobs n ≡ Some s))
  added_cases jobs new n s e =
      elim (cases_eq n (length jobs + 1)) [
        | inl same ↦ inl (same, some_is new s (sym (subst (λ (k : ℕ). job_at (jobs ++ new ∷ []) k ≡ Some new) (sym same) (job_at-added jobs new)) ∙ e))
        | inr other ↦ inr (other, sym (job_at-added_other jobs new n other) ∙ e)
      ]

  every_job : (P : Submitted → Type 0) (jobs : List Submitted) → Every P jobs → (n : ℕ) (s : Submitted) → job_at jobs n ≡ Some s → P s
  every_job P jobs h zero s e = cc
  every_job P [] h (suc n) s e = cc
  every_job P (x ∷ jobs) h (suc zero) s e = subst P (some_is x s e) h.0
  every_job P (x ∷ jobs) h (suc (suc n)) s e = every_job P jobs h.1 (suc n) s e

  -- no live job overlaps the range of an accepted submission
  pub free_of_jobs : (r : Interval) (jobs : List Submitted) → find (λ s. is_live s.job.state && is_overlap s.range r) jobs ≡ None → (n : ℕ) (s : Submitted) → job_at jobs n ≡ Some s → is_live s.job.state ≡ true → is_overlap s.range r ≡ false
  free_of_jobs r jobs none n s e live = by (every_job (λ t. (is_live t.job.state && is_overlap t.range r) ≡ false) jobs (find_none (λ t. is_live t.job.state && is_overlap t.range r) jobs none) n s e)
    where
      by : (is_live s.job.state && is_overlap s.range r) ≡ false → is_overlap s.range r ≡ false
      by both = false_or (is_overlap s.range r) (λ o. let yes_both = and_from (is_live s.job.state) (is_overlap s.range r) live o in cc)

  keeps_submitted : (w : World Query) (kind : JobKind) (r : Interval) → HasSteps cube → IsRange r → first_of (submit_refusals cube kind r w) ≡ None → IsSound cube w
      → IsSound cube (submitted w kind (cube.steps kind) r)
  keeps_submitted w kind r steps range accepted i =
      let finds = found cube kind r w range (from_apart w.ready i.ready_apart) i.room accepted in
      let free = free_of_jobs r w.jobs finds.jobs in
      let new : Submitted = record { job = new_job (length w.jobs + 1) kind (cube.steps kind); range = r; tables = None } in
      record {
        set_apart = i.set_apart;
        ready_apart = i.ready_apart;
        numbered = λ n s e. elim (added_cases w.jobs new n s e) [
          | inl a ↦ subst (λ (x : Submitted). IsSubmitted n x) a.1 (record { id = sym a.0; by_table = job_is_new (length w.jobs + 1) kind (cube.steps kind) (steps kind); is_range = range; snapshot = λ flight. cc })
          | inr b ↦ i.numbered n s b.1
        ];
        jobs_apart = λ n m s t other e g live live2. elim (added_cases w.jobs new n s e) [
          | inl a ↦ elim (added_cases w.jobs new m t g) [
            | inl b ↦ absurd (other (a.0 ∙ sym b.0))
            | inr d ↦ subst (λ (x : Submitted). is_overlap x.range t.range ≡ false) a.1 (overlap_sym r t.range ∙ free m t d.1 live2)
          ]
          | inr c ↦ elim (added_cases w.jobs new m t g) [
            | inl b ↦ subst (λ (x : Submitted). is_overlap s.range x.range ≡ false) b.1 (free n s c.1 live)
            | inr d ↦ i.jobs_apart n m s t other c.1 d.1 live live2
          ]
        ];
        in_place = λ n s e live. elim (added_cases w.jobs new n s e) [
          | inl a ↦ subst (λ (x : Submitted). IsInPlace cube x.job.kind x.range w.ready) a.1 finds.place
          | inr b ↦ i.in_place n s b.1 live
        ];
        room = omega (arith, finds.room, sum_by_push (λ s. one_if (is_live_build s)) w.jobs new);
        queued = λ n. elim (cases_eq n (length w.jobs + 1)) [
          | inl same ↦ subst (λ (k : ℕ). queue_count k (w.queue ++ (length w.jobs + 1) ∷ []) ≡ places_of (job_at (w.jobs ++ new ∷ []) k)) (sym same) (
              count_push (length w.jobs + 1) (length w.jobs + 1) w.queue
              ∙ omega (arith, i.queued (length w.jobs + 1), ap places_of (job_at-next w.jobs), one_at (length w.jobs + 1), ap places_of (job_at-added w.jobs new))
              )
          | inr other ↦
              count_push n (length w.jobs + 1) w.queue ∙ omega (arith, none_at (length w.jobs + 1) n (λ same. other (sym same))) ∙ i.queued n ∙ sym (ap places_of (job_at-added_other w.jobs new n other))
        ];
      }

  -- ---- claims

  -- the first job of the queue waits for a claim
  pub first_waits : (w : World Query) (n : ℕ) (s : Submitted) → job_at w.jobs n ≡ Some s → slice_get w.queue 0 ≡ Some n → IsSound cube w → is_claimable s.job ≡ true
  first_waits w n s at first i = waits_from s (omega (arith, i.queued n, ap places_of at, count_first n n w.queue first, one_at n))

  keeps_claimed : (w : World Query) (n attempt : ℕ) (o : Option Submitted) → job_at w.jobs n ≡ o → slice_get w.queue 0 ≡ Some n → IsSound cube w → IsSound cube (claimed w n attempt o)
  keeps_claimed w n attempt None at first i = i
  keeps_claimed w n attempt (Some s) at first i =
      let places : queue_count n w.queue ≡ places_of (Some s) = i.queued n ∙ ap places_of at in
      let waits = waits_from s (omega (arith, places, count_first n n w.queue first, one_at n)) in
      let t : Submitted = record s { job = next Act.Claim s.job; tables = Some (unwrap_or s.tables (in_force w)) } in
      one_moved w.jobs w.queue (drop 1 w.queue) w.past w.ready n s t at
      (follows_next Act.Claim s (Some (unwrap_or s.tables (in_force w))) (λ e. cc) (λ e. cc) (claim_live s.job.state s.job.in_flight waits) (λ e. refl) (λ e. refl))
      (λ m e. omega (arith, count_first m n w.queue first, none_at n m (λ same. e (sym same))))
      (omega (arith, places, places_true s waits, count_first n n w.queue first, one_at n, places_false t (claim_rests s.job.state s.job waits))) i

  -- ---- the next ready set

  sets_more : (sets : List ReadySet) (next : ReadySet) → ((v : ℕ) → IsApart (ranges_of (unwrap_or (slice_get sets v) []))) → IsApart (ranges_of next)
      → (v : ℕ) → IsApart (ranges_of (unwrap_or (slice_get (sets ++ next ∷ []) v) []))
  sets_more [] next h a zero = a
  sets_more [] next h a (suc v) = to_apart [] tt
  sets_more (x ∷ sets) next h a zero = h 0
  sets_more (x ∷ sets) next h a (suc v) = sets_more sets next (λ k. h (suc k)) a v

  next_set : (jobs : List Submitted) (queue : List ℕ) (past : List ReadySet) (ready next : ReadySet) → AreApart next
      → ((n : ℕ) (s : Submitted) → job_at jobs n ≡ Some s → is_live s.job.state ≡ true → IsInPlace cube s.job.kind s.range next) → length next + live_builds jobs ≤ most_segments
      → AreSound cube jobs queue past ready → AreSound cube jobs queue (past ++ ready ∷ []) next
  next_set jobs queue past ready next apart places room i = record {
    set_apart = sets_more (past ++ ready ∷ []) next i.set_apart (to_apart next apart);
    ready_apart = to_apart next apart;
    numbered = i.numbered;
    jobs_apart = i.jobs_apart;
    in_place = places;
    room = room;
    queued = i.queued;
  }

  keeps_dropped : (w : World Query) (r : Interval) → first_of (no_such_segment cube r w ∷ overlaps_job cube r w ∷ []) ≡ None → IsSound cube w → IsSound cube (with_set w (dropped r w.ready))
  keeps_dropped w r accepted i =
      let a = first_none (no_such_segment cube r w) (overlaps_job cube r w ∷ []) accepted in
      let b = first_none (overlaps_job cube r w) [] a.1 in
      let free = free_of_jobs r w.jobs (map_none (λ (s : Submitted). refused.OverlapsJob s.job.id) (find (λ s. is_live s.job.state && is_overlap s.range r) w.jobs) b.0) in
      let apart = from_apart w.ready i.ready_apart in
      next_set w.jobs w.queue w.past w.ready (dropped r w.ready) (filter_apart (λ s. not (is_same_range r s.range)) w.ready apart)
      (λ n s e live. place_dropped cube s.job.kind s.range r w.ready (free n s e live) apart (i.in_place n s e live))
      (omega (arith, i.room, length_filter_le (λ s. not (is_same_range r s.range)) w.ready)) i

  -- ---- ends of steps

  room_finished : (s : Submitted) (before after builds builds2 : ℕ) (gone : ℕ) (b : Bool) → is_build s.job.kind ≡ b → is_live s.job.state ≡ true → (b ≡ false → 1 ≤ gone) → after + gone ≡ before + 1
      → builds2 + one_if (is_live_build s) ≡ builds → before + builds ≤ most_segments → after + builds2 ≤ most_segments
  room_finished s before after builds builds2 gone true e live replaces size fewer room =
      omega (arith, ap one_if (and_from (is_live s.job.state) (is_build s.job.kind) live e))
  room_finished s before after builds builds2 gone false e live replaces size fewer room = omega (arith, replaces refl)

  not_live_build : (t : Submitted) → t.job.state ≡ state.Finished → one_if (is_live_build t) ≡ 0
  not_live_build t e = ap (λ (x : JobState). one_if (is_live x && is_build t.job.kind)) e

  steps_left : (job : JobRecord) → IsJob job → job.state ≡ state.Running → is_last_step job ≡ false → job.done + 1 < job.steps
  steps_left job h running last =
      let not_all : job.done ≢ job.steps = λ same. (let was = h.finished.0 same in cc) in
      let not_last : job.done + 1 ≢ job.steps = eqb-false (job.done + 1) job.steps last in
      omega (arith, h.progress, not_all, not_last)

  keeps_ended : (w : World Query) (n attempt : ℕ) (out : Outcome) (s : Submitted) (how : Ended) → job_at w.jobs n ≡ Some s → end_by out s.job attempt ≡ how → IsSound cube w → IsSound cube (ended_as how w n s)
  keeps_ended w n attempt out s ended.Stale at e i = i
  keeps_ended w n attempt out s ended.Advanced at e i =
      let facts = by_advanced out s.job attempt e in
      let counts = current_counts s.job attempt facts.0 in
      let left = steps_left s.job (i.numbered n s at).by_table counts.running facts.1 in
      let t : Submitted = record s { job = next Act.Advance s.job } in
      one_moved w.jobs w.queue (w.queue ++ n ∷ []) w.past w.ready n s t at
      (follows_next Act.Advance s s.tables (λ same. left) (λ same. cc) (running_live s.job.state counts.running) (λ e. e) (λ e. cc))
      (λ m other. count_push m n w.queue ∙ omega (arith, none_at n m (λ same. other (sym same))))
      (count_push n n w.queue ∙ omega (arith, i.queued n, ap places_of at, places_false s (flight_rests s.job attempt counts), one_at n, places_true t (advance_waits s.job.state s.job counts.running))) i
  keeps_ended w n attempt out s ended.Failed at e i =
      let counts = current_counts s.job attempt (by_failed out s.job attempt e) in
      let t : Submitted = record s { job = next Act.Fail s.job } in
      one_moved w.jobs w.queue w.queue w.past w.ready n s t at
      (follows_next Act.Fail s s.tables (λ same. cc) (λ same. cc) (running_live s.job.state counts.running) (λ e. e) (λ e. cc)) (λ m other. refl)
      (i.queued n ∙ ap places_of at ∙ places_false s (flight_rests s.job attempt counts) ∙ sym (places_false t (fail_rests s.job.state s.job counts.running))) i
  keeps_ended w n attempt out s ended.Finished at e i =
      let facts = by_finished out s.job attempt e in
      let counts = current_counts s.job attempt facts.0 in
      let last = eqb-true (s.job.done + 1) s.job.steps facts.1 in
      let live = running_live s.job.state counts.running in
      let t : Submitted = record s { job = next Act.Finish s.job } in
      let ends : t.job.state ≡ state.Finished = finish_ends s.job.state s.job counts.running in
      let places : queue_count n w.queue ≡ places_of (Some t) = i.queued n ∙ ap places_of at ∙ places_false s (flight_rests s.job attempt counts) ∙ sym (places_false t (ap (λ (x : JobState). waits_in x t.job.in_flight) ends)) in
      let jobs2 = with_job w.jobs n t in
      let moved = one_moved w.jobs w.queue w.queue w.past w.ready n s t at (follows_next Act.Finish s s.tables (λ same. cc) (λ same. last) live (λ e. e) (λ e. cc)) (λ m other. refl) places i in
      let new : Segment = record { range = s.range; job = n; origin = origin_of w s } in
      let apart = from_apart w.ready i.ready_apart in
      let range = (i.numbered n s at).is_range in
      next_set jobs2 w.queue w.past w.ready (swapped new w.ready) (swapped_apart new w.ready apart range (place_inside cube s.job.kind s.range w.ready range apart (i.in_place n s at live)))
      (λ m u there alive. place_swapped cube u.job.kind u.range new w.ready (moved.numbered m u there).is_range range (apart_from_ended w n s t m u at ends live i there alive) apart (moved.in_place m u there alive))
      (room_finished s (length w.ready) (length (swapped new w.ready)) (live_builds w.jobs) (live_builds jobs2) (length (inside s.range w.ready)) (is_build s.job.kind) refl live
      (λ other. place_replaces cube s.job.kind s.range w.ready other (i.in_place n s at live)) (length_swapped cube new w.ready) (omega (arith, builds_set w.jobs n s t at, not_live_build t ends)) i.room) moved
    where
      apart_from_ended : (w : World Query) (n : ℕ) (s t : Submitted) (m : ℕ) (u : Submitted) → job_at w.jobs n ≡ Some s → t.job.state ≡ state.Finished → is_live s.job.state ≡ true → IsSound cube w → job_at (with_job w.jobs n t) m ≡ Some u → is_live u.job.state ≡ true
          → is_overlap u.range s.range ≡ false
      apart_from_ended w n s t m u at ends live i there alive =
          elim (cases_eq m n) [
            | inl same ↦
                let is : t ≡ u = some_is t u (sym (subst (λ (k : ℕ). job_at (with_job w.jobs n t) k ≡ Some t) (sym same) (job_at-with_job w.jobs n s t at)) ∙ there) in
                let over : is_live u.job.state ≡ false = ap (λ (x : Submitted). is_live x.job.state) (sym is) ∙ ap is_live ends in
                cc
            | inr other ↦ i.jobs_apart m n u s other (sym (job_at-with_other w.jobs n m s t at other) ∙ there) at alive live
          ]

  keeps_step_ended : (w : World Query) (n attempt : ℕ) (out : Outcome) (o : Option Submitted) → job_at w.jobs n ≡ o → IsSound cube w → IsSound cube (step_ended w n attempt out o)
  keeps_step_ended w n attempt out None at i = i
  keeps_step_ended w n attempt out (Some s) at i = keeps_ended w n attempt out s (end_by out s.job attempt) at refl i

  -- ---- turns

  keeps_query_taken : (w : World Query) (line : ℕ) (o : Option (Waiting Query)) → IsSound cube w → IsSound cube (query_taken w line o)
  keeps_query_taken w line None i = i
  keeps_query_taken w line (Some q) i = i

  keeps_query_ended : (w : World Query) (line : ℕ) (out : QueryOut) (o : Option (Asked Query)) → IsSound cube w → IsSound cube (query_ended w line out o)
  keeps_query_ended w line out None i = i
  keeps_query_ended w line out (Some q) i = i

  keeps_accepted : (w : World Query) (line : ℕ) (command : Command Query) → HasSteps cube → MayTake w command → verdict cube w command ≡ None → IsSound cube w
      → IsSound cube (accepted (steps_of cube command) (record w { line = line }) command)
  keeps_accepted w line (Load table rows) steps may e i = i
  keeps_accepted w line (Submit kind r) steps may e i = keeps_submitted w kind r steps may e i
  keeps_accepted w line (Drop r) steps may e i = keeps_dropped w r e i
  keeps_accepted w line (Steer control n) steps may e i = keeps_steered (record w { line = line }) control n (job_of w n) refl e i
  keeps_accepted w line (Ask session query) steps may e i = i
  keeps_accepted w line (Note noted) steps may e i = i

  keeps_took : (w : World Query) (line : ℕ) (command : Command Query) (o : Option Refused) → HasSteps cube → MayTake w command → verdict cube w command ≡ o → IsSound cube w
      → IsSound cube (by_verdict o (steps_of cube command) (record w { line = line }) command)
  keeps_took w line command (Some r) steps may e i = i
  keeps_took w line command None steps may e i = keeps_accepted w line command steps may e i

  pub keeps_sound : HasSteps cube → (w : World Query) (turn : Turn Query) → Allowed w turn → IsSound cube w → IsSound cube (step cube w turn)
  keeps_sound steps w (Takes line command) a i = keeps_took w line command (verdict cube w command) steps a.1 refl i
  keeps_sound steps w (Claims n attempt) a i = keeps_claimed w n attempt (job_of w n) refl a.1 i
  keeps_sound steps w (StepEnds n attempt out) a i = keeps_step_ended (record w { steps = without_claim n attempt w.steps }) n attempt out (job_of w n) refl i
  keeps_sound steps w (QueryTakes line) a i = keeps_query_taken w line (find (λ q. q.line == line) w.waiting) i
  keeps_sound steps w (QueryEnds line out) a i = keeps_query_ended w line out (find (λ q. q.waiting.line == line) w.asked) i

  no_jobs : (n : ℕ) → job_at [] n ≡ None
  no_jobs zero = refl
  no_jobs (suc n) = refl

  pub sound_start : (workers tables : ℕ) (initial : ReadySet) → IsStart initial → IsSound cube (start workers tables initial)
  sound_start workers tables initial from = record {
    set_apart = λ v. sets_more [] initial (λ k. to_apart [] tt) from.apart v;
    ready_apart = from.apart;
    numbered = λ n s e. (let none = no_jobs n in cc);
    jobs_apart = λ n m s t other e g live live2. (let none = no_jobs n in cc);
    in_place = λ n s e live. (let none = no_jobs n in cc);
    room = omega (arith, from.few);
    queued = λ n. sym (ap places_of (no_jobs n));
  }

  pub sound_world : HasSteps cube → (workers : ℕ) (initial : ReadySet) (turns : List (Turn Query)) → IsStart initial → Along cube Allowed (start workers (length cube.tables) initial) turns → IsSound cube (world cube workers initial turns)
  sound_world steps workers initial turns from h = reached cube (IsSound cube) (keeps_sound steps) (start workers (length cube.tables) initial) turns (sound_start workers (length cube.tables) initial from) h
