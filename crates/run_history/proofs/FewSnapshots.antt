-- How many snapshots a ready set is made of.
use Rattle.std.proofs.Common.{◌≡◌, ℕ, zero, suc, ◌+◌, ◌-◌, ◌≤◌, Bool, true, false, cond, not, ◌&&◌, ◌==◌, Option, Some, None, List, [], ◌∷◌, ◌++◌, length, map, set, fold, slice_get, refl, ap, ◌∙◌, subst, arith, length-append, unwrap_or}
use Rattle.std.specs.Prelude.{filter, find, nat_lt, sum_by}
use Rattle.std.specs.List.{flat_map}
use Rattle.std.proofs.lemmas.Bool.{and_parts, and_from}
use Rattle.std.proofs.lemmas.List.Sums.{sum_by-append, sum_by-cons, sum_by_push}
use Rattle.job_machine.specs.Job.{Act, new_job, next}
use Rattle.job_machine.specs.declared.state.Ended.{Ended}
use Rattle.job_machine.specs.declared.state.Ended.TheVariants as ended
use Rattle.job_machine.specs.declared.state.JobKind.{JobKind}
use Rattle.job_machine.specs.declared.state.JobKind.TheVariants.{Build, Refresh, Merge}
use Rattle.job_machine.specs.declared.state.JobState.{JobState}
use Rattle.job_machine.specs.declared.state.JobState.TheVariants as state
use Rattle.range_list.specs.Ranges.{Interval}
use Rattle.run_history.specs.Commands.{Command, Turn}
use Rattle.run_history.specs.Commands.Command.{Load, Submit, Drop, Steer, Ask, Note}
use Rattle.run_history.specs.Commands.Turn.{Takes, Claims, StepEnds, QueryTakes, QueryEnds}
use Rattle.run_history.specs.Cubes.{CubeSemantics, Rows, Snapshot}
use Rattle.run_history.specs.Sets.{ReadySet, Segment, dropped, inside, is_inside, is_same_range, outside, placed, snapshots_in, swapped}
use Rattle.run_history.specs.Steps.{accepted, by_verdict, claimed, end_by, ended_as, query_ended, query_taken, step, step_ended, steered, steps_of, with_job, without_claim, world}
use Rattle.run_history.specs.Verdicts.{act_of, verdict}
use Rattle.run_history.specs.World.{Asked, Submitted, Waiting, World, finished_readings, in_force, is_finished, job_at, job_of, origin_of, parts_by, reading_jobs, reads_tables, set_at, start}
use Rattle.run_history.specs.declared.command.Control.{Control}
use Rattle.run_history.specs.declared.event.Outcome.{Outcome}
use Rattle.run_history.specs.declared.event.QueryOut.{QueryOut}
use Rattle.run_history.specs.declared.refused.Refused.{Refused}
use Rattle.run_history.proofs.Lists.{Every, every_append, every_map}
use Rattle.run_history.proofs.Jobs.{by_finished, current_counts, finish_ends, finished_next, same_job}
use Rattle.run_history.proofs.Sound.{cond_le, count_set}

abbrev one_if : Bool → ℕ
one_if b = cond b 1 0

-- ---- sums over the parts of a set

sum_cond : {X : Type 0} (f : X → ℕ) (b : Bool) (x : X) (l m : List X) → sum_by f (cond b (x ∷ l) l) + sum_by f (cond (not b) (x ∷ m) m) ≡ f x + (sum_by f l + sum_by f m)
sum_cond f true x l m = omega (arith, sum_by-cons f x l)
sum_cond f false x l m = omega (arith, sum_by-cons f x m)

sum_parts : {X : Type 0} (f : X → ℕ) (test : X → Bool) (xs : List X) → sum_by f (filter test xs) + sum_by f (filter (λ x. not (test x)) xs) ≡ sum_by f xs
sum_parts f test [] = refl
sum_parts f test (x ∷ xs) = sum_cond f (test x) x (filter test xs) (filter (λ y. not (test y)) xs) ∙ omega (arith, sum_parts f test xs, sum_by-cons f x xs)

abbrev size : Segment → ℕ
size s = length s.origin

snapshots_placed : (new : Segment) (set : ReadySet) → snapshots_in (placed new set) ≡ length new.origin + snapshots_in set
snapshots_placed new set =
    let front : ReadySet = filter (λ s. nat_lt s.range.start new.range.start) set in
    let back : ReadySet = filter (λ s. not (nat_lt s.range.start new.range.start)) set in
    omega (arith, sum_by-append size front (new ∷ back), sum_by-cons size new back, sum_parts size (λ s. nat_lt s.range.start new.range.start) set)

-- a swap takes the snapshots of what it replaces, and brings those of what comes
snapshots_swapped : (new : Segment) (set : ReadySet) → snapshots_in (swapped new set) + snapshots_in (inside new.range set) ≡ length new.origin + snapshots_in set
snapshots_swapped new set = omega (arith, snapshots_placed new (outside new.range set), sum_parts size (λ s. is_inside new.range s.range) set)

snapshots_dropped : (r : Interval) (set : ReadySet) → snapshots_in (dropped r set) ≤ snapshots_in set
snapshots_dropped r set = omega (arith, sum_parts size (λ s. is_same_range r s.range) set)

length_origins : (set : ReadySet) → length (flat_map (λ (part : List Snapshot). part) (map (λ (s : Segment). s.origin) set)) ≡ snapshots_in set
length_origins [] = refl
length_origins (s ∷ set) =
    length-append s.origin (flat_map (λ (part : List Snapshot). part) (map (λ (x : Segment). x.origin) set)) ∙ omega (arith, length_origins set, sum_by-cons size s set)

-- a job's segment is made of the snapshots that its swap replaces, or of one
length_parts : {Query : Type 0} (kind : JobKind) (w : World Query) (s : Submitted) → length (flat_map (λ (part : List Snapshot). part) (parts_by kind w s)) ≤ snapshots_in (inside s.range w.ready) + one_if (reads_tables kind)
length_parts Build w s = omega arith
length_parts Refresh w s = omega arith
length_parts Merge w s = omega (arith, length_origins (inside s.range w.ready))

-- ---- FINISHED jobs that read tables

abbrev is_read : Submitted → Bool
is_read s = reads_tables s.job.kind && is_finished s.job.state

readings_set : (jobs : List Submitted) (n : ℕ) (s t : Submitted) → job_at jobs n ≡ Some s → finished_readings (with_job jobs n t) + one_if (is_read s) ≡ finished_readings jobs + one_if (is_read t)
readings_set jobs zero s t e = cc
readings_set jobs (suc place) s t e =
    let there : place ≡ suc place - 1 = omega arith in
    subst (λ (k : ℕ). finished_readings (set jobs k t) + one_if (is_read s) ≡ finished_readings jobs + one_if (is_read t)) there (count_set is_read jobs place s t e)

-- no act takes a job out of them
readings_next : (jobs : List Submitted) (n : ℕ) (s : Submitted) (act : Act) (tables : Option (List Rows)) → job_at jobs n ≡ Some s
    → finished_readings jobs ≤ finished_readings (with_job jobs n (record s { job = next act s.job; tables = tables }))
readings_next jobs n s act tables e =
    let t : Submitted = record s { job = next act s.job; tables = tables } in
    omega (
      arith,
      readings_set jobs n s t e,
      cond_le (is_read s) (is_read t) (λ h. (
          let parts = and_parts (reads_tables s.job.kind) (is_finished s.job.state) h in
          and_from (reads_tables (next act s.job).kind) (is_finished (next act s.job).state) (ap reads_tables (same_job act s.job).kind ∙ parts.0) (finished_next act s.job parts.1)
          )),
    )

readings_few : (jobs : List Submitted) → finished_readings jobs ≤ reading_jobs jobs
readings_few [] = omega arith
readings_few (s ∷ jobs) =
    omega (
      arith,
      readings_few jobs,
      sum_by-cons (λ (x : Submitted). one_if (is_read x)) s jobs,
      sum_by-cons (λ (x : Submitted). one_if (reads_tables x.job.kind)) s jobs,
      cond_le (is_read s) (reads_tables s.job.kind) (λ h. (and_parts (reads_tables s.job.kind) (is_finished s.job.state) h).0),
    )

-- ---- the sets of a run

-- no set is made of more snapshots than so many and the FINISHED jobs that read tables
record AreFew (most : ℕ) (jobs : List Submitted) (past : List ReadySet) (ready : ReadySet) : Type 0 where
  ready_few : snapshots_in ready ≤ most + finished_readings jobs
  past_few : Every (λ sets. snapshots_in sets ≤ most + finished_readings jobs) past

few_moved : (most : ℕ) (jobs jobs2 : List Submitted) (past : List ReadySet) (ready : ReadySet) → finished_readings jobs ≤ finished_readings jobs2 → AreFew most jobs past ready → AreFew most jobs2 past ready
few_moved most jobs jobs2 past ready le h = record {
  ready_few = omega (arith, le, h.ready_few);
  past_few = every_map (λ sets. snapshots_in sets ≤ most + finished_readings jobs) (λ sets. snapshots_in sets ≤ most + finished_readings jobs2) past (λ sets few. omega (arith, le, few)) h.past_few;
}

few_next : (most : ℕ) (jobs : List Submitted) (past : List ReadySet) (ready next_set : ReadySet) → snapshots_in next_set ≤ most + finished_readings jobs → AreFew most jobs past ready → AreFew most jobs (past ++ ready ∷ []) next_set
few_next most jobs past ready next_set few h = record {
  ready_few = few;
  past_few = every_append (λ sets. snapshots_in sets ≤ most + finished_readings jobs) past (ready ∷ []) h.past_few (h.ready_few, tt);
}

every_at : (P : ReadySet → Type 0) (sets : List ReadySet) (version : ℕ) → P [] → Every P sets → P (unwrap_or (slice_get sets version) [])
every_at P [] version none h = none
every_at P (x ∷ sets) zero none h = h.0
every_at P (x ∷ sets) (suc version) none h = every_at P sets version none h.1

module _ {Query : Type 0} where
  abbrev HasFew : ℕ → World Query → Type 0
  HasFew most w = AreFew most w.jobs w.past w.ready

  few_steered : (most : ℕ) (w : World Query) (control : Control) (n : ℕ) (o : Option Submitted) → job_at w.jobs n ≡ o → HasFew most w → HasFew most (steered w control n o)
  few_steered most w control n None at h = h
  few_steered most w control n (Some s) at h =
      few_moved most w.jobs (with_job w.jobs n (record s { job = next (act_of control) s.job })) w.past w.ready (readings_next w.jobs n s (act_of control) s.tables at) h

  few_accepted : (most steps : ℕ) (w : World Query) (command : Command Query) → HasFew most w → HasFew most (accepted steps w command)
  few_accepted most steps w (Load table rows) h = h
  few_accepted most steps w (Submit kind range) h =
      let new : Submitted = record { job = new_job (length w.jobs + 1) kind steps; range = range; tables = None } in
      few_moved most w.jobs (w.jobs ++ new ∷ []) w.past w.ready (omega (arith, sum_by_push (λ (s : Submitted). one_if (is_read s)) w.jobs new)) h
  few_accepted most steps w (Drop range) h = few_next most w.jobs w.past w.ready (dropped range w.ready) (omega (arith, snapshots_dropped range w.ready, h.ready_few)) h
  few_accepted most steps w (Steer control n) h = few_steered most w control n (job_of w n) refl h
  few_accepted most steps w (Ask session query) h = h
  few_accepted most steps w (Note noted) h = h

  few_verdict : (most steps : ℕ) (w : World Query) (command : Command Query) (o : Option Refused) → HasFew most w → HasFew most (by_verdict o steps w command)
  few_verdict most steps w command (Some refused) h = h
  few_verdict most steps w command None h = few_accepted most steps w command h

  few_claimed : (most : ℕ) (w : World Query) (n attempt : ℕ) (o : Option Submitted) → job_at w.jobs n ≡ o → HasFew most w → HasFew most (claimed w n attempt o)
  few_claimed most w n attempt None at h = h
  few_claimed most w n attempt (Some s) at h =
      few_moved most w.jobs (with_job w.jobs n (record s { job = next Act.Claim s.job; tables = Some (unwrap_or s.tables (in_force w)) })) w.past w.ready
      (readings_next w.jobs n s Act.Claim (Some (unwrap_or s.tables (in_force w))) at) h

  few_finished : (most : ℕ) (w : World Query) (n attempt : ℕ) (s : Submitted) → job_at w.jobs n ≡ Some s → s.job.state ≡ state.Running → HasFew most w → HasFew most (ended_as ended.Finished w n s)
  few_finished most w n attempt s at running h =
      let t : Submitted = record s { job = next Act.Finish s.job } in
      let new : Segment = record { range = s.range; job = n; origin = origin_of w s } in
      let before : one_if (is_read s) ≡ 0 = not_read (reads_tables s.job.kind) s.job.state running in
      let ends : t.job.state ≡ state.Finished = finish_ends s.job.state s.job running in
      let after : one_if (is_read t) ≡ one_if (reads_tables s.job.kind) =
      ap (λ (k : JobKind). one_if (reads_tables k && is_finished t.job.state)) (same_job Act.Finish s.job).kind ∙ now_read (reads_tables s.job.kind) t.job.state ends in
      let moved = few_moved most w.jobs (with_job w.jobs n t) w.past w.ready (readings_next w.jobs n s Act.Finish s.tables at) h in
      few_next most (with_job w.jobs n t) w.past w.ready (swapped new w.ready)
      (omega (arith, snapshots_swapped new w.ready, length_parts s.job.kind w s, readings_set w.jobs n s t at, before, after, h.ready_few)) moved
    where
      not_read : (b : Bool) (now : JobState) → now ≡ state.Running → one_if (b && is_finished now) ≡ 0
      not_read b now e = ap (λ (x : JobState). one_if (b && is_finished x)) e ∙ by b
        where
          by : (c : Bool) → one_if (c && false) ≡ 0
          by true = refl
          by false = refl

      now_read : (b : Bool) (now : JobState) → now ≡ state.Finished → one_if (b && is_finished now) ≡ one_if b
      now_read b now e = ap (λ (x : JobState). one_if (b && is_finished x)) e ∙ by b
        where
          by : (c : Bool) → one_if (c && true) ≡ one_if c
          by true = refl
          by false = refl

  few_ended : (most : ℕ) (w : World Query) (n attempt : ℕ) (out : Outcome) (s : Submitted) (how : Ended) → job_at w.jobs n ≡ Some s → end_by out s.job attempt ≡ how → HasFew most w → HasFew most (ended_as how w n s)
  few_ended most w n attempt out s ended.Stale at e h = h
  few_ended most w n attempt out s ended.Advanced at e h = few_moved most w.jobs (with_job w.jobs n (record s { job = next Act.Advance s.job })) w.past w.ready (readings_next w.jobs n s Act.Advance s.tables at) h
  few_ended most w n attempt out s ended.Failed at e h = few_moved most w.jobs (with_job w.jobs n (record s { job = next Act.Fail s.job })) w.past w.ready (readings_next w.jobs n s Act.Fail s.tables at) h
  few_ended most w n attempt out s ended.Finished at e h = few_finished most w n attempt s at (current_counts s.job attempt (by_finished out s.job attempt e).0).running h

  few_step_ended : (most : ℕ) (w : World Query) (n attempt : ℕ) (out : Outcome) (o : Option Submitted) → job_at w.jobs n ≡ o → HasFew most w → HasFew most (step_ended w n attempt out o)
  few_step_ended most w n attempt out None at h = h
  few_step_ended most w n attempt out (Some s) at h = few_ended most w n attempt out s (end_by out s.job attempt) at refl h

  few_taken : (most : ℕ) (w : World Query) (line : ℕ) (o : Option (Waiting Query)) → HasFew most w → HasFew most (query_taken w line o)
  few_taken most w line None h = h
  few_taken most w line (Some q) h = h

  few_answered : (most : ℕ) (w : World Query) (line : ℕ) (out : QueryOut) (o : Option (Asked Query)) → HasFew most w → HasFew most (query_ended w line out o)
  few_answered most w line out None h = h
  few_answered most w line out (Some q) h = h

module _ {Query Answer : Type 0} (cube : CubeSemantics Query Answer) where
  few_step : (most : ℕ) (w : World Query) (turn : Turn Query) → HasFew most w → HasFew most (step cube w turn)
  few_step most w (Takes line command) h = few_verdict most (steps_of cube command) (record w { line = line }) command (verdict cube w command) h
  few_step most w (Claims n attempt) h = few_claimed most w n attempt (job_of w n) refl h
  few_step most w (StepEnds n attempt out) h = few_step_ended most (record w { steps = without_claim n attempt w.steps }) n attempt out (job_of w n) refl h
  few_step most w (QueryTakes line) h = few_taken most w line (find (λ q. q.line == line) w.waiting) h
  few_step most w (QueryEnds line out) h = few_answered most w line out (find (λ q. q.waiting.line == line) w.asked) h

  few_turns : (most : ℕ) (w : World Query) (turns : List (Turn Query)) → HasFew most w → HasFew most (fold (step cube) w turns)
  few_turns most w [] h = h
  few_turns most w (turn ∷ turns) h = few_turns most (step cube w turn) turns (few_step most w turn h)

  pub few_finished_jobs : (workers : ℕ) (initial : ReadySet) (turns : List (Turn Query)) (version : ℕ)
      → snapshots_in (set_at (world cube workers initial turns) version) ≤ snapshots_in initial + finished_readings (world cube workers initial turns).jobs
  few_finished_jobs workers initial turns version =
      let w = world cube workers initial turns in
      let most = snapshots_in initial in
      let few : HasFew most w = few_turns most (start workers (length cube.tables) initial) turns (record { ready_few = omega arith; past_few = tt }) in
      let next_few = few_next most w.jobs w.past w.ready [] (omega arith) few in
      every_at (λ sets. snapshots_in sets ≤ most + finished_readings w.jobs) (w.past ++ w.ready ∷ []) version (omega arith) next_few.past_few

  pub few_accepted_jobs : (workers : ℕ) (initial : ReadySet) (turns : List (Turn Query)) (version : ℕ)
      → snapshots_in (set_at (world cube workers initial turns) version) ≤ snapshots_in initial + reading_jobs (world cube workers initial turns).jobs
  few_accepted_jobs workers initial turns version = omega (arith, few_finished_jobs workers initial turns version, readings_few (world cube workers initial turns).jobs)
