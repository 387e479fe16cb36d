-- What each turn keeps of jobs, of versions and of queries in flight.
use Rattle.std.proofs.Common.{◌≡◌, ℕ, ◌+◌, ◌≤◌, Bool, true, false, cond, not, ◌&&◌, ◌==◌, Option, Some, None, List, [], ◌∷◌, ◌++◌, length, fold, slice_get, refl, sym, ap, ◌∙◌, subst, inl, inr, arith, length-append, unwrap_or, map}
use Rattle.std.specs.Prelude.{filter, find, is_some}
use Rattle.std.proofs.lemmas.Bool.{cases_eq, eqb-true, eqb-false, ne_eqb}
use Rattle.job_machine.specs.Job.{Act, next, new_job, is_current}
use Rattle.job_machine.specs.declared.state.Ended.{Ended}
use Rattle.job_machine.specs.declared.state.Ended.TheVariants as ended
use Rattle.job_machine.specs.declared.state.JobKind.{JobKind}
use Rattle.job_machine.specs.declared.state.JobKind.TheVariants.{Build, Refresh, Merge}
use Rattle.job_machine.specs.declared.state.JobState.TheVariants as state
use Rattle.range_list.specs.Ranges.{Interval}
use Rattle.run_history.specs.Commands.{Command, Turn}
use Rattle.run_history.specs.Commands.Command.{Load, Submit, Drop, Steer, Ask, Note}
use Rattle.run_history.specs.Commands.Turn.{Takes, Claims, StepEnds, QueryTakes, QueryEnds}
use Rattle.run_history.specs.Cubes.{CubeSemantics, Rows, Snapshot}
use Rattle.run_history.specs.Histories.{Along, Allowed, IsFresh, IsLawful}
use Rattle.run_history.specs.Invariants.{HasSteps, IsSound}
use Rattle.run_history.specs.Kept.{IsKept, ends_query, IsJobKept}
use Rattle.run_history.specs.Sets.{Segment, ReadySet, is_overlap, inside, dropped}
use Rattle.run_history.specs.Steps.{step, with_job, with_set, end_by, without_claim, submitted, steered, accepted, claimed, ended_as, step_ended, query_taken, query_ended, by_verdict, steps_of, took}
use Rattle.run_history.specs.Verdicts.{act_of, verdict, no_such_segment, overlaps_job, first_of}
use Rattle.run_history.specs.World.{Submitted, Waiting, Asked, World, number, set_at, job_at, job_of, is_live, in_force, parts_by, parts_of, origin_of, next_task}
use Rattle.run_history.specs.declared.command.Control.{Control}
use Rattle.run_history.specs.declared.event.Outcome.{Outcome}
use Rattle.run_history.specs.declared.event.QueryOut.{QueryOut}
use Rattle.run_history.specs.declared.event.QueryOut.TheVariants.{Answered, Memory as NoAnswer}
use Rattle.run_history.specs.declared.refused.Refused.{Refused}
use Rattle.run_history.specs.declared.refused.Refused.TheVariants as refused
use Rattle.run_history.proofs.Lists.{cond_at_false, map_none}
use Rattle.run_history.proofs.Ready.{from_apart}
use Rattle.run_history.proofs.Laws.{slice_get-front, job_at-with_job, job_at-with_other, job_at-added_other, job_at-next}
use Rattle.run_history.proofs.Jobs.{same_job, IsSameStep, step_next, attempts_next, live_next, Counts, current_counts, by_finished, finish_ends, running_live}
use Rattle.run_history.proofs.InPlace.{inside_dropped, inside_swapped, first_none}
use Rattle.run_history.proofs.Sound.{free_of_jobs, keeps_sound}

-- ---- one job

-- what an act keeps of a job, whatever the world
record Moves (s t : Submitted) : Type 0 where
  kind : t.job.kind ≡ s.job.kind
  range : t.range ≡ s.range
  tables : (first : List Rows) → s.tables ≡ Some first → t.tables ≡ Some first
  attempts : s.job.attempt ≤ t.job.attempt
  live : is_live t.job.state ≡ true → is_live s.job.state ≡ true
  step : (attempt : ℕ) → attempt ≤ s.job.attempt → is_current t.job attempt ≡ true → IsSameStep s.job t.job attempt

moves_same : (s : Submitted) → Moves s s
moves_same s = record { kind = refl; range = refl; tables = λ first e. e; attempts = omega arith; live = λ h. h; step = λ attempt le h. record { current = h; done = refl } }

moves_next : (act : Act) (s : Submitted) (tables : Option (List Rows)) → ((first : List Rows) → s.tables ≡ Some first → tables ≡ Some first) → Moves s (record s { job = next act s.job; tables = tables })
moves_next act s tables kept = record {
  kind = (same_job act s.job).kind;
  range = refl;
  tables = kept;
  attempts = attempts_next act s.job;
  live = λ h. live_next act s.job h;
  step = λ attempt le h. step_next act s.job attempt le h;
}

some_same : (a b : Submitted) → Some a ≡ Some b → a ≡ b
some_same a b h = cc

-- the jobs of this world and what became of them
abbrev AreMoved : List Submitted → List Submitted → Type 0
AreMoved jobs jobs2 = (n : ℕ) (s : Submitted) → job_at jobs n ≡ Some s → (t : Submitted) × ((job_at jobs2 n ≡ Some t) × Moves s t)

moved_same : (jobs : List Submitted) → AreMoved jobs jobs
moved_same jobs n s e = (s, (e, moves_same s))

moved_set : (jobs : List Submitted) (n : ℕ) (s t : Submitted) → job_at jobs n ≡ Some s → Moves s t → AreMoved jobs (with_job jobs n t)
moved_set jobs n s t at f m u e =
    elim (cases_eq m n) [
      | inl same ↦
          let is : s ≡ u = some_same s u (sym at ∙ subst (λ (k : ℕ). job_at jobs k ≡ Some u) same e) in
          (t, (subst (λ (k : ℕ). job_at (with_job jobs n t) k ≡ Some t) (sym same) (job_at-with_job jobs n s t at), subst (λ (x : Submitted). Moves x t) is f))
      | inr other ↦ (u, (job_at-with_other jobs n m s t at other ∙ e, moves_same u))
    ]

moved_added : (jobs : List Submitted) (new : Submitted) → AreMoved jobs (jobs ++ new ∷ [])
moved_added jobs new n s e =
    elim (cases_eq n (length jobs + 1)) [
      | inl same ↦ let none = subst (λ (k : ℕ). job_at jobs k ≡ None) (sym same) (job_at-next jobs) in cc
      | inr other ↦ (s, (job_at-added_other jobs new n other ∙ e, moves_same s))
    ]

some_value : (o : Option (List Rows)) → is_some o ≡ true → (x : List Rows) × (o ≡ Some x)
some_value None h = cc
some_value (Some x) h = (x, refl)

module _ {Query : Type 0} where
  parts_kept : (kind : JobKind) (old new : World Query) (s t : Submitted) (first : List Rows) → s.tables ≡ Some first → t.tables ≡ Some first → t.range ≡ s.range
      → inside s.range new.ready ≡ inside s.range old.ready → parts_by kind new t ≡ parts_by kind old s
  parts_kept Build old new s t first es et er e = rw (es, et, er) refl
  parts_kept Refresh old new s t first es et er e = rw (es, et, er) refl
  parts_kept Merge old new s t first es et er e =
      ap (λ (r : Interval). map (λ (part : Segment). part.origin) (inside r new.ready)) er ∙ ap (λ (l : ReadySet). map (λ (part : Segment). part.origin) l) e

  -- a MERGE's parts are those of the segments inside its range, whatever its tables
  merge_kept : (old new : World Query) (s t : Submitted) → t.job.kind ≡ s.job.kind → s.job.kind ≡ Merge → t.range ≡ s.range → inside s.range new.ready ≡ inside s.range old.ready
      → parts_of new t ≡ parts_of old s
  merge_kept old new s t kind merge range e =
      ap (λ (k : JobKind). parts_by k new t) (kind ∙ merge) ∙ ap (λ (r : Interval). map (λ (part : Segment). part.origin) (inside r new.ready)) range
      ∙ ap (λ (l : ReadySet). map (λ (part : Segment). part.origin) l) e ∙ sym (ap (λ (k : JobKind). parts_by k old s) merge)

  -- where a job is live, before and after, the segments inside its range are the same
  abbrev AreInside : World Query → World Query → Type 0
  AreInside old new = (n : ℕ) (s t : Submitted) → job_of old n ≡ Some s → job_of new n ≡ Some t → is_live s.job.state ≡ true → is_live t.job.state ≡ true
      → inside s.range new.ready ≡ inside s.range old.ready

  abbrev HaveTables : World Query → Type 0
  HaveTables w = (n : ℕ) (s : Submitted) → job_of w n ≡ Some s → s.job.in_flight ≡ true → is_some s.tables ≡ true

  kept_by : (old new : World Query) → AreMoved old.jobs new.jobs → AreInside old new → HaveTables old → number old ≤ number new
      → ((version : ℕ) → version ≤ number old → set_at new version ≡ set_at old version) → IsKept old new
  kept_by old new moved inner tables versions sets = record {
    jobs = λ n s e. (
        let m = moved n s e in
        let t = m.0 in
        let f = m.1.1 in (
          t,
          (
            m.1.0,
            record {
              kind = f.kind;
              range = f.range;
              tables = f.tables;
              attempts = f.attempts;
              live = f.live;
              parts = λ merge alive. merge_kept old new s t f.kind merge f.range (inner n s t e m.1.0 (f.live alive) alive);
              work = λ attempt le h. (
                  let same = f.step attempt le h in
                  let counts = current_counts s.job attempt same.current in
                  let first = some_value s.tables (tables n s e counts.in_flight) in
                  record {
                    current = same.current;
                    done = same.done;
                    parts = ap (λ (k : JobKind). parts_by k new t) f.kind ∙ parts_kept s.job.kind old new s t first.0 first.1 (f.tables first.0 first.1) f.range (inner n s t e m.1.0 (running_live s.job.state counts.running) (running_live t.job.state (current_counts t.job attempt h).running));
                  }
                  );
            },
          ),
        )
        );
    versions = versions;
    sets = sets;
  }

  -- the ready sets stay
  kept_sets : (old new : World Query) → AreMoved old.jobs new.jobs → HaveTables old → new.past ≡ old.past → new.ready ≡ old.ready → IsKept old new
  kept_sets old new moved tables past ready =
      kept_by old new moved (λ n s t e g c d. ap (λ (l : ReadySet). inside s.range l) ready) tables (omega (arith, ap (λ (l : List ReadySet). length l) past))
      (λ version le. ap (λ (l : List ReadySet). unwrap_or (slice_get (l ++ new.ready ∷ []) version) []) past ∙ ap (λ (x : ReadySet). unwrap_or (slice_get (old.past ++ x ∷ []) version) []) ready)

  -- or one is added
  kept_added : (old new : World Query) → AreMoved old.jobs new.jobs → AreInside old new → HaveTables old → new.past ≡ old.past ++ old.ready ∷ [] → IsKept old new
  kept_added old new moved inner tables past =
      kept_by old new moved inner tables (omega (arith, ap (λ (l : List ReadySet). length l) past, length-append old.past (old.ready ∷ [])))
      (λ version le. ap (λ (l : List ReadySet). unwrap_or (slice_get (l ++ new.ready ∷ []) version) []) past
      ∙ ap (λ (o : Option ReadySet). unwrap_or o []) (slice_get-front (old.past ++ old.ready ∷ []) (new.ready ∷ []) version (omega (arith, length-append old.past (old.ready ∷ [])))))

  kept_refl : (w : World Query) → HaveTables w → IsKept w w
  kept_refl w tables = kept_sets w w (moved_same w.jobs) tables refl refl

  pub kept_trans : (a b c : World Query) → IsKept a b → IsKept b c → IsKept a c
  kept_trans a b c h k = record {
    jobs = λ n s e. (
        let x = h.jobs n s e in
        let y = k.jobs n x.0 x.1.0 in
        let f = x.1.1 in
        let g = y.1.1 in (
          y.0,
          (
            y.1.0,
            record {
              kind = g.kind ∙ f.kind;
              range = g.range ∙ f.range;
              tables = λ first t. g.tables first (f.tables first t);
              attempts = omega (arith, f.attempts, g.attempts);
              live = λ alive. f.live (g.live alive);
              parts = λ merge alive. g.parts (f.kind ∙ merge) alive ∙ f.parts merge (g.live alive);
              work = λ attempt le current. (
                  let later = g.work attempt (omega (arith, f.attempts)) current in
                  let first = f.work attempt le later.current in
                  record { current = first.current; done = later.done ∙ first.done; parts = later.parts ∙ first.parts }
                  );
            },
          ),
        )
        );
    versions = omega (arith, h.versions, k.versions);
    sets = λ version le. k.sets version (omega (arith, h.versions)) ∙ h.sets version le;
  }

  -- so while an attempt counts, the task of the job's next step stays, whatever the cube
  pub task_kept : {Answer : Type 0} (cube : CubeSemantics Query Answer) (old new : World Query) (s t : Submitted) (attempt : ℕ) → IsJobKept old new s t → attempt ≤ s.job.attempt → is_current t.job attempt ≡ true
      → next_task cube new t ≡ next_task cube old s
  task_kept cube old new s t attempt h le current =
      let same = h.work attempt le current in
      ap (λ (k : JobKind). cube.task k t.range (parts_of new t) t.job.done) h.kind ∙ ap (λ (r : Interval). cube.task s.job.kind r (parts_of new t) t.job.done) h.range
      ∙ ap (λ (parts : List (List Snapshot)). cube.task s.job.kind s.range parts t.job.done) same.parts ∙ ap (λ (n : ℕ). cube.task s.job.kind s.range (parts_of old s) n) same.done

module _ {Query Answer : Type 0} (cube : CubeSemantics Query Answer) where
  sound_tables : (w : World Query) → IsSound cube w → HaveTables w
  sound_tables w i n s e flight = (i.numbered n s e).snapshot flight

  kept_steered : (w : World Query) (line : ℕ) (control : Control) (n : ℕ) (o : Option Submitted) → job_at w.jobs n ≡ o → HaveTables w → IsKept w (steered (record w { line = line }) control n o)
  kept_steered w line control n None at tables = kept_sets w (record w { line = line }) (moved_same w.jobs) tables refl refl
  kept_steered w line control n (Some s) at tables =
      kept_sets w (steered (record w { line = line }) control n (Some s)) (moved_set w.jobs n s (record s { job = next (act_of control) s.job }) at (moves_next (act_of control) s s.tables (λ first e. e))) tables refl refl

  kept_dropped : (w : World Query) (r : Interval) (line : ℕ) → first_of (no_such_segment cube r w ∷ overlaps_job cube r w ∷ []) ≡ None → IsSound cube w → IsKept w (with_set (record w { line = line }) (dropped r w.ready))
  kept_dropped w r line accepted i =
      let a = first_none (no_such_segment cube r w) (overlaps_job cube r w ∷ []) accepted in
      let b = first_none (overlaps_job cube r w) [] a.1 in
      let free = free_of_jobs cube r w.jobs (map_none (λ (s : Submitted). refused.OverlapsJob s.job.id) (find (λ s. is_live s.job.state && is_overlap s.range r) w.jobs) b.0) in
      kept_added w (with_set (record w { line = line }) (dropped r w.ready)) (moved_same w.jobs)
      (λ n s t e g c d. inside_dropped s.range r w.ready (free n s e c) (from_apart w.ready i.ready_apart)) (sound_tables w i) refl

  kept_accepted : (w : World Query) (line : ℕ) (command : Command Query) → verdict cube w command ≡ None → IsSound cube w → IsKept w (accepted (steps_of cube command) (record w { line = line }) command)
  kept_accepted w line (Load table rows) e i = kept_sets w (accepted (steps_of cube (Load table rows)) (record w { line = line }) (Load table rows)) (moved_same w.jobs) (sound_tables w i) refl refl
  kept_accepted w line (Submit kind r) e i =
      kept_sets w (submitted (record w { line = line }) kind (cube.steps kind) r) (moved_added w.jobs (record { job = new_job (length w.jobs + 1) kind (cube.steps kind); range = r; tables = None })) (sound_tables w i) refl refl
  kept_accepted w line (Drop r) e i = kept_dropped w r line e i
  kept_accepted w line (Steer control n) e i = kept_steered w line control n (job_of w n) refl (sound_tables w i)
  kept_accepted w line (Ask session query) e i = kept_sets w (accepted (steps_of cube (Ask session query)) (record w { line = line }) (Ask session query)) (moved_same w.jobs) (sound_tables w i) refl refl
  kept_accepted w line (Note noted) e i = kept_sets w (record w { line = line }) (moved_same w.jobs) (sound_tables w i) refl refl

  kept_took : (w : World Query) (line : ℕ) (command : Command Query) (o : Option Refused) → verdict cube w command ≡ o → IsSound cube w → IsKept w (by_verdict o (steps_of cube command) (record w { line = line }) command)
  kept_took w line command (Some r) e i = kept_sets w (record w { line = line }) (moved_same w.jobs) (sound_tables w i) refl refl
  kept_took w line command None e i = kept_accepted w line command e i

  kept_claimed : (w : World Query) (n attempt : ℕ) (o : Option Submitted) → job_at w.jobs n ≡ o → IsSound cube w → IsKept w (claimed w n attempt o)
  kept_claimed w n attempt None at i = kept_refl w (sound_tables w i)
  kept_claimed w n attempt (Some s) at i =
      kept_sets w (claimed w n attempt (Some s)) (moved_set w.jobs n s (record s { job = next Act.Claim s.job; tables = Some (unwrap_or s.tables (in_force w)) }) at
      (moves_next Act.Claim s (Some (unwrap_or s.tables (in_force w))) (λ first e. ap (λ (o : Option (List Rows)). Some (unwrap_or o (in_force w))) e))) (sound_tables w i) refl refl

  kept_finished : (w : World Query) (claims : List (ℕ × ℕ)) (n attempt : ℕ) (s : Submitted) → job_at w.jobs n ≡ Some s → Counts s.job attempt → IsSound cube w → IsKept w (ended_as ended.Finished (record w { steps = claims }) n s)
  kept_finished w claims n attempt s at counts i =
      let t : Submitted = record s { job = next Act.Finish s.job } in
      let new : Segment = record { range = s.range; job = n; origin = origin_of (record w { steps = claims }) s } in
      let ends : t.job.state ≡ state.Finished = finish_ends s.job.state s.job counts.running in
      kept_added w (ended_as ended.Finished (record w { steps = claims }) n s) (moved_set w.jobs n s t at (moves_next Act.Finish s s.tables (λ first g. g)))
      (λ m u v e g c d. elim (cases_eq m n) [
        | inl same ↦
            let is : t ≡ v = some_same t v (sym (subst (λ (k : ℕ). job_at (with_job w.jobs n t) k ≡ Some t) (sym same) (job_at-with_job w.jobs n s t at)) ∙ g) in
            let over : is_live v.job.state ≡ false = ap (λ (x : Submitted). is_live x.job.state) (sym is) ∙ ap is_live ends in
            cc
        | inr different ↦
            inside_swapped u.range new w.ready (i.numbered m u e).is_range (i.numbered n s at).is_range
            (i.jobs_apart m n u s different e at c (running_live s.job.state counts.running)) (from_apart w.ready i.ready_apart)
      ]) (sound_tables w i) refl

  kept_ended : (w : World Query) (claims : List (ℕ × ℕ)) (n attempt : ℕ) (out : Outcome) (s : Submitted) (how : Ended) → job_at w.jobs n ≡ Some s → end_by out s.job attempt ≡ how → IsSound cube w
      → IsKept w (ended_as how (record w { steps = claims }) n s)
  kept_ended w claims n attempt out s ended.Stale at e i = kept_sets w (record w { steps = claims }) (moved_same w.jobs) (sound_tables w i) refl refl
  kept_ended w claims n attempt out s ended.Advanced at e i =
      let t : Submitted = record s { job = next Act.Advance s.job } in
      kept_sets w (ended_as ended.Advanced (record w { steps = claims }) n s) (moved_set w.jobs n s t at (moves_next Act.Advance s s.tables (λ first g. g))) (sound_tables w i) refl refl
  kept_ended w claims n attempt out s ended.Failed at e i =
      let t : Submitted = record s { job = next Act.Fail s.job } in
      kept_sets w (ended_as ended.Failed (record w { steps = claims }) n s) (moved_set w.jobs n s t at (moves_next Act.Fail s s.tables (λ first g. g))) (sound_tables w i) refl refl
  kept_ended w claims n attempt out s ended.Finished at e i = kept_finished w claims n attempt s at (current_counts s.job attempt (by_finished out s.job attempt e).0) i

  kept_step_ended : (w : World Query) (claims : List (ℕ × ℕ)) (n attempt : ℕ) (out : Outcome) (o : Option Submitted) → job_at w.jobs n ≡ o → IsSound cube w → IsKept w (step_ended (record w { steps = claims }) n attempt out o)
  kept_step_ended w claims n attempt out None at i = kept_sets w (record w { steps = claims }) (moved_same w.jobs) (sound_tables w i) refl refl
  kept_step_ended w claims n attempt out (Some s) at i = kept_ended w claims n attempt out s (end_by out s.job attempt) at refl i

  kept_query_taken : (w : World Query) (line : ℕ) (o : Option (Waiting Query)) → IsSound cube w → IsKept w (query_taken w line o)
  kept_query_taken w line None i = kept_refl w (sound_tables w i)
  kept_query_taken w line (Some q) i = kept_sets w (query_taken w line (Some q)) (moved_same w.jobs) (sound_tables w i) refl refl

  kept_query_ended : (w : World Query) (line : ℕ) (out : QueryOut) (o : Option (Asked Query)) → IsSound cube w → IsKept w (query_ended w line out o)
  kept_query_ended w line out None i = kept_refl w (sound_tables w i)
  kept_query_ended w line out (Some q) i = kept_sets w (query_ended w line out (Some q)) (moved_same w.jobs) (sound_tables w i) refl refl

  -- each turn over a sound world keeps its jobs and sets
  pub kept_step : (w : World Query) (turn : Turn Query) → IsSound cube w → IsKept w (step cube w turn)
  kept_step w (Takes line command) i = kept_took w line command (verdict cube w command) refl i
  kept_step w (Claims n attempt) i = kept_claimed w n attempt (job_of w n) refl i
  kept_step w (StepEnds n attempt out) i = kept_step_ended w (without_claim n attempt w.steps) n attempt out (job_of w n) refl i
  kept_step w (QueryTakes line) i = kept_query_taken w line (find (λ q. q.line == line) w.waiting) i
  kept_step w (QueryEnds line out) i = kept_query_ended w line out (find (λ q. q.waiting.line == line) w.asked) i

  -- and so do the turns of a legal history
  pub kept_turns : HasSteps cube → (w : World Query) (turns : List (Turn Query)) → IsSound cube w → Along cube Allowed w turns → IsKept w (fold (step cube) w turns)
  kept_turns steps w [] i a = kept_refl w (sound_tables w i)
  kept_turns steps w (turn ∷ turns) i a =
      kept_trans w (step cube w turn) (fold (step cube) (step cube w turn) turns) (kept_step w turn i) (kept_turns steps (step cube w turn) turns (keeps_sound cube steps w turn a.0 i) a.1)

-- ---- queries

rises_cond : (b : Bool) (version before : ℕ) → (b ≡ true → before ≤ version) → before ≤ cond b version before
rises_cond true version before h = h refl
rises_cond false version before h = omega arith

module _ {Query : Type 0} where
  abbrev is_query : ℕ → Asked Query → Bool
  is_query line q = q.waiting.line == line

  found_cond : (b : Bool) (x q : Asked Query) (o o2 : Option (Asked Query)) → (o ≡ Some q → o2 ≡ Some q) → cond b (Some x) o ≡ Some q → cond b (Some x) o2 ≡ Some q
  found_cond true x q o o2 f h = h
  found_cond false x q o o2 f h = f h

  find_push : (line : ℕ) (xs : List (Asked Query)) (new q : Asked Query) → find (is_query line) xs ≡ Some q → find (is_query line) (xs ++ new ∷ []) ≡ Some q
  find_push line [] new q e = cc
  find_push line (x ∷ xs) new q e = found_cond (is_query line x) x q (find (is_query line) xs) (find (is_query line) (xs ++ new ∷ [])) (find_push line xs new q) e

  others_cond : (line other : ℕ) (b : Bool) (x q : Asked Query) (xs ys : List (Asked Query)) → (other == line) ≡ false → is_query other x ≡ b
      → (find (is_query line) xs ≡ Some q → find (is_query line) ys ≡ Some q) → find (is_query line) (x ∷ xs) ≡ Some q → find (is_query line) (cond (not b) (x ∷ ys) ys) ≡ Some q
  others_cond line other true x q xs ys different e f h =
      let away : is_query line x ≡ false = ne_eqb x.waiting.line line (λ same. eqb-false other line different (sym (eqb-true x.waiting.line other e) ∙ same)) in
      f (sym (cond_at_false (is_query line x) (Some x) (find (is_query line) xs) away) ∙ h)
  others_cond line other false x q xs ys different e f h = found_cond (is_query line x) x q (find (is_query line) xs) (find (is_query line) ys) f h

  find_others : (line other : ℕ) (xs : List (Asked Query)) (q : Asked Query) → (other == line) ≡ false → find (is_query line) xs ≡ Some q
      → find (is_query line) (filter (λ x. not (x.waiting.line == other)) xs) ≡ Some q
  find_others line other [] q different h = h
  find_others line other (x ∷ xs) q different h =
      others_cond line other (is_query other x) x q xs (filter (λ y. not (y.waiting.line == other)) xs) different refl (find_others line other xs q different) h

  -- the queries in flight and the last answers are as they were
  record SameQueries (old new : World Query) : Type 0 where
    asked : new.asked ≡ old.asked
    answered : new.answered ≡ old.answered

  queries_steered : (w : World Query) (control : Control) (n : ℕ) (o : Option Submitted) → SameQueries w (steered w control n o)
  queries_steered w control n None = record { asked = refl; answered = refl }
  queries_steered w control n (Some s) = record { asked = refl; answered = refl }

  queries_accepted : (w : World Query) (steps : ℕ) (command : Command Query) → SameQueries w (accepted steps w command)
  queries_accepted w steps (Load table rows) = record { asked = refl; answered = refl }
  queries_accepted w steps (Submit kind r) = record { asked = refl; answered = refl }
  queries_accepted w steps (Drop r) = record { asked = refl; answered = refl }
  queries_accepted w steps (Steer control n) = queries_steered w control n (job_of w n)
  queries_accepted w steps (Ask session query) = record { asked = refl; answered = refl }
  queries_accepted w steps (Note noted) = record { asked = refl; answered = refl }

  queries_verdict : (w : World Query) (steps : ℕ) (command : Command Query) (o : Option Refused) → SameQueries w (by_verdict o steps w command)
  queries_verdict w steps command (Some r) = record { asked = refl; answered = refl }
  queries_verdict w steps command None = queries_accepted w steps command

  queries_claimed : (w : World Query) (n attempt : ℕ) (o : Option Submitted) → SameQueries w (claimed w n attempt o)
  queries_claimed w n attempt None = record { asked = refl; answered = refl }
  queries_claimed w n attempt (Some s) = record { asked = refl; answered = refl }

  queries_ended : (w : World Query) (n : ℕ) (s : Submitted) (how : Ended) → SameQueries w (ended_as how w n s)
  queries_ended w n s ended.Stale = record { asked = refl; answered = refl }
  queries_ended w n s ended.Advanced = record { asked = refl; answered = refl }
  queries_ended w n s ended.Finished = record { asked = refl; answered = refl }
  queries_ended w n s ended.Failed = record { asked = refl; answered = refl }

  queries_step_ended : (w : World Query) (n attempt : ℕ) (out : Outcome) (o : Option Submitted) → SameQueries w (step_ended w n attempt out o)
  queries_step_ended w n attempt out None = record { asked = refl; answered = refl }
  queries_step_ended w n attempt out (Some s) = queries_ended w n s (end_by out s.job attempt)

  stays_same : (old new : World Query) (line : ℕ) (q : Asked Query) → SameQueries old new → find (is_query line) old.asked ≡ Some q → find (is_query line) new.asked ≡ Some q
  stays_same old new line q same h = ap (λ (l : List (Asked Query)). find (is_query line) l) same.asked ∙ h

  stays_taken : (w : World Query) (other line : ℕ) (o : Option (Waiting Query)) (q : Asked Query) → find (is_query line) w.asked ≡ Some q → find (is_query line) (query_taken w other o).asked ≡ Some q
  stays_taken w other line None q h = h
  stays_taken w other line (Some new) q h = find_push line w.asked (record { waiting = new; at_take = number w }) q h

  stays_ended : (w : World Query) (other line : ℕ) (out : QueryOut) (o : Option (Asked Query)) (q : Asked Query) → (other == line) ≡ false → find (is_query line) w.asked ≡ Some q → find (is_query line) (query_ended w other out o).asked ≡ Some q
  stays_ended w other line out None q e h = h
  stays_ended w other line out (Some gone) q e h = find_others line other w.asked q e h

  rises_same : (old new : World Query) (session : ℕ) → SameQueries old new → old.answered session ≤ new.answered session
  rises_same old new session same = omega (arith, ap (λ (f : ℕ → ℕ). f session) same.answered)

  rises_taken : (w : World Query) (line session : ℕ) (o : Option (Waiting Query)) → w.answered session ≤ (query_taken w line o).answered session
  rises_taken w line session None = omega arith
  rises_taken w line session (Some q) = omega arith

  rises_answered : (w : World Query) (line version session : ℕ) (o : Option (Asked Query)) → IsLawful w o version → w.answered session ≤ (query_ended w line (Answered version) o).answered session
  rises_answered w line version session None h = absurd h
  rises_answered w line version session (Some q) h =
      rises_cond (session == q.waiting.session) version (w.answered session) (λ e. omega (arith, h.2, ap w.answered (eqb-true session q.waiting.session e)))

  rises_no_answer : (w : World Query) (line session : ℕ) (o : Option (Asked Query)) → w.answered session ≤ (query_ended w line NoAnswer o).answered session
  rises_no_answer w line session None = omega arith
  rises_no_answer w line session (Some q) = omega arith

module _ {Query Answer : Type 0} (cube : CubeSemantics Query Answer) where
  -- a query in flight stays until its end
  pub query_stays : (w : World Query) (turn : Turn Query) (line : ℕ) (q : Asked Query) → ends_query line turn ≡ false → find (λ other. other.waiting.line == line) w.asked ≡ Some q
      → find (λ other. other.waiting.line == line) (step cube w turn).asked ≡ Some q
  query_stays w (Takes at command) line q e h = stays_same (record w { line = at }) (took cube w at command) line q (queries_verdict (record w { line = at }) (steps_of cube command) command (verdict cube w command)) h
  query_stays w (Claims n attempt) line q e h = stays_same w (claimed w n attempt (job_of w n)) line q (queries_claimed w n attempt (job_of w n)) h
  query_stays w (StepEnds n attempt out) line q e h =
      stays_same (record w { steps = without_claim n attempt w.steps }) (step_ended (record w { steps = without_claim n attempt w.steps }) n attempt out (job_of w n)) line q (queries_step_ended (record w { steps = without_claim n attempt w.steps }) n attempt out (job_of w n)) h
  query_stays w (QueryTakes other) line q e h = stays_taken w other line (find (λ x. x.line == other) w.waiting) q h
  query_stays w (QueryEnds other out) line q e h = stays_ended w other line out (find (λ x. x.waiting.line == other) w.asked) q e h

  -- the versions of the sessions' last answers never fall
  pub answers_rise : (w : World Query) (turn : Turn Query) → IsFresh w turn → (session : ℕ) → w.answered session ≤ (step cube w turn).answered session
  answers_rise w (Takes at command) fresh session = rises_same (record w { line = at }) (took cube w at command) session (queries_verdict (record w { line = at }) (steps_of cube command) command (verdict cube w command))
  answers_rise w (Claims n attempt) fresh session = rises_same w (claimed w n attempt (job_of w n)) session (queries_claimed w n attempt (job_of w n))
  answers_rise w (StepEnds n attempt out) fresh session =
      rises_same (record w { steps = without_claim n attempt w.steps }) (step_ended (record w { steps = without_claim n attempt w.steps }) n attempt out (job_of w n)) session (queries_step_ended (record w { steps = without_claim n attempt w.steps }) n attempt out (job_of w n))
  answers_rise w (QueryTakes line) fresh session = rises_taken w line session (find (λ x. x.line == line) w.waiting)
  answers_rise w (QueryEnds line (Answered version)) fresh session = rises_answered w line version session (find (λ x. x.waiting.line == line) w.asked) fresh
  answers_rise w (QueryEnds line NoAnswer) fresh session = rises_no_answer w line session (find (λ x. x.waiting.line == line) w.asked)

  -- the parts of a live MERGE stay
  pub merge_stays : HasSteps cube → (w : World Query) → IsSound cube w → (turns : List (Turn Query)) → Along cube Allowed w turns → (n : ℕ) (s t : Submitted) → job_of w n ≡ Some s
      → job_of (fold (step cube) w turns) n ≡ Some t → s.job.kind ≡ Merge → is_live t.job.state ≡ true → parts_of (fold (step cube) w turns) t ≡ parts_of w s
  merge_stays steps w i turns a n s t e g merge live =
      let k = (kept_turns cube steps w turns i a).jobs n s e in
      let is : k.0 ≡ t = some_same k.0 t (sym k.1.0 ∙ g) in
      (subst (λ (x : Submitted). IsJobKept w (fold (step cube) w turns) s x) is k.1.1).parts merge live
