-- What is kept, turn by turn.
use Rattle.std.proofs.Common.{◌≡◌, ℕ, zero, suc, ◌-◌, ◌<◌, Bool, true, false, cond, not, ◌==◌, Option, Some, None, List, [], ◌∷◌, ◌++◌, length, set, unwrap_or, refl, sym, ap, ◌∙◌, subst, arith, append-nil}
use Rattle.std.specs.Prelude.{filter, find}
use Rattle.std.specs.List.{AllByRecursion, flat_map, insert}
use Rattle.byte_frame.specs.Spelling.{EachFits}
use Rattle.fixed_cube.specs.Answers.{by_first}
use Rattle.fixed_cube.specs.Cells.{Cell, base_of}
use Rattle.fixed_cube.specs.Columns.{fact_columns, row_limit}
use Rattle.fixed_cube.specs.Cube.{FitsSnapshot, rows_of}
use Rattle.job_machine.specs.Job.{Act, is_current, is_last_step, next, state_after}
use Rattle.job_machine.specs.declared.state.JobState.{JobState}
use Rattle.job_machine.specs.declared.state.JobKind.TheVariants.{Build}
use Rattle.plain_answer.specs.declared.ask.Ask.{Ask as Query}
use Rattle.range_list.specs.Ranges.{Interval}
use Rattle.run_history.specs.Commands.Command.{Load, Steer, Ask}
use Rattle.run_history.specs.Cubes.{Rows, Snapshot}
use Rattle.run_history.specs.Sets.{Segment}
use Rattle.run_history.specs.Steps.{accepted, by_verdict, claimed, query_ended, query_taken, steered, submitted, with_job, without_claim}
use Rattle.run_history.specs.Verdicts.{act_of, state_refusal, steer_by, steer_refusal}
use Rattle.run_history.specs.World.{Asked, Submitted, Waiting, World, in_force, job_of}
use Rattle.run_history.specs.declared.command.Control.{Control}
use Rattle.run_history.specs.declared.command.Control.TheVariants.{Pause, Resume, Discard}
use Rattle.run_history.specs.declared.event.Outcome.{Outcome}
use Rattle.run_history.specs.declared.event.Outcome.TheVariants.{Done}
use Rattle.run_history.specs.declared.event.QueryOut.{QueryOut}
use Rattle.run_history.specs.declared.refused.Refused.{Refused}
use Rattle.run_history.specs.declared.refused.Refused.TheVariants.{NoSuchJob}
use Rattle.run_state.specs.Answers.{is_failure, products_steered}
use Rattle.run_state.specs.Numbered.{segment_of}
use Rattle.run_state.proofs.Steers.{steered_refused}
use Rattle.run_state.proofs.Ends.{absent_world, advanced_world, failed_world, finished_world, stale_world}
use Rattle.step_fields.specs.Fits.{FitsRows, IsDayRange}
use Rattle.fixed_state.specs.Ends.{kept_of, world_ended}
use Rattle.fixed_state.specs.Kept.{AreKept, IsKept, IsLoaded, IsReadyKept}
use Rattle.fixed_state.specs.Ready.{IsPlaced}
use Rattle.fixed_state.specs.Tasks.{snapshot_now}
use Rattle.fixed_state.proofs.Jobs.{IsNoStep, fits_tables, kept_act, kept_claim, kept_discard}
use Rattle.fixed_state.proofs.NextTasks.{none_after}
use Rattle.fixed_state.proofs.Pairs.{fits_at, fits_insert, fits_push, fits_set, fits_set_left, job_place}
use Rattle.fixed_state.proofs.TaskFacts.{origin_of_build}

all_push : {X : Type 0} (P : X → Type 0) (xs : List X) (x : X) → AllByRecursion P xs → P x → AllByRecursion P (xs ++ x ∷ [])
all_push P [] x h k = (k, tt)
all_push P (y ∷ xs) x h k = (h.0, all_push P xs x h.1 k)

all_filter : {X : Type 0} (P : X → Type 0) (test : X → Bool) (xs : List X) → AllByRecursion P xs → AllByRecursion P (filter test xs)
all_filter P test [] h = tt
all_filter P test (x ∷ xs) h = by_test (test x) (all_filter P test xs h.1)
  where
    by_test : (b : Bool) → AllByRecursion P (filter test xs) → AllByRecursion P (cond b (x ∷ filter test xs) (filter test xs))
    by_test true rest = (h.0, rest)
    by_test false rest = rest

all_found : {X : Type 0} (P : X → Type 0) (test : X → Bool) (xs : List X) (x : X) → AllByRecursion P xs → find test xs ≡ Some x → P x
all_found P test [] x h e = cc
all_found P test (y ∷ xs) x h e = by_test (test y) (all_found P test xs x h.1) e
  where
    by_test : (b : Bool) → (find test xs ≡ Some x → P x) → cond b (Some y) (find test xs) ≡ Some x → P x
    by_test true rest f = let same : y ≡ x = cc in subst P same h.0
    by_test false rest f = rest f

no_act : (control : Control) → IsNoStep (act_of control)
no_act Pause = tt
no_act Resume = tt
no_act Discard = tt

module _ (honest : Type 0) where
  -- the rows of a table are loaded
  loaded_again : (loaded : List (Option Rows)) (table : ℕ) (rows : Rows) → table < length loaded → FitsRows fact_columns row_limit rows → IsLoaded loaded → IsLoaded (set loaded table (Some rows))
  loaded_again loaded table rows there fits l = record { table = Some rows; only = by_place table (subst (λ (xs : List (Option Rows)). table < length xs) l.only there); fits = fits }
    where
      by_place : (place : ℕ) → place < 1 → set loaded place (Some rows) ≡ Some rows ∷ []
      by_place zero h = ap (λ (xs : List (Option Rows)). set xs 0 (Some rows)) l.only
      by_place (suc place) h = absurd (omega (arith, h))

  module _ (w : World Query) (products : List (List (List ℕ))) (cells : List (List Cell)) (k : AreKept honest w products cells) where
    pub kept_line : (line : ℕ) → AreKept honest (record w { line = line }) products cells
    kept_line line = record { loaded = k.loaded; jobs = k.jobs; ready = k.ready; waiting = k.waiting; asked = k.asked }

    pub kept_load : (line table : ℕ) (rows : Rows) → table < length w.loaded → FitsRows fact_columns row_limit rows → AreKept honest (accepted 0 (record w { line = line }) (Load table rows)) products cells
    kept_load line table rows there fits = record { loaded = loaded_again w.loaded table rows there fits k.loaded; jobs = k.jobs; ready = k.ready; waiting = k.waiting; asked = k.asked }

    pub kept_submit : (line : ℕ) (range : Interval) → IsDayRange range → AreKept honest (submitted (record w { line = line }) Build 3 range) (products ++ [] ∷ []) cells
    kept_submit line range days = record {
      loaded = k.loaded;
      jobs = fits_push (IsKept honest) w.jobs products _ [] k.jobs (record { build = refl; steps = refl; fits = (days, (omega arith, tt)); next = none_after; begun = λ _. refl; counted = λ _. refl; made = λ _ _. refl });
      ready = k.ready;
      waiting = k.waiting;
      asked = k.asked;
    }

    -- a job that is changed, and what was kept of it stays
    kept_job : (job : ℕ) (s t : Submitted) → job_of w job ≡ Some s → ((kept : List (List ℕ)) → IsKept honest s kept → IsKept honest t kept) → EachFits (IsKept honest) (with_job w.jobs job t) products
    kept_job job s t there keeps = fits_set_left (IsKept honest) w.jobs products (job - 1) s t k.jobs (job_place w.jobs job s there) keeps

    moved_kept : (line job : ℕ) (control : Control) (s : Submitted) → job_of w job ≡ Some s → AreKept honest (steered (record w { line = line }) control job (Some s)) products cells
    moved_kept line job control s e = record {
      loaded = k.loaded;
      jobs = kept_job job s (record s { job = next (act_of control) s.job }) e (λ kept h. kept_act honest (act_of control) s kept (no_act control) h);
      ready = k.ready;
      waiting = k.waiting;
      asked = k.asked;
    }

    steered_kept : (line job : ℕ) (control : Control) (s : Submitted) → job_of w job ≡ Some s → AreKept honest (steered (record w { line = line }) control job (Some s)) (products_steered control None job products) cells
    steered_kept line job Pause s e = moved_kept line job Pause s e
    steered_kept line job Resume s e = moved_kept line job Resume s e
    steered_kept line job Discard s e = record {
      loaded = k.loaded;
      jobs = fits_set (IsKept honest) w.jobs products (job - 1) s (record s { job = next Act.Discard s.job }) [] [] k.jobs (job_place w.jobs job s e) (λ h. kept_discard honest s (kept_of products job) h);
      ready = k.ready;
      waiting = k.waiting;
      asked = k.asked;
    }

    refused_kept : (line job : ℕ) (control : Control) (refused : Refused) → AreKept honest (record w { line = line }) (products_steered control (Some refused) job products) cells
    refused_kept line job control refused = subst (λ (left : List (List (List ℕ))). AreKept honest (record w { line = line }) left cells) (sym (steered_refused control refused job products)) (kept_line line)

    pub kept_steer : (line job : ℕ) (control : Control)
        → AreKept honest (by_verdict (steer_refusal control job (job_of w job)) 0 (record w { line = line }) (Steer control job)) (products_steered control (steer_refusal control job (job_of w job)) job products) cells
    kept_steer line job control = by_job (job_of w job) refl
      where
        by_after : (s : Submitted) (after : Option JobState) → job_of w job ≡ Some s
            → AreKept honest (by_verdict (steer_by s.job.state after) 0 (record w { line = line }) (Steer control job)) (products_steered control (steer_by s.job.state after) job products) cells
        by_after s None e = refused_kept line job control (state_refusal s.job.state)
        by_after s (Some after) e =
            subst (λ (o : Option Submitted). AreKept honest (steered (record w { line = line }) control job o) (products_steered control None job products) cells) (sym e) (steered_kept line job control s e)

        by_job : (o : Option Submitted) → job_of w job ≡ o
            → AreKept honest (by_verdict (steer_refusal control job o) 0 (record w { line = line }) (Steer control job)) (products_steered control (steer_refusal control job o) job products) cells
        by_job None e = refused_kept line job control (NoSuchJob job)
        by_job (Some s) e = by_after s (state_after (act_of control) s.job.state) e

    pub kept_claimed : (job attempt : ℕ) (o : Option Submitted) → job_of w job ≡ o → AreKept honest (claimed w job attempt o) products cells
    kept_claimed job attempt None e = k
    kept_claimed job attempt (Some s) e = record {
      loaded = k.loaded;
      jobs = kept_job job s (record s { job = next Act.Claim s.job; tables = Some (unwrap_or s.tables (in_force w)) }) e (λ kept h. kept_claim honest w s kept k.loaded h);
      ready = k.ready;
      waiting = k.waiting;
      asked = k.asked;
    }

    pub kept_ask : (line session : ℕ) → AreKept honest (accepted 0 (record w { line = line }) (Ask session by_first)) products cells
    kept_ask line session = record { loaded = k.loaded; jobs = k.jobs; ready = k.ready; waiting = all_push (λ (q : Waiting Query). q.query ≡ by_first) w.waiting _ k.waiting refl; asked = k.asked }

    pub kept_taken : (line : ℕ) (o : Option (Waiting Query)) → find (λ q. q.line == line) w.waiting ≡ o → AreKept honest (query_taken w line o) products cells
    kept_taken line None e = k
    kept_taken line (Some q) e = record {
      loaded = k.loaded;
      jobs = k.jobs;
      ready = k.ready;
      waiting = all_filter (λ (other : Waiting Query). other.query ≡ by_first) (λ other. not (other.line == line)) w.waiting k.waiting;
      asked = all_push (λ (other : Asked Query). other.waiting.query ≡ by_first) w.asked _ k.asked (all_found (λ (other : Waiting Query). other.query ≡ by_first) (λ other. other.line == line) w.waiting q k.waiting e);
    }

    pub kept_query_end : (line : ℕ) (out : QueryOut) (o : Option (Asked Query)) → AreKept honest (query_ended w line out o) products cells
    kept_query_end line out None = k
    kept_query_end line out (Some q) = record {
      loaded = k.loaded;
      jobs = k.jobs;
      ready = k.ready;
      waiting = k.waiting;
      asked = all_filter (λ (other : Asked Query). other.waiting.query ≡ by_first) (λ other. not (other.waiting.line == line)) w.asked k.asked;
    }

    -- ---- ends of steps

    module _ (job attempt : ℕ) where
      abbrev unclaimed : World Query
      unclaimed = record w { steps = without_claim job attempt w.steps }

      same_steps : AreKept honest unclaimed products cells
      same_steps = record { loaded = k.loaded; jobs = k.jobs; ready = k.ready; waiting = k.waiting; asked = k.asked }

      pub kept_stale : (outcome : Outcome) (s : Submitted) → job_of w job ≡ Some s → is_current s.job attempt ≡ false → AreKept honest (world_ended w job attempt outcome) products cells
      kept_stale outcome s there stale =
          subst (λ (v : World Query). AreKept honest v products cells) (sym (stale_world unclaimed job attempt outcome s (job_of w job) there stale)) same_steps

      pub kept_absent : (outcome : Outcome) → job_of w job ≡ None → AreKept honest (world_ended w job attempt outcome) products cells
      kept_absent outcome none =
          subst (λ (v : World Query). AreKept honest v products cells) (sym (absent_world unclaimed job attempt outcome (job_of w job) none)) same_steps

      pub kept_failed : (outcome : Outcome) (s : Submitted) → job_of w job ≡ Some s → is_failure outcome ≡ true → is_current s.job attempt ≡ true → AreKept honest (world_ended w job attempt outcome) products cells
      kept_failed outcome s there fails current =
          subst (λ (v : World Query). AreKept honest v products cells) (sym (failed_world unclaimed job attempt outcome s (job_of w job) there fails current)) (record {
            loaded = k.loaded;
            jobs = kept_job job s (record s { job = next Act.Fail s.job }) there (λ kept h. kept_act honest Act.Fail s kept tt h);
            ready = k.ready;
            waiting = k.waiting;
            asked = k.asked;
          })

      pub kept_of_job : (s : Submitted) → job_of w job ≡ Some s → IsKept honest s (kept_of products job)
      kept_of_job s there = fits_at (IsKept honest) w.jobs products (job - 1) s [] k.jobs (job_place w.jobs job s there)

      pub kept_advanced : (s : Submitted) (bytes : List ℕ) → job_of w job ≡ Some s → is_current s.job attempt ≡ true → is_last_step s.job ≡ false
          → IsKept honest (record s { job = next Act.Advance s.job }) (kept_of products job ++ bytes ∷ [])
          → AreKept honest (world_ended w job attempt Done) (set products (job - 1) (kept_of products job ++ bytes ∷ [])) cells
      kept_advanced s bytes there current more next_kept =
          subst (λ (v : World Query). AreKept honest v (set products (job - 1) (kept_of products job ++ bytes ∷ [])) cells) (sym (advanced_world unclaimed job attempt s (job_of w job) there current more)) (record {
            loaded = k.loaded;
            jobs = fits_set (IsKept honest) w.jobs products (job - 1) s (record s { job = next Act.Advance s.job }) (kept_of products job ++ bytes ∷ []) [] k.jobs (job_place w.jobs job s there) (λ _. next_kept);
            ready = k.ready;
            waiting = k.waiting;
            asked = k.asked;
          })

      pub kept_finished : (s : Submitted) (sealed : List Cell) (after : List (List Cell)) → job_of w job ≡ Some s → is_current s.job attempt ≡ true → is_last_step s.job ≡ true
          → IsKept honest (record s { job = next Act.Finish s.job }) [] → IsReadyKept honest (segment_of w job s) sealed
          → IsPlaced (segment_of w job s) w.ready (world_ended w job attempt Done).ready sealed cells after
          → AreKept honest (world_ended w job attempt Done) (set products (job - 1) []) after
      kept_finished s sealed after there current last next_kept segment_kept placed =
          let e = finished_world unclaimed job attempt s (job_of w job) there current last in
          let set_is = subst (λ (v : World Query). v.ready ≡ insert w.ready placed.place (segment_of w job s)) e placed.segments in
          subst (λ (v : World Query). AreKept honest v (set products (job - 1) []) after) (sym e) (record {
            loaded = k.loaded;
            jobs = fits_set (IsKept honest) w.jobs products (job - 1) s (record s { job = next Act.Finish s.job }) [] [] k.jobs (job_place w.jobs job s there) (λ _. next_kept);
            ready = subst (λ (ready : List Segment). EachFits (IsReadyKept honest) ready after) (sym set_is)
                (subst (λ (xs : List (List Cell)). EachFits (IsReadyKept honest) (insert w.ready placed.place (segment_of w job s)) xs) (sym placed.cells)
                (fits_insert (IsReadyKept honest) w.ready cells placed.place (segment_of w job s) sealed k.ready segment_kept));
            waiting = k.waiting;
            asked = k.asked;
          })

      -- the segment that a job makes, where its cells are the base cuboid of its snapshot's rows
      pub segment_kept : (s : Submitted) (sealed : List Cell) → job_of w job ≡ Some s → (honest → base_of (rows_of (snapshot_now w s)) ≡ sealed) → IsReadyKept honest (segment_of w job s) sealed
      segment_kept s sealed there made =
          let kept = kept_of_job s there in
          let origin = origin_of_build w s kept.build in
          record {
            fits = subst (AllByRecursion FitsSnapshot) (sym origin) (fits_tables s.tables s.range w.loaded k.loaded kept.fits, tt);
            made = λ h. ap (λ (parts : List Snapshot). base_of (flat_map rows_of parts)) origin ∙ (ap base_of (append-nil (rows_of (snapshot_now w s))) ∙ made h);
          }
