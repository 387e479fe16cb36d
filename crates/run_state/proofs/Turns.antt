-- What a turn makes of the jobs of a state, and of the world's.
use Rattle.std.proofs.Common.{◌≡◌, ℕ, zero, suc, ◌+◌, ◌-◌, ◌<◌, ◌≤◌, Bool, true, false, cond, ◌&&◌, ◌||◌, Option, Some, None, List, [], ◌∷◌, ◌++◌, length, map, set, slice_get, unwrap_or, refl, sym, ap, ◌∙◌, subst, arith, length-append, length-set}
use Rattle.std.specs.Prelude.{option_map}
use Rattle.std.proofs.lemmas.List.{map-set, map-append, length-map}
use Rattle.std.proofs.lemmas.Option.{slice_get-map, slice_get_within}
use Rattle.job_list.specs.JobList.{has}
use Rattle.job_machine.specs.Job.{Act, JobRecord, after_end, ended_failed, ended_ok, is_claimable, is_current, is_last_step, is_running, new_job, next, state_after, waits_in}
use Rattle.job_machine.specs.declared.state.Ended.TheVariants as ended
use Rattle.job_machine.specs.declared.state.JobKind.{JobKind}
use Rattle.job_machine.specs.declared.state.JobKind.TheVariants.{Build, Merge, Refresh}
use Rattle.job_machine.specs.declared.state.JobState.{JobState}
use Rattle.job_machine.specs.declared.state.JobState.TheVariants.{Pending, Running, Error, Stopped, Discarded, Finished}
use Rattle.range_list.specs.Ranges.{Interval}
use Rattle.std.specs.List.{flat_map}
use Rattle.std.proofs.lemmas.Bool.{eq-eqb}
use Rattle.run_history.specs.Cubes.{Rows, Snapshot}
use Rattle.run_history.specs.Steps.{step_ended, with_job}
use Rattle.run_history.specs.Sets.{dropped, swapped}
use Rattle.run_history.specs.declared.event.Outcome.{Outcome}
use Rattle.run_history.specs.World.{Submitted, World, in_force, job_at, job_of, origin_of, parts_by}
use Rattle.run_state.specs.Numbered.{NumberedSet, after_drop, after_swap, segment_of}
use Rattle.run_state.specs.Orders.{ChangesJob, ClaimsJob, EndsJob, MovesJob, IsQueued, is_claimable_at, is_current_at, is_last_at}
use Rattle.run_state.specs.States.{IsStateOf, entry_at, rows_in_force, snapshot_of, submitted_of}
use Rattle.run_state.specs.declared.parts.JobEntry.{JobEntry}
use Rattle.run_state.specs.declared.parts.RunState.{RunState}
use Rattle.run_state.proofs.Entries.{entry_place}
use Rattle.run_state.proofs.Ends.{absent_world, stale_world}
use Rattle.run_state.proofs.Lists.{map_set_same, some_eq}

-- a state of a world is one of the same world
pub same_world : {T P R Q : Type 0} (rows : T → Rows) (ready_set : R → NumberedSet) (v u : World Q) (s : RunState T P R Q) → v ≡ u → IsStateOf rows ready_set u s → IsStateOf rows ready_set v s
same_world rows ready_set v u s e i = subst (λ (x : World _). IsStateOf rows ready_set x s) (sym e) i

-- ---- a job more

abbrev pub fresh : ℕ → JobKind → ℕ → Interval → Submitted
fresh number kind steps range = record { job = new_job number kind steps; range = range; tables = None }

pub jobs_pushed : {T P : Type 0} (rows : T → Rows) (jobs : List Submitted) (entries new : List (JobEntry T P)) (entry : JobEntry T P) (kind : JobKind) (steps : ℕ) (range : Interval)
    → jobs ≡ map (submitted_of rows) entries → new ≡ entries ++ entry ∷ [] → submitted_of rows entry ≡ fresh (length entries + 1) kind steps range
    → jobs ++ fresh (length jobs + 1) kind steps range ∷ [] ≡ map (submitted_of rows) new
jobs_pushed rows jobs entries new entry kind steps range hj hn he =
    let count : length jobs ≡ length entries = ap length hj ∙ length-map entries (submitted_of rows) in
    ap (λ (n : ℕ). jobs ++ fresh (n + 1) kind steps range ∷ []) count
    ∙ (ap (λ (l : List Submitted). l ++ fresh (length entries + 1) kind steps range ∷ []) hj
    ∙ sym (ap (map (submitted_of rows)) hn ∙ (map-append (submitted_of rows) entries (entry ∷ []) ∙ ap (λ (s : Submitted). map (submitted_of rows) entries ++ s ∷ []) he)))

entry_past : {X : Type 0} (xs : List X) → entry_at xs (length xs + 1) ≡ None
entry_past xs = entry_place xs (length xs + 1) (length xs) refl ∙ past xs
  where
    past : {X : Type 0} (xs : List X) → slice_get xs (length xs) ≡ None
    past [] = refl
    past (x ∷ xs) = past xs

module _ {T P R Q : Type 0} (s : RunState T P R Q) where
  -- the next number is in no queue
  pub next_absent : IsQueued s → has s.queue.items (length s.jobs.items + 1) ≡ false
  next_absent q = q (length s.jobs.items + 1) ∙ ap is_claimable_at (entry_past s.jobs.items)

  -- and a job that doesn't wait for a claim isn't
  pub resting_absent : (number place : ℕ) (entry : JobEntry T P) → IsQueued s → place + 1 ≡ number → slice_get s.jobs.items place ≡ Some entry → is_claimable entry.job ≡ false → has s.queue.items number ≡ false
  resting_absent number place entry q e at rests = q number ∙ (ap is_claimable_at (entry_place s.jobs.items number place e ∙ at) ∙ rests)

  pub first_claimable : (number place : ℕ) (entry : JobEntry T P) → IsQueued s → place + 1 ≡ number → slice_get s.jobs.items place ≡ Some entry → has s.queue.items number ≡ true → is_claimable entry.job ≡ true
  first_claimable number place entry q e at h = sym (ap is_claimable_at (entry_place s.jobs.items number place e ∙ at)) ∙ (sym (q number) ∙ h)

-- a job that is resumed doesn't wait, and one whose attempt counts doesn't
pub resumed_rests : (before after : JobState) (in_flight : Bool) → state_after Act.Resume before ≡ Some after → waits_in before in_flight ≡ false
resumed_rests Pending after f h = cc
resumed_rests Running after f h = cc
resumed_rests Error after f h = refl
resumed_rests Stopped after f h = refl
resumed_rests Discarded after f h = cc
resumed_rests Finished after f h = cc

pub current_rests : (state : JobState) (in_flight same : Bool) → is_running state && (in_flight && same) ≡ true → waits_in state in_flight ≡ false
current_rests Running true same h = refl
current_rests Running false same h = cc
current_rests Pending f same h = cc
current_rests Error f same h = cc
current_rests Stopped f same h = cc
current_rests Discarded f same h = cc
current_rests Finished f same h = cc

-- ---- the job at a place

-- a job that is there by its number is there by its place
pub current_entry : {T P : Type 0} (entries : List (JobEntry T P)) (number place attempt : ℕ) (entry : JobEntry T P) → place + 1 ≡ number → slice_get entries place ≡ Some entry
    → is_current_at (entry_at entries number) attempt ≡ true → is_current entry.job attempt ≡ true
current_entry entries number place attempt entry e at h = subst (λ (o : Option (JobEntry _ _)). is_current_at o attempt ≡ true) (entry_place entries number place e ∙ at) h

pub stale_entry : {T P : Type 0} (entries : List (JobEntry T P)) (number attempt : ℕ) (entry : JobEntry T P) → entry_at entries number ≡ Some entry
    → is_current_at (entry_at entries number) attempt ≡ false → is_current entry.job attempt ≡ false
stale_entry entries number attempt entry at h = subst (λ (o : Option (JobEntry _ _)). is_current_at o attempt ≡ false) at h

pub last_entry : {T P : Type 0} (entries : List (JobEntry T P)) (number place : ℕ) (b : Bool) (entry : JobEntry T P) → place + 1 ≡ number → slice_get entries place ≡ Some entry
    → is_last_at (entry_at entries number) ≡ b → is_last_step entry.job ≡ b
last_entry entries number place b entry e at h = subst (λ (o : Option (JobEntry _ _)). is_last_at o ≡ b) (entry_place entries number place e ∙ at) h

-- a job whose attempt counts is among the jobs
pub current_within : {T P : Type 0} (entries : List (JobEntry T P)) (number attempt : ℕ) → is_current_at (entry_at entries number) attempt ≡ true → (0 < number) × (number - 1 < length entries)
current_within entries zero attempt h = cc
current_within entries (suc place) attempt h = by_entry (slice_get entries place) refl h
  where
    by_entry : (o : Option (JobEntry _ _)) → slice_get entries place ≡ o → is_current_at o attempt ≡ true → (0 < suc place) × (suc place - 1 < length entries)
    by_entry None e h = cc
    by_entry (Some entry) e h = (omega arith, let lt : place < length entries = slice_get_within entries place entry e in omega arith)

-- ---- changes of one job

module _ {T P : Type 0} (rows : T → Rows) (old new : List (JobEntry T P)) (place : ℕ) where
  pub changed_jobs : (after : JobRecord → JobRecord) → (ch : ChangesJob old new place after) → map (submitted_of rows) new ≡ set (map (submitted_of rows) old) place (record (submitted_of rows ch.entry) { job = after ch.entry.job })
  changed_jobs after ch = ap (map (submitted_of rows)) ch.now ∙ map-set (submitted_of rows) old place (record ch.entry { job = after ch.entry.job })

  pub changed_count : (after : JobRecord → JobRecord) → (ch : ChangesJob old new place after) → length new ≡ length old
  changed_count after ch = ap length ch.now ∙ length-set old place (record ch.entry { job = after ch.entry.job })

  pub changed_products : (after : JobRecord → JobRecord) → (ch : ChangesJob old new place after) → map (λ (e : JobEntry T P). e.products.items) new ≡ map (λ (e : JobEntry T P). e.products.items) old
  changed_products after ch = ap (map (λ (e : JobEntry T P). e.products.items)) ch.now ∙ map_set_same (λ (e : JobEntry T P). e.products.items) old place ch.entry (record ch.entry { job = after ch.entry.job }) ch.at refl

  pub unchanged_jobs : (after : JobRecord → JobRecord) → (ch : ChangesJob old new place after) → after ch.entry.job ≡ ch.entry.job → map (submitted_of rows) new ≡ map (submitted_of rows) old
  unchanged_jobs after ch same =
      ap (map (submitted_of rows)) ch.now ∙ map_set_same (submitted_of rows) old place ch.entry (record ch.entry { job = after ch.entry.job }) ch.at (ap (λ (j : JobRecord). submitted_of rows (record ch.entry { job = j })) same)

  pub claimed_jobs : (forced : List Rows) (ch : ClaimsJob rows old new place forced)
      → map (submitted_of rows) new ≡ set (map (submitted_of rows) old) place (record (submitted_of rows ch.entry) { job = next Act.Claim ch.entry.job; tables = Some (unwrap_or (snapshot_of rows ch.entry.tables) forced) })
  claimed_jobs forced ch = ap (map (submitted_of rows)) ch.now ∙ (map-set (submitted_of rows) old place ch.next ∙ ap (set (map (submitted_of rows) old) place) ch.claimed)

  pub claimed_count : (forced : List Rows) (ch : ClaimsJob rows old new place forced) → length new ≡ length old
  claimed_count forced ch = ap length ch.now ∙ length-set old place ch.next

  pub claimed_products : (forced : List Rows) (ch : ClaimsJob rows old new place forced) → map (λ (e : JobEntry T P). e.products.items) new ≡ map (λ (e : JobEntry T P). e.products.items) old
  claimed_products forced ch = ap (map (λ (e : JobEntry T P). e.products.items)) ch.now ∙ map_set_same (λ (e : JobEntry T P). e.products.items) old place ch.entry ch.next ch.at ch.products

  pub moved_jobs : (after : JobRecord → JobRecord) (kept : List P → List P) (ch : MovesJob old new place after kept) (job : JobRecord) → after ch.entry.job ≡ job
      → map (submitted_of rows) new ≡ set (map (submitted_of rows) old) place (record (submitted_of rows ch.entry) { job = job })
  moved_jobs after kept ch job h =
      ap (map (submitted_of rows)) ch.now ∙ (map-set (submitted_of rows) old place ch.next ∙ ap (set (map (submitted_of rows) old) place) same)
    where
      same : submitted_of rows ch.next ≡ record (submitted_of rows ch.entry) { job = job }
      same = rw (ch.job ∙ h, ch.range, ch.tables) refl

  pub moved_count : (after : JobRecord → JobRecord) (kept : List P → List P) (ch : MovesJob old new place after kept) → length new ≡ length old
  moved_count after kept ch = ap length ch.now ∙ length-set old place ch.next

  pub moved_products : (after : JobRecord → JobRecord) (kept : List P → List P) (ch : MovesJob old new place after kept)
      → map (λ (e : JobEntry T P). e.products.items) new ≡ set (map (λ (e : JobEntry T P). e.products.items) old) place (kept ch.entry.products.items)
  moved_products after kept ch =
      ap (map (λ (e : JobEntry T P). e.products.items)) ch.now ∙ (map-set (λ (e : JobEntry T P). e.products.items) old place ch.next ∙ ap (set (map (λ (e : JobEntry T P). e.products.items) old) place) ch.products)

  pub moved_at : (after : JobRecord → JobRecord) (kept : List P → List P) (ch : MovesJob old new place after kept) → slice_get (map (λ (e : JobEntry T P). e.products.items) old) place ≡ Some ch.entry.products.items
  moved_at after kept ch = slice_get-map (λ (e : JobEntry T P). e.products.items) old place ∙ ap (option_map (λ (e : JobEntry T P). e.products.items)) ch.at

  pub ended_read : (attempt : ℕ) (kept : List P → List P) (ch : EndsJob old new place attempt kept) → unwrap_or (slice_get (map (λ (e : JobEntry T P). e.products.items) old) place) [] ≡ ch.entry.products.items
  ended_read attempt kept ch = ap (λ (o : Option (List P)). unwrap_or o []) (moved_at (λ job. after_end (ended_ok job attempt) job) kept ch)

-- what a step's end is where its attempt counts
pub failed_job : (job : JobRecord) (attempt : ℕ) → is_current job attempt ≡ true → after_end (ended_failed job attempt) job ≡ next Act.Fail job
failed_job job attempt h = ap (λ (b : Bool). after_end (cond b ended.Failed ended.Stale) job) h

pub advanced_job : (job : JobRecord) (attempt : ℕ) → is_current job attempt ≡ true → is_last_step job ≡ false → after_end (ended_ok job attempt) job ≡ next Act.Advance job
advanced_job job attempt h last =
    ap (λ (b : Bool). after_end (cond b (cond (is_last_step job) ended.Finished ended.Advanced) ended.Stale) job) h ∙ ap (λ (b : Bool). after_end (cond b ended.Finished ended.Advanced) job) last

pub finished_job : (job : JobRecord) (attempt : ℕ) → is_current job attempt ≡ true → is_last_step job ≡ true → after_end (ended_ok job attempt) job ≡ next Act.Finish job
finished_job job attempt h last =
    ap (λ (b : Bool). after_end (cond b (cond (is_last_step job) ended.Finished ended.Advanced) ended.Stale) job) h ∙ ap (λ (b : Bool). after_end (cond b ended.Finished ended.Advanced) job) last

-- ---- a state and its world, where one job changes

abbrev pub with_tables : JobRecord → Interval → Option (List Rows) → Submitted
with_tables job range tables = record { job = job; range = range; tables = tables }

pub job_by_entry : {T P : Type 0} (rows : T → Rows) (entries : List (JobEntry T P)) (number : ℕ) → job_at (map (submitted_of rows) entries) number ≡ option_map (submitted_of rows) (entry_at entries number)
job_by_entry rows entries zero = refl
job_by_entry rows entries (suc place) = slice_get-map (submitted_of rows) entries place

place_back : (number : ℕ) → 0 < number → number - 1 + 1 ≡ number
place_back number h = omega arith

module _ {T P R Q : Type 0} (rows : T → Rows) (ready_set : R → NumberedSet) (w : World Q) (s : RunState T P R Q) (i : IsStateOf rows ready_set w s) (number : ℕ) where
  pub job_of_entry : (entry : JobEntry T P) → 0 < number → slice_get s.jobs.items (number - 1) ≡ Some entry → job_of w number ≡ Some (submitted_of rows entry)
  job_of_entry entry pos there =
      ap (λ (jobs : List Submitted). job_at jobs number) i.jobs ∙ (job_by_entry rows s.jobs.items number ∙ ap (option_map (submitted_of rows)) (entry_place s.jobs.items number (number - 1) (place_back number pos) ∙ there))

  pub stale_step : (v : World Q) (attempt : ℕ) (outcome : Outcome) → is_current_at (entry_at s.jobs.items number) attempt ≡ false → step_ended v number attempt outcome (job_of w number) ≡ v
  stale_step v attempt outcome h = by_entry (entry_at s.jobs.items number) refl h
    where
      told : job_of w number ≡ option_map (submitted_of rows) (entry_at s.jobs.items number)
      told = ap (λ (jobs : List Submitted). job_at jobs number) i.jobs ∙ job_by_entry rows s.jobs.items number

      by_entry : (o : Option (JobEntry T P)) → entry_at s.jobs.items number ≡ o → is_current_at o attempt ≡ false → step_ended v number attempt outcome (job_of w number) ≡ v
      by_entry None e h = absent_world v number attempt outcome (job_of w number) (told ∙ ap (option_map (submitted_of rows)) e)
      by_entry (Some entry) e h = stale_world v number attempt outcome (submitted_of rows entry) (job_of w number) (told ∙ ap (option_map (submitted_of rows)) e) h

  pub claimed_kept : (new : List (JobEntry T P)) (in_force_now : List Rows) (ch : ClaimsJob rows s.jobs.items new (number - 1) in_force_now) → in_force_now ≡ rows_in_force rows s.loaded.items
      → with_job w.jobs number (with_tables (next Act.Claim ch.entry.job) ch.entry.range (Some (unwrap_or (snapshot_of rows ch.entry.tables) (in_force w)))) ≡ map (submitted_of rows) new
  claimed_kept new in_force_now ch same =
      ap (λ (jobs : List Submitted). with_job jobs number (with_tables (next Act.Claim ch.entry.job) ch.entry.range (Some (unwrap_or (snapshot_of rows ch.entry.tables) (in_force w))))) i.jobs
      ∙ (ap (λ (l : List Rows). with_job (map (submitted_of rows) s.jobs.items) number (with_tables (next Act.Claim ch.entry.job) ch.entry.range (Some (unwrap_or (snapshot_of rows ch.entry.tables) l)))) (ap (map (λ (table : Option Rows). unwrap_or table [])) i.loaded ∙ sym same)
      ∙ sym (claimed_jobs rows s.jobs.items new (number - 1) in_force_now ch))

  pub failed_kept : (new : List (JobEntry T P)) (attempt : ℕ) (ch : ChangesJob s.jobs.items new (number - 1) (λ job. after_end (ended_failed job attempt) job)) → is_current ch.entry.job attempt ≡ true
      → with_job w.jobs number (record (submitted_of rows ch.entry) { job = next Act.Fail ch.entry.job }) ≡ map (submitted_of rows) new
  failed_kept new attempt ch current =
      ap (λ (jobs : List Submitted). with_job jobs number (record (submitted_of rows ch.entry) { job = next Act.Fail ch.entry.job })) i.jobs
      ∙ sym (changed_jobs rows s.jobs.items new (number - 1) (λ job. after_end (ended_failed job attempt) job) ch
      ∙ ap (λ (j : JobRecord). set (map (submitted_of rows) s.jobs.items) (number - 1) (record (submitted_of rows ch.entry) { job = j })) (failed_job ch.entry.job attempt current))

  pub ended_kept : (new : List (JobEntry T P)) (attempt : ℕ) (kept : List P → List P) (after : JobRecord) (ch : EndsJob s.jobs.items new (number - 1) attempt kept) → after_end (ended_ok ch.entry.job attempt) ch.entry.job ≡ after
      → with_job w.jobs number (record (submitted_of rows ch.entry) { job = after }) ≡ map (submitted_of rows) new
  ended_kept new attempt kept after ch h =
      ap (λ (jobs : List Submitted). with_job jobs number (record (submitted_of rows ch.entry) { job = after })) i.jobs ∙ sym (moved_jobs rows s.jobs.items new (number - 1) (λ job. after_end (ended_ok job attempt) job) kept ch after h)

-- the first of the queue
pub has_first : (items : List ℕ) (number : ℕ) → slice_get items 0 ≡ Some number → has items number ≡ true
has_first [] number h = cc
has_first (item ∷ items) number h = ap (λ (b : Bool). b || has items number) (eq-eqb item number (some_eq item number h))

module _ {T P R Q : Type 0} (s : RunState T P R Q) where
  pub claimable_there : (number : ℕ) → IsQueued s → has s.queue.items number ≡ true → (entry : JobEntry T P) × (0 < number) × (slice_get s.jobs.items (number - 1) ≡ Some entry) × (is_claimable entry.job ≡ true)
  claimable_there number q h = by_number number (sym (q number) ∙ h)
    where
      by_number : (n : ℕ) → is_claimable_at (entry_at s.jobs.items n) ≡ true → (entry : JobEntry T P) × (0 < n) × (slice_get s.jobs.items (n - 1) ≡ Some entry) × (is_claimable entry.job ≡ true)
      by_number zero e = cc
      by_number (suc place) e = by_entry (slice_get s.jobs.items place) refl e
        where
          back : suc place - 1 ≡ place
          back = omega arith

          by_entry : (o : Option (JobEntry T P)) → slice_get s.jobs.items place ≡ o → is_claimable_at o ≡ true → (entry : JobEntry T P) × (0 < suc place) × (slice_get s.jobs.items (suc place - 1) ≡ Some entry) × (is_claimable entry.job ≡ true)
          by_entry None f e = cc
          by_entry (Some entry) f e = (entry, omega arith, ap (slice_get s.jobs.items) back ∙ f, e)

-- ---- the ready set

-- claims are no part of what a segment is made of
same_origin : {Query : Type 0} (w : World Query) (claims : List (ℕ × ℕ)) (s : Submitted) → origin_of (record w { steps = claims }) s ≡ origin_of w s
same_origin w claims s = by_kind s.job.kind
  where
    by_kind : (kind : JobKind) → flat_map (λ (part : List Snapshot). part) (parts_by kind (record w { steps = claims }) s) ≡ flat_map (λ (part : List Snapshot). part) (parts_by kind w s)
    by_kind Build = refl
    by_kind Refresh = refl
    by_kind Merge = refl

module _ {T P R Q : Type 0} (rows : T → Rows) (ready_set : R → NumberedSet) (w : World Q) (s : RunState T P R Q) (i : IsStateOf rows ready_set w s) (next : NumberedSet) where
  -- the next set is the one that the end of a last step makes
  module _ (claims : List (ℕ × ℕ)) (job : ℕ) (x : Submitted) (e : next ≡ after_swap (segment_of w job x) (ready_set s.ready)) where
    pub swapped_ready : swapped (segment_of (record w { steps = claims }) job x) w.ready ≡ next.segments
    swapped_ready =
        ap (λ (origin : List Snapshot). swapped (record { range = x.range; job = job; origin = origin }) w.ready) (same_origin w claims x)
        ∙ (ap (swapped (segment_of w job x)) i.ready ∙ sym (ap (λ (set : NumberedSet). set.segments) e))

    pub swapped_version : length (w.past ++ w.ready ∷ []) ≡ next.version
    swapped_version = length-append w.past (w.ready ∷ []) ∙ (ap (λ (n : ℕ). n + 1) i.version ∙ sym (ap (λ (set : NumberedSet). set.version) e))

  -- or a drop
  module _ (range : Interval) (e : next ≡ after_drop range (ready_set s.ready)) where
    pub dropped_ready : dropped range w.ready ≡ next.segments
    dropped_ready = ap (dropped range) i.ready ∙ sym (ap (λ (set : NumberedSet). set.segments) e)

    pub dropped_version : length (w.past ++ w.ready ∷ []) ≡ next.version
    dropped_version = length-append w.past (w.ready ∷ []) ∙ (ap (λ (n : ℕ). n + 1) i.version ∙ sym (ap (λ (set : NumberedSet). set.version) e))
