-- The job whose step ends.
use Rattle.std.proofs.Common.{◌≡◌, ℕ, zero, suc, ◌+◌, ◌-◌, ◌<◌, ◌≤◌, OnOk, Bool, true, false, cond, Option, Some, None, Result, Ok, Err, List, [], ◌∷◌, ◌++◌, length, set, slice_get, unwrap_or, refl, sym, ap, ◌∙◌, subst, arith}
use Rattle.std.proofs.lemmas.Bool.{eq-eqb, eqb-true}
use Rattle.std.proofs.lemmas.Option.{slice_get-map}
use Rattle.std.specs.List.{insert}
use Rattle.std.specs.Prelude.{Vec, is_some, option_map}
use Rattle.std.specs.declared.alloc.Global.{Global}
use Rattle.fixed_cube.specs.Cells.{Cell}
use Rattle.fixed_cube.specs.Cube.{fixed, job_task}
use Rattle.byte_frame.specs.Exact.{IsBytes}
use Rattle.fixed_cube.specs.Tasks.{is_product, product_in, product_of}
use Rattle.fixed_cube.specs.declared.products.FixedProduct.TheVariants.{Rows as RowsProduct, Cells}
use Rattle.cube_val.specs.declared.val.Val.{Val}
use Rattle.job_machine.specs.Job.{is_current, is_last_step, next}
use Rattle.job_machine.specs.declared.state.Ended.TheVariants as ended
use Rattle.plain_answer.specs.declared.ask.Ask.{Ask as Query}
use Rattle.range_list.specs.Ranges.{IsFree}
use Rattle.run_history.specs.Invariants.{ranges_of}
use Rattle.run_history.specs.Sets.{ReadySet, Segment}
use Rattle.job_machine.specs.declared.state.JobState.{JobState}
use Rattle.job_machine.specs.declared.state.JobState.TheVariants.{Finished, Running}
use Rattle.run_history.specs.Cubes.{Rows, Snapshot}
use Rattle.run_history.specs.World.{Submitted, World, in_force, job_at, job_of}
use Rattle.run_history.specs.declared.event.Outcome.{Outcome}
use Rattle.run_history.specs.declared.event.Outcome.TheVariants.{Done}
use Rattle.run_history.proofs.Jobs.{Counts, current_counts, running_live}
use Rattle.run_state.specs.Numbered.{segment_of}
use Rattle.run_state.specs.Orders.{IsQueued, is_current_at, is_last_at, products_of}
use Rattle.run_state.specs.States.{entry_at, submitted_of}
use Rattle.run_state.proofs.SoundStates.{queued}
use Rattle.run_state.proofs.Turns.{job_by_entry}
use Rattle.fixed_state.specs.Ends.{IsProductOf, ended_at, kept_of, outcome_of, world_ended}
use Rattle.fixed_state.specs.Kept.{AreKept, IsFixedState, IsKept, first_snapshot}
use Rattle.fixed_state.specs.Ready.{IsPlaced, ReadyModel, ready_seen, rows_seen}
use Rattle.fixed_state.specs.States.{FixedEntry, FixedState, StandsFor, cells_of, segment_at}
use Rattle.fixed_state.specs.Tasks.{snapshot_now, task_kept}
use Rattle.fixed_state.proofs.Events.{kept_absent, kept_advanced, kept_failed, kept_finished, kept_of_job, kept_stale, segment_kept}
use Rattle.outside.specs.declared.hand.HandFault.{HandFault}
use Rattle.outside.specs.declared.hand.HandFault.TheVariants as fault
use Rattle.run_state.specs.Answers.{is_failure}
use Rattle.fixed_state.proofs.Jobs.{fits_tables, kept_advance, kept_finish}
use Rattle.fixed_state.proofs.Free.{free_for}
use Rattle.fixed_state.proofs.NextTasks.{after_next}
use Rattle.fixed_state.proofs.TaskFacts.{last_base, last_no_rows, next_of_build, origin_of_build, some_is}

-- ---- the entry of a job

-- a job whose attempt counts
pub record IsThere (jobs : List FixedEntry) (job attempt : ℕ) : Type 0 where
  pub entry : FixedEntry
  pub at : entry_at jobs job ≡ Some entry
  pub current : is_current entry.job attempt ≡ true

pub there_is : (jobs : List FixedEntry) (job attempt : ℕ) → is_current_at (entry_at jobs job) attempt ≡ true → IsThere jobs job attempt
there_is jobs job attempt h = by_entry (entry_at jobs job) refl h
  where
    by_entry : (o : Option FixedEntry) → entry_at jobs job ≡ o → is_current_at o attempt ≡ true → IsThere jobs job attempt
    by_entry None e f = cc
    by_entry (Some entry) e f = record { entry = entry; at = e; current = f }

-- its place among the jobs
pub entry_place_of : (jobs : List FixedEntry) (job : ℕ) (entry : FixedEntry) → entry_at jobs job ≡ Some entry → slice_get jobs (job - 1) ≡ Some entry
entry_place_of jobs zero entry e = cc
entry_place_of jobs (suc place) entry e = let there : place ≡ suc place - 1 = omega arith in subst (λ (i : ℕ). slice_get jobs i ≡ Some entry) there e

pub job_pos : (jobs : List FixedEntry) (job : ℕ) (entry : FixedEntry) → entry_at jobs job ≡ Some entry → 0 < job
job_pos jobs zero entry e = cc
job_pos jobs (suc place) entry e = omega arith

pub kept_at : (s : FixedState) (job : ℕ) (entry : FixedEntry) → entry_at s.jobs.items job ≡ Some entry → kept_of (products_of s) job ≡ entry.products.items
kept_at s job entry e =
    ap (λ (o : Option (List (List ℕ))). unwrap_or o []) (slice_get-map (λ (x : FixedEntry). x.products.items) s.jobs.items (job - 1) ∙ ap (option_map (λ (x : FixedEntry). x.products.items)) (entry_place_of s.jobs.items job entry e))

pub job_there : (w : World Query) (s : FixedState) (job : ℕ) (entry : FixedEntry) → StandsFor w s → entry_at s.jobs.items job ≡ Some entry → job_of w job ≡ Some (submitted_of rows_seen entry)
job_there w s job entry i e =
    ap (λ (jobs : List Submitted). job_at jobs job) i.jobs ∙ (job_by_entry rows_seen s.jobs.items job ∙ ap (option_map (submitted_of rows_seen)) e)

-- ---- the job whose attempt counts, in a state as it should be

same_tables : (o : Option (List Rows)) (forced : List Rows) → is_some o ≡ true → unwrap_or o [] ≡ unwrap_or o forced
same_tables None forced h = cc
same_tables (Some tables) forced h = refl

module _ (honest : Type 0) (s : FixedState) (job attempt : ℕ) (f : IsFixedState honest s) (t : IsThere s.jobs.items job attempt) where
  abbrev pub submitted_now : Submitted
  submitted_now = submitted_of rows_seen t.entry

  pub counts_now : Counts t.entry.job attempt
  counts_now = current_counts t.entry.job attempt t.current

  pub there_now : (w : World Query) → StandsFor w s → job_of w job ≡ Some submitted_now
  there_now w i = job_there w s job t.entry i t.at

  pub tables_now : is_some submitted_now.tables ≡ true
  tables_now = (f.sound.numbered job submitted_now (there_now f.w f.stands)).snapshot counts_now.in_flight

  pub kept_now : (w : World Query) → StandsFor w s → AreKept honest w (products_of s) (cells_of s) → IsKept honest submitted_now (kept_of (products_of s) job)
  kept_now w i k = kept_of_job honest w (products_of s) (cells_of s) k job attempt submitted_now (there_now w i)

  pub own_kept : IsKept honest submitted_now (kept_of (products_of s) job)
  own_kept = kept_now f.w f.stands f.kept

  pub queued_now : IsQueued s
  queued_now = queued fixed rows_seen ready_seen f.w s f.sound f.stands

  -- no ready segment overlaps the range of its job
  pub free_now : IsFree (ranges_of s.ready.set.segments) t.entry.range
  free_now =
      subst (λ (set : ReadySet). IsFree (ranges_of set) t.entry.range) f.stands.ready
      (free_for fixed f.w f.sound job submitted_now (there_now f.w f.stands) (running_live t.entry.job.state counts_now.running) own_kept.build)

  pub counted_now : length (kept_of (products_of s) job) ≡ t.entry.job.done
  counted_now = own_kept.counted (running_live t.entry.job.state counts_now.running)

  -- where the next step is the last, two are done
  pub two_done : is_last_step t.entry.job ≡ true → length (kept_of (products_of s) job) ≡ 2
  two_done last =
      let more : t.entry.job.done + 1 ≡ t.entry.job.steps = eqb-true (t.entry.job.done + 1) t.entry.job.steps last in
      let three : t.entry.job.steps ≡ 3 = own_kept.steps in
      omega (arith, counted_now)

  -- else at most one is
  pub one_more : is_last_step t.entry.job ≡ false → length (kept_of (products_of s) job) < 2
  one_more more =
      let progress : t.entry.job.done ≤ t.entry.job.steps = (f.sound.numbered job submitted_now (there_now f.w f.stands)).by_table.progress in
      let live : t.entry.job.done ≡ t.entry.job.steps → ⊥ = λ all. unfinished t.entry.job.state counts_now.running ((f.sound.numbered job submitted_now (there_now f.w f.stands)).by_table.finished.0 all) in
      less (length (kept_of (products_of s) job)) t.entry.job.done t.entry.job.steps counted_now own_kept.steps progress live (λ two. clash (sym (eq-eqb (t.entry.job.done + 1) t.entry.job.steps two) ∙ more))
    where
      clash : true ≡ false → ⊥
      clash e = cc

      unfinished : (state : JobState) → state ≡ Running → state ≡ Finished → ⊥
      unfinished state e g = let h : Running ≡ Finished = sym e ∙ g in cc

      less : (n done steps : ℕ) → n ≡ done → steps ≡ 3 → done ≤ steps → (done ≡ steps → ⊥) → (done + 1 ≡ steps → ⊥) → n < 2
      less n zero steps e three le ne more = omega (arith, e)
      less n (suc zero) steps e three le ne more = omega (arith, e)
      less n (suc (suc zero)) steps e three le ne more = absurd (more (omega (arith, three)))
      less n (suc (suc (suc m))) steps e three le ne more = absurd (ne (omega (arith, three, le)))

  -- the snapshot of the first claim is the one that the task is made of
  pub same_snapshot : (w : World Query) → first_snapshot submitted_now ≡ snapshot_now w submitted_now
  same_snapshot w = ap (λ (tables : List Rows). record { tables = tables; range = submitted_now.range }) (same_tables submitted_now.tables (in_force w) tables_now)

  -- what its job makes
  pub segment_now : (w : World Query) (x : Submitted) → StandsFor w s → job_of w job ≡ Some x → segment_of w job x ≡ segment_at t.entry job
  segment_now w x i e =
      let same : submitted_now ≡ x = some_is submitted_now x (sym (there_now w i) ∙ e) in
      let made : List Snapshot → Segment = λ origin. record { range = t.entry.range; job = job; origin = origin } in
      ap (segment_of w job) (sym same) ∙ ap made (origin_of_build w submitted_now own_kept.build ∙ ap (λ (snapshot : Snapshot). snapshot ∷ []) (sym (same_snapshot w)))

  -- an honest hand's product
  pub due_now : (w : World Query) (bytes : Vec ℕ Global) → StandsFor w s → IsProductOf w (job_of w job) attempt (Ok bytes) → bytes.items ≡ product_of (job_task (snapshot_now w submitted_now) t.entry.job.done)
  due_now w bytes i h =
      let told = subst (λ (o : Option Submitted). IsProductOf w o attempt (Ok bytes)) (there_now w i) h in
      told t.current ∙ ap product_of (next_of_build w submitted_now own_kept.build)

  -- ---- what is kept after a success

  pub advanced_now : (w : World Query) (bytes : Vec ℕ Global) → StandsFor w s → AreKept honest w (products_of s) (cells_of s) → (honest → IsProductOf w (job_of w job) attempt (Ok bytes)) → is_last_step t.entry.job ≡ false → IsBytes bytes.items
      → ((snapshot : Snapshot) → is_product (task_kept snapshot (kept_of (products_of s) job)) bytes.items ≡ true)
      → AreKept honest (world_ended w job attempt Done) (set (products_of s) (job - 1) (kept_of (products_of s) job ++ bytes.items ∷ [])) (cells_of s)
  advanced_now w bytes i k product more b judged =
      let kept = kept_now w i k in
      kept_advanced honest w (products_of s) (cells_of s) k job attempt submitted_now bytes.items (there_now w i) t.current more
      (kept_advance honest submitted_now (kept_of (products_of s) job) bytes.items counts_now.running tables_now
      (λ h. due_now w bytes i (product h) ∙ ap (λ (snapshot : Snapshot). product_of (job_task snapshot t.entry.job.done)) (sym (same_snapshot w)))
      (after_next (first_snapshot submitted_now) (kept_of (products_of s) job) bytes.items kept.fits kept.next b (one_more more) (judged (first_snapshot submitted_now))) kept)

  pub finished_now : (w : World Query) (bytes : Vec ℕ Global) (sealed : List Cell) (after : List (List Cell)) → StandsFor w s → AreKept honest w (products_of s) (cells_of s) → (honest → IsProductOf w (job_of w job) attempt (Ok bytes))
      → is_last_step t.entry.job ≡ true → ((snapshot : Snapshot) → product_in (task_kept snapshot (kept_of (products_of s) job)) bytes.items ≡ Some (Cells sealed))
      → IsPlaced (segment_of w job submitted_now) w.ready (world_ended w job attempt Done).ready sealed (cells_of s) after
      → AreKept honest (world_ended w job attempt Done) (set (products_of s) (job - 1) []) after
  finished_now w bytes sealed after i k product last reads placed =
      let kept = kept_now w i k in
      let two = two_done last in
      let done : t.entry.job.done ≡ 2 = sym counted_now ∙ two in
      let snapshot = snapshot_now w submitted_now in
      let fits = fits_tables submitted_now.tables submitted_now.range w.loaded k.loaded kept.fits in
      kept_finished honest w (products_of s) (cells_of s) k job attempt submitted_now sealed after (there_now w i) t.current last
      (kept_finish honest submitted_now (kept_of (products_of s) job) counts_now.running tables_now kept)
      (segment_kept honest w (products_of s) (cells_of s) k job attempt submitted_now sealed (there_now w i)
      (λ h. last_base snapshot (kept_of (products_of s) job) bytes.items sealed fits two (reads snapshot) (due_now w bytes i (product h) ∙ ap (λ (n : ℕ). product_of (job_task snapshot n)) done)))
      placed

  pub no_rows_now : (bytes : List ℕ) (rows : List (List Val)) → is_last_step t.entry.job ≡ true → ((snapshot : Snapshot) → product_in (task_kept snapshot (kept_of (products_of s) job)) bytes ≡ Some (RowsProduct rows)) → ⊥
  no_rows_now bytes rows last reads = last_no_rows (first_snapshot submitted_now) (kept_of (products_of s) job) bytes rows (two_done last) (reads (first_snapshot submitted_now))

  last_is : (b : Bool) → is_last_at (entry_at s.jobs.items job) ≡ b → is_last_step t.entry.job ≡ b
  last_is b h = sym (ap is_last_at t.at) ∙ h

  pub last_now : is_last_at (entry_at s.jobs.items job) ≡ true → is_last_step t.entry.job ≡ true
  last_now h = last_is true h

  pub more_now : is_last_at (entry_at s.jobs.items job) ≡ false → is_last_step t.entry.job ≡ false
  more_now h = last_is false h

  -- ---- what the end is to the job

  ok_ended : (b : Bool) → is_last_step t.entry.job ≡ b → ended_at (entry_at s.jobs.items job) attempt Done ≡ cond b ended.Finished ended.Advanced
  ok_ended b h =
      ap (λ (o : Option FixedEntry). ended_at o attempt Done) t.at
      ∙ (ap (λ (c : Bool). cond c (cond (is_last_step t.entry.job) ended.Finished ended.Advanced) ended.Stale) t.current ∙ ap (λ (c : Bool). cond c ended.Finished ended.Advanced) h)

  pub ended_advanced : is_last_step t.entry.job ≡ false → ended_at (entry_at s.jobs.items job) attempt Done ≡ ended.Advanced
  ended_advanced h = ok_ended false h

  pub ended_finished : is_last_step t.entry.job ≡ true → ended_at (entry_at s.jobs.items job) attempt Done ≡ ended.Finished
  ended_finished h = ok_ended true h

  -- ---- ends that fail

  pub failed_now : (w : World Query) (outcome : Outcome) → StandsFor w s → AreKept honest w (products_of s) (cells_of s) → is_failure outcome ≡ true → AreKept honest (world_ended w job attempt outcome) (products_of s) (cells_of s)
  failed_now w outcome i k fails = kept_failed honest w (products_of s) (cells_of s) k job attempt outcome submitted_now (there_now w i) fails t.current

  pub few_now : length (kept_of (products_of s) job) < 255
  few_now =
      let three : t.entry.job.steps ≡ 3 = own_kept.steps in
      let progress : t.entry.job.done ≤ t.entry.job.steps = (f.sound.numbered job submitted_now (there_now f.w f.stands)).by_table.progress in
      omega (arith, counted_now)

pub outcome_fails : (fault : HandFault) → is_failure (outcome_of fault) ≡ true
outcome_fails fault.Memory = refl
outcome_fails fault.NotStarted = refl
outcome_fails (fault.Ended status) = refl
outcome_fails fault.Killed = refl
outcome_fails fault.NoFile = refl

-- the products of a job by its place
pub kept_here : (s : FixedState) (job : ℕ) (entry : FixedEntry) → slice_get s.jobs.items (job - 1) ≡ Some entry → kept_of (products_of s) job ≡ entry.products.items
kept_here s job entry e =
    ap (λ (o : Option (List (List ℕ))). unwrap_or o []) (slice_get-map (λ (x : FixedEntry). x.products.items) s.jobs.items (job - 1) ∙ ap (option_map (λ (x : FixedEntry). x.products.items)) e)

-- two states of a world have the same attempts that count
abbrev current_of : Option Submitted → ℕ → Bool
current_of None attempt = false
current_of (Some s) attempt = is_current s.job attempt

current_by : (o : Option FixedEntry) (attempt : ℕ) → is_current_at o attempt ≡ current_of (option_map (submitted_of rows_seen) o) attempt
current_by None attempt = refl
current_by (Some entry) attempt = refl

current_in : (w : World Query) (s : FixedState) (job attempt : ℕ) → StandsFor w s → is_current_at (entry_at s.jobs.items job) attempt ≡ current_of (job_of w job) attempt
current_in w s job attempt i =
    current_by (entry_at s.jobs.items job) attempt
    ∙ ap (λ (o : Option Submitted). current_of o attempt) (sym (ap (λ (jobs : List Submitted). job_at jobs job) i.jobs ∙ job_by_entry rows_seen s.jobs.items job))

pub still_current : (w : World Query) (s s' : FixedState) (job attempt : ℕ) → StandsFor w s → StandsFor w s' → is_current_at (entry_at s.jobs.items job) attempt ≡ true → is_current_at (entry_at s'.jobs.items job) attempt ≡ true
still_current w s s' job attempt i i' h = current_in w s' job attempt i' ∙ (sym (current_in w s job attempt i) ∙ h)

-- the end of an attempt that doesn't count leaves what is kept
pub stale_now : (honest : Type 0) (w : World Query) (s : FixedState) (job attempt : ℕ) (outcome : Outcome) → StandsFor w s → AreKept honest w (products_of s) (cells_of s) → is_current_at (entry_at s.jobs.items job) attempt ≡ false
    → AreKept honest (world_ended w job attempt outcome) (products_of s) (cells_of s)
stale_now honest w s job attempt outcome i k h = by_job (job_of w job) refl
  where
    by_job : (o : Option Submitted) → job_of w job ≡ o → AreKept honest (world_ended w job attempt outcome) (products_of s) (cells_of s)
    by_job None e = kept_absent honest w (products_of s) (cells_of s) k job attempt outcome e
    by_job (Some t) e =
        kept_stale honest w (products_of s) (cells_of s) k job attempt outcome t e (sym (ap (λ (o : Option Submitted). current_of o attempt) e) ∙ (sym (current_in w s job attempt i) ∙ h))

-- ---- answers

pub on_ok : {A E P Q : Type 0} (r : Result A E) → (P → Q) → OnOk r P → OnOk r Q
on_ok (Ok x) f p = f p
on_ok (Err e) f p = p

pub on_ok_both : {A E P Q R : Type 0} (r : Result A E) → (P → Q → R) → OnOk r P → OnOk r Q → OnOk r R
on_ok_both (Ok x) f p q = f p q
on_ok_both (Err e) f p q = p

pub kept_again : (honest : Type 0) (w : World Query) (products products' : List (List (List ℕ))) (cells cells' : List (List Cell)) → products' ≡ products → cells' ≡ cells → AreKept honest w products cells → AreKept honest w products' cells'
kept_again honest w products products' cells cells' p c k = rw (p, c) k

-- a segment that came at a place of sets that are told otherwise
pub placed_now : (added : List Cell) (segment segment' : Segment) (old old' new : ReadySet) (next : ReadyModel) {before after : List (List Cell)} → segment ≡ segment' → old ≡ old' → new ≡ next.set.segments → after ≡ next.cells
    → IsPlaced segment' old' next.set.segments added before next.cells → IsPlaced segment old new added before after
placed_now added segment segment' old old' new next s o n a p = record {
  place = p.place;
  segments = n ∙ (p.segments ∙ (ap (λ (set : ReadySet). insert set p.place segment') (sym o) ∙ ap (insert old p.place) (sym s)));
  cells = a ∙ p.cells;
}
