-- The first job of the queue, and the task of its next step.
use Rattle.std.proofs.Common.{◌≡◌, ℕ, ◌<◌, ◌≤◌, Bool, true, false, Option, Some, None, List, length, slice_get, refl, sym, ap, ◌∙◌, subst, arith}
use Rattle.std.specs.Prelude.{option_map}
use Rattle.std.specs.Option.{IsSome}
use Rattle.fixed_cube.specs.Columns.{row_limit}
use Rattle.fixed_cube.specs.Cube.{FitsSnapshot, fact_rows, fixed}
use Rattle.fixed_cube.specs.Tasks.{IsTask}
use Rattle.fixed_state.specs.Ends.{kept_of}
use Rattle.fixed_state.specs.Kept.{AreKept, IsKept}
use Rattle.fixed_state.specs.States.{FixedEntry, FixedState, StandsFor, cells_of, ready_seen, rows_seen}
use Rattle.fixed_state.specs.Tasks.{snapshot_at, snapshot_now, task_kept}
use Rattle.fixed_state.proofs.EndFacts.{job_there, kept_at}
use Rattle.fixed_state.proofs.Events.{kept_of_job}
use Rattle.fixed_state.proofs.Jobs.{fits_tables}
use Rattle.fixed_state.proofs.NextTasks.{kept_task}
use Rattle.fixed_state.proofs.TaskFacts.{task_is}
use Rattle.job_machine.specs.Job.{waits_in}
use Rattle.job_machine.specs.declared.state.JobState.{JobState}
use Rattle.job_machine.specs.declared.state.JobState.TheVariants.{Pending, Running, Error, Stopped, Discarded, Finished}
use Rattle.plain_answer.specs.declared.ask.Ask.{Ask as Query}
use Rattle.run_history.specs.Cubes.{Rows}
use Rattle.run_history.specs.Invariants.{IsSound}
use Rattle.run_history.specs.World.{Submitted, World, is_live, job_at, job_of, next_task}
use Rattle.run_state.specs.Orders.{is_claimable_at, products_of}
use Rattle.run_state.specs.States.{entry_at, submitted_of}
use Rattle.run_state.proofs.SoundStates.{queued}
use Rattle.run_state.proofs.Turns.{has_first, job_by_entry}

claimable_live : (state : JobState) (in_flight : Bool) → waits_in state in_flight ≡ true → is_live state ≡ true
claimable_live Pending in_flight h = refl
claimable_live Running in_flight h = refl
claimable_live Error in_flight h = refl
claimable_live Stopped in_flight h = refl
claimable_live Discarded in_flight h = cc
claimable_live Finished in_flight h = cc

live_unfinished : (state : JobState) → is_live state ≡ true → state ≡ Finished → ⊥
live_unfinished state h e = clash (sym h ∙ ap is_live e)
  where
    clash : true ≡ false → ⊥
    clash f = cc

some_same : {A : Type 0} (x y : A) → Some x ≡ Some y → x ≡ y
some_same x y e = cc

module _ (honest : Type 0) (w : World Query) (s : FixedState) (i : StandsFor w s) (sound : IsSound fixed w) (k : AreKept honest w (products_of s) (cells_of s)) (job : ℕ) where
  pub told_job : job_of w job ≡ option_map (submitted_of rows_seen) (entry_at s.jobs.items job)
  told_job = ap (λ (jobs : List Submitted). job_at jobs job) i.jobs ∙ job_by_entry rows_seen s.jobs.items job

  pub kept_job : (x : Submitted) → job_of w job ≡ Some x → IsKept honest x (kept_of (products_of s) job)
  kept_job x e = kept_of_job honest w (products_of s) (cells_of s) k job 0 x e

  fits_job : (x : Submitted) → job_of w job ≡ Some x → FitsSnapshot (snapshot_now w x)
  fits_job x e = fits_tables x.tables x.range w.loaded k.loaded (kept_job x e).fits

  -- a live job has a step to do
  pub more_steps : (x : Submitted) → job_of w job ≡ Some x → is_live x.job.state ≡ true → x.job.done < 3
  more_steps x e live =
      let by_table = (sound.numbered job x e).by_table in
      let three : x.job.steps ≡ 3 = (kept_job x e).steps in
      by_order x.job.done x.job.steps by_table.progress three (λ (all : x.job.done ≡ x.job.steps). live_unfinished x.job.state live (by_table.finished.0 all))
    where
      by_order : (done steps : ℕ) → done ≤ steps → steps ≡ 3 → (done ≡ steps → ⊥) → done < 3
      by_order done steps le three ne = omega (arith, le, three, ne)

  same_snapshot : (entry : FixedEntry) → snapshot_at entry s.loaded.items ≡ snapshot_now w (submitted_of rows_seen entry)
  same_snapshot entry =
      ap (λ (loaded : List (Option Rows)). snapshot_now (record w { loaded = loaded }) (submitted_of rows_seen entry)) (sym i.loaded)

  pub rows_here : (entry : FixedEntry) → entry_at s.jobs.items job ≡ Some entry → length (fact_rows (snapshot_at entry s.loaded.items)) ≤ row_limit
  rows_here entry e =
      let fits = (fits_job (submitted_of rows_seen entry) (job_there w s job entry i e)).1.0 in
      subst (λ snapshot. length (fact_rows snapshot) ≤ row_limit) (sym (same_snapshot entry)) fits

  -- the task that is made
  pub task_here : (x : Submitted) (task : List ℕ) → job_of w job ≡ Some x → ((entry : FixedEntry) → entry_at s.jobs.items job ≡ Some entry → task ≡ task_kept (snapshot_at entry s.loaded.items) entry.products.items)
      → task ≡ task_kept (snapshot_now w x) (kept_of (products_of s) job)
  task_here x task there made = by_entry (entry_at s.jobs.items job) refl
    where
      by_entry : (o : Option FixedEntry) → entry_at s.jobs.items job ≡ o → task ≡ task_kept (snapshot_now w x) (kept_of (products_of s) job)
      by_entry None e = let none : None ≡ Some x = sym (told_job ∙ ap (option_map (submitted_of rows_seen)) e) ∙ there in cc
      by_entry (Some entry) e =
          let same : submitted_of rows_seen entry ≡ x = some_same (submitted_of rows_seen entry) x (sym (told_job ∙ ap (option_map (submitted_of rows_seen)) e) ∙ there) in
          made entry e ∙ (ap (λ snapshot. task_kept snapshot entry.products.items) (same_snapshot entry ∙ ap (snapshot_now w) same)
          ∙ ap (task_kept (snapshot_now w x)) (sym (kept_at s job entry e)))

  -- where hands are honest it is the task of the next step
  pub honest_here : (x : Submitted) (task : List ℕ) → job_of w job ≡ Some x → is_live x.job.state ≡ true → honest → task ≡ task_kept (snapshot_now w x) (kept_of (products_of s) job) → task ≡ next_task fixed w x
  honest_here x task there live h made = made ∙ task_is honest w x (kept_of (products_of s) job) (kept_job x there) h live

  module _ (front : slice_get s.queue.items 0 ≡ Some job) where
    claimable_here : is_claimable_at (entry_at s.jobs.items job) ≡ true
    claimable_here = sym (queued fixed rows_seen ready_seen w s sound i job) ∙ has_first s.queue.items job front

    pub there_here : IsSome (entry_at s.jobs.items job)
    there_here = by_entry (entry_at s.jobs.items job) claimable_here
      where
        by_entry : (o : Option FixedEntry) → is_claimable_at o ≡ true → IsSome o
        by_entry None h = cc
        by_entry (Some entry) h = refl

    entry_live : (entry : FixedEntry) → entry_at s.jobs.items job ≡ Some entry → is_live entry.job.state ≡ true
    entry_live entry e = claimable_live entry.job.state entry.job.in_flight (sym (ap is_claimable_at e) ∙ claimable_here)

    pub live_here : (x : Submitted) → job_of w job ≡ Some x → is_live x.job.state ≡ true
    live_here x there = by_entry (entry_at s.jobs.items job) refl
      where
        by_entry : (o : Option FixedEntry) → entry_at s.jobs.items job ≡ o → is_live x.job.state ≡ true
        by_entry None e = let none : None ≡ Some x = sym (told_job ∙ ap (option_map (submitted_of rows_seen)) e) ∙ there in cc
        by_entry (Some entry) e =
            let same : submitted_of rows_seen entry ≡ x = some_same (submitted_of rows_seen entry) x (sym (told_job ∙ ap (option_map (submitted_of rows_seen)) e) ∙ there) in
            sym (ap (λ (y : Submitted). is_live y.job.state) same) ∙ entry_live entry e

    pub steps_here : (entry : FixedEntry) → entry_at s.jobs.items job ≡ Some entry → length entry.products.items < 255
    steps_here entry e =
        let x = submitted_of rows_seen entry in
        let there = job_there w s job entry i e in
        let done : length (kept_of (products_of s) job) ≡ entry.job.done = (kept_job x there).counted (entry_live entry e) in
        let less : entry.job.done < 3 = more_steps x there (entry_live entry e) in
        let same : length (kept_of (products_of s) job) ≡ length entry.products.items = ap length (kept_at s job entry e) in
        omega arith

    -- what is made for the job of the front is a task
    pub is_task_first : (task : List ℕ) → ((entry : FixedEntry) → entry_at s.jobs.items job ≡ Some entry → task ≡ task_kept (snapshot_at entry s.loaded.items) entry.products.items) → IsTask task
    is_task_first task made = by_entry (entry_at s.jobs.items job) refl
      where
        by_entry : (o : Option FixedEntry) → entry_at s.jobs.items job ≡ o → IsTask task
        by_entry None e = let clash : false ≡ true = sym (ap is_claimable_at e) ∙ claimable_here in absurd (no clash)
          where
            no : false ≡ true → ⊥
            no f = cc
        by_entry (Some entry) e =
            let x = submitted_of rows_seen entry in
            let there = job_there w s job entry i e in
            subst IsTask (sym (task_here x task there made)) (kept_task (snapshot_now w x) (kept_of (products_of s) job) (fits_job x there) (kept_job x there).next)
