-- What acts leave of a job, and of what is kept of it.
use Rattle.std.proofs.Common.{◌≡◌, ℕ, ◌+◌, true, false, Option, Some, None, List, [], ◌∷◌, ◌++◌, map, unwrap_or, refl, sym, ap, ◌∙◌, subst, add-one, length-append}
use Rattle.std.specs.Prelude.{is_some}
use Rattle.fixed_cube.specs.Columns.{fact_columns, row_limit}
use Rattle.fixed_cube.specs.Cube.{FitsSnapshot, fact_rows, job_task}
use Rattle.fixed_cube.specs.Tasks.{product_of}
use Rattle.job_machine.specs.Job.{Act, JobRecord, moved_or_same, next, state_after}
use Rattle.job_machine.specs.declared.state.JobState.{JobState}
use Rattle.job_machine.specs.declared.state.JobState.TheVariants.{Pending, Running, Error, Stopped, Discarded, Finished}
use Rattle.plain_answer.specs.declared.ask.Ask.{Ask}
use Rattle.range_list.specs.Ranges.{Interval}
use Rattle.run_history.specs.Cubes.{Rows}
use Rattle.run_history.specs.World.{Submitted, World, in_force, is_live}
use Rattle.run_history.proofs.Jobs.{finish_ends, running_live, same_job}
use Rattle.step_fields.specs.Fits.{FitsRows}
use Rattle.fixed_state.specs.Kept.{IsKept, IsLoaded, first_snapshot}
use Rattle.fixed_state.specs.Tasks.{IsTaskAfter, products_due, snapshot_now}
use Rattle.fixed_state.proofs.NextTasks.{none_after}

-- ---- jobs

-- an act that is no success of a step
abbrev pub IsNoStep : Act → Type 0
IsNoStep Act.Claim = Unit {0}
IsNoStep Act.Advance = ⊥
IsNoStep Act.Finish = ⊥
IsNoStep Act.Fail = Unit {0}
IsNoStep Act.Pause = Unit {0}
IsNoStep Act.Resume = Unit {0}
IsNoStep Act.Discard = Unit {0}

done_moved : (act : Act) (o : Option JobState) (job : JobRecord) → IsNoStep act → (moved_or_same act o job).done ≡ job.done
done_moved act None job h = refl
done_moved Act.Claim (Some state) job h = refl
done_moved Act.Advance (Some state) job h = absurd h
done_moved Act.Finish (Some state) job h = absurd h
done_moved Act.Fail (Some state) job h = refl
done_moved Act.Pause (Some state) job h = refl
done_moved Act.Resume (Some state) job h = refl
done_moved Act.Discard (Some state) job h = refl

pub done_next : (act : Act) (job : JobRecord) → IsNoStep act → (next act job).done ≡ job.done
done_next act job h = done_moved act (state_after act job.state) job h

rest_state : (before : JobState) (job : JobRecord) → before ≡ job.state → is_live job.state ≡ true → is_live before ≡ true
rest_state before job e h = subst (λ (state : JobState). is_live state ≡ true) (sym e) h

live_by : (act : Act) (before : JobState) (job : JobRecord) → before ≡ job.state → is_live (moved_or_same act (state_after act before) job).state ≡ true → is_live before ≡ true
live_by act Pending job e h = refl
live_by act Running job e h = refl
live_by act Error job e h = refl
live_by act Stopped job e h = refl
live_by Act.Claim Discarded job e h = rest_state Discarded job e h
live_by Act.Advance Discarded job e h = rest_state Discarded job e h
live_by Act.Finish Discarded job e h = rest_state Discarded job e h
live_by Act.Fail Discarded job e h = rest_state Discarded job e h
live_by Act.Pause Discarded job e h = rest_state Discarded job e h
live_by Act.Resume Discarded job e h = rest_state Discarded job e h
live_by Act.Discard Discarded job e h = rest_state Discarded job e h
live_by Act.Claim Finished job e h = rest_state Finished job e h
live_by Act.Advance Finished job e h = rest_state Finished job e h
live_by Act.Finish Finished job e h = rest_state Finished job e h
live_by Act.Fail Finished job e h = rest_state Finished job e h
live_by Act.Pause Finished job e h = rest_state Finished job e h
live_by Act.Resume Finished job e h = rest_state Finished job e h
live_by Act.Discard Finished job e h = rest_state Finished job e h

pub live_next : (act : Act) (job : JobRecord) → is_live (next act job).state ≡ true → is_live job.state ≡ true
live_next act job h = live_by act job.state job refl h

advanced : (job : JobRecord) → job.state ≡ Running → next Act.Advance job ≡ record job { state = Running; in_flight = false; done = job.done + 1 }
advanced job h = ap (λ (state : JobState). moved_or_same Act.Advance (state_after Act.Advance state) job) h

-- ---- snapshots

pub fits_tables : (tables : Option (List Rows)) (range : Interval) (loaded : List (Option Rows)) → IsLoaded loaded → FitsSnapshot (record { tables = unwrap_or tables []; range = range })
    → FitsSnapshot (record { tables = unwrap_or tables (map (λ rows. unwrap_or rows []) loaded); range = range })
fits_tables (Some tables) range loaded l f = f
fits_tables None range loaded l f =
    (f.0, subst (λ (some : List (Option Rows)). FitsRows fact_columns row_limit (fact_rows (record { tables = map (λ rows. unwrap_or rows []) some; range = range }))) (sym l.only) l.fits)

pub due_tables : (tables : Option (List Rows)) (range : Interval) (forced : List Rows) (done : ℕ) → (tables ≡ None → done ≡ 0)
    → products_due (record { tables = unwrap_or tables []; range = range }) done ≡ products_due (record { tables = unwrap_or tables forced; range = range }) done
due_tables (Some tables) range forced done h = refl
due_tables None range forced done h =
    ap (products_due (record { tables = []; range = range })) (h refl) ∙ sym (ap (products_due (record { tables = forced; range = range })) (h refl))

-- ---- what is kept of a job

module _ (honest : Type 0) where
  -- an act that is no success of a step keeps it
  pub kept_act : (act : Act) (s : Submitted) (kept : List (List ℕ)) → IsNoStep act → IsKept honest s kept → IsKept honest (record s { job = next act s.job }) kept
  kept_act act s kept quiet k =
      let e = done_next act s.job quiet in
      let same = same_job act s.job in
      record {
        build = same.kind ∙ k.build;
        steps = same.steps ∙ k.steps;
        fits = k.fits;
        next = k.next;
        begun = λ none. e ∙ k.begun none;
        counted = λ live. k.counted (live_next act s.job live) ∙ sym e;
        made = λ h live. k.made h (live_next act s.job live) ∙ ap (products_due (first_snapshot s)) (sym e);
      }

  -- so does a claim, which settles the tables
  pub kept_claim : (w : World Ask) (s : Submitted) (kept : List (List ℕ)) → IsLoaded w.loaded → IsKept honest s kept
      → IsKept honest (record s { job = next Act.Claim s.job; tables = Some (unwrap_or s.tables (in_force w)) }) kept
  kept_claim w s kept l k =
      let e = done_next Act.Claim s.job tt in
      let same = same_job Act.Claim s.job in
      record {
        build = same.kind ∙ k.build;
        steps = same.steps ∙ k.steps;
        fits = fits_tables s.tables s.range w.loaded l k.fits;
        next = k.next;
        begun = λ none. cc;
        counted = λ live. k.counted (live_next Act.Claim s.job live) ∙ sym e;
        made = λ h live. k.made h (live_next Act.Claim s.job live) ∙ (due_tables s.tables s.range (in_force w) s.job.done k.begun ∙ ap (products_due (snapshot_now w s)) (sym e));
      }

  -- the success of a step that isn't the last adds its product
  pub kept_advance : (s : Submitted) (kept : List (List ℕ)) (bytes : List ℕ) → s.job.state ≡ Running → is_some s.tables ≡ true
      → (honest → bytes ≡ product_of (job_task (first_snapshot s) s.job.done)) → IsTaskAfter (kept ++ bytes ∷ []) → IsKept honest s kept → IsKept honest (record s { job = next Act.Advance s.job }) (kept ++ bytes ∷ [])
  kept_advance s kept bytes running there product after k =
      let e : (next Act.Advance s.job).done ≡ s.job.done + 1 = ap (λ (job : JobRecord). job.done) (advanced s.job running) in
      let same = same_job Act.Advance s.job in
      let live = running_live s.job.state running in
      let count = k.counted live in
      record {
        build = same.kind ∙ k.build;
        steps = same.steps ∙ k.steps;
        fits = k.fits;
        next = after;
        begun = λ none. absurd (absent s.tables there none);
        counted = λ _. length-append kept (bytes ∷ []) ∙ (ap (λ (n : ℕ). n + 1) count ∙ sym e);
        made = λ h _. ap (λ (xs : List (List ℕ)). xs ++ bytes ∷ []) (k.made h live) ∙ (ap (λ (x : List ℕ). products_due (first_snapshot s) s.job.done ++ x ∷ []) (product h) ∙ ap (products_due (first_snapshot s)) (sym (e ∙ add-one s.job.done)));
      }
    where
      absent : (o : Option (List Rows)) → is_some o ≡ true → o ≡ None → ⊥
      absent None h e = cc
      absent (Some x) h e = cc

  -- and that of the last ends what is kept
  pub kept_finish : (s : Submitted) (kept : List (List ℕ)) → s.job.state ≡ Running → is_some s.tables ≡ true → IsKept honest s kept → IsKept honest (record s { job = next Act.Finish s.job }) []
  kept_finish s kept running there k =
      let same = same_job Act.Finish s.job in
      let ends = finish_ends s.job.state s.job running in
      record {
        build = same.kind ∙ k.build;
        steps = same.steps ∙ k.steps;
        fits = k.fits;
        next = none_after;
        begun = λ none. absurd (absent s.tables there none);
        counted = λ live. absurd (dead (next Act.Finish s.job).state ends live);
        made = λ h live. absurd (dead (next Act.Finish s.job).state ends live);
      }
    where
      absent : (o : Option (List Rows)) → is_some o ≡ true → o ≡ None → ⊥
      absent None h e = cc
      absent (Some x) h e = cc

      dead : (state : JobState) → state ≡ Finished → is_live state ≡ true → ⊥
      dead state e h = let f : is_live Finished ≡ true = subst (λ (x : JobState). is_live x ≡ true) e h in cc

  -- a discard ends it too
  pub kept_discard : (s : Submitted) (kept : List (List ℕ)) → IsKept honest s kept → IsKept honest (record s { job = next Act.Discard s.job }) []
  kept_discard s kept k =
      let e = done_next Act.Discard s.job tt in
      let same = same_job Act.Discard s.job in
      record {
        build = same.kind ∙ k.build;
        steps = same.steps ∙ k.steps;
        fits = k.fits;
        next = none_after;
        begun = λ none. e ∙ k.begun none;
        counted = λ live. absurd (over s.job.state s.job refl live);
        made = λ h live. absurd (over s.job.state s.job refl live);
      }
    where
      clash : false ≡ true → ⊥
      clash h = cc

      ended_state : (before : JobState) (job : JobRecord) → before ≡ job.state → is_live before ≡ false → is_live job.state ≡ true → ⊥
      ended_state before job e dead live = clash (sym dead ∙ (ap is_live e ∙ live))

      over : (before : JobState) (job : JobRecord) → before ≡ job.state → is_live (moved_or_same Act.Discard (state_after Act.Discard before) job).state ≡ true → ⊥
      over Pending job e live = clash live
      over Running job e live = clash live
      over Error job e live = clash live
      over Stopped job e live = clash live
      over Discarded job e live = ended_state Discarded job e refl live
      over Finished job e live = ended_state Finished job e refl live
