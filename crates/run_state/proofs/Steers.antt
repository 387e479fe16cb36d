-- What a command on a job makes of a world.
use Rattle.std.proofs.Common.{◌≡◌, ℕ, zero, suc, ◌+◌, ◌-◌, true, false, Option, Some, None, Result, Ok, Err, List, [], ◌∷◌, ◌++◌, set, slice_get, map, refl, sym, ap, ◌∙◌, arith}
use Rattle.std.specs.Prelude.{is_err, is_ok, option_map}
use Rattle.std.proofs.lemmas.Option.{slice_get-map}
use Rattle.job_machine.specs.Job.{Act, JobRecord, moved_or_same, next, state_after}
use Rattle.job_machine.specs.declared.state.JobState.{JobState}
use Rattle.run_history.specs.Commands.Command.{Steer}
use Rattle.run_history.specs.Cubes.{Rows}
use Rattle.run_history.specs.Steps.{by_verdict, steered, steered_queue, with_job}
use Rattle.run_history.specs.Verdicts.{act_of, steer_by, steer_refusal}
use Rattle.run_history.specs.World.{Submitted, World, job_at, job_of, nothing_loaded}
use Rattle.run_history.specs.declared.command.Control.{Control}
use Rattle.run_history.specs.declared.command.Control.TheVariants.{Discard, Pause, Resume}
use Rattle.run_history.specs.declared.refused.Refused.{Refused}
use Rattle.run_state.specs.Answers.{products_left, products_steered, refusal_of, steered_job, steered_to}
use Rattle.run_state.specs.Numbered.{NumberedSet}
use Rattle.run_state.specs.Orders.{MovesJob}
use Rattle.run_state.specs.States.{IsStateOf, submitted_of}
use Rattle.run_state.specs.declared.parts.Controlled.{Controlled}
use Rattle.run_state.specs.declared.parts.JobEntry.{JobEntry}
use Rattle.run_state.specs.declared.parts.RunState.{RunState}
use Rattle.run_state.proofs.Entries.{job_there}
use Rattle.run_state.proofs.Lists.{some_eq}
use Rattle.run_state.proofs.Turns.{moved_jobs}

pub steered_ok : (control : Control) (job : JobRecord) (r : Result Controlled Refused) → r ≡ steered_job control job → is_ok r ≡ true → (after : JobState) × (state_after (act_of control) job.state ≡ Some after)
steered_ok control job r e ok = by_after (state_after (act_of control) job.state) refl e
  where
    by_after : (o : Option JobState) → state_after (act_of control) job.state ≡ o → r ≡ steered_to control job o → (after : JobState) × (state_after (act_of control) job.state ≡ Some after)
    by_after None f h = let clash : true ≡ false = sym ok ∙ ap is_ok h in cc
    by_after (Some after) f h = (after, f)

pub steered_err : (control : Control) (job : JobRecord) (r : Result Controlled Refused) → r ≡ steered_job control job → is_ok r ≡ false → state_after (act_of control) job.state ≡ None
steered_err control job r e err = by_after (state_after (act_of control) job.state) refl e
  where
    by_after : (o : Option JobState) → state_after (act_of control) job.state ≡ o → r ≡ steered_to control job o → state_after (act_of control) job.state ≡ None
    by_after None f h = f
    by_after (Some after) f h = let clash : false ≡ true = sym err ∙ ap is_ok h in cc

pub same_job : (act : Act) (job : JobRecord) → state_after act job.state ≡ None → next act job ≡ job
same_job act job h = ap (λ (o : Option JobState). moved_or_same act o job) h

module _ {Q : Type 0} (w : World Q) (line number : ℕ) (control : Control) (s : Submitted) (there : job_of w number ≡ Some s) where
  pub steered_world : (after : JobState) → state_after (act_of control) s.job.state ≡ Some after
      → by_verdict (steer_refusal control number (job_of w number)) 0 (record w { line = line }) (Steer control number)
      ≡ record w { line = line; jobs = with_job w.jobs number (record s { job = next (act_of control) s.job }); queue = steered_queue control number w.queue }
  steered_world after h =
      ap (λ (o : Option Submitted). by_verdict (steer_refusal control number o) 0 (record w { line = line }) (Steer control number)) there
      ∙ (ap (λ (o : Option JobState). by_verdict (steer_by s.job.state o) 0 (record w { line = line }) (Steer control number)) h
      ∙ ap (steered (record w { line = line }) control number) there)

  pub refused_world : state_after (act_of control) s.job.state ≡ None
      → by_verdict (steer_refusal control number (job_of w number)) 0 (record w { line = line }) (Steer control number) ≡ record w { line = line }
  refused_world h =
      ap (λ (o : Option Submitted). by_verdict (steer_refusal control number o) 0 (record w { line = line }) (Steer control number)) there
      ∙ ap (λ (o : Option JobState). by_verdict (steer_by s.job.state o) 0 (record w { line = line }) (Steer control number)) h

-- a place that is written as it was
pub set_same : {X : Type 0} (xs : List X) (place : ℕ) (x : X) → slice_get xs place ≡ Some x → set xs place x ≡ xs
set_same [] place x e = refl
set_same (y ∷ xs) zero x e = ap (λ (z : _). z ∷ xs) (sym (some_eq y x e))
set_same (y ∷ xs) (suc place) x e = ap (λ (zs : List _). y ∷ zs) (set_same xs place x e)

module _ {T P R Q : Type 0} (rows : T → Rows) (ready_set : R → NumberedSet) (w : World Q) (s : RunState T P R Q) (i : IsStateOf rows ready_set w s) (number place : ℕ) (e : place + 1 ≡ number) (new : List (JobEntry T P))
    (after : JobRecord → JobRecord) (kept : List P → List P) (ch : MovesJob s.jobs.items new place after kept) where
  pub job_at_place : job_of w number ≡ Some (submitted_of rows ch.entry)
  job_at_place = ap (λ (jobs : List Submitted). job_at jobs number) i.jobs ∙ job_there rows s.jobs.items number place ch.entry e ch.at

  pub moved_kept : with_job w.jobs number (record (submitted_of rows ch.entry) { job = after ch.entry.job }) ≡ map (submitted_of rows) new
  moved_kept =
      let back : number - 1 ≡ place = omega arith in
      ap (λ (jobs : List Submitted). with_job jobs number (record (submitted_of rows ch.entry) { job = after ch.entry.job })) i.jobs
      ∙ (ap (λ (n : ℕ). set (map (submitted_of rows) s.jobs.items) n (record (submitted_of rows ch.entry) { job = after ch.entry.job })) back ∙ sym (moved_jobs rows s.jobs.items new place after kept ch (after ch.entry.job) refl))

  -- where the job is as it was, so are the jobs
  pub unmoved_jobs : after ch.entry.job ≡ ch.entry.job → w.jobs ≡ map (submitted_of rows) new
  unmoved_jobs same =
      i.jobs ∙ sym (moved_jobs rows s.jobs.items new place after kept ch ch.entry.job same ∙ set_same (map (submitted_of rows) s.jobs.items) place (submitted_of rows ch.entry)
      (slice_get-map (submitted_of rows) s.jobs.items place ∙ ap (option_map (submitted_of rows)) ch.at))

-- ---- what is kept of the products

pub left_refused : {P : Type 0} (control : Control) (refused : Refused) (products : List P) → products_left control (Some refused) products ≡ products
left_refused Discard refused products = refl
left_refused Pause refused products = refl
left_refused Resume refused products = refl

-- a refusal keeps them, and an acceptance is no refusal
pub refused_here : {P : Type 0} (control : Control) (answer : Result Controlled Refused) (products : List P) → is_err answer ≡ true → products ≡ products_left control (refusal_of answer) products
refused_here control (Ok done) products e = cc
refused_here control (Err refused) products e = sym (left_refused control refused products)

pub accepted_here : (answer : Result Controlled Refused) → is_err answer ≡ false → refusal_of answer ≡ None
accepted_here (Ok done) e = refl
accepted_here (Err refused) e = cc

pub steered_refused : {P : Type 0} (control : Control) (refused : Refused) (number : ℕ) (products : List (List P)) → products_steered control (Some refused) number products ≡ products
steered_refused Discard refused number products = refl
steered_refused Pause refused number products = refl
steered_refused Resume refused number products = refl

pub products_moved : {P : Type 0} (control : Control) (refusal : Option Refused) (number place : ℕ) (products : List (List P)) (own : List P) → place + 1 ≡ number → slice_get products place ≡ Some own
    → set products place (products_left control refusal own) ≡ products_steered control refusal number products
products_moved Discard None number place products own e at = let back : place ≡ number - 1 = omega arith in ap (λ (n : ℕ). set products n []) back
products_moved Discard (Some refused) number place products own e at = set_same products place own at
products_moved Pause refusal number place products own e at = set_same products place own at
products_moved Resume refusal number place products own e at = set_same products place own at

-- one table more that was not loaded
absent_next : (n : ℕ) → nothing_loaded n ++ None ∷ [] ≡ nothing_loaded (suc n)
absent_next zero = refl
absent_next (suc n) = ap (λ l. None ∷ l) (absent_next n)

pub absent_more : (n : ℕ) → nothing_loaded n ++ None ∷ [] ≡ nothing_loaded (n + 1)
absent_more n = let next : suc n ≡ n + 1 = omega arith in absent_next n ∙ ap nothing_loaded next
