-- What the ends of steps make of a world.
use Rattle.std.proofs.Common.{◌≡◌, ℕ, Bool, true, false, cond, ◌++◌, ◌∷◌, [], Option, Some, None, refl, ap, ◌∙◌}
use Rattle.job_machine.specs.Job.{Act, JobRecord, ended_failed, is_current, is_last_step, next}
use Rattle.job_machine.specs.declared.state.Ended.{Ended}
use Rattle.job_machine.specs.declared.state.Ended.TheVariants as ended
use Rattle.run_history.specs.Sets.{swapped}
use Rattle.run_history.specs.Steps.{end_by, ended_as, step_ended, with_job, with_set}
use Rattle.run_history.specs.World.{Submitted, World, origin_of}
use Rattle.run_history.specs.declared.event.Outcome.{Outcome}
use Rattle.run_history.specs.declared.event.Outcome.TheVariants.{Done, NotStarted, Ended as EndedWith, Killed, NoFile, Damaged, Memory}
use Rattle.run_state.specs.Answers.{is_failure}

failing : (outcome : Outcome) (job : JobRecord) (attempt : ℕ) → is_failure outcome ≡ true → end_by outcome job attempt ≡ ended_failed job attempt
failing Done job attempt h = cc
failing NotStarted job attempt h = refl
failing (EndedWith status) job attempt h = refl
failing Killed job attempt h = refl
failing NoFile job attempt h = refl
failing Damaged job attempt h = refl
failing Memory job attempt h = refl

stale_end : (outcome : Outcome) (job : JobRecord) (attempt : ℕ) → is_current job attempt ≡ false → end_by outcome job attempt ≡ ended.Stale
stale_end Done job attempt h = ap (λ (b : Bool). cond b (cond (is_last_step job) ended.Finished ended.Advanced) ended.Stale) h
stale_end NotStarted job attempt h = ap (λ (b : Bool). cond b ended.Failed ended.Stale) h
stale_end (EndedWith status) job attempt h = ap (λ (b : Bool). cond b ended.Failed ended.Stale) h
stale_end Killed job attempt h = ap (λ (b : Bool). cond b ended.Failed ended.Stale) h
stale_end NoFile job attempt h = ap (λ (b : Bool). cond b ended.Failed ended.Stale) h
stale_end Damaged job attempt h = ap (λ (b : Bool). cond b ended.Failed ended.Stale) h
stale_end Memory job attempt h = ap (λ (b : Bool). cond b ended.Failed ended.Stale) h

module _ {Q : Type 0} (w : World Q) (number attempt : ℕ) where
  -- the job is there, or isn't
  pub stale_world : (outcome : Outcome) (s : Submitted) (o : Option Submitted) → o ≡ Some s → is_current s.job attempt ≡ false → step_ended w number attempt outcome o ≡ w
  stale_world outcome s o there h =
      ap (step_ended w number attempt outcome) there ∙ ap (λ (e : Ended). ended_as e w number s) (stale_end outcome s.job attempt h)

  pub absent_world : (outcome : Outcome) (o : Option Submitted) → o ≡ None → step_ended w number attempt outcome o ≡ w
  absent_world outcome o there = ap (step_ended w number attempt outcome) there

  pub failed_world : (outcome : Outcome) (s : Submitted) (o : Option Submitted) → o ≡ Some s → is_failure outcome ≡ true → is_current s.job attempt ≡ true
      → step_ended w number attempt outcome o ≡ record w { jobs = with_job w.jobs number (record s { job = next Act.Fail s.job }) }
  failed_world outcome s o there fails h =
      ap (step_ended w number attempt outcome) there
      ∙ (ap (λ (e : Ended). ended_as e w number s) (failing outcome s.job attempt fails) ∙ ap (λ (b : Bool). ended_as (cond b ended.Failed ended.Stale) w number s) h)

  pub advanced_world : (s : Submitted) (o : Option Submitted) → o ≡ Some s → is_current s.job attempt ≡ true → is_last_step s.job ≡ false
      → step_ended w number attempt Done o ≡ record w { jobs = with_job w.jobs number (record s { job = next Act.Advance s.job }); queue = w.queue ++ number ∷ [] }
  advanced_world s o there h last =
      ap (step_ended w number attempt Done) there
      ∙ (ap (λ (b : Bool). ended_as (cond b (cond (is_last_step s.job) ended.Finished ended.Advanced) ended.Stale) w number s) h ∙ ap (λ (b : Bool). ended_as (cond b ended.Finished ended.Advanced) w number s) last)

  pub finished_world : (s : Submitted) (o : Option Submitted) → o ≡ Some s → is_current s.job attempt ≡ true → is_last_step s.job ≡ true
      → step_ended w number attempt Done o
      ≡ with_set (record w { jobs = with_job w.jobs number (record s { job = next Act.Finish s.job }) }) (swapped (record { range = s.range; job = number; origin = origin_of w s }) w.ready)
  finished_world s o there h last =
      ap (step_ended w number attempt Done) there
      ∙ (ap (λ (b : Bool). ended_as (cond b (cond (is_last_step s.job) ended.Finished ended.Advanced) ended.Stale) w number s) h ∙ ap (λ (b : Bool). ended_as (cond b ended.Finished ended.Advanced) w number s) last)
