-- What is recorded of the ends of steps.
use Rattle.std.proofs.Common.{◌≡◌, ℕ, Bool, true, false, Option, Some, None, Ok, Err, List, refl, sym, ap, ◌∙◌, subst}
use Rattle.std.specs.Prelude.{option_map}
use Rattle.fixed_cube.specs.Cube.{fixed, job_task}
use Rattle.fixed_cube.specs.Tasks.{is_product, product_of}
use Rattle.fixed_cube.proofs.JobFacts.{has_product}
use Rattle.fixed_state.specs.Ends.{Answer, IsJudged, IsOutcomeOf, IsProductOf, ended_at, kept_of, outcome_of, stale_outcome}
use Rattle.fixed_state.specs.Kept.{AreKept}
use Rattle.fixed_state.specs.States.{FixedEntry, FixedState, StandsFor, rows_seen, cells_of}
use Rattle.fixed_state.specs.Tasks.{snapshot_now, task_kept}
use Rattle.fixed_state.proofs.Jobs.{fits_tables}
use Rattle.fixed_state.proofs.TaskFacts.{next_of_build, task_is}
use Rattle.job_board.specs.BoardModel.{IsCountedAs, IsRecordedAs, ended_of}
use Rattle.job_machine.specs.Job.{is_current}
use Rattle.outside.specs.declared.hand.HandFault.{HandFault}
use Rattle.outside.specs.declared.hand.HandFault.TheVariants as fault
use Rattle.plain_answer.specs.declared.ask.Ask.{Ask as Query}
use Rattle.run_history.specs.Cubes.{Snapshot}
use Rattle.run_history.specs.Invariants.{IsSound}
use Rattle.run_history.specs.World.{Submitted, World, job_of, next_task}
use Rattle.run_history.specs.declared.event.Outcome.{Outcome}
use Rattle.run_history.specs.declared.event.Outcome.TheVariants.{Damaged}
use Rattle.run_history.proofs.Jobs.{current_counts, running_live}
use Rattle.run_state.specs.Orders.{is_current_at, products_of}
use Rattle.run_state.specs.States.{entry_at, submitted_of}
use Rattle.job_board.proofs.Claiming.{kept_job, more_steps, told_job}

fault_never : (fault : HandFault) → outcome_of fault ≡ Damaged → ⊥
fault_never fault.Memory e = cc
fault_never fault.NotStarted e = cc
fault_never (fault.Ended status) e = cc
fault_never fault.Killed e = cc
fault_never fault.NoFile e = cc

stale_never : (answer : Answer) → stale_outcome answer ≡ Damaged → ⊥
stale_never (Ok product) e = cc
stale_never (Err fault) e = fault_never fault e

clash : true ≡ false → ⊥
clash e = cc

ended_by : (o : Option FixedEntry) (attempt : ℕ) (outcome : Outcome) → ended_at o attempt outcome ≡ ended_of (option_map (submitted_of rows_seen) o) attempt outcome
ended_by None attempt outcome = refl
ended_by (Some entry) attempt outcome = refl

module _ (honest : Type 0) (w : World Query) (s : FixedState) (i : StandsFor w s) (sound : IsSound fixed w) (k : AreKept honest w (products_of s) (cells_of s)) (job attempt : ℕ) (answer : Answer) (outcome : Outcome) where
  pub ended_same : ended_at (entry_at s.jobs.items job) attempt outcome ≡ ended_of (job_of w job) attempt outcome
  ended_same = ended_by (entry_at s.jobs.items job) attempt outcome ∙ ap (λ (o : Option Submitted). ended_of o attempt outcome) (sym (told_job honest w s i sound k job))

  pub recorded_here : (is_current_at (entry_at s.jobs.items job) attempt ≡ false → outcome ≡ stale_outcome answer)
      → (is_current_at (entry_at s.jobs.items job) attempt ≡ true → (snapshot : Snapshot) → IsOutcomeOf (task_kept snapshot (kept_of (products_of s) job)) answer outcome)
      → IsRecordedAs w (job_of w job) (kept_of (products_of s) job) attempt answer outcome
  recorded_here stale counted = by_entry (entry_at s.jobs.items job) refl
    where
      by_entry : (o : Option FixedEntry) → entry_at s.jobs.items job ≡ o → IsRecordedAs w (job_of w job) (kept_of (products_of s) job) attempt answer outcome
      by_entry None e =
          subst (λ (o : Option Submitted). IsRecordedAs w o (kept_of (products_of s) job) attempt answer outcome) (sym (told_job honest w s i sound k job ∙ ap (option_map (submitted_of rows_seen)) e))
          (stale (ap (λ (o : Option FixedEntry). is_current_at o attempt) e))
      by_entry (Some entry) e =
          subst (λ (o : Option Submitted). IsRecordedAs w o (kept_of (products_of s) job) attempt answer outcome) (sym (told_job honest w s i sound k job ∙ ap (option_map (submitted_of rows_seen)) e))
          (by_current (is_current entry.job attempt) refl)
        where
          by_current : (c : Bool) → is_current entry.job attempt ≡ c → IsCountedAs (is_current entry.job attempt) (task_kept (snapshot_now w (submitted_of rows_seen entry)) (kept_of (products_of s) job)) answer outcome
          by_current true f =
              subst (λ (c : Bool). IsCountedAs c (task_kept (snapshot_now w (submitted_of rows_seen entry)) (kept_of (products_of s) job)) answer outcome) (sym f)
              (counted (ap (λ (o : Option FixedEntry). is_current_at o attempt) e ∙ f) (snapshot_now w (submitted_of rows_seen entry)))
          by_current false f =
              subst (λ (c : Bool). IsCountedAs c (task_kept (snapshot_now w (submitted_of rows_seen entry)) (kept_of (products_of s) job)) answer outcome) (sym f)
              (stale (ap (λ (o : Option FixedEntry). is_current_at o attempt) e ∙ f))

  -- an honest hand's product is one
  own_product : (x : Submitted) (bytes : List ℕ) → job_of w job ≡ Some x → honest → is_current x.job attempt ≡ true → bytes ≡ product_of (next_task fixed w x)
      → is_product (task_kept (snapshot_now w x) (kept_of (products_of s) job)) bytes ≡ true
  own_product x bytes there h current due =
      let kept = kept_job honest w s i sound k job x there in
      let live = running_live x.job.state (current_counts x.job attempt current).running in
      let task = task_is honest w x (kept_of (products_of s) job) kept h live in
      let next = next_of_build w x kept.build in
      ap (λ (t : List ℕ). is_product t bytes) (task ∙ next) ∙ (ap (is_product (job_task (snapshot_now w x) x.job.done)) (due ∙ ap product_of next)
      ∙ has_product (snapshot_now w x) x.job.done (fits_tables x.tables x.range w.loaded k.loaded kept.fits) (more_steps honest w s i sound k job x there live))

  counted_never : (x : Submitted) (a : Answer) → job_of w job ≡ Some x → honest → is_current x.job attempt ≡ true → IsProductOf w (Some x) attempt a
      → IsOutcomeOf (task_kept (snapshot_now w x) (kept_of (products_of s) job)) a outcome → outcome ≡ Damaged → ⊥
  counted_never x (Err fault) there h current product r e = fault_never fault (sym r ∙ e)
  counted_never x (Ok bytes) there h current product r e =
      let judged : IsJudged (task_kept (snapshot_now w x) (kept_of (products_of s) job)) bytes.items Damaged =
      subst (IsJudged (task_kept (snapshot_now w x) (kept_of (products_of s) job)) bytes.items) e r in
      clash (sym (own_product x bytes.items there h current (product current)) ∙ judged)

  pub never_damaged : honest → IsProductOf w (job_of w job) attempt answer → IsRecordedAs w (job_of w job) (kept_of (products_of s) job) attempt answer outcome → outcome ≡ Damaged → ⊥
  never_damaged h product r e = by_job (job_of w job) refl product r
    where
      by_job : (o : Option Submitted) → job_of w job ≡ o → IsProductOf w o attempt answer → IsRecordedAs w o (kept_of (products_of s) job) attempt answer outcome → ⊥
      by_job None f p q = stale_never answer (sym q ∙ e)
      by_job (Some x) f p q = by_current (is_current x.job attempt) refl q
        where
          by_current : (c : Bool) → is_current x.job attempt ≡ c → IsCountedAs c (task_kept (snapshot_now w x) (kept_of (products_of s) job)) answer outcome → ⊥
          by_current true g counted = counted_never x answer f h g p counted e
          by_current false g stale = stale_never answer (sym stale ∙ e)
