-- Jobs of which none is in flight, and how claims and ends of steps leave them.
use Rattle.std.proofs.Common.{◌≡◌, ◌≢◌, ℕ, ◌+◌, Bool, true, false, Some, None, List, [], ◌∷◌, ◌++◌, length, refl, sym, ap, ◌∙◌, subst, inl, inr, eq-eqb}
use Rattle.std.proofs.lemmas.Bool.{cases_eq}
use Rattle.job_machine.specs.Job.{Act, JobRecord, is_current, moved_or_same, next, state_after}
use Rattle.job_machine.specs.declared.state.Ended.{Ended}
use Rattle.job_machine.specs.declared.state.Ended.TheVariants as ended
use Rattle.job_machine.specs.declared.state.JobState.{JobState}
use Rattle.job_machine.specs.declared.state.JobState.TheVariants.{Pending, Running, Error, Stopped, Discarded, Finished}
use Rattle.run_history.specs.Steps.{end_by, with_job}
use Rattle.run_history.specs.Verdicts.{act_of}
use Rattle.run_history.specs.World.{Submitted, job_at}
use Rattle.run_history.specs.declared.command.Control.{Control}
use Rattle.run_history.specs.declared.command.Control.TheVariants as control
use Rattle.run_history.specs.declared.event.Outcome.{Outcome}
use Rattle.run_history.proofs.Jobs.{advance_lands, by_advanced, by_failed, by_finished, by_stale, current_counts, fail_lands, finish_lands, flight_next}
use Rattle.run_history.proofs.Laws.{job_at-added, job_at-added_other, job_at-with_job, job_at-with_other}
use Rattle.coordinator.specs.Claims.{IsAloneInFlight}
use Rattle.coordinator.specs.Coordinator.{AreNotInFlight}

some_same : (a b : Submitted) → Some a ≡ Some b → a ≡ b
some_same a b h = cc

-- a job that isn't in flight, in the place of one
pub not_in_flight-set : (jobs : List Submitted) (n : ℕ) (s t : Submitted) → job_at jobs n ≡ Some s → t.job.in_flight ≡ false → ((m : ℕ) (u : Submitted) → m ≢ n → job_at jobs m ≡ Some u → u.job.in_flight ≡ false)
    → AreNotInFlight (with_job jobs n t)
not_in_flight-set jobs n s t at still others m u e = elim (cases_eq m n) [
  | inl same ↦
      let is : t ≡ u = some_same t u (sym (subst (λ (k : ℕ). job_at (with_job jobs n t) k ≡ Some t) (sym same) (job_at-with_job jobs n s t at)) ∙ e) in
      subst (λ (x : Submitted). x.job.in_flight ≡ false) is still
  | inr other ↦ others m u other (sym (job_at-with_other jobs n m s t at other) ∙ e)
]

pub not_in_flight-added : (jobs : List Submitted) (new : Submitted) → new.job.in_flight ≡ false → AreNotInFlight jobs → AreNotInFlight (jobs ++ new ∷ [])
not_in_flight-added jobs new still h m u e = elim (cases_eq m (length jobs + 1)) [
  | inl same ↦
      let is : new ≡ u = some_same new u (sym (subst (λ (k : ℕ). job_at (jobs ++ new ∷ []) k ≡ Some new) (sym same) (job_at-added jobs new)) ∙ e) in
      subst (λ (x : Submitted). x.job.in_flight ≡ false) is still
  | inr other ↦ h m u (sym (job_at-added_other jobs new m other) ∙ e)
]

two_ways : {b : Bool} → b ≡ true → b ≡ false → ⊥
two_ways e f = let clash : true ≡ false = sym e ∙ f in cc

by_flight : (b : Bool) → (b ≡ true → ⊥) → b ≡ false
by_flight true h = absurd (h refl)
by_flight false h = refl

no_claim : (control : Control) → act_of control ≢ Act.Claim
no_claim control.Pause = λ e. cc
no_claim control.Resume = λ e. cc
no_claim control.Discard = λ e. cc

-- a command on a job puts none in flight
pub not_in_flight-steered : (control : Control) (s : Submitted) → s.job.in_flight ≡ false → (next (act_of control) s.job).in_flight ≡ false
not_in_flight-steered control s still = by_flight (next (act_of control) s.job).in_flight (λ flight. elim (flight_next (act_of control) s.job flight) [
  | inl claim ↦ absurd (no_claim control claim)
  | inr before ↦ two_ways before still
])

-- a claim puts its job in flight, with its attempt, if it finds it waiting
claim_current : (before : JobState) (job : JobRecord) (attempt : ℕ) → attempt ≡ job.attempt + 1 → job.in_flight ≡ false → (moved_or_same Act.Claim (state_after Act.Claim before) job).in_flight ≡ true
    → is_current (moved_or_same Act.Claim (state_after Act.Claim before) job) attempt ≡ true
claim_current Pending job attempt e still flight = eq-eqb (job.attempt + 1) attempt (sym e)
claim_current Running job attempt e still flight = eq-eqb (job.attempt + 1) attempt (sym e)
claim_current Error job attempt e still flight = absurd (two_ways flight still)
claim_current Stopped job attempt e still flight = absurd (two_ways flight still)
claim_current Discarded job attempt e still flight = absurd (two_ways flight still)
claim_current Finished job attempt e still flight = absurd (two_ways flight still)

pub alone-claimed : (jobs : List Submitted) (n attempt : ℕ) (s t : Submitted) → job_at jobs n ≡ Some s → attempt ≡ s.job.attempt + 1 → t.job ≡ next Act.Claim s.job → AreNotInFlight jobs
    → IsAloneInFlight n attempt (with_job jobs n t)
alone-claimed jobs n attempt s t at first is h m u e flight = elim (cases_eq m n) [
  | inl same ↦
      let same_job : t ≡ u = some_same t u (sym (subst (λ (k : ℕ). job_at (with_job jobs n t) k ≡ Some t) (sym same) (job_at-with_job jobs n s t at)) ∙ e) in
      let now : u.job ≡ next Act.Claim s.job = ap (λ (x : Submitted). x.job) (sym same_job) ∙ is in (
        same,
        subst (λ (job : JobRecord). is_current job attempt ≡ true) (sym now)
            (claim_current s.job.state s.job attempt first (h n s at) (subst (λ (job : JobRecord). job.in_flight ≡ true) now flight)),
      )
  | inr other ↦ absurd (two_ways flight (h m u (sym (job_at-with_other jobs n m s t at other) ∙ e)))
]

-- and its end takes it out of flight
module _ (jobs : List Submitted) (n attempt : ℕ) (alone : IsAloneInFlight n attempt jobs) where
  others : (m : ℕ) (u : Submitted) → m ≢ n → job_at jobs m ≡ Some u → u.job.in_flight ≡ false
  others m u other at = by_flight u.job.in_flight (λ flight. other (alone m u at flight).0)

  absent_clash : job_at jobs n ≡ None → (m : ℕ) (u : Submitted) → job_at jobs m ≡ Some u → u.job.in_flight ≡ true → ⊥
  absent_clash none m u at flight =
      let here : job_at jobs n ≡ Some u = subst (λ (k : ℕ). job_at jobs k ≡ Some u) (alone m u at flight).0 at in
      let clash : None ≡ Some u = sym none ∙ here in
      cc

  pub not_in_flight-absent : job_at jobs n ≡ None → AreNotInFlight jobs
  not_in_flight-absent none m u at = by_flight u.job.in_flight (absent_clash none m u at)

  stale_clash : (s : Submitted) → job_at jobs n ≡ Some s → is_current s.job attempt ≡ false → (m : ℕ) (u : Submitted) → job_at jobs m ≡ Some u → u.job.in_flight ≡ true → ⊥
  stale_clash s there stale m u at flight =
      let here : job_at jobs n ≡ Some u = subst (λ (k : ℕ). job_at jobs k ≡ Some u) (alone m u at flight).0 at in
      let same : s ≡ u = some_same s u (sym there ∙ here) in
      let clash : true ≡ false = sym (alone m u at flight).1 ∙ subst (λ (x : Submitted). is_current x.job attempt ≡ false) same stale in
      cc

  not_in_flight_stale : (s : Submitted) → job_at jobs n ≡ Some s → is_current s.job attempt ≡ false → AreNotInFlight jobs
  not_in_flight_stale s there stale m u at = by_flight u.job.in_flight (stale_clash s there stale m u at)

  -- the jobs after an end of this kind
  abbrev pub jobs_after : Ended → Submitted → List Submitted
  jobs_after ended.Stale s = jobs
  jobs_after ended.Advanced s = with_job jobs n (record s { job = next Act.Advance s.job })
  jobs_after ended.Finished s = with_job jobs n (record s { job = next Act.Finish s.job })
  jobs_after ended.Failed s = with_job jobs n (record s { job = next Act.Fail s.job })

  pub not_in_flight-ended : (how : Ended) (o : Outcome) (s : Submitted) → job_at jobs n ≡ Some s → end_by o s.job attempt ≡ how → AreNotInFlight (jobs_after how s)
  not_in_flight-ended ended.Stale o s there e = not_in_flight_stale s there (by_stale o s.job attempt e)
  not_in_flight-ended ended.Advanced o s there e =
      not_in_flight-set jobs n s (record s { job = next Act.Advance s.job }) there (advance_lands s.job (current_counts s.job attempt (by_advanced o s.job attempt e).0).running) others
  not_in_flight-ended ended.Finished o s there e =
      not_in_flight-set jobs n s (record s { job = next Act.Finish s.job }) there (finish_lands s.job (current_counts s.job attempt (by_finished o s.job attempt e).0).running) others
  not_in_flight-ended ended.Failed o s there e =
      not_in_flight-set jobs n s (record s { job = next Act.Fail s.job }) there (fail_lands s.job (current_counts s.job attempt (by_failed o s.job attempt e)).running) others
