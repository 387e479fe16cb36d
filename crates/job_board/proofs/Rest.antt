-- Jobs where the queue is empty and no claim is without its end.
use Rattle.std.proofs.Common.{◌≡◌, ℕ, zero, suc, ◌+◌, ◌<◌, Bool, true, false, cond, ◌==◌, ◌||◌, Option, Some, None, List, [], ◌∷◌, length, slice_get, refl, sym, ap, ◌∙◌, subst, arith}
use Rattle.std.specs.Prelude.{count_by}
use Rattle.std.specs.List.{list_any}
use Rattle.fixed_cube.specs.Cube.{fixed}
use Rattle.job_machine.specs.Job.{is_claimable, waits_in}
use Rattle.job_machine.specs.declared.state.JobState.{JobState}
use Rattle.job_machine.specs.declared.state.JobState.TheVariants.{Pending, Running, Error, Stopped, Discarded, Finished}
use Rattle.plain_answer.specs.declared.ask.Ask.{Ask as Query}
use Rattle.run_history.specs.Histories.{AreAtRest, claim_count}
use Rattle.run_history.specs.Invariants.{AreClaims, IsSound, places_of}
use Rattle.run_history.specs.World.{Submitted, World, is_under_way, job_at}

-- a job that neither waits nor is in flight is not under way
rests : (state : JobState) (flies : Bool) → waits_in state flies ≡ false → flies ≡ false → is_under_way state ≡ false
rests Pending flies h k = cc
rests Running true h k = cc
rests Running false h k = cc
rests Error flies h k = refl
rests Stopped flies h k = refl
rests Discarded flies h k = refl
rests Finished flies h k = refl

abbrev one_if : Bool → ℕ
one_if b = cond b 1 0

none_waits : (b : Bool) → one_if b ≡ 0 → b ≡ false
none_waits true h = absurd (omega arith)
none_waits false h = refl

none_flies : (b : Bool) → (b ≡ true → 0 < 0) → b ≡ false
none_flies true h = absurd (let k = h refl in omega arith)
none_flies false h = refl

rest_all : (jobs : List Submitted) → ((k : ℕ) (s : Submitted) → slice_get jobs k ≡ Some s → is_under_way s.job.state ≡ false) → AreAtRest jobs
rest_all [] h = refl
rest_all (s ∷ jobs) h =
    ap (λ (b : Bool). b || list_any (λ (t : Submitted). is_under_way t.job.state) jobs) (h 0 s refl) ∙ rest_all jobs (λ k t e. h (suc k) t e)

module _ (w : World Query) (sound : IsSound fixed w) (claims : AreClaims w.jobs w.steps) (queue : w.queue ≡ []) (steps : w.steps ≡ []) where
  rests_at : (k : ℕ) (s : Submitted) → slice_get w.jobs k ≡ Some s → is_under_way s.job.state ≡ false
  rests_at k s e =
      let there : job_at w.jobs (suc k) ≡ Some s = e in
      let count : places_of (Some s) ≡ 0 =
      sym (ap places_of there) ∙ (sym (sound.queued (suc k)) ∙ ap (λ (l : List ℕ). count_by (λ other. other == suc k) l) queue) in
      rests s.job.state s.job.in_flight (none_waits (is_claimable s.job) count)
      (none_flies s.job.in_flight (λ flies. subst (λ (l : List (ℕ × ℕ)). 0 < claim_count (suc k) s.job.attempt l) steps (claims.in_flight (suc k) s there flies)))

  pub all_rest : AreAtRest w.jobs
  all_rest = rest_all w.jobs rests_at
