-- Each turn makes the numbers of a world greater by one at most.
use Rattle.std.proofs.Common.{◌≡◌, ℕ, zero, suc, ◌+◌, ◌-◌, ◌≤◌, Bool, true, false, ◌==◌, Option, Some, None, List, [], ◌∷◌, ◌++◌, length, fold, refl, sym, ap, ◌∙◌, subst, arith, length-append, length-set}
use Rattle.std.specs.Prelude.{find}
use Rattle.std.proofs.lemmas.Bool.{eqb-true, eqb-false}
use Rattle.job_machine.specs.Job.{Act, JobRecord, moved_or_same, new_job, next, state_after}
use Rattle.job_machine.specs.declared.state.Ended.{Ended}
use Rattle.job_machine.specs.declared.state.Ended.TheVariants as ended
use Rattle.job_machine.specs.declared.state.JobState.{JobState}
use Rattle.run_history.specs.Bounds.{AreAtMost}
use Rattle.run_history.specs.Commands.{Command, Turn}
use Rattle.run_history.specs.Commands.Command.{Load, Submit, Drop, Steer, Ask, Note}
use Rattle.run_history.specs.Commands.Turn.{Takes, Claims, StepEnds, QueryTakes, QueryEnds}
use Rattle.run_history.specs.Cubes.{CubeSemantics}
use Rattle.run_history.specs.Sets.{ReadySet}
use Rattle.run_history.specs.Steps.{accepted, by_verdict, claimed, end_by, ended_as, query_ended, query_taken, step, step_ended, steered, steps_of, with_job, without_claim}
use Rattle.run_history.specs.Verdicts.{act_of, verdict}
use Rattle.run_history.specs.World.{Asked, Submitted, Waiting, World, job_at, job_of, start}
use Rattle.run_history.specs.declared.command.Control.{Control}
use Rattle.run_history.specs.declared.event.Outcome.{Outcome}
use Rattle.run_history.specs.declared.event.QueryOut.{QueryOut}
use Rattle.run_history.specs.declared.refused.Refused.{Refused}
use Rattle.run_history.proofs.Laws.{job_at-added, job_at-added_other, job_at-with_job, job_at-with_other}

some_same : (a b : Submitted) → Some a ≡ Some b → a ≡ b
some_same a b h = cc

-- an act makes a job's attempt greater by one at most
attempt_after : (act : Act) (o : Option JobState) (job : JobRecord) → (moved_or_same act o job).attempt ≤ job.attempt + 1
attempt_after act None job = omega arith
attempt_after Act.Claim (Some state) job = omega arith
attempt_after Act.Advance (Some state) job = omega arith
attempt_after Act.Finish (Some state) job = omega arith
attempt_after Act.Fail (Some state) job = omega arith
attempt_after Act.Pause (Some state) job = omega arith
attempt_after Act.Resume (Some state) job = omega arith
attempt_after Act.Discard (Some state) job = omega arith

attempt_up : (act : Act) (job : JobRecord) → (next act job).attempt ≤ job.attempt + 1
attempt_up act job = attempt_after act (state_after act job.state) job

abbrev AttemptsFit : ℕ → List Submitted → Type 0
AttemptsFit most jobs = (n : ℕ) (s : Submitted) → job_at jobs n ≡ Some s → s.job.attempt ≤ most

fit_set : (most : ℕ) (jobs : List Submitted) (n : ℕ) (s t : Submitted) → job_at jobs n ≡ Some s → t.job.attempt ≤ s.job.attempt + 1 → AttemptsFit most jobs → AttemptsFit (most + 1) (with_job jobs n t)
fit_set most jobs n s t at up h m u there = by_number (m == n) refl
  where
    by_number : (b : Bool) → (m == n) ≡ b → u.job.attempt ≤ most + 1
    by_number true e =
        let same : m ≡ n = eqb-true m n e in
        let is : t ≡ u = some_same t u (sym (job_at-with_job jobs n s t at) ∙ (ap (job_at (with_job jobs n t)) (sym same) ∙ there)) in
        subst (λ (x : Submitted). x.job.attempt ≤ most + 1) is (omega (arith, h n s at))
    by_number false e = omega (arith, h m u (sym (job_at-with_other jobs n m s t at (eqb-false m n e)) ∙ there))

fit_added : (most : ℕ) (jobs : List Submitted) (new : Submitted) → new.job.attempt ≡ 0 → AttemptsFit most jobs → AttemptsFit (most + 1) (jobs ++ new ∷ [])
fit_added most jobs new fresh h m u there = by_number (m == length jobs + 1) refl
  where
    by_number : (b : Bool) → (m == length jobs + 1) ≡ b → u.job.attempt ≤ most + 1
    by_number true e =
        let same : m ≡ length jobs + 1 = eqb-true m (length jobs + 1) e in
        let is : new ≡ u = some_same new u (sym (job_at-added jobs new) ∙ (ap (job_at (jobs ++ new ∷ [])) (sym same) ∙ there)) in
        subst (λ (x : Submitted). x.job.attempt ≤ most + 1) is (omega (arith, fresh))
    by_number false e = omega (arith, h m u (sym (job_at-added_other jobs new m (eqb-false m (length jobs + 1) e)) ∙ there))

module _ {Query : Type 0} where
  -- a world with the same jobs, sets and queries
  more : (most : ℕ) (w : World Query) → AreAtMost most w → AreAtMost (most + 1) w
  more most w h = record { jobs = omega (arith, h.jobs); attempts = λ n s at. omega (arith, h.attempts n s at); versions = omega (arith, h.versions); accepted = omega (arith, h.accepted) }

  one_set : (most : ℕ) (w v : World Query) (n : ℕ) (s t : Submitted) → job_at w.jobs n ≡ Some s → t.job.attempt ≤ s.job.attempt + 1 → v.jobs ≡ with_job w.jobs n t → length v.past ≤ length w.past + 1 → v.accepted ≡ w.accepted
      → AreAtMost most w → AreAtMost (most + 1) v
  one_set most w v n s t at up jobs past accepted_same h = record {
    jobs = omega (arith, h.jobs, ap length jobs ∙ length-set w.jobs (n - 1) t);
    attempts = subst (AttemptsFit (most + 1)) (sym jobs) (fit_set most w.jobs n s t at up h.attempts);
    versions = omega (arith, h.versions, past);
    accepted = omega (arith, h.accepted, accepted_same);
  }

  grown_steered : (most : ℕ) (w : World Query) (control : Control) (n : ℕ) (o : Option Submitted) → job_at w.jobs n ≡ o → AreAtMost most w → AreAtMost (most + 1) (steered w control n o)
  grown_steered most w control n None at h = more most w h
  grown_steered most w control n (Some s) at h =
      one_set most w (steered w control n (Some s)) n s (record s { job = next (act_of control) s.job }) at (attempt_up (act_of control) s.job) refl (omega arith) refl h

  grown_accepted : (most steps : ℕ) (w : World Query) (command : Command Query) → AreAtMost most w → AreAtMost (most + 1) (accepted steps w command)
  grown_accepted most steps w (Load table rows) h = let g = more most w h in record { jobs = g.jobs; attempts = g.attempts; versions = g.versions; accepted = g.accepted }
  grown_accepted most steps w (Submit kind range) h = record {
    jobs = rw length-append (omega (arith, h.jobs));
    attempts = fit_added most w.jobs (record { job = new_job (length w.jobs + 1) kind steps; range = range; tables = None }) refl h.attempts;
    versions = omega (arith, h.versions);
    accepted = omega (arith, h.accepted);
  }
  grown_accepted most steps w (Drop range) h = record {
    jobs = omega (arith, h.jobs);
    attempts = λ n s at. omega (arith, h.attempts n s at);
    versions = rw length-append (omega (arith, h.versions));
    accepted = omega (arith, h.accepted);
  }
  grown_accepted most steps w (Steer control n) h = grown_steered most w control n (job_of w n) refl h
  grown_accepted most steps w (Ask session query) h = record {
    jobs = omega (arith, h.jobs);
    attempts = λ n s at. omega (arith, h.attempts n s at);
    versions = omega (arith, h.versions);
    accepted = omega (arith, h.accepted);
  }
  grown_accepted most steps w (Note noted) h = more most w h

  grown_verdict : (most steps line : ℕ) (w : World Query) (command : Command Query) (o : Option Refused) → AreAtMost most w → AreAtMost (most + 1) (by_verdict o steps (record w { line = line }) command)
  grown_verdict most steps line w command None h = grown_accepted most steps (record w { line = line }) command (record { jobs = h.jobs; attempts = h.attempts; versions = h.versions; accepted = h.accepted })
  grown_verdict most steps line w command (Some refused) h = let g = more most w h in record { jobs = g.jobs; attempts = g.attempts; versions = g.versions; accepted = g.accepted }

  grown_claimed : (most : ℕ) (w : World Query) (n attempt : ℕ) (o : Option Submitted) → job_at w.jobs n ≡ o → AreAtMost most w → AreAtMost (most + 1) (claimed w n attempt o)
  grown_claimed most w n attempt None at h = more most w h
  grown_claimed most w n attempt (Some s) at h = one_set most w (claimed w n attempt (Some s)) n s _ at (attempt_up Act.Claim s.job) refl (omega arith) refl h

  grown_ended : (most : ℕ) (w : World Query) (n : ℕ) (s : Submitted) (how : Ended) → job_at w.jobs n ≡ Some s → AreAtMost most w → AreAtMost (most + 1) (ended_as how w n s)
  grown_ended most w n s ended.Stale at h = more most w h
  grown_ended most w n s ended.Advanced at h = one_set most w (ended_as ended.Advanced w n s) n s (record s { job = next Act.Advance s.job }) at (attempt_up Act.Advance s.job) refl (omega arith) refl h
  grown_ended most w n s ended.Finished at h =
      one_set most w (ended_as ended.Finished w n s) n s (record s { job = next Act.Finish s.job }) at (attempt_up Act.Finish s.job) refl (let longer = length-append w.past (w.ready ∷ []) in omega (arith, longer)) refl h
  grown_ended most w n s ended.Failed at h = one_set most w (ended_as ended.Failed w n s) n s (record s { job = next Act.Fail s.job }) at (attempt_up Act.Fail s.job) refl (omega arith) refl h

  grown_step_ended : (most : ℕ) (w : World Query) (claims : List (ℕ × ℕ)) (n attempt : ℕ) (out : Outcome) (o : Option Submitted) → job_at w.jobs n ≡ o → AreAtMost most w
      → AreAtMost (most + 1) (step_ended (record w { steps = claims }) n attempt out o)
  grown_step_ended most w claims n attempt out None at h = let g = more most w h in record { jobs = g.jobs; attempts = g.attempts; versions = g.versions; accepted = g.accepted }
  grown_step_ended most w claims n attempt out (Some s) at h =
      grown_ended most (record w { steps = claims }) n s (end_by out s.job attempt) at (record { jobs = h.jobs; attempts = h.attempts; versions = h.versions; accepted = h.accepted })

  grown_taken : (most : ℕ) (w : World Query) (line : ℕ) (o : Option (Waiting Query)) → AreAtMost most w → AreAtMost (most + 1) (query_taken w line o)
  grown_taken most w line None h = more most w h
  grown_taken most w line (Some q) h = let g = more most w h in record { jobs = g.jobs; attempts = g.attempts; versions = g.versions; accepted = g.accepted }

  grown_answered : (most : ℕ) (w : World Query) (line : ℕ) (out : QueryOut) (o : Option (Asked Query)) → AreAtMost most w → AreAtMost (most + 1) (query_ended w line out o)
  grown_answered most w line out None h = more most w h
  grown_answered most w line out (Some q) h = let g = more most w h in record { jobs = g.jobs; attempts = g.attempts; versions = g.versions; accepted = g.accepted }

module _ {Query Answer : Type 0} (cube : CubeSemantics Query Answer) where
  grown_step : (most : ℕ) (w : World Query) (turn : Turn Query) → AreAtMost most w → AreAtMost (most + 1) (step cube w turn)
  grown_step most w (Takes line command) h = grown_verdict most (steps_of cube command) line w command (verdict cube w command) h
  grown_step most w (Claims n attempt) h = grown_claimed most w n attempt (job_of w n) refl h
  grown_step most w (StepEnds n attempt out) h = grown_step_ended most w (without_claim n attempt w.steps) n attempt out (job_of w n) refl h
  grown_step most w (QueryTakes line) h = grown_taken most w line (find (λ q. q.line == line) w.waiting) h
  grown_step most w (QueryEnds line out) h = grown_answered most w line out (find (λ q. q.waiting.line == line) w.asked) h

  grown : (most : ℕ) (w : World Query) (turns : List (Turn Query)) → AreAtMost most w → AreAtMost (most + length turns) (fold (step cube) w turns)
  grown most w [] h = let same : most ≡ most + length {A = Turn Query} [] = omega arith in subst (λ (n : ℕ). AreAtMost n w) same h
  grown most w (turn ∷ turns) h =
      let same : most + 1 + length turns ≡ most + length (turn ∷ turns) = omega arith in
      subst (λ (n : ℕ). AreAtMost n (fold (step cube) (step cube w turn) turns)) same (grown (most + 1) (step cube w turn) turns (grown_step most w turn h))

  no_job : (n : ℕ) (s : Submitted) → job_at [] n ≡ Some s → s.job.attempt ≤ 0
  no_job zero s e = cc
  no_job (suc n) s e = cc

  pub small_world : (workers : ℕ) (initial : ReadySet) (turns : List (Turn Query)) → AreAtMost (length turns) (fold (step cube) (start workers (length cube.tables) initial) turns)
  small_world workers initial turns =
      let same : 0 + length turns ≡ length turns = omega arith in
      subst (λ (n : ℕ). AreAtMost n (fold (step cube) (start workers (length cube.tables) initial) turns)) same
      (grown 0 (start workers (length cube.tables) initial) turns (record { jobs = omega arith; attempts = no_job; versions = omega arith; accepted = omega arith }))
