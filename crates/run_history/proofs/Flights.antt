-- The claims without their end: each turn keeps that there is at most one for each attempt.
use Rattle.std.proofs.Common.{◌≡◌, ◌≢◌, ℕ, zero, suc, ◌+◌, ◌≤◌, ◌<◌, Bool, true, false, cond, ◌&&◌, ◌==◌, Option, Some, None, List, [], ◌∷◌, ◌++◌, length, slice_get, refl, sym, ap, ◌∙◌, subst, inl, inr, arith, unwrap_or}
use Rattle.std.specs.Prelude.{find, nat_le}
use Rattle.std.proofs.lemmas.Bool.{cases_Bool, cases_eq, and_parts, and_from, eqb-true, eq-eqb, ne_eqb, leb-true, le-leb, lt-leb}
use Rattle.job_machine.specs.Job.{Act, IsJob, next, new_job, is_current}
use Rattle.job_machine.specs.declared.state.Ended.{Ended}
use Rattle.job_machine.specs.declared.state.Ended.TheVariants as ended
use Rattle.run_history.specs.Commands.{Command, Turn}
use Rattle.run_history.specs.Commands.Command.{Load, Submit, Drop, Steer, Ask, Note}
use Rattle.run_history.specs.Commands.Turn.{Takes, Claims, StepEnds, QueryTakes, QueryEnds}
use Rattle.run_history.specs.Cubes.{CubeSemantics}
use Rattle.run_history.specs.Histories.{Along, Allowed, IsNextAttempt, claim_count}
use Rattle.run_history.specs.Invariants.{HasSteps, IsStart, IsSound, AreClaims, claims_of}
use Rattle.run_history.specs.Sets.{ReadySet}
use Rattle.run_history.specs.Steps.{step, world, with_job, end_by, without_claim, steered, accepted, claimed, ended_as, step_ended, query_taken, query_ended, by_verdict, steps_of}
use Rattle.run_history.specs.Verdicts.{act_of, verdict}
use Rattle.run_history.specs.World.{Submitted, Waiting, Asked, World, start, job_at, job_of, in_force}
use Rattle.run_history.specs.declared.command.Control.{Control}
use Rattle.run_history.specs.declared.command.Control.TheVariants as control
use Rattle.run_history.specs.declared.event.Outcome.{Outcome}
use Rattle.run_history.specs.declared.event.QueryOut.{QueryOut}
use Rattle.run_history.specs.declared.refused.Refused.{Refused}
use Rattle.run_history.proofs.Laws.{reached, job_at-with_job, job_at-with_other, job_at-added, job_at-next, job_at-added_other, claim_count-push, claim_count-without}
use Rattle.run_history.proofs.Jobs.{flight_next, attempt_next, attempt_claimed, by_stale, flight_current, by_advanced, by_finished, by_failed, current_counts, advance_lands, finish_lands, fail_lands}
use Rattle.run_history.proofs.Sound.{cond_le, keeps_sound, sound_start, first_waits}

some_same : (a b : Submitted) → Some a ≡ Some b → a ≡ b
some_same a b h = cc

abbrev one_if : Bool → ℕ
one_if b = cond b 1 0

abbrev is_claim : ℕ → ℕ → ℕ × ℕ → Bool
is_claim job attempt claim = (claim.0 == job) && (claim.1 == attempt)

claims_more : (s t : Submitted) (attempt : ℕ) → s.job.attempt ≤ t.job.attempt → claims_of (Some s) attempt ≤ claims_of (Some t) attempt
claims_more s t attempt le =
    cond_le (nat_le 1 attempt && nat_le attempt s.job.attempt) (nat_le 1 attempt && nat_le attempt t.job.attempt) (λ e. (
    let parts = and_parts (nat_le 1 attempt) (nat_le attempt s.job.attempt) e in
    and_from (nat_le 1 attempt) (nat_le attempt t.job.attempt) parts.0 (le-leb attempt t.job.attempt (omega (arith, leb-true attempt s.job.attempt parts.1)))
    ))

claims_none : (s : Submitted) (attempt : ℕ) → s.job.attempt < attempt → claims_of (Some s) attempt ≡ 0
claims_none s attempt lt = by (nat_le 1 attempt)
  where
    by : (b : Bool) → one_if (b && nat_le attempt s.job.attempt) ≡ 0
    by true = ap one_if (lt-leb attempt s.job.attempt lt)
    by false = refl

claims_one : (s : Submitted) (attempt : ℕ) → 1 ≤ attempt → attempt ≤ s.job.attempt → claims_of (Some s) attempt ≡ 1
claims_one s attempt low high = ap (λ c. cond c 1 0) (and_from (nat_le 1 attempt) (nat_le attempt s.job.attempt) (le-leb 1 attempt low) (le-leb attempt s.job.attempt high))

-- claims of the next world's jobs that are claims of this one's
claims_set : (jobs : List Submitted) (claims claims2 : List (ℕ × ℕ)) (n : ℕ) (s t : Submitted) → job_at jobs n ≡ Some s → s.job.attempt ≤ t.job.attempt
    → ((m attempt : ℕ) → claim_count m attempt claims2 ≤ claim_count m attempt claims) → ((m : ℕ) (u : Submitted) → m ≢ n → job_at jobs m ≡ Some u → u.job.in_flight ≡ true → 0 < claim_count m u.job.attempt claims2)
    → (t.job.in_flight ≡ true → 0 < claim_count n t.job.attempt claims2) → AreClaims jobs claims → AreClaims (with_job jobs n t) claims2
claims_set jobs claims claims2 n s t at le fewer others here h = record {
  each_once = λ m attempt. elim (cases_eq m n) [
    | inl same ↦ subst (λ (k : ℕ). claim_count k attempt claims2 ≤ claims_of (job_at (with_job jobs n t) k) attempt) (sym same) (
        subst (λ (o : Option Submitted). claim_count n attempt claims2 ≤ claims_of o attempt) (sym (job_at-with_job jobs n s t at))
        (omega (arith, fewer n attempt, subst (λ (o : Option Submitted). claim_count n attempt claims ≤ claims_of o attempt) at (h.each_once n attempt), claims_more s t attempt le))
        )
    | inr other ↦ subst (λ (o : Option Submitted). claim_count m attempt claims2 ≤ claims_of o attempt) (sym (job_at-with_other jobs n m s t at other)) (omega (arith, fewer m attempt, h.each_once m attempt))
  ];
  in_flight = λ m u e flight. elim (cases_eq m n) [
    | inl same ↦
        let is : t ≡ u = some_same t u (sym (subst (λ (k : ℕ). job_at (with_job jobs n t) k ≡ Some t) (sym same) (job_at-with_job jobs n s t at)) ∙ e) in
        subst (λ (k : ℕ). 0 < claim_count k u.job.attempt claims2) (sym same) (subst (λ (x : Submitted). x.job.in_flight ≡ true → 0 < claim_count n x.job.attempt claims2) is here flight)
    | inr other ↦ others m u other (sym (job_at-with_other jobs n m s t at other) ∙ e) flight
  ];
}

-- an act that is no claim
claims_moved : (jobs : List Submitted) (claims : List (ℕ × ℕ)) (n : ℕ) (s : Submitted) (act : Act) → job_at jobs n ≡ Some s → act ≢ Act.Claim → AreClaims jobs claims → AreClaims (with_job jobs n (record s { job = next act s.job })) claims
claims_moved jobs claims n s act at e h =
    let same = attempt_next act s.job e in
    claims_set jobs claims claims n s (record s { job = next act s.job }) at (omega arith) (λ m attempt. omega arith) (λ m u other there flight. h.in_flight m u there flight)
    (λ flight. elim (flight_next act s.job flight) [
      | inl claim ↦ absurd (e claim)
      | inr before ↦ subst (λ (a : ℕ). 0 < claim_count n a claims) (sym same) (h.in_flight n s at before)
    ]) h

claims_added : (jobs : List Submitted) (claims : List (ℕ × ℕ)) (new : Submitted) → new.job.in_flight ≡ false → AreClaims jobs claims → AreClaims (jobs ++ new ∷ []) claims
claims_added jobs claims new still h = record {
  each_once = λ n attempt. elim (cases_eq n (length jobs + 1)) [
    | inl same ↦ omega (arith, h.each_once n attempt, ap (λ (o : Option Submitted). claims_of o attempt) (subst (λ (k : ℕ). job_at jobs k ≡ None) (sym same) (job_at-next jobs)))
    | inr other ↦ subst (λ (o : Option Submitted). claim_count n attempt claims ≤ claims_of o attempt) (sym (job_at-added_other jobs new n other)) (h.each_once n attempt)
  ];
  in_flight = λ n s e flight. elim (cases_eq n (length jobs + 1)) [
    | inl same ↦
        let is : new ≡ s = some_same new s (sym (subst (λ (k : ℕ). job_at (jobs ++ new ∷ []) k ≡ Some new) (sym same) (job_at-added jobs new)) ∙ e) in
        cc
    | inr other ↦ h.in_flight n s (sym (job_at-added_other jobs new n other) ∙ e) flight
  ];
}

steers_no_claim : (control : Control) → act_of control ≢ Act.Claim
steers_no_claim control.Pause = λ e. cc
steers_no_claim control.Resume = λ e. cc
steers_no_claim control.Discard = λ e. cc

-- the claim of a job that waits
claims_pushed : (jobs : List Submitted) (claims : List (ℕ × ℕ)) (n attempt : ℕ) (s t : Submitted) → job_at jobs n ≡ Some s → attempt ≡ s.job.attempt + 1 → t.job.attempt ≡ attempt → AreClaims jobs claims → AreClaims (with_job jobs n t) (claims ++ (n, attempt) ∷ [])
claims_pushed jobs claims n attempt s t at first is h = record {
  each_once = λ m a. elim (cases_eq m n) [
    | inl same ↦ subst (λ (k : ℕ). claim_count k a (claims ++ (n, attempt) ∷ []) ≤ claims_of (job_at (with_job jobs n t) k) a) (sym same) (
        subst (λ (o : Option Submitted). claim_count n a (claims ++ (n, attempt) ∷ []) ≤ claims_of o a) (sym (job_at-with_job jobs n s t at)) (here a)
        )
    | inr other ↦ subst (λ (o : Option Submitted). claim_count m a (claims ++ (n, attempt) ∷ []) ≤ claims_of o a) (sym (job_at-with_other jobs n m s t at other)) (
        omega (arith, claim_count-push m a claims (n, attempt), h.each_once m a, away m a (λ same. other (sym same)))
        )
  ];
  in_flight = λ m u e flight. elim (cases_eq m n) [
    | inl same ↦
        let is_t : t ≡ u = some_same t u (sym (subst (λ (k : ℕ). job_at (with_job jobs n t) k ≡ Some t) (sym same) (job_at-with_job jobs n s t at)) ∙ e) in
        let number : u.job.attempt ≡ attempt = ap (λ (x : Submitted). x.job.attempt) (sym is_t) ∙ is in
        omega (arith, claim_count-push m u.job.attempt claims (n, attempt), ap one_if (and_from (n == m) (attempt == u.job.attempt) (eq-eqb n m (sym same)) (eq-eqb attempt u.job.attempt (sym number))))
    | inr other ↦ omega (arith, claim_count-push m u.job.attempt claims (n, attempt), h.in_flight m u (sym (job_at-with_other jobs n m s t at other) ∙ e) flight)
  ];
}
  where
    away : (m a : ℕ) → n ≢ m → one_if (is_claim m a (n, attempt)) ≡ 0
    away m a e = ap (λ b. one_if (b && (attempt == a))) (ne_eqb n m e)

    before : (a : ℕ) → claim_count n a claims ≤ claims_of (Some s) a
    before a = subst (λ (o : Option Submitted). claim_count n a claims ≤ claims_of o a) at (h.each_once n a)

    here : (a : ℕ) → claim_count n a (claims ++ (n, attempt) ∷ []) ≤ claims_of (Some t) a
    here a = elim (cases_eq a attempt) [
      | inl same ↦ omega (arith, claim_count-push n a claims (n, attempt), before a, claims_none s a (omega arith), claims_one t a (omega arith) (omega arith), cond_le (is_claim n a (n, attempt)) true (λ e. refl))
      | inr other ↦ omega (arith, claim_count-push n a claims (n, attempt), before a, claims_more s t a (omega arith), ap (λ b. one_if ((n == n) && b)) (ne_eqb attempt a (λ same. other (sym same))), nothing (n == n))
    ]
      where
        nothing : (b : Bool) → one_if (b && false) ≡ 0
        nothing true = refl
        nothing false = refl

-- ---- ends

module _ (jobs : List Submitted) (claims : List (ℕ × ℕ)) (n attempt : ℕ) (open_claim : 0 < claim_count n attempt claims) where
  fewer : (m a : ℕ) → claim_count m a (without_claim n attempt claims) ≤ claim_count m a claims
  fewer m a = omega (arith, claim_count-without n attempt m a claims open_claim)

  others_stay : (m a : ℕ) → is_claim m a (n, attempt) ≡ false → claim_count m a (without_claim n attempt claims) ≡ claim_count m a claims
  others_stay m a e = omega (arith, claim_count-without n attempt m a claims open_claim, ap one_if e)

  others_fly : AreClaims jobs claims → (m : ℕ) (u : Submitted) → m ≢ n → job_at jobs m ≡ Some u → u.job.in_flight ≡ true → 0 < claim_count m u.job.attempt (without_claim n attempt claims)
  others_fly h m u other at flight =
      omega (arith, h.in_flight m u at flight, others_stay m u.job.attempt (ap (λ b. b && (attempt == u.job.attempt)) (ne_eqb n m (λ same. other (sym same)))))

  -- the end of the attempt that counted
  claims_landed : (s t : Submitted) → job_at jobs n ≡ Some s → s.job.attempt ≤ t.job.attempt → t.job.in_flight ≡ false → AreClaims jobs claims → AreClaims (with_job jobs n t) (without_claim n attempt claims)
  claims_landed s t at le lands h = claims_set jobs claims (without_claim n attempt claims) n s t at le fewer (others_fly h) (λ flight. cc) h

  -- the end of another one
  claims_stale : (s : Submitted) → job_at jobs n ≡ Some s → IsJob s.job → is_current s.job attempt ≡ false → AreClaims jobs claims → AreClaims jobs (without_claim n attempt claims)
  claims_stale s at job stale h = record {
    each_once = λ m a. omega (arith, fewer m a, h.each_once m a);
    in_flight = λ m u e flight. elim (cases_Bool (is_claim m u.job.attempt (n, attempt))) [
      | inr away ↦ omega (arith, h.in_flight m u e flight, others_stay m u.job.attempt away)
      | inl here ↦
          let parts = and_parts (n == m) (attempt == u.job.attempt) here in
          let same : n ≡ m = eqb-true n m parts.0 in
          let is : s ≡ u = some_same s u (sym at ∙ subst (λ (k : ℕ). job_at jobs k ≡ Some u) (sym same) e) in
          let counts : is_current u.job attempt ≡ true = flight_current u.job attempt (subst (λ (x : Submitted). IsJob x.job) is job) flight (sym (eqb-true attempt u.job.attempt parts.1)) in
          let not_counts : is_current u.job attempt ≡ false = subst (λ (x : Submitted). is_current x.job attempt ≡ false) is stale in
          cc
    ];
  }

  -- a claim without its end is one of a job
  claims_job : (o : Option Submitted) → job_at jobs n ≡ o → AreClaims jobs claims → (s : Submitted) × (job_at jobs n ≡ Some s)
  claims_job None at h = absurd (omega (arith, open_claim, h.each_once n attempt, ap (λ (x : Option Submitted). claims_of x attempt) at))
  claims_job (Some s) at h = (s, at)

module _ {Query Answer : Type 0} (cube : CubeSemantics Query Answer) where
  abbrev HasClaims : World Query → Type 0
  HasClaims w = AreClaims w.jobs w.steps

  flies_ended : (w : World Query) (n attempt : ℕ) (out : Outcome) (s : Submitted) (how : Ended) → 0 < claim_count n attempt w.steps → job_at w.jobs n ≡ Some s → IsJob s.job → end_by out s.job attempt ≡ how → HasClaims w
      → HasClaims (ended_as how (record w { steps = without_claim n attempt w.steps }) n s)
  flies_ended w n attempt out s ended.Stale open_claim at job e h = claims_stale w.jobs w.steps n attempt open_claim s at job (by_stale out s.job attempt e) h
  flies_ended w n attempt out s ended.Advanced open_claim at job e h =
      let counts = current_counts s.job attempt (by_advanced out s.job attempt e).0 in
      claims_landed w.jobs w.steps n attempt open_claim s (record s { job = next Act.Advance s.job }) at (omega (arith, attempt_next Act.Advance s.job (λ same. cc))) (advance_lands s.job counts.running) h
  flies_ended w n attempt out s ended.Finished open_claim at job e h =
      let counts = current_counts s.job attempt (by_finished out s.job attempt e).0 in
      claims_landed w.jobs w.steps n attempt open_claim s (record s { job = next Act.Finish s.job }) at (omega (arith, attempt_next Act.Finish s.job (λ same. cc))) (finish_lands s.job counts.running) h
  flies_ended w n attempt out s ended.Failed open_claim at job e h =
      let counts = current_counts s.job attempt (by_failed out s.job attempt e) in
      claims_landed w.jobs w.steps n attempt open_claim s (record s { job = next Act.Fail s.job }) at (omega (arith, attempt_next Act.Fail s.job (λ same. cc))) (fail_lands s.job counts.running) h

  flies_step_ended : (w : World Query) (n attempt : ℕ) (out : Outcome) (o : Option Submitted) → 0 < claim_count n attempt w.steps → job_at w.jobs n ≡ o → IsSound cube w → HasClaims w
      → HasClaims (step_ended (record w { steps = without_claim n attempt w.steps }) n attempt out o)
  flies_step_ended w n attempt out None open_claim at i h = let found = claims_job w.jobs w.steps n attempt open_claim None at h in let none : None ≡ Some found.0 = sym at ∙ found.1 in cc
  flies_step_ended w n attempt out (Some s) open_claim at i h = flies_ended w n attempt out s (end_by out s.job attempt) open_claim at (i.numbered n s at).by_table refl h

  flies_claimed : (w : World Query) (n attempt : ℕ) (o : Option Submitted) → job_at w.jobs n ≡ o → IsNextAttempt o attempt → slice_get w.queue 0 ≡ Some n → IsSound cube w → HasClaims w → HasClaims (claimed w n attempt o)
  flies_claimed w n attempt None at next_one first i h = h
  flies_claimed w n attempt (Some s) at next_one first i h =
      claims_pushed w.jobs w.steps n attempt s (record s { job = next Act.Claim s.job; tables = Some (unwrap_or s.tables (in_force w)) }) at next_one
      (attempt_claimed s.job.state s.job (first_waits cube w n s at first i) ∙ sym next_one) h

  flies_steered : (w : World Query) (control : Control) (n : ℕ) (o : Option Submitted) → job_at w.jobs n ≡ o → HasClaims w → HasClaims (steered w control n o)
  flies_steered w control n None at h = h
  flies_steered w control n (Some s) at h = claims_moved w.jobs w.steps n s (act_of control) at (steers_no_claim control) h

  flies_accepted : (w : World Query) (line : ℕ) (command : Command Query) → HasClaims w → HasClaims (accepted (steps_of cube command) (record w { line = line }) command)
  flies_accepted w line (Load table rows) h = h
  flies_accepted w line (Submit kind r) h = claims_added w.jobs w.steps (record { job = new_job (length w.jobs + 1) kind (cube.steps kind); range = r; tables = None }) refl h
  flies_accepted w line (Drop r) h = h
  flies_accepted w line (Steer control n) h = flies_steered (record w { line = line }) control n (job_of w n) refl h
  flies_accepted w line (Ask session query) h = h
  flies_accepted w line (Note noted) h = h

  flies_took : (w : World Query) (line : ℕ) (command : Command Query) (o : Option Refused) → HasClaims w → HasClaims (by_verdict o (steps_of cube command) (record w { line = line }) command)
  flies_took w line command (Some r) h = h
  flies_took w line command None h = flies_accepted w line command h

  flies_taken : (w : World Query) (line : ℕ) (o : Option (Waiting Query)) → HasClaims w → HasClaims (query_taken w line o)
  flies_taken w line None h = h
  flies_taken w line (Some q) h = h

  flies_answered : (w : World Query) (line : ℕ) (out : QueryOut) (o : Option (Asked Query)) → HasClaims w → HasClaims (query_ended w line out o)
  flies_answered w line out None h = h
  flies_answered w line out (Some q) h = h

  pub keeps_claims : (w : World Query) (turn : Turn Query) → Allowed w turn → IsSound cube w → AreClaims w.jobs w.steps → AreClaims (step cube w turn).jobs (step cube w turn).steps
  keeps_claims w (Takes line command) a i h = flies_took w line command (verdict cube w command) h
  keeps_claims w (Claims n attempt) a i h = flies_claimed w n attempt (job_of w n) refl a.2 a.1 i h
  keeps_claims w (StepEnds n attempt out) a i h = flies_step_ended w n attempt out (job_of w n) a refl i h
  keeps_claims w (QueryTakes line) a i h = flies_taken w line (find (λ q. q.line == line) w.waiting) h
  keeps_claims w (QueryEnds line out) a i h = flies_answered w line out (find (λ q. q.waiting.line == line) w.asked) h

  no_jobs : (n : ℕ) → job_at [] n ≡ None
  no_jobs zero = refl
  no_jobs (suc n) = refl

  pub claims_world : HasSteps cube → (workers : ℕ) (initial : ReadySet) (turns : List (Turn Query)) → IsStart initial → Along cube Allowed (start workers (length cube.tables) initial) turns
      → AreClaims (world cube workers initial turns).jobs (world cube workers initial turns).steps
  claims_world steps workers initial turns from legal =
      let both = reached cube (λ w. IsSound cube w × HasClaims w) (λ w turn a i. (keeps_sound cube steps w turn a i.0, keeps_claims w turn a i.0 i.1)) (start workers (length cube.tables) initial) turns
      (sound_start cube workers (length cube.tables) initial from, record { each_once = λ n attempt. omega arith; in_flight = λ n s e flight. (let none = no_jobs n in cc) }) legal in
      both.1
