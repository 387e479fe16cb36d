-- No attempt is stopped twice: one that was stopped is past, and stays so.
use Rattle.std.proofs.Common.{◌≡◌, ◌≢◌, ℕ, zero, suc, ◌+◌, ◌≤◌, ◌<◌, ◌==◌, Bool, true, false, Option, Some, None, List, [], ◌∷◌, ◌++◌, length, refl, sym, ap, ◌∙◌, subst, inl, inr, arith, append_assoc, append-nil, unwrap_or}
use Rattle.std.specs.Prelude.{AllPairs, find, ⊤, if◌then◌else◌}
use Rattle.std.proofs.lemmas.Bool.{cases_eq}
use Rattle.flight_laws.specs.Stops.{request_for, requests_by, stops_along, stops_at, stops_by}
use Rattle.job_machine.specs.Job.{Act, JobRecord, moved, moved_or_same, new_job, next, state_after}
use Rattle.job_machine.specs.declared.state.Ended.{Ended}
use Rattle.job_machine.specs.declared.state.Ended.TheVariants as ended
use Rattle.job_machine.specs.declared.state.JobState.{JobState}
use Rattle.outside.specs.Stoppers.{request_of}
use Rattle.outside.specs.declared.stopper.Request.{Request}
use Rattle.run_history.specs.Commands.{Command, Turn}
use Rattle.run_history.specs.Commands.Command.{Load, Submit, Drop, Steer, Ask, Note}
use Rattle.run_history.specs.Commands.Turn.{Takes, Claims, StepEnds, QueryTakes, QueryEnds}
use Rattle.run_history.specs.Cubes.{CubeSemantics}
use Rattle.run_history.specs.Sets.{ReadySet}
use Rattle.run_history.specs.Steps.{step, with_job, end_by, without_claim, steered, accepted, claimed, ended_as, step_ended, query_taken, query_ended, by_verdict, steps_of}
use Rattle.run_history.specs.Verdicts.{act_of, steer_by, steer_refusal, verdict}
use Rattle.run_history.specs.World.{Submitted, Waiting, Asked, World, start, in_force, job_at, job_of}
use Rattle.run_history.specs.declared.command.Control.{Control}
use Rattle.run_history.specs.declared.command.Control.TheVariants as control
use Rattle.run_history.specs.declared.event.Outcome.{Outcome}
use Rattle.run_history.specs.declared.event.QueryOut.{QueryOut}
use Rattle.run_history.specs.declared.refused.Refused.{Refused}
use Rattle.run_history.proofs.Laws.{job_at-with_job, job_at-with_other, job_at-added_other, job_at-next}
use Rattle.run_history.proofs.Lists.{Every, every_append, every_map, to_all}
use Rattle.run_state.specs.Answers.{steer_answer, steered_to, stopped_by}

-- ---- lists

abbrev EveryPair : {X : Type 0} → (X → X → Type 0) → List X → Type 0
EveryPair R [] = ⊤
EveryPair R (x ∷ xs) = Every (R x) xs × EveryPair R xs

to_pairs : {X : Type 0} (R : X → X → Type 0) (xs : List X) → EveryPair R xs → AllPairs R xs
to_pairs R [] h i j d lt within = absurd (omega arith)
to_pairs R (x ∷ xs) h i zero d lt within = absurd (omega arith)
to_pairs R (x ∷ xs) h zero (suc j) d lt within = to_all (R x) xs h.0 j d (omega arith)
to_pairs R (x ∷ xs) h (suc i) (suc j) d lt within = to_pairs R xs h.1 i j d (omega arith) (omega arith)

pair_push : {X : Type 0} (R : X → X → Type 0) (xs : List X) (new : X) → Every (λ x. R x new) xs → EveryPair R xs → EveryPair R (xs ++ new ∷ [])
pair_push R [] new e h = (tt, tt)
pair_push R (x ∷ xs) new e h = (every_append (R x) xs (new ∷ []) h.0 (e.0, tt), pair_push R xs new e.1 h.1)

-- ---- an attempt that is past

-- the job's attempt is no less, and greater while the job is in flight
record IsPast (job : JobRecord) (attempt : ℕ) : Type 0 where
  known : attempt ≤ job.attempt
  past : job.in_flight ≡ true → attempt < job.attempt

past_moved : (act : Act) (state : JobState) (job : JobRecord) (attempt : ℕ) → IsPast job attempt → IsPast (moved act state job) attempt
past_moved Act.Claim state job attempt h = record { known = omega (arith, h.known); past = λ flight. omega (arith, h.known) }
past_moved Act.Advance state job attempt h = record { known = h.known; past = λ flight. cc }
past_moved Act.Finish state job attempt h = record { known = h.known; past = λ flight. cc }
past_moved Act.Fail state job attempt h = record { known = h.known; past = λ flight. cc }
past_moved Act.Pause state job attempt h = record { known = h.known; past = λ flight. cc }
past_moved Act.Resume state job attempt h = record { known = h.known; past = λ flight. cc }
past_moved Act.Discard state job attempt h = record { known = h.known; past = λ flight. cc }

past_by : (act : Act) (o : Option JobState) (job : JobRecord) (attempt : ℕ) → IsPast job attempt → IsPast (moved_or_same act o job) attempt
past_by act (Some state) job attempt h = past_moved act state job attempt h
past_by act None job attempt h = h

past_next : (act : Act) (job : JobRecord) (attempt : ℕ) → IsPast job attempt → IsPast (next act job) attempt
past_next act job attempt h = past_by act (state_after act job.state) job attempt h

-- the attempt of a request is past
record IsRequestPast (jobs : List Submitted) (request : Request) : Type 0 where
  there : Submitted
  at : job_at jobs request.job ≡ Some there
  is_past : IsPast there.job request.attempt

same_submitted : (s t : Submitted) → Some s ≡ Some t → s ≡ t
same_submitted s t e = cc

request_set : (jobs : List Submitted) (n : ℕ) (s t : Submitted) → job_at jobs n ≡ Some s → ((attempt : ℕ) → IsPast s.job attempt → IsPast t.job attempt) → (request : Request) → IsRequestPast jobs request → IsRequestPast (with_job jobs n t) request
request_set jobs n s t at keeps request h =
    elim (cases_eq request.job n) [
      | inl same ↦
          let is : h.there ≡ s = same_submitted h.there s (sym h.at ∙ subst (λ (k : ℕ). job_at jobs k ≡ Some s) (sym same) at) in
          record {
            there = t;
            at = subst (λ (k : ℕ). job_at (with_job jobs n t) k ≡ Some t) (sym same) (job_at-with_job jobs n s t at);
            is_past = keeps request.attempt (subst (λ (x : Submitted). IsPast x.job request.attempt) is h.is_past);
          }
      | inr other ↦ record { there = h.there; at = job_at-with_other jobs n request.job s t at other ∙ h.at; is_past = h.is_past }
    ]

request_added : (jobs : List Submitted) (new : Submitted) (request : Request) → IsRequestPast jobs request → IsRequestPast (jobs ++ new ∷ []) request
request_added jobs new request h =
    elim (cases_eq request.job (length jobs + 1)) [
      | inl same ↦ absurd (nowhere (sym h.at ∙ subst (λ (k : ℕ). job_at jobs k ≡ None) (sym same) (job_at-next jobs)))
      | inr other ↦ record { there = h.there; at = job_at-added_other jobs new request.job other ∙ h.at; is_past = h.is_past }
    ]
  where
    nowhere : Some h.there ≡ None → ⊥
    nowhere e = cc

-- ---- turns

abbrev ArePast : List Submitted → List Request → Type 0
ArePast jobs stops = Every (IsRequestPast jobs) stops

module _ (stops : List Request) where
  past_set : (jobs : List Submitted) (n : ℕ) (s t : Submitted) → job_at jobs n ≡ Some s → ((attempt : ℕ) → IsPast s.job attempt → IsPast t.job attempt) → ArePast jobs stops → ArePast (with_job jobs n t) stops
  past_set jobs n s t at keeps h = every_map (IsRequestPast jobs) (IsRequestPast (with_job jobs n t)) stops (request_set jobs n s t at keeps) h

  past_act : (jobs : List Submitted) (n : ℕ) (s : Submitted) (act : Act) → job_at jobs n ≡ Some s → ArePast jobs stops → ArePast (with_job jobs n (record s { job = next act s.job })) stops
  past_act jobs n s act at h = past_set jobs n s (record s { job = next act s.job }) at (past_next act s.job) h

  module _ {Query : Type 0} where
    past_steered : (w : World Query) (control : Control) (n : ℕ) (o : Option Submitted) → job_of w n ≡ o → ArePast w.jobs stops → ArePast (steered w control n o).jobs stops
    past_steered w control n None at h = h
    past_steered w control n (Some s) at h = past_act w.jobs n s (act_of control) at h

    past_accepted : (w : World Query) (steps : ℕ) (command : Command Query) → ArePast w.jobs stops → ArePast (accepted steps w command).jobs stops
    past_accepted w steps (Load table rows) h = h
    past_accepted w steps (Submit kind r) h =
        every_map (IsRequestPast w.jobs) (IsRequestPast (w.jobs ++ record { job = new_job (length w.jobs + 1) kind steps; range = r; tables = None } ∷ [])) stops
        (request_added w.jobs (record { job = new_job (length w.jobs + 1) kind steps; range = r; tables = None })) h
    past_accepted w steps (Drop r) h = h
    past_accepted w steps (Steer control n) h = past_steered w control n (job_of w n) refl h
    past_accepted w steps (Ask session query) h = h
    past_accepted w steps (Note noted) h = h

    past_verdict : (w : World Query) (steps : ℕ) (command : Command Query) (o : Option Refused) → ArePast w.jobs stops → ArePast (by_verdict o steps w command).jobs stops
    past_verdict w steps command (Some r) h = h
    past_verdict w steps command None h = past_accepted w steps command h

    past_claimed : (w : World Query) (n attempt : ℕ) (o : Option Submitted) → job_of w n ≡ o → ArePast w.jobs stops → ArePast (claimed w n attempt o).jobs stops
    past_claimed w n attempt None at h = h
    past_claimed w n attempt (Some s) at h = past_set w.jobs n s (record s { job = next Act.Claim s.job; tables = Some (unwrap_or s.tables (in_force w)) }) at (past_next Act.Claim s.job) h

    past_end : (w : World Query) (n : ℕ) (s : Submitted) (how : Ended) → job_of w n ≡ Some s → ArePast w.jobs stops → ArePast (ended_as how w n s).jobs stops
    past_end w n s ended.Stale at h = h
    past_end w n s ended.Advanced at h = past_act w.jobs n s Act.Advance at h
    past_end w n s ended.Finished at h = past_act w.jobs n s Act.Finish at h
    past_end w n s ended.Failed at h = past_act w.jobs n s Act.Fail at h

    past_step : (w : World Query) (n attempt : ℕ) (out : Outcome) (o : Option Submitted) → job_of w n ≡ o → ArePast w.jobs stops → ArePast (step_ended w n attempt out o).jobs stops
    past_step w n attempt out None at h = h
    past_step w n attempt out (Some s) at h = past_end w n s (end_by out s.job attempt) at h

    past_taken : (w : World Query) (line : ℕ) (o : Option (Waiting Query)) → ArePast w.jobs stops → ArePast (query_taken w line o).jobs stops
    past_taken w line None h = h
    past_taken w line (Some q) h = h

    past_answered : (w : World Query) (line : ℕ) (out : QueryOut) (o : Option (Asked Query)) → ArePast w.jobs stops → ArePast (query_ended w line out o).jobs stops
    past_answered w line out None h = h
    past_answered w line out (Some q) h = h

    -- every turn keeps what is past
    past_turn : {Answer : Type 0} (cube : CubeSemantics Query Answer) (w : World Query) (turn : Turn Query) → ArePast w.jobs stops → ArePast (step cube w turn).jobs stops
    past_turn cube w (Takes line command) h = past_verdict (record w { line = line }) (steps_of cube command) command (verdict cube w command) h
    past_turn cube w (Claims n attempt) h = past_claimed w n attempt (job_of w n) refl h
    past_turn cube w (StepEnds n attempt out) h = past_step (record w { steps = without_claim n attempt w.steps }) n attempt out (job_of w n) refl h
    past_turn cube w (QueryTakes line) h = past_taken w line (find (λ q. q.line == line) w.waiting) h
    past_turn cube w (QueryEnds line out) h = past_answered w line out (find (λ q. q.waiting.line == line) w.asked) h

-- ---- stops

-- all that were stopped are past, and no two of them are equal
abbrev Holds : List Submitted → List Request → Type 0
Holds jobs stops = ArePast jobs stops × EveryPair (λ request other. request ≢ other) stops

-- a job that is in flight was not stopped at its attempt
not_stopped : (jobs : List Submitted) (n : ℕ) (s : Submitted) → job_at jobs n ≡ Some s → s.job.in_flight ≡ true → (request : Request) → IsRequestPast jobs request → request ≢ request_of n s.job.attempt
not_stopped jobs n s at flight request h e =
    let number : request.job ≡ n = ap (λ (r : Request). r.job) e in
    let attempt : request.attempt ≡ s.job.attempt = ap (λ (r : Request). r.attempt) e in
    let is : h.there ≡ s = same_submitted h.there s (sym h.at ∙ subst (λ (k : ℕ). job_at jobs k ≡ Some s) (sym number) at) in
    let past : IsPast s.job request.attempt = subst (λ (x : Submitted). IsPast x.job request.attempt) is h.is_past in
    absurd (omega (arith, past.past flight, attempt))

module _ (stops : List Request) (jobs : List Submitted) (n : ℕ) (s : Submitted) (at : job_at jobs n ≡ Some s) (h : Holds jobs stops) where
  nothing_more : (jobs2 : List Submitted) → ArePast jobs2 stops → Holds jobs2 (stops ++ [])
  nothing_more jobs2 p = rw (append-nil stops) (p, h.1)

  abbrev moved_jobs : Act → JobState → List Submitted
  moved_jobs act state = with_job jobs n (record s { job = moved act state s.job })

  moved_past : (act : Act) (state : JobState) → ArePast (moved_jobs act state) stops
  moved_past act state = past_set stops jobs n s (record s { job = moved act state s.job }) at (past_moved act state s.job) h.0

  one_more : (act : Act) (state : JobState) → IsPast (moved act state s.job) s.job.attempt → (b : Bool) → s.job.in_flight ≡ b → Holds (moved_jobs act state) (stops ++ request_for n (if b then Some s.job.attempt else None))
  one_more act state p false flight = nothing_more (moved_jobs act state) (moved_past act state)
  one_more act state p true flight = (
    every_append (IsRequestPast (moved_jobs act state)) stops (request_of n s.job.attempt ∷ []) (moved_past act state)
        (record { there = record s { job = moved act state s.job }; at = job_at-with_job jobs n s (record s { job = moved act state s.job }) at; is_past = p }, tt),
    pair_push (λ request other. request ≢ other) stops (request_of n s.job.attempt) (every_map (IsRequestPast jobs) (λ request. request ≢ request_of n s.job.attempt) stops (not_stopped jobs n s at flight) h.0) h.1,
  )

  stopped_state : (control : Control) (state : JobState) → Holds (moved_jobs (act_of control) state) (stops ++ request_for n (stopped_by control s.job))
  stopped_state control.Pause state = one_more Act.Pause state (record { known = omega arith; past = λ flight. cc }) s.job.in_flight refl
  stopped_state control.Discard state = one_more Act.Discard state (record { known = omega arith; past = λ flight. cc }) s.job.in_flight refl
  stopped_state control.Resume state = nothing_more (moved_jobs Act.Resume state) (moved_past Act.Resume state)

-- the jobs after a command on one of them
abbrev jobs_by : Option Refused → List Submitted → List Submitted → List Submitted
jobs_by (Some refused) same steered = same
jobs_by None same steered = steered

stopped_row : (stops : List Request) (jobs : List Submitted) (n : ℕ) (s : Submitted) → job_at jobs n ≡ Some s → Holds jobs stops → (control : Control) (o : Option JobState)
    → Holds (jobs_by (steer_by s.job.state o) jobs (with_job jobs n (record s { job = moved_or_same (act_of control) o s.job }))) (stops ++ requests_by n (steered_to control s.job o))
stopped_row stops jobs n s at h control (Some state) = stopped_state stops jobs n s at h control state
stopped_row stops jobs n s at h control None = nothing_more stops jobs n s at h jobs h.0

module _ {Query : Type 0} (stops : List Request) where
  stopped_steered : (w : World Query) (control : Control) (n : ℕ) (o : Option Submitted) → job_of w n ≡ o → Holds w.jobs stops
      → Holds (jobs_by (steer_refusal control n o) w.jobs (steered w control n o).jobs) (stops ++ requests_by n (steer_answer control n o))
  stopped_steered w control n None at h = rw (append-nil stops) h
  stopped_steered w control n (Some s) at h = stopped_row stops w.jobs n s at h control (state_after (act_of control) s.job.state)

  steered_jobs : (w : World Query) (steps n : ℕ) (control : Control) (o : Option Refused) → jobs_by o w.jobs (steered w control n (job_of w n)).jobs ≡ (by_verdict o steps w (Steer control n)).jobs
  steered_jobs w steps n control (Some r) = refl
  steered_jobs w steps n control None = refl

  module _ {Answer : Type 0} (cube : CubeSemantics Query Answer) where
    still : (w : World Query) (turn : Turn Query) → stops_at w turn ≡ [] → Holds w.jobs stops → Holds (step cube w turn).jobs (stops ++ stops_at w turn)
    still w turn none h = rw (none, append-nil stops) (past_turn stops cube w turn h.0, h.1)

    stopped_command : (w : World Query) (line : ℕ) (command : Command Query) → Holds w.jobs stops → Holds (step cube w (Takes line command)).jobs (stops ++ stops_by w command)
    stopped_command w line (Steer control n) h =
        let next = record w { line = line } in
        subst (λ (jobs : List Submitted). Holds jobs (stops ++ requests_by n (steer_answer control n (job_of w n)))) (steered_jobs next 0 n control (verdict cube w (Steer control n))) (stopped_steered next control n (job_of w n) refl h)
    stopped_command w line (Load table rows) h = still w (Takes line (Load table rows)) refl h
    stopped_command w line (Submit kind r) h = still w (Takes line (Submit kind r)) refl h
    stopped_command w line (Drop r) h = still w (Takes line (Drop r)) refl h
    stopped_command w line (Ask session query) h = still w (Takes line (Ask session query)) refl h
    stopped_command w line (Note noted) h = still w (Takes line (Note noted)) refl h

    stopped_turn : (w : World Query) (turn : Turn Query) → Holds w.jobs stops → Holds (step cube w turn).jobs (stops ++ stops_at w turn)
    stopped_turn w (Takes line command) h = stopped_command w line command h
    stopped_turn w (Claims n attempt) h = still w (Claims n attempt) refl h
    stopped_turn w (StepEnds n attempt out) h = still w (StepEnds n attempt out) refl h
    stopped_turn w (QueryTakes line) h = still w (QueryTakes line) refl h
    stopped_turn w (QueryEnds line out) h = still w (QueryEnds line out) refl h

module _ {Query Answer : Type 0} (cube : CubeSemantics Query Answer) where
  stopped_along : (w : World Query) (turns : List (Turn Query)) (stops : List Request) → Holds w.jobs stops → EveryPair (λ request other. request ≢ other) (stops ++ stops_along cube w turns)
  stopped_along w [] stops h = rw (append-nil stops) h.1
  stopped_along w (turn ∷ turns) stops h =
      subst (EveryPair (λ request other. request ≢ other)) (append_assoc stops (stops_at w turn) (stops_along cube (step cube w turn) turns))
      (stopped_along (step cube w turn) turns (stops ++ stops_at w turn) (stopped_turn stops cube w turn h))

  pub stops_world : (workers : ℕ) (initial : ReadySet) (turns : List (Turn Query)) → AllPairs (λ request other. request ≢ other) (stops_along cube (start workers (length cube.tables) initial) turns)
  stops_world workers initial turns = to_pairs (λ request other. request ≢ other) (stops_along cube (start workers (length cube.tables) initial) turns) (stopped_along (start workers (length cube.tables) initial) turns [] (tt, tt))
