-- What the acts of the job table keep of a job.
use Rattle.std.proofs.Common.{◌≡◌, ◌≢◌, ℕ, ◌+◌, ◌≤◌, ◌<◌, ◌⊎◌, Bool, true, false, ◌&&◌, ◌==◌, if◌then◌else◌, Option, Some, None, refl, sym, ap, ◌∙◌, inl, inr, arith}
use Rattle.std.proofs.lemmas.Bool.{and_parts, and_from, eqb-true, eq-eqb}
use Rattle.job_machine.specs.Job.{Act, JobRecord, IsJob, state_after, moved_or_same, next, new_job, waits_in, is_claimable, is_running, is_current, is_last_step}
use Rattle.job_machine.specs.Job.Act.{Claim, Advance, Finish, Fail, Pause, Resume, Discard}
use Rattle.job_machine.specs.declared.state.Ended.TheVariants as ended
use Rattle.job_machine.specs.declared.state.JobKind.{JobKind}
use Rattle.job_machine.specs.declared.state.JobState.{JobState}
use Rattle.job_machine.specs.declared.state.JobState.TheVariants.{Pending, Running, Error, Stopped, Discarded, Finished}
use Rattle.run_history.specs.Steps.{end_by}
use Rattle.run_history.specs.Verdicts.{act_of, steer_by}
use Rattle.run_history.specs.World.{is_finished, is_live}
use Rattle.run_history.specs.declared.command.Control.{Control}
use Rattle.run_history.specs.declared.command.Control.TheVariants as control
use Rattle.run_history.specs.declared.event.Outcome.{Outcome}
use Rattle.run_history.specs.declared.event.Outcome.TheVariants as outcome

-- what no act changes
pub record IsSameJob (old new : JobRecord) : Type 0 where
  pub id : new.id ≡ old.id
  pub kind : new.kind ≡ old.kind
  pub steps : new.steps ≡ old.steps

same_moved : (act : Act) (state : Option JobState) (job : JobRecord) → IsSameJob job (moved_or_same act state job)
same_moved Claim (Some state) job = record { id = refl; kind = refl; steps = refl }
same_moved Advance (Some state) job = record { id = refl; kind = refl; steps = refl }
same_moved Finish (Some state) job = record { id = refl; kind = refl; steps = refl }
same_moved act (Some state) job = record { id = refl; kind = refl; steps = refl }
same_moved act None job = record { id = refl; kind = refl; steps = refl }

pub same_job : (act : Act) (job : JobRecord) → IsSameJob job (next act job)
same_job act job = same_moved act (state_after act job.state) job

flight_moved : (act : Act) (state : Option JobState) (job : JobRecord) → (moved_or_same act state job).in_flight ≡ true → (act ≡ Claim) ⊎ (job.in_flight ≡ true)
flight_moved act None job h = inr h
flight_moved Claim (Some state) job h = inl refl
flight_moved Advance (Some state) job h = cc
flight_moved Finish (Some state) job h = cc
flight_moved act (Some state) job h = cc

-- only a claim brings a job into flight
pub flight_next : (act : Act) (job : JobRecord) → (next act job).in_flight ≡ true → (act ≡ Claim) ⊎ (job.in_flight ≡ true)
flight_next act job h = flight_moved act (state_after act job.state) job h

-- attempts never fall, and where an attempt counts that isn't a later one, it counted before, and the steps done are the same
pub record IsSameStep (old new : JobRecord) (attempt : ℕ) : Type 0 where
  pub current : is_current old attempt ≡ true
  pub done : new.done ≡ old.done

flight_ended : {P : Type 0} (state : JobState) (attempt other : ℕ) → is_running state && (false && (attempt == other)) ≡ true → P
flight_ended state attempt other h = let parts = and_parts (is_running state) (false && (attempt == other)) h in let never : false ≡ true = parts.1 in cc

step_moved : (act : Act) (state : Option JobState) (job : JobRecord) (attempt : ℕ) → attempt ≤ job.attempt → is_current (moved_or_same act state job) attempt ≡ true → IsSameStep job (moved_or_same act state job) attempt
step_moved act None job attempt le h = record { current = h; done = refl }
step_moved Claim (Some state) job attempt le h =
    let parts = and_parts (is_running state) (true && (job.attempt + 1 == attempt)) h in
    absurd (omega (arith, eqb-true (job.attempt + 1) attempt parts.1))
step_moved Advance (Some state) job attempt le h = flight_ended state job.attempt attempt h
step_moved Finish (Some state) job attempt le h = flight_ended state job.attempt attempt h
step_moved act (Some state) job attempt le h = flight_ended state job.attempt attempt h

pub step_next : (act : Act) (job : JobRecord) (attempt : ℕ) → attempt ≤ job.attempt → is_current (next act job) attempt ≡ true → IsSameStep job (next act job) attempt
step_next act job attempt le h = step_moved act (state_after act job.state) job attempt le h

attempts_moved : (act : Act) (state : Option JobState) (job : JobRecord) → job.attempt ≤ (moved_or_same act state job).attempt
attempts_moved act None job = omega arith
attempts_moved Claim (Some state) job = omega arith
attempts_moved Advance (Some state) job = omega arith
attempts_moved Finish (Some state) job = omega arith
attempts_moved act (Some state) job = omega arith

pub attempts_next : (act : Act) (job : JobRecord) → job.attempt ≤ (next act job).attempt
attempts_next act job = attempts_moved act (state_after act job.state) job

-- a job that was live stays a job by the table; the success of a step is one of the last step or of an earlier one
pub job_moves : (act : Act) (before : JobState) (job : JobRecord) → before ≡ job.state → IsJob job → (act ≡ Advance → job.done + 1 < job.steps) → (act ≡ Finish → job.done + 1 ≡ job.steps)
    → IsJob (moved_or_same act (state_after act before) job)
job_moves Claim Pending job e h a f = record { progress = h.progress; finished = ((λ same. let was = h.finished.0 same in cc), (λ same. cc)); flight = λ t. refl }
job_moves Claim Running job e h a f = record { progress = h.progress; finished = ((λ same. let was = h.finished.0 same in cc), (λ same. cc)); flight = λ t. refl }
job_moves Advance Running job e h a f = record { progress = omega (arith, a refl); finished = ((λ same. absurd (omega (arith, a refl, same))), (λ same. cc)); flight = λ t. cc }
job_moves Finish Running job e h a f = record { progress = omega (arith, f refl); finished = ((λ same. refl), (λ same. f refl)); flight = λ t. cc }
job_moves Fail Running job e h a f = record { progress = h.progress; finished = ((λ same. let was = h.finished.0 same in cc), (λ same. cc)); flight = λ t. cc }
job_moves Pause Pending job e h a f = record { progress = h.progress; finished = ((λ same. let was = h.finished.0 same in cc), (λ same. cc)); flight = λ t. cc }
job_moves Pause Running job e h a f = record { progress = h.progress; finished = ((λ same. let was = h.finished.0 same in cc), (λ same. cc)); flight = λ t. cc }
job_moves Resume Error job e h a f = record { progress = h.progress; finished = ((λ same. let was = h.finished.0 same in cc), (λ same. cc)); flight = λ t. cc }
job_moves Resume Stopped job e h a f = record { progress = h.progress; finished = ((λ same. let was = h.finished.0 same in cc), (λ same. cc)); flight = λ t. cc }
job_moves Discard Pending job e h a f = record { progress = h.progress; finished = ((λ same. let was = h.finished.0 same in cc), (λ same. cc)); flight = λ t. cc }
job_moves Discard Running job e h a f = record { progress = h.progress; finished = ((λ same. let was = h.finished.0 same in cc), (λ same. cc)); flight = λ t. cc }
job_moves Discard Error job e h a f = record { progress = h.progress; finished = ((λ same. let was = h.finished.0 same in cc), (λ same. cc)); flight = λ t. cc }
job_moves Discard Stopped job e h a f = record { progress = h.progress; finished = ((λ same. let was = h.finished.0 same in cc), (λ same. cc)); flight = λ t. cc }
job_moves act before job e h a f = h

pub job_is_new : (id : ℕ) (kind : JobKind) (steps : ℕ) → 0 < steps → IsJob (new_job id kind steps)
job_is_new id kind steps h = record { progress = omega arith; finished = ((λ same. absurd (omega arith)), (λ same. cc)); flight = λ t. cc }

-- ---- commands on a job

-- an accepted command finds a live job
pub steer_live : (control : Control) (before : JobState) → steer_by before (state_after (act_of control) before) ≡ None → is_live before ≡ true
steer_live control.Pause Discarded h = cc
steer_live control.Pause Finished h = cc
steer_live control.Resume Discarded h = cc
steer_live control.Resume Finished h = cc
steer_live control.Discard Discarded h = cc
steer_live control.Discard Finished h = cc
steer_live control Pending h = refl
steer_live control Running h = refl
steer_live control Error h = refl
steer_live control Stopped h = refl

-- after a pause or a discard it doesn't wait
pub pause_rests : (before : JobState) (job : JobRecord) → steer_by before (state_after Pause before) ≡ None → is_claimable (moved_or_same Pause (state_after Pause before) job) ≡ false
pause_rests Pending job h = refl
pause_rests Running job h = refl
pause_rests Error job h = cc
pause_rests Stopped job h = cc
pause_rests Discarded job h = cc
pause_rests Finished job h = cc

pub discard_rests : (before : JobState) (job : JobRecord) → steer_by before (state_after Discard before) ≡ None → is_claimable (moved_or_same Discard (state_after Discard before) job) ≡ false
discard_rests Pending job h = refl
discard_rests Running job h = refl
discard_rests Error job h = refl
discard_rests Stopped job h = refl
discard_rests Discarded job h = cc
discard_rests Finished job h = cc

-- a resume finds a job that doesn't wait, and then it does
pub resume_waits : (before : JobState) (job : JobRecord) → steer_by before (state_after Resume before) ≡ None
    → (waits_in before job.in_flight ≡ false) × (is_claimable (moved_or_same Resume (state_after Resume before) job) ≡ true)
resume_waits Error job h = (refl, refl)
resume_waits Stopped job h = (refl, refl)
resume_waits Pending job h = cc
resume_waits Running job h = cc
resume_waits Discarded job h = cc
resume_waits Finished job h = cc

-- ---- claims

-- a job that waits is live, and once claimed it doesn't wait
pub claim_live : (before : JobState) (in_flight : Bool) → waits_in before in_flight ≡ true → is_live before ≡ true
claim_live Pending in_flight h = refl
claim_live Running in_flight h = refl
claim_live Error in_flight h = cc
claim_live Stopped in_flight h = cc
claim_live Discarded in_flight h = cc
claim_live Finished in_flight h = cc

pub claim_rests : (before : JobState) (job : JobRecord) → waits_in before job.in_flight ≡ true → is_claimable (moved_or_same Claim (state_after Claim before) job) ≡ false
claim_rests Pending job h = refl
claim_rests Running job h = refl
claim_rests Error job h = cc
claim_rests Stopped job h = cc
claim_rests Discarded job h = cc
claim_rests Finished job h = cc

-- ---- ends of steps

pub running_is : (state : JobState) → is_running state ≡ true → state ≡ Running
running_is Running h = refl
running_is Pending h = cc
running_is Error h = cc
running_is Stopped h = cc
running_is Discarded h = cc
running_is Finished h = cc

-- an attempt that counts
pub record Counts (job : JobRecord) (attempt : ℕ) : Type 0 where
  pub running : job.state ≡ Running
  pub in_flight : job.in_flight ≡ true
  pub same : job.attempt ≡ attempt

pub current_counts : (job : JobRecord) (attempt : ℕ) → is_current job attempt ≡ true → Counts job attempt
current_counts job attempt h =
    let parts = and_parts (is_running job.state) (job.in_flight && (job.attempt == attempt)) h in
    let more = and_parts job.in_flight (job.attempt == attempt) parts.1 in
    record { running = running_is job.state parts.0; in_flight = more.0; same = eqb-true job.attempt attempt more.1 }

ok_advanced : (current last : Bool) → (if current then (if last then ended.Finished else ended.Advanced) else ended.Stale) ≡ ended.Advanced → (current ≡ true) × (last ≡ false)
ok_advanced true true h = cc
ok_advanced true false h = (refl, refl)
ok_advanced false last h = cc

ok_finished : (current last : Bool) → (if current then (if last then ended.Finished else ended.Advanced) else ended.Stale) ≡ ended.Finished → (current ≡ true) × (last ≡ true)
ok_finished true true h = (refl, refl)
ok_finished true false h = cc
ok_finished false last h = cc

ok_failed : {P : Type 0} (current last : Bool) → (if current then (if last then ended.Finished else ended.Advanced) else ended.Stale) ≡ ended.Failed → P
ok_failed true true h = cc
ok_failed true false h = cc
ok_failed false last h = cc

fail_advanced : {P : Type 0} (current : Bool) → (if current then ended.Failed else ended.Stale) ≡ ended.Advanced → P
fail_advanced true h = cc
fail_advanced false h = cc

fail_finished : {P : Type 0} (current : Bool) → (if current then ended.Failed else ended.Stale) ≡ ended.Finished → P
fail_finished true h = cc
fail_finished false h = cc

fail_failed : (current : Bool) → (if current then ended.Failed else ended.Stale) ≡ ended.Failed → current ≡ true
fail_failed true h = refl
fail_failed false h = cc

pub by_advanced : (out : Outcome) (job : JobRecord) (attempt : ℕ) → end_by out job attempt ≡ ended.Advanced → (is_current job attempt ≡ true) × (is_last_step job ≡ false)
by_advanced outcome.Done job attempt h = ok_advanced (is_current job attempt) (is_last_step job) h
by_advanced out job attempt h = fail_advanced (is_current job attempt) h

pub by_finished : (out : Outcome) (job : JobRecord) (attempt : ℕ) → end_by out job attempt ≡ ended.Finished → (is_current job attempt ≡ true) × (is_last_step job ≡ true)
by_finished outcome.Done job attempt h = ok_finished (is_current job attempt) (is_last_step job) h
by_finished out job attempt h = fail_finished (is_current job attempt) h

pub by_failed : (out : Outcome) (job : JobRecord) (attempt : ℕ) → end_by out job attempt ≡ ended.Failed → is_current job attempt ≡ true
by_failed outcome.Done job attempt h = ok_failed (is_current job attempt) (is_last_step job) h
by_failed out job attempt h = fail_failed (is_current job attempt) h

-- after a step that isn't the last one the job waits; a job in flight doesn't
pub advance_waits : (before : JobState) (job : JobRecord) → before ≡ Running → is_claimable (moved_or_same Advance (state_after Advance before) job) ≡ true
advance_waits Running job h = refl
advance_waits Pending job h = cc
advance_waits Error job h = cc
advance_waits Stopped job h = cc
advance_waits Discarded job h = cc
advance_waits Finished job h = cc

pub fail_rests : (before : JobState) (job : JobRecord) → before ≡ Running → is_claimable (moved_or_same Fail (state_after Fail before) job) ≡ false
fail_rests Running job h = refl
fail_rests Pending job h = cc
fail_rests Error job h = cc
fail_rests Stopped job h = cc
fail_rests Discarded job h = cc
fail_rests Finished job h = cc

pub finish_ends : (before : JobState) (job : JobRecord) → before ≡ Running → (moved_or_same Finish (state_after Finish before) job).state ≡ Finished
finish_ends Running job h = refl
finish_ends Pending job h = cc
finish_ends Error job h = cc
finish_ends Stopped job h = cc
finish_ends Discarded job h = cc
finish_ends Finished job h = cc

waits_flight : (before : JobState) (in_flight : Bool) → before ≡ Running → in_flight ≡ true → waits_in before in_flight ≡ false
waits_flight Running true h f = refl
waits_flight Running false h f = cc
waits_flight Pending in_flight h f = cc
waits_flight Error in_flight h f = cc
waits_flight Stopped in_flight h f = cc
waits_flight Discarded in_flight h f = cc
waits_flight Finished in_flight h f = cc

pub flight_rests : (job : JobRecord) (attempt : ℕ) → Counts job attempt → is_claimable job ≡ false
flight_rests job attempt c = waits_flight job.state job.in_flight c.running c.in_flight

pub running_live : (state : JobState) → state ≡ Running → is_live state ≡ true
running_live state e = ap is_live e

-- ---- attempts

attempt_moved : (act : Act) (state : Option JobState) (job : JobRecord) → act ≢ Claim → (moved_or_same act state job).attempt ≡ job.attempt
attempt_moved act None job e = refl
attempt_moved Claim (Some state) job e = absurd (e refl)
attempt_moved Advance (Some state) job e = refl
attempt_moved Finish (Some state) job e = refl
attempt_moved act (Some state) job e = refl

-- only a claim begins an attempt
pub attempt_next : (act : Act) (job : JobRecord) → act ≢ Claim → (next act job).attempt ≡ job.attempt
attempt_next act job e = attempt_moved act (state_after act job.state) job e

-- and a claim of a job that waits does
pub attempt_claimed : (before : JobState) (job : JobRecord) → waits_in before job.in_flight ≡ true → (moved_or_same Claim (state_after Claim before) job).attempt ≡ job.attempt + 1
attempt_claimed Pending job h = refl
attempt_claimed Running job h = refl
attempt_claimed Error job h = cc
attempt_claimed Stopped job h = cc
attempt_claimed Discarded job h = cc
attempt_claimed Finished job h = cc

ok_stale : (current last : Bool) → (if current then (if last then ended.Finished else ended.Advanced) else ended.Stale) ≡ ended.Stale → current ≡ false
ok_stale true true h = cc
ok_stale true false h = cc
ok_stale false last h = refl

fail_stale : (current : Bool) → (if current then ended.Failed else ended.Stale) ≡ ended.Stale → current ≡ false
fail_stale true h = cc
fail_stale false h = refl

pub by_stale : (out : Outcome) (job : JobRecord) (attempt : ℕ) → end_by out job attempt ≡ ended.Stale → is_current job attempt ≡ false
by_stale outcome.Done job attempt h = ok_stale (is_current job attempt) (is_last_step job) h
by_stale out job attempt h = fail_stale (is_current job attempt) h

-- the attempt in flight counts
pub flight_current : (job : JobRecord) (attempt : ℕ) → IsJob job → job.in_flight ≡ true → job.attempt ≡ attempt → is_current job attempt ≡ true
flight_current job attempt h flight same = and_from (is_running job.state) (job.in_flight && (job.attempt == attempt)) (ap is_running (h.flight flight)) (and_from job.in_flight (job.attempt == attempt) flight (eq-eqb job.attempt attempt same))

-- after the end of its attempt a job isn't in flight
pub advance_lands : (job : JobRecord) → job.state ≡ Running → (next Advance job).in_flight ≡ false
advance_lands job e = ap (λ (state : JobState). (moved_or_same Advance (state_after Advance state) job).in_flight) e

pub finish_lands : (job : JobRecord) → job.state ≡ Running → (next Finish job).in_flight ≡ false
finish_lands job e = ap (λ (state : JobState). (moved_or_same Finish (state_after Finish state) job).in_flight) e

pub fail_lands : (job : JobRecord) → job.state ≡ Running → (next Fail job).in_flight ≡ false
fail_lands job e = ap (λ (state : JobState). (moved_or_same Fail (state_after Fail state) job).in_flight) e

-- ---- jobs that are over

-- no act moves a job that isn't live
pub over_stays : (act : Act) (before : JobState) (job : JobRecord) → is_live before ≡ false → moved_or_same act (state_after act before) job ≡ job
over_stays Claim Discarded job e = refl
over_stays Claim Finished job e = refl
over_stays Advance Discarded job e = refl
over_stays Advance Finished job e = refl
over_stays Finish Discarded job e = refl
over_stays Finish Finished job e = refl
over_stays Fail Discarded job e = refl
over_stays Fail Finished job e = refl
over_stays Pause Discarded job e = refl
over_stays Pause Finished job e = refl
over_stays Resume Discarded job e = refl
over_stays Resume Finished job e = refl
over_stays Discard Discarded job e = refl
over_stays Discard Finished job e = refl
over_stays act Pending job e = cc
over_stays act Running job e = cc
over_stays act Error job e = cc
over_stays act Stopped job e = cc

-- so a job is live only where it was
pub live_next : (act : Act) (job : JobRecord) → is_live (next act job).state ≡ true → is_live job.state ≡ true
live_next act job h = by (is_live job.state) refl
  where
    by : (b : Bool) → is_live job.state ≡ b → is_live job.state ≡ true
    by true e = e
    by false e = ap (λ (j : JobRecord). is_live j.state) (sym (over_stays act job.state job e)) ∙ h

finished_over : (state : JobState) → is_finished state ≡ true → is_live state ≡ false
finished_over Finished h = refl
finished_over Pending h = cc
finished_over Running h = cc
finished_over Error h = cc
finished_over Stopped h = cc
finished_over Discarded h = cc

-- and stays FINISHED
pub finished_next : (act : Act) (job : JobRecord) → is_finished job.state ≡ true → is_finished (next act job).state ≡ true
finished_next act job h = ap (λ (j : JobRecord). is_finished j.state) (over_stays act job.state job (finished_over job.state h)) ∙ h
