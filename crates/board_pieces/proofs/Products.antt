-- The product that a hand gives at the end of a step: while its attempt counts, that of the task of its job's next step.
use Rattle.std.proofs.Common.{◌≡◌, ℕ, ◌<◌, ◌≤◌, ◌&&◌, ◌==◌, Bool, true, false, cond, Option, Some, None, Ok, Err, List, [], ◌∷◌, ◌++◌, refl, sym, ap, ◌∙◌, subst, arith, unwrap_or, eq-eqb}
use Rattle.std.specs.Prelude.{IfOk, fold, nat_le}
use Rattle.std.proofs.lemmas.Bool.{leb-true}
use Rattle.fixed_cube.specs.Cube.{fixed}
use Rattle.fixed_cube.specs.Tasks.{IsTask, product_of}
use Rattle.fixed_state.specs.Ends.{Answer, IsProductOf}
use Rattle.job_board.specs.BoardModel.{BoardModel, now, turns}
use Rattle.job_board.proofs.Steps.{has_steps}
use Rattle.job_machine.specs.Job.{Act, JobRecord, is_current, moved_or_same, next, state_after}
use Rattle.job_machine.specs.declared.state.JobKind.{JobKind}
use Rattle.job_machine.specs.declared.state.JobKind.TheVariants.{Build, Refresh, Merge}
use Rattle.job_machine.specs.declared.state.JobState.{JobState}
use Rattle.outside.specs.Hands.{call_of}
use Rattle.plain_answer.specs.declared.ask.Ask.{Ask as Query}
use Rattle.run_history.specs.Commands.{Turn}
use Rattle.run_history.specs.Commands.Turn.{Claims}
use Rattle.run_history.specs.Cubes.{Snapshot}
use Rattle.run_history.specs.Histories.{Along, Allowed, claim_count}
use Rattle.run_history.specs.Invariants.{AreClaims, IsSound, claims_of}
use Rattle.run_history.specs.Kept.{IsKept}
use Rattle.run_history.specs.Steps.{claimed, step, world}
use Rattle.run_history.specs.World.{Submitted, World, in_force, job_of, next_task, parts_by, start}
use Rattle.run_history.proofs.Flights.{claims_world, keeps_claims}
use Rattle.run_history.proofs.Kept.{kept_turns, task_kept}
use Rattle.run_history.proofs.Laws.{claim_count-push, job_at-with_job}
use Rattle.run_history.proofs.Sound.{empty_starts, keeps_sound, sound_world}
use Rattle.step_outcomes.specs.Calls.{IsTaskOf}
use Rattle.worker_pool.specs.declared.piece.Work.{Work}
use Rattle.board_pieces.specs.InFlight.{IsStepOf}
use Rattle.board_pieces.proofs.Reached.{IsReached, along-behind, along-front, now-behind}
use Rattle.board_pieces.proofs.Worlds.{steps-claimed}

-- ---- a claim leaves the task

abbrev claimed_job : World Query → Submitted → Submitted
claimed_job w s = record s { job = next Act.Claim s.job; tables = Some (unwrap_or s.tables (in_force w)) }

kind_kept : (to : Option JobState) (job : JobRecord) → (moved_or_same Act.Claim to job).kind ≡ job.kind
kind_kept None job = refl
kind_kept (Some state) job = refl

done_kept : (to : Option JobState) (job : JobRecord) → (moved_or_same Act.Claim to job).done ≡ job.done
done_kept None job = refl
done_kept (Some state) job = refl

parts_kept : (kind : JobKind) (w : World Query) (job attempt : ℕ) (s : Submitted) → parts_by kind (claimed w job attempt (Some s)) (claimed_job w s) ≡ parts_by kind w s
parts_kept Build w job attempt s = refl
parts_kept Refresh w job attempt s = refl
parts_kept Merge w job attempt s = refl

task_claimed : (w : World Query) (job attempt : ℕ) (s : Submitted) → next_task fixed (claimed w job attempt (Some s)) (claimed_job w s) ≡ next_task fixed w s
task_claimed w job attempt s =
    ap (λ (n : ℕ). fixed.task (next Act.Claim s.job).kind s.range (parts_by (next Act.Claim s.job).kind (claimed w job attempt (Some s)) (claimed_job w s)) n) (done_kept (state_after Act.Claim s.job.state) s.job)
    ∙ (ap (λ (kind : JobKind). fixed.task kind s.range (parts_by kind (claimed w job attempt (Some s)) (claimed_job w s)) s.job.done) (kind_kept (state_after Act.Claim s.job.state) s.job)
    ∙ ap (λ (parts : List (List Snapshot)). fixed.task s.job.kind s.range parts s.job.done) (parts_kept s.job.kind w job attempt s))

-- ---- an attempt with a claim is one that its job had

some_same : (s t : Submitted) → Some s ≡ Some t → s ≡ t
some_same s t e = cc

counts_right : (b c : Bool) → 0 < cond (b && c) 1 0 → c ≡ true
counts_right true true h = refl
counts_right true false h = absurd (omega (arith, h))
counts_right false c h = absurd (omega (arith, h))

had_by : (found : Option Submitted) (s : Submitted) (attempt count : ℕ) → found ≡ Some s → count ≤ claims_of found attempt → 0 < count → attempt ≤ s.job.attempt
had_by found s attempt count e most some =
    let least : 0 < claims_of (Some s) attempt = subst (λ (o : Option Submitted). 0 < claims_of o attempt) e (omega (arith, most, some)) in
    leb-true attempt s.job.attempt (counts_right (nat_le 1 attempt) (nat_le attempt s.job.attempt) least)

both_true : (b c : Bool) → b ≡ true → c ≡ true → cond {A = ℕ} (b && c) 1 0 ≡ 1
both_true true true e f = refl
both_true true false e f = absurd (let clash : false ≡ true = f in cc)
both_true false c e f = absurd (let clash : false ≡ true = e in cc)

-- ---- the task at the end

module _ (board : BoardModel) (job attempt : ℕ) (task : List ℕ) (r : IsReached board) (t : IsTaskOf fixed board.workers (turns board) (call_of job attempt task)) where
  abbrev before : World Query
  before = world fixed board.workers [] t.before

  abbrev after : World Query
  after = step fixed before (Claims job attempt)

  all_legal : Along fixed Allowed (start board.workers 1 []) (t.before ++ Claims job attempt ∷ t.later)
  all_legal = subst (λ (ts : List (Turn Query)). Along fixed Allowed (start board.workers 1 []) ts) t.claimed r.legal

  front_legal : Along fixed Allowed (start board.workers 1 []) t.before
  front_legal = along-front fixed Allowed (start board.workers 1 []) t.before (Claims job attempt ∷ t.later) all_legal

  behind_legal : Along fixed Allowed before (Claims job attempt ∷ t.later)
  behind_legal = along-behind fixed Allowed (start board.workers 1 []) t.before (Claims job attempt ∷ t.later) all_legal

  before_sound : IsSound fixed before
  before_sound = sound_world fixed has_steps board.workers [] t.before empty_starts front_legal

  after_sound : IsSound fixed after
  after_sound = keeps_sound fixed has_steps before (Claims job attempt) behind_legal.0 before_sound

  after_claims : AreClaims after.jobs after.steps
  after_claims =
      keeps_claims fixed before (Claims job attempt) behind_legal.0 before_sound (claims_world fixed has_steps board.workers [] t.before empty_starts front_legal)

  after_is : after ≡ claimed before job attempt (Some t.job)
  after_is = ap (claimed before job attempt) t.there

  there_after : job_of after job ≡ Some (claimed_job before t.job)
  there_after = ap (λ (w : World Query). job_of w job) after_is ∙ job_at-with_job before.jobs job t.job (claimed_job before t.job) t.there

  claim_there : 0 < claim_count job attempt after.steps
  claim_there = omega (
    arith,
    ap (claim_count job attempt) (steps-claimed before job attempt (job_of before job) behind_legal.0.2),
    claim_count-push job attempt before.steps (job, attempt),
    both_true (job == job) (attempt == attempt) (eq-eqb job job refl) (eq-eqb attempt attempt refl),
  )

  had : attempt ≤ (claimed_job before t.job).job.attempt
  had = had_by (job_of after job) (claimed_job before t.job) attempt (claim_count job attempt after.steps) there_after (after_claims.each_once job attempt) claim_there

  abbrev later_world : World Query
  later_world = fold (step fixed) after t.later

  kept : IsKept after later_world
  kept = kept_turns fixed has_steps after t.later after_sound behind_legal.1

  now_is : now board ≡ later_world
  now_is = now-behind board t.before (Claims job attempt ∷ t.later) t.claimed

  later_task : (s : Submitted) → job_of later_world job ≡ Some s → is_current s.job attempt ≡ true → next_task fixed later_world s ≡ task
  later_task s there current =
      let k = kept.jobs job (claimed_job before t.job) there_after in
      let same : k.0 ≡ s = some_same k.0 s (sym k.1.0 ∙ there) in
      let still : is_current k.0.job attempt ≡ true = subst (λ (x : Submitted). is_current x.job attempt ≡ true) (sym same) current in
      ap (next_task fixed later_world) (sym same)
      ∙ (task_kept fixed after later_world (claimed_job before t.job) k.0 attempt k.1.1 had still
      ∙ (ap (λ (w : World Query). next_task fixed w (claimed_job before t.job)) after_is ∙ (task_claimed before job attempt t.job ∙ sym t.task)))

  -- while the attempt counts, its task is that of its job's next step
  pub task-now : (s : Submitted) → job_of (now board) job ≡ Some s → is_current s.job attempt ≡ true → next_task fixed (now board) s ≡ task
  task-now s = subst (λ (w : World Query). job_of w job ≡ Some s → is_current s.job attempt ≡ true → next_task fixed w s ≡ task) (sym now_is) (later_task s)

by_answer : (w : World Query) (s : Submitted) (attempt : ℕ) (task : List ℕ) (answer : Answer) → (is_current s.job attempt ≡ true → next_task fixed w s ≡ task)
    → IfOk answer (λ product. product.items ≡ product_of task) → IsProductOf w (Some s) attempt answer
by_answer w s attempt task (Ok product) t h = λ current. h ∙ ap product_of (sym (t current))
by_answer w s attempt task (Err f) t h = tt

by_found : (w : World Query) (found : Option Submitted) (attempt : ℕ) (task : List ℕ) (answer : Answer)
    → ((s : Submitted) → found ≡ Some s → is_current s.job attempt ≡ true → next_task fixed w s ≡ task) → IfOk answer (λ product. product.items ≡ product_of task) → IsProductOf w found attempt answer
by_found w None attempt task answer t h = tt
by_found w (Some s) attempt task answer t h = by_answer w s attempt task answer (t s refl) h

-- what an honest hand answers to a step as it was claimed
pub product-ended : (honest : Type 0) (board : BoardModel) (work : Work) (answer : Answer) → IsReached board → IsStepOf honest board work
    → (honest → IsTask work.task.items → IfOk answer (λ product. product.items ≡ product_of work.task.items)) → honest → IsProductOf (now board) (job_of (now board) work.job) work.attempt answer
product-ended honest board work answer r s product trust =
    by_found (now board) (job_of (now board) work.job) work.attempt work.task.items answer (task-now board work.job work.attempt work.task.items r (s.task trust))
    (product trust s.is_task)
