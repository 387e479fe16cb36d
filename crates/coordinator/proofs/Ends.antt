-- The ends of steps: their products, and what hands count.
use Rattle.std.proofs.Common.{◌≡◌, ℕ, ◌+◌, ◌≤◌, Bool, true, false, cond, Option, Some, None, Ok, Err, List, map, unwrap_or, refl, sym, ap, ◌∙◌, subst, arith}
use Rattle.std.specs.Prelude.{IfOk, count_by}
use Rattle.std.proofs.lemmas.List.{map-append}
use Rattle.std.proofs.lemmas.List.Sums.{sum_by-append}
use Rattle.job_board.specs.Ledger.{Answer, IsProductOf, cube, product_of}
use Rattle.job_board.specs.BoardModel.{IsCountedAs, IsRecordedAs, BoardModel, task_of, turns}
use Rattle.job_machine.specs.Job.{Act, JobRecord, is_current, moved_or_same, next, state_after}
use Rattle.job_machine.specs.declared.state.JobKind.{JobKind}
use Rattle.job_machine.specs.declared.state.JobKind.TheVariants.{Build, Refresh, Merge}
use Rattle.job_machine.specs.declared.state.JobState.{JobState}
use Rattle.outside.specs.Rises.{Risen}
use Rattle.outside.proofs.Rises.{Risen-fewer, Risen-none, Risen-then}
use Rattle.plain_answer.specs.declared.ask.Ask.{Ask as Query}
use Rattle.run_history.specs.Commands.{Turn, event_of}
use Rattle.run_history.specs.Commands.Turn.{Claims}
use Rattle.run_history.specs.Cubes.{Snapshot}
use Rattle.run_history.specs.Histories.{IsNextAttempt}
use Rattle.run_history.specs.Steps.{claimed, step}
use Rattle.run_history.specs.World.{Submitted, World, in_force, job_of, next_task, parts_by}
use Rattle.run_history.specs.declared.event.Event.{Event}
use Rattle.run_history.specs.declared.event.Outcome.{Outcome}
use Rattle.run_history.proofs.Laws.{job_at-with_job}
use Rattle.coordinator.specs.Coordinator.{IsCounted, IsGrown}
use Rattle.step_outcomes.proofs.AnswerFacts.{fault_count, fault_current, fault_stale, rises_of}
use Rattle.step_outcomes.specs.Ends.{fault_ends, is_end, is_fault, is_no_memory, run_ends}

-- ---- products

abbrev pub claimed_job : World Query → Submitted → Submitted
claimed_job w s = record s { job = next Act.Claim s.job; tables = Some (unwrap_or s.tables (in_force w)) }

kind_kept : (to : Option JobState) (job : JobRecord) → (moved_or_same Act.Claim to job).kind ≡ job.kind
kind_kept None job = refl
kind_kept (Some state) job = refl

done_kept : (to : Option JobState) (job : JobRecord) → (moved_or_same Act.Claim to job).done ≡ job.done
done_kept None job = refl
done_kept (Some state) job = refl

parts_kept : (kind : JobKind) (w : World Query) (job attempt : ℕ) (s : Submitted) → parts_by kind (claimed w job attempt (Some s)) (claimed_job w s) ≡ parts_by kind w s
parts_kept Build w job attempt s = refl
parts_kept Refresh w job attempt s = refl
parts_kept Merge w job attempt s = refl

-- a claim leaves the task
pub task_kept : (w : World Query) (job attempt : ℕ) (s : Submitted) → next_task cube (claimed w job attempt (Some s)) (claimed_job w s) ≡ next_task cube w s
task_kept w job attempt s =
    ap (λ (n : ℕ). cube.task (next Act.Claim s.job).kind s.range (parts_by (next Act.Claim s.job).kind (claimed w job attempt (Some s)) (claimed_job w s)) n) (done_kept (state_after Act.Claim s.job.state) s.job)
    ∙ (ap (λ (kind : JobKind). cube.task kind s.range (parts_by kind (claimed w job attempt (Some s)) (claimed_job w s)) s.job.done) (kind_kept (state_after Act.Claim s.job.state) s.job)
    ∙ ap (λ (parts : List (List Snapshot)). cube.task s.job.kind s.range parts s.job.done) (parts_kept s.job.kind w job attempt s))

task_found : (w : World Query) (job attempt : ℕ) (found : Option Submitted) (task : List ℕ) → job_of w job ≡ found → IsNextAttempt found attempt
    → ((s : Submitted) → found ≡ Some s → task ≡ next_task cube w s)
    → (s : Submitted) → job_of (claimed w job attempt found) job ≡ Some s → task ≡ next_task cube (claimed w job attempt found) s
task_found w job attempt None task e h t s k = absurd h
task_found w job attempt (Some first) task e h t s k =
    let there : job_of (claimed w job attempt (Some first)) job ≡ Some (claimed_job w first) = job_at-with_job w.jobs job first (claimed_job w first) e in
    let same : Some (claimed_job w first) ≡ Some s = sym there ∙ k in
    let job_is : claimed_job w first ≡ s = cc in
    t first refl ∙ (sym (task_kept w job attempt first) ∙ ap (next_task cube (claimed w job attempt (Some first))) job_is)

-- the task that was claimed is that of the job's next step, also after the claim
pub task-claimed : (w w' : World Query) (job attempt : ℕ) (task : List ℕ) → w' ≡ step cube w (Claims job attempt) → IsNextAttempt (job_of w job) attempt
    → ((s : Submitted) → job_of w job ≡ Some s → task ≡ next_task cube w s) → (s : Submitted) → job_of w' job ≡ Some s → task ≡ next_task cube w' s
task-claimed w w' job attempt task e h t =
    subst (λ (x : World Query). (s : Submitted) → job_of x job ≡ Some s → task ≡ next_task cube x s) (sym e) (task_found w job attempt (job_of w job) task refl h t)

by_answer : (w : World Query) (s : Submitted) (attempt : ℕ) (task : List ℕ) (answer : Answer) → task ≡ next_task cube w s → IfOk answer (λ product. product.items ≡ product_of task)
    → IsProductOf w (Some s) attempt answer
by_answer w s attempt task (Ok product) t h = λ current. h ∙ ap product_of t
by_answer w s attempt task (Err f) t h = tt

-- the product of this task is that of the job's next step
pub product-is : (w : World Query) (found : Option Submitted) (attempt : ℕ) (task : List ℕ) (answer : Answer) → ((s : Submitted) → found ≡ Some s → task ≡ next_task cube w s)
    → IfOk answer (λ product. product.items ≡ product_of task) → IsProductOf w found attempt answer
product-is w None attempt task answer t h = tt
product-is w (Some s) attempt task answer t h = by_answer w s attempt task answer (t s refl) h

-- ---- counts

fault_counted : (b : Bool) (task : List ℕ) (answer : Answer) (o : Outcome) → IsCountedAs b task answer o → fault_count o ≤ rises_of answer
fault_counted true task answer o h = fault_current task answer o h
fault_counted false task answer o h = fault_stale answer o h

pub fault_rises : (w : World Query) (found : Option Submitted) (products : List (List ℕ)) (attempt : ℕ) (answer : Answer) (o : Outcome)
    → IsRecordedAs w found products attempt answer o → fault_count o ≤ rises_of answer
fault_rises w None products attempt answer o h = fault_stale answer o h
fault_rises w (Some s) products attempt answer o h = fault_counted (is_current s.job attempt) (task_of w s products) answer o h

ends_grown : (test : Event → Bool) (old new : BoardModel) (later : List (Turn Query)) → IsGrown old later new
    → count_by test (map event_of (turns new)) ≡ count_by test (map event_of (turns old)) + count_by test (map event_of later)
ends_grown test old new later g =
    ap (λ (ts : List (Turn Query)). count_by test (map event_of ts)) g.turns
    ∙ (ap (count_by test) (map-append event_of (turns old) later) ∙ sum_by-append (λ event. cond (test event) 1 0) (map event_of (turns old)) (map event_of later))

-- turns, while hands count so much more
pub counted-grown : {H : Type 0} (runs faults : H → ℕ) (base hands hands' : List H) (old new : BoardModel) (later : List (Turn Query)) (n m : ℕ) → IsGrown old later new
    → run_ends (map event_of later) ≤ n → fault_ends (map event_of later) ≤ m → Risen runs hands hands' n → Risen faults hands hands' m
    → IsCounted runs faults base hands old → IsCounted runs faults base hands' new
counted-grown runs faults base hands hands' old new later n m g hn hm rn rm c = record {
  ran = Risen-fewer runs base hands' _ _ (omega (arith, ends_grown (is_end is_no_memory) old new later g, hn)) (Risen-then runs base hands hands' _ n c.ran rn);
  failed = Risen-fewer faults base hands' _ _ (omega (arith, ends_grown (is_end is_fault) old new later g, hm)) (Risen-then faults base hands hands' _ m c.failed rm);
}

pub counted-silent : {H : Type 0} (runs faults : H → ℕ) (base hands : List H) (old new : BoardModel) (later : List (Turn Query)) → IsGrown old later new
    → run_ends (map event_of later) ≡ 0 → fault_ends (map event_of later) ≡ 0 → IsCounted runs faults base hands old → IsCounted runs faults base hands new
counted-silent runs faults base hands old new later g hn hm c =
    counted-grown runs faults base hands hands old new later 0 0 g (omega (arith, hn)) (omega (arith, hm)) (Risen-none runs hands) (Risen-none faults hands) c
