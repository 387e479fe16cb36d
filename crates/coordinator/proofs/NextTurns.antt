-- Where nothing may come next, nothing is left to do.
use Rattle.std.proofs.Common.{◌≡◌, ℕ, zero, suc, ◌≤◌, ◌<◌, Bool, true, false, ◌&&◌, ◌||◌, Some, List, [], ◌∷◌, length, slice_get, refl, ap, ◌∙◌, arith, eq-eqb}
use Rattle.std.specs.List.{list_any}
use Rattle.job_board.specs.BoardModel.{BoardModel, now}
use Rattle.plain_answer.specs.declared.ask.Ask.{Ask as Query}
use Rattle.run_history.specs.Histories.{AreAtRest, IsAtRest, MayNote, is_empty, is_settled}
use Rattle.run_history.specs.World.{Asked, Submitted, Waiting, World, is_under_way, job_of}
use Rattle.run_transcript.specs.Served.{Inputs}
use Rattle.script_text.specs.declared.verb.Line.{Line}
use Rattle.script_text.specs.declared.verb.Verb.{Verb}
use Rattle.script_text.specs.declared.verb.Verb.TheVariants as verb
use Rattle.coordinator.specs.Coordinator.{IsIdle, IsSound, HasNoNextTurn, awaited, is_done}

first_rests : (b c : Bool) → b || c ≡ false → (b ≡ false) × (c ≡ false)
first_rests true c h = absurd cc
first_rests false c h = (refl, h)

rests_at : (jobs : List Submitted) → AreAtRest jobs → (k : ℕ) → IsAtRest (slice_get jobs k)
rests_at [] h k = tt
rests_at (s ∷ jobs) h zero = let parts = first_rests (is_under_way s.job.state) (list_any (λ (t : Submitted). is_under_way t.job.state) jobs) h in parts.0
rests_at (s ∷ jobs) h (suc k) =
    let parts = first_rests (is_under_way s.job.state) (list_any (λ (t : Submitted). is_under_way t.job.state) jobs) h in rests_at jobs parts.1 k

job_rests : (w : World Query) → AreAtRest w.jobs → (n : ℕ) → IsAtRest (job_of w n)
job_rests w h zero = tt
job_rests w h (suc k) = rests_at w.jobs h k

-- every line may be taken
may_all : (w : World Query) → IsIdle w → AreAtRest w.jobs → (said : Verb) → MayNote w (awaited said)
may_all w i h (verb.AwaitJob job) = job_rests w h job
may_all w i h verb.AwaitJobs = h
may_all w i h verb.AwaitQueries = (i.waiting, i.asked)
may_all w i h (verb.Descriptor path) = tt
may_all w i h (verb.Load name path) = tt
may_all w i h (verb.Build range) = tt
may_all w i h (verb.Refresh range) = tt
may_all w i h (verb.Merge range) = tt
may_all w i h (verb.Drop range) = tt
may_all w i h (verb.Pause job) = tt
may_all w i h (verb.Resume job) = tt
may_all w i h (verb.Discard job) = tt
may_all w i h verb.Jobs = tt
may_all w i h verb.Segments = tt
may_all w i h (verb.Query session text) = tt

there : (script : List Line) (place : ℕ) → place < length script → (line : Line) × (slice_get script place ≡ Some line)
there [] place h = absurd (omega (arith, h))
there (line ∷ script) zero h = (line, refl)
there (line ∷ script) (suc place) h = there script place (omega (arith, h))

at_end : (script : List Line) (taken : ℕ) → taken ≤ length script → (taken < length script → ⊥) → taken ≡ length script
at_end script taken h none = omega (arith, h, none)

settled : (w : World Query) → w.queue ≡ [] → w.steps ≡ [] → w.waiting ≡ [] → w.asked ≡ [] → is_settled w ≡ true
settled w queue steps waiting asked =
    ap (λ (l : List ℕ). is_empty l && is_empty w.steps && is_empty w.waiting && is_empty w.asked) queue
    ∙ (ap (λ (l : List (ℕ × ℕ)). is_empty l && is_empty w.waiting && is_empty w.asked) steps
    ∙ (ap (λ (l : List (Waiting Query)). is_empty l && is_empty w.asked) waiting ∙ ap (λ (l : List (Asked Query)). is_empty l) asked))

pub done-without_turn : (inputs : Inputs) (board : BoardModel) (taken : ℕ) → IsSound inputs board taken → HasNoNextTurn inputs.script taken (now board)
    → ((now board).queue ≡ [] → (now board).steps ≡ [] → AreAtRest (now board).jobs) → is_done inputs.script taken (now board) ≡ true
done-without_turn inputs board taken s k rest =
    let all : taken ≡ length inputs.script = at_end inputs.script taken s.within (λ below.
    (let next = there inputs.script taken below in
    k.waits next.0 next.1 (may_all (now board) s.idle (rest k.queue s.idle.steps) next.0.verb))) in
    ap (λ (b : Bool). b && is_settled (now board)) (eq-eqb taken (length inputs.script) all)
    ∙ settled (now board) k.queue s.idle.steps s.idle.waiting s.idle.asked
