-- What a board is to its callers.
use Rattle.std.specs.Prelude.{◌≡◌, ℕ, Bool, true, false, not, ◌==◌, List, [], ◌∷◌, ◌++◌, Option, Some, None, find}
use Rattle.std.specs.List.{list_any}
use Rattle.fixed_cube.specs.Cube.{fixed}
use Rattle.fixed_state.specs.Ends.{Answer, IsOutcomeOf, stale_outcome}
use Rattle.fixed_state.specs.Tasks.{snapshot_now, task_kept}
use Rattle.job_board.specs.Turns.{turns_of}
use Rattle.job_board.specs.declared.answers.BoardRefusal.{BoardRefusal}
use Rattle.job_board.specs.declared.answers.BoardRefusal.TheVariants as refusal
use Rattle.job_board.specs.declared.turn.BoardTurn.{BoardTurn}
use Rattle.job_machine.specs.Job.{is_current}
use Rattle.plain_answer.specs.declared.ask.Ask.{Ask}
use Rattle.run_history.specs.Commands.{Turn}
use Rattle.run_history.specs.Steps.{end_by, world}
use Rattle.job_machine.specs.declared.state.Ended.{Ended}
use Rattle.job_machine.specs.declared.state.Ended.TheVariants as ended
use Rattle.run_history.specs.World.{Submitted, Waiting, World}
use Rattle.run_history.specs.declared.event.Outcome.{Outcome}
use Rattle.run_history.specs.declared.refused.Refused.{Refused}

-- the number of workers, the turns so far, for how many turns more there is room, and for each job the products kept of its steps done
pub record BoardModel : Type 0 where
  pub workers : ℕ
  pub log : List BoardTurn
  pub room : ℕ
  pub products : List (List (List ℕ))

-- the turns so far, with their commands
abbrev pub turns : BoardModel → List (Turn Ask)
turns ledger = turns_of ledger.log

-- the world that they give
abbrev pub now : BoardModel → World Ask
now ledger = world fixed ledger.workers [] (turns ledger)

-- one turn more
pub record IsAdded (old : BoardModel) (turn : Turn Ask) (new : BoardModel) : Type 0 where
  pub turns : turns new ≡ turns old ++ turn ∷ []
  pub workers : new.workers ≡ old.workers

-- the same turns, and the same products
pub record IsSame (old new : BoardModel) : Type 0 where
  pub log : new.log ≡ old.log
  pub workers : new.workers ≡ old.workers
  pub products : new.products ≡ old.products

-- what is said of a refusal
abbrev pub IfRefused : BoardRefusal → (Refused → Type 0) → Type 0
IfRefused (refusal.Refused refused) P = P refused
IfRefused refusal.Memory P = Unit {0}

-- the task of a job's next step, from the products that are kept
abbrev pub task_of : World Ask → Submitted → List (List ℕ) → List ℕ
task_of w s products = task_kept (snapshot_now w s) products

-- whether the end of an attempt counts
abbrev pub counts : Option Submitted → ℕ → Bool
counts None attempt = false
counts (Some s) attempt = is_current s.job attempt

-- what is recorded of the end of an attempt, whether or not it counts
abbrev pub IsCountedAs : Bool → List ℕ → Answer → Outcome → Type 0
IsCountedAs true task answer outcome = IsOutcomeOf task answer outcome
IsCountedAs false task answer outcome = outcome ≡ stale_outcome answer

-- what is recorded of the end of an attempt of a job, of whose steps done these products are kept
abbrev pub IsRecordedAs : World Ask → Option Submitted → List (List ℕ) → ℕ → Answer → Outcome → Type 0
IsRecordedAs w None products attempt answer outcome = outcome ≡ stale_outcome answer
IsRecordedAs w (Some s) products attempt answer outcome = IsCountedAs (is_current s.job attempt) (task_of w s products) answer outcome

-- no query of the session is in flight
abbrev pub is_free : World Ask → ℕ → Bool
is_free w session = not (list_any (λ other. other.waiting.session == session) w.asked)

-- the first waiting query of whose session none is in flight
abbrev pub next_query : World Ask → Option (Waiting Ask)
next_query w = find (λ q. is_free w q.session) w.waiting

-- what the end of an attempt is to a job; nothing where there is no such job
abbrev pub ended_of : Option Submitted → ℕ → Outcome → Ended
ended_of None attempt outcome = ended.Stale
ended_of (Some s) attempt outcome = end_by outcome s.job attempt
