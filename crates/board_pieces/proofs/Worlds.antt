-- What turns make of the claims and of the queries in flight.
use Rattle.std.proofs.Common.{◌≡◌, ℕ, ◌==◌, not, Option, Some, None, List, [], ◌∷◌, ◌++◌, length, refl, ap, ◌∙◌}
use Rattle.std.specs.Prelude.{filter, find, fold}
use Rattle.fixed_cube.specs.Cube.{fixed}
use Rattle.job_machine.specs.declared.state.Ended.{Ended}
use Rattle.job_machine.specs.declared.state.Ended.TheVariants as ended
use Rattle.plain_answer.specs.declared.ask.Ask.{Ask as Query}
use Rattle.job_board.specs.BoardModel.{BoardModel, now, turns}
use Rattle.run_history.specs.Commands.{Command, Turn}
use Rattle.run_history.specs.Commands.Command.{Load, Submit, Drop, Steer, Ask, Note}
use Rattle.run_history.specs.Commands.Turn.{Takes, Claims, StepEnds, QueryTakes, QueryEnds}
use Rattle.run_history.specs.Histories.{IsNextAttempt, IsNextOfSession}
use Rattle.run_history.specs.Steps.{accepted, by_verdict, claimed, end_by, ended_as, query_ended, query_taken, step, step_ended, steered, steps_of, took, without_claim}
use Rattle.run_history.specs.Verdicts.{verdict}
use Rattle.run_history.specs.World.{Asked, Submitted, Waiting, World, job_of, number, start}
use Rattle.run_history.specs.declared.command.Control.{Control}
use Rattle.run_history.specs.declared.event.Outcome.{Outcome}
use Rattle.run_history.specs.declared.event.QueryOut.{QueryOut}
use Rattle.run_history.specs.declared.refused.Refused.{Refused}

-- ---- what is in flight

pub record IsSameFlight (old new : World Query) : Type 0 where
  pub steps : new.steps ≡ old.steps
  pub asked : new.asked ≡ old.asked
  pub workers : new.workers ≡ old.workers

-- a claim
pub steps-claimed : (w : World Query) (job attempt : ℕ) (found : Option Submitted) → IsNextAttempt found attempt → (claimed w job attempt found).steps ≡ w.steps ++ (job, attempt) ∷ []
steps-claimed w job attempt None h = absurd h
steps-claimed w job attempt (Some s) h = refl

pub asked-claimed : (w : World Query) (job attempt : ℕ) (found : Option Submitted) → (claimed w job attempt found).asked ≡ w.asked
asked-claimed w job attempt None = refl
asked-claimed w job attempt (Some s) = refl

-- the end of a step
flight_as : (how : Ended) (w : World Query) (job : ℕ) (s : Submitted) → IsSameFlight w (ended_as how w job s)
flight_as ended.Stale w job s = record { steps = refl; asked = refl; workers = refl }
flight_as ended.Advanced w job s = record { steps = refl; asked = refl; workers = refl }
flight_as ended.Finished w job s = record { steps = refl; asked = refl; workers = refl }
flight_as ended.Failed w job s = record { steps = refl; asked = refl; workers = refl }

pub flight-ended : (w : World Query) (job attempt : ℕ) (o : Outcome) (found : Option Submitted) → IsSameFlight w (step_ended w job attempt o found)
flight-ended w job attempt o None = record { steps = refl; asked = refl; workers = refl }
flight-ended w job attempt o (Some s) = flight_as (end_by o s.job attempt) w job s

-- the taking of a query
abbrev pub asked_of : World Query → Waiting Query → Asked Query
asked_of w q = record { waiting = q; at_take = number w }

pub asked-taken : (w : World Query) (line : ℕ) (q : Waiting Query) (found : Option (Waiting Query)) → found ≡ Some q → (query_taken w line found).asked ≡ w.asked ++ asked_of w q ∷ []
asked-taken w line q found e = ap (λ (o : Option (Waiting Query)). (query_taken w line o).asked) e

pub steps-taken : (w : World Query) (line : ℕ) (found : Option (Waiting Query)) → (query_taken w line found).steps ≡ w.steps
steps-taken w line None = refl
steps-taken w line (Some q) = refl

-- the end of a query
pub asked-ended : (w : World Query) (line : ℕ) (out : QueryOut) (q : Asked Query) (found : Option (Asked Query)) → found ≡ Some q
    → (query_ended w line out found).asked ≡ filter (λ other. not (other.waiting.line == line)) w.asked
asked-ended w line out q found e = ap (λ (o : Option (Asked Query)). (query_ended w line out o).asked) e

pub steps-answered : (w : World Query) (line : ℕ) (out : QueryOut) (found : Option (Asked Query)) → (query_ended w line out found).steps ≡ w.steps
steps-answered w line out None = refl
steps-answered w line out (Some q) = refl

-- a command
flight_steered : (w : World Query) (control : Control) (job : ℕ) (found : Option Submitted) → IsSameFlight w (steered w control job found)
flight_steered w control job None = record { steps = refl; asked = refl; workers = refl }
flight_steered w control job (Some s) = record { steps = refl; asked = refl; workers = refl }

flight_accepted : (w : World Query) (steps : ℕ) (command : Command Query) → IsSameFlight w (accepted steps w command)
flight_accepted w steps (Load table rows) = record { steps = refl; asked = refl; workers = refl }
flight_accepted w steps (Submit kind range) = record { steps = refl; asked = refl; workers = refl }
flight_accepted w steps (Drop range) = record { steps = refl; asked = refl; workers = refl }
flight_accepted w steps (Steer control job) = flight_steered w control job (job_of w job)
flight_accepted w steps (Ask session query) = record { steps = refl; asked = refl; workers = refl }
flight_accepted w steps (Note noted) = record { steps = refl; asked = refl; workers = refl }

flight_verdict : (w : World Query) (steps : ℕ) (command : Command Query) (refused : Option Refused) → IsSameFlight w (by_verdict refused steps w command)
flight_verdict w steps command (Some refused) = record { steps = refl; asked = refl; workers = refl }
flight_verdict w steps command None = flight_accepted w steps command

pub flight-took : (w : World Query) (line : ℕ) (command : Command Query) → IsSameFlight w (took fixed w line command)
flight-took w line command =
    let same = flight_verdict (record w { line = line }) (steps_of fixed command) command (verdict fixed w command) in
    record { steps = same.steps; asked = same.asked; workers = same.workers }

-- a query that is next waits
pub waits-next : (w : World Query) (found : Option (Waiting Query)) → IsNextOfSession w found → (q : Waiting Query) × (found ≡ Some q)
waits-next w None h = absurd h
waits-next w (Some q) h = (q, refl)

-- ---- the number of workers stays

workers_claimed : (w : World Query) (job attempt : ℕ) (found : Option Submitted) → (claimed w job attempt found).workers ≡ w.workers
workers_claimed w job attempt None = refl
workers_claimed w job attempt (Some s) = refl

workers_taken : (w : World Query) (line : ℕ) (found : Option (Waiting Query)) → (query_taken w line found).workers ≡ w.workers
workers_taken w line None = refl
workers_taken w line (Some q) = refl

workers_answered : (w : World Query) (line : ℕ) (out : QueryOut) (found : Option (Asked Query)) → (query_ended w line out found).workers ≡ w.workers
workers_answered w line out None = refl
workers_answered w line out (Some q) = refl

workers_step : (w : World Query) (turn : Turn Query) → (step fixed w turn).workers ≡ w.workers
workers_step w (Takes line command) = (flight-took w line command).workers
workers_step w (Claims job attempt) = workers_claimed w job attempt (job_of w job)
workers_step w (StepEnds job attempt o) = (flight-ended (record w { steps = without_claim job attempt w.steps }) job attempt o (job_of w job)).workers
workers_step w (QueryTakes line) = workers_taken w line (find (λ q. q.line == line) w.waiting)
workers_step w (QueryEnds line out) = workers_answered w line out (find (λ q. q.waiting.line == line) w.asked)

workers_turns : (w : World Query) (turns : List (Turn Query)) → (fold (step fixed) w turns).workers ≡ w.workers
workers_turns w [] = refl
workers_turns w (turn ∷ turns) = workers_turns (step fixed w turn) turns ∙ workers_step w turn

pub workers-now : (board : BoardModel) → (now board).workers ≡ board.workers
workers-now board = workers_turns (start board.workers (length fixed.tables) []) (turns board)
