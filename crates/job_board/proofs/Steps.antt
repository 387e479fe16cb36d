-- One turn more, and what a board has of its history.
use Rattle.std.proofs.Common.{◌≡◌, ℕ, ◌<◌, Option, Some, None, List, [], ◌∷◌, ◌++◌, length, map, vec_capacity, vec_len, refl, sym, ap, ◌∙◌, subst, arith}
use Rattle.std.proofs.lemmas.List.{map-append, length-map}
use Rattle.fixed_cube.specs.Cube.{fixed}
use Rattle.fixed_state.specs.Kept.{AreKept, IsFixedState}
use Rattle.fixed_state.specs.States.{FixedState, StandsFor, cells_of}
use Rattle.job_board.specs.Boards.{IsBoard}
use Rattle.job_board.specs.Turns.{IsLog, IsRecorded, turn_of, turns_of}
use Rattle.job_board.specs.declared.turn.BoardTurn.{BoardTurn}
use Rattle.job_board.specs.declared.turn.Log.{Log}
use Rattle.job_machine.specs.declared.state.JobKind.TheVariants.{Build}
use Rattle.plain_answer.specs.declared.ask.Ask.{Ask as Query}
use Rattle.range_list.specs.Ranges.{Interval}
use Rattle.run_history.specs.Bounds.{AreAtMost}
use Rattle.run_history.specs.Commands.{Turn, event_of}
use Rattle.run_history.specs.Commands.Command.{Submit, Note}
use Rattle.run_history.specs.Commands.Turn.{Takes}
use Rattle.run_history.specs.Histories.{Allowed, HasFreshAnswers, IsFresh, IsLegal}
use Rattle.run_history.specs.Invariants.{AreClaims, HasSteps, IsSound}
use Rattle.run_history.specs.Steps.{by_verdict, step, submitted, world}
use Rattle.run_history.specs.Verdicts.{await_refusal, verdict}
use Rattle.run_history.specs.World.{World, job_of, start}
use Rattle.run_history.specs.declared.command.Noted.{Noted}
use Rattle.run_history.specs.declared.command.Noted.TheVariants.{AwaitJob, AwaitJobs, AwaitQueries, Other}
use Rattle.run_history.specs.declared.event.Event.{Event}
use Rattle.run_history.specs.declared.refused.Refused.{Refused}
use Rattle.run_history.proofs.Flights.{claims_world}
use Rattle.run_history.proofs.Growth.{small_world}
use Rattle.run_history.proofs.Laws.{Along-push, world-push}
use Rattle.run_history.proofs.Sound.{empty_starts, sound_world}
use Rattle.run_state.specs.Answers.{named}
use Rattle.run_state.specs.Orders.{products_of}

pub has_steps : HasSteps fixed
has_steps kind = omega arith

-- ---- the log

pub log_none : (room : ℕ) (log : Log) → IsLog room log → IsLog 0 log
log_none room log l = record { history = l.history; turns_room = omega (arith, l.turns_room); history_room = omega (arith, l.history_room); few = omega (arith, l.few) }

pub turns_added : (old : Log) (turn : BoardTurn) (new : Log) → IsRecorded old turn new → turns_of new.turns.items ≡ turns_of old.turns.items ++ turn_of turn ∷ []
turns_added old turn new r = ap turns_of r.turns ∙ map-append turn_of old.turns.items (turn ∷ [])

log_push : (room : ℕ) (old : Log) (turn : BoardTurn) (new : Log) → 0 < room → IsLog room old → IsRecorded old turn new → IsLog 0 new
log_push room old turn new h l r = record {
  history = r.history ∙ (ap (λ (events : List Event). events ++ event_of (turn_of turn) ∷ []) l.history ∙ sym (ap (map event_of) (turns_added old turn new r) ∙ map-append event_of (turns_of old.turns.items) (turn_of turn ∷ [])));
  turns_room = omega (arith, l.turns_room, r.turns_len, r.turns_capacity);
  history_room = omega (arith, l.history_room, r.history_len, r.history_capacity);
  few = omega (arith, l.few, r.turns_len);
}

pub turns_free : (room : ℕ) (log : Log) → 0 < room → IsLog room log → vec_len log.turns < vec_capacity log.turns
turns_free room log h l = omega (arith, l.turns_room)

pub history_free : (room : ℕ) (log : Log) → 0 < room → IsLog room log → vec_len log.history < vec_capacity log.history
history_free room log h l = omega (arith, l.history_room)

-- ---- a board

module _ (honest : Type 0) (workers room : ℕ) (names : List (List ℕ)) (s : FixedState) (log : Log) where
  abbrev so_far : List (Turn Query)
  so_far = turns_of log.turns.items

  abbrev pub world_now : World Query
  world_now = world fixed workers [] so_far

  -- one turn more
  pub board_step : (turn : BoardTurn) (s' : FixedState) (log' : Log) → 0 < room → IsBoard honest workers room names s log → IsRecorded log turn log'
      → Allowed world_now (turn_of turn) → IsFresh world_now (turn_of turn) → StandsFor (step fixed world_now (turn_of turn)) s'
      → AreKept honest (step fixed world_now (turn_of turn)) (products_of s') (cells_of s') → IsBoard honest workers 0 names s' log'
  board_step turn s' log' h b r allowed fresh stands kept =
      let same = turns_added log turn log' r in
      let e : world fixed workers [] (turns_of log'.turns.items) ≡ step fixed world_now (turn_of turn) = ap (world fixed workers []) same ∙ world-push fixed workers [] so_far (turn_of turn) in
      record {
        state = subst (λ (w : World Query). StandsFor w s') (sym e) stands;
        kept = subst (λ (w : World Query). AreKept honest w (products_of s') (cells_of s')) (sym e) kept;
        legal = subst (IsLegal fixed workers []) (sym same) (Along-push fixed Allowed (start workers 1 []) so_far (turn_of turn) b.legal allowed);
        fresh = subst (HasFreshAnswers fixed workers []) (sym same) (Along-push fixed IsFresh (start workers 1 []) so_far (turn_of turn) b.fresh fresh);
        log = log_push room log turn log' h b.log r;
        names = b.names;
      }

  -- the same turns, in a log with other room and in a state that stands for the same world
  pub board_again : (room' : ℕ) (s' : FixedState) (log' : Log) → IsBoard honest workers room names s log → log'.turns.items ≡ log.turns.items → IsLog room' log' → StandsFor world_now s'
      → products_of s' ≡ products_of s → cells_of s' ≡ cells_of s → IsBoard honest workers room' names s' log'
  board_again room' s' log' b same l stands products cells =
      let e : world fixed workers [] (turns_of log'.turns.items) ≡ world_now = ap (λ (turns : List BoardTurn). world fixed workers [] (turns_of turns)) same in
      record {
        state = subst (λ (w : World Query). StandsFor w s') (sym e) stands;
        kept = subst (λ (w : World Query). AreKept honest w (products_of s') (cells_of s')) (sym e) (rw (products, cells) b.kept);
        legal = subst (λ (turns : List BoardTurn). IsLegal fixed workers [] (turns_of turns)) (sym same) b.legal;
        fresh = subst (λ (turns : List BoardTurn). HasFreshAnswers fixed workers [] (turns_of turns)) (sym same) b.fresh;
        log = l;
        names = b.names;
      }

  module _ (b : IsBoard honest workers room names s log) where
    pub sound_now : IsSound fixed world_now
    sound_now = sound_world fixed has_steps workers [] so_far empty_starts b.legal

    pub claims_now : AreClaims world_now.jobs world_now.steps
    claims_now = claims_world fixed has_steps workers [] so_far empty_starts b.legal

    pub small_now : AreAtMost (vec_len log.turns) world_now
    small_now = let n : length log.turns.items ≡ vec_len log.turns = omega (arith, log.turns.ok.0) in subst (λ (n : ℕ). AreAtMost n world_now) (length-map log.turns.items turn_of ∙ n) (small_world fixed workers [] so_far)

    pub fixed_now : IsFixedState honest s
    fixed_now = record { w = world_now; stands = b.state; sound = sound_now; kept = b.kept }

-- ---- turns that the calls' clauses name otherwise

pub noted_world : (w : World Query) (line : ℕ) (noted : Noted) → step fixed w (Takes line (Note noted)) ≡ record w { line = line }
noted_world w line AwaitJobs = refl
noted_world w line AwaitQueries = refl
noted_world w line Other = refl
noted_world w line (AwaitJob job) = by_refusal (await_refusal job (job_of w job))
  where
    by_refusal : (o : Option Refused) → by_verdict o 0 (record w { line = line }) (Note (AwaitJob job)) ≡ record w { line = line }
    by_refusal (Some refused) = refl
    by_refusal None = refl

pub submitted_world : (w : World Query) (line : ℕ) (range : Interval) → verdict fixed w (Submit Build range) ≡ None
    → step fixed w (Takes line (Submit Build range)) ≡ submitted (record w { line = line }) Build 3 range
submitted_world w line range e = ap (λ (o : Option Refused). by_verdict o 3 (record w { line = line }) (Submit Build range)) e

pub refused_world : (w : World Query) (line : ℕ) (range : Interval) (refused : Refused) → verdict fixed w (Submit Build range) ≡ Some refused
    → step fixed w (Takes line (Submit Build range)) ≡ record w { line = line }
refused_world w line range refused e = ap (λ (o : Option Refused). by_verdict o 3 (record w { line = line }) (Submit Build range)) e

-- the names of the tables are all that a verdict on a BUILD has of the cube
pub named_verdict : (names : List (List ℕ)) (w : World Query) (range : Interval) → names ≡ fixed.tables → verdict (named names) w (Submit Build range) ≡ verdict fixed w (Submit Build range)
named_verdict names w range e = ap (λ (ns : List (List ℕ)). verdict (named ns) w (Submit Build range)) e
