-- The turns of a board, and the log of them.
use Rattle.std.specs.Prelude.{◌≡◌, ◌≤◌, ◌+◌, ℕ, List, [], ◌∷◌, ◌++◌, map, vec_capacity, vec_len}
use Rattle.fixed_cube.specs.Answers.{by_first}
use Rattle.job_board.specs.declared.turn.BoardTurn.{BoardTurn}
use Rattle.job_board.specs.declared.turn.BoardTurn.TheVariants as turn
use Rattle.job_board.specs.declared.turn.Log.{Log}
use Rattle.job_machine.specs.declared.state.JobKind.TheVariants.{Build}
use Rattle.plain_answer.specs.declared.ask.Ask.{Ask as Query}
use Rattle.run_history.specs.Commands.{Turn, event_of}
use Rattle.run_history.specs.Commands.Command.{Load, Submit, Steer, Ask, Note}
use Rattle.run_history.specs.Commands.Turn.{Takes, Claims, StepEnds, QueryTakes, QueryEnds}

-- a turn of a board as the definitions of a run have it: jobs are BUILDs, and each query is the one of the fixed cube
abbrev pub turn_of : BoardTurn → Turn Query
turn_of (turn.Loads line table rows) = Takes line (Load table rows)
turn_of (turn.Builds line range) = Takes line (Submit Build range)
turn_of (turn.Steers line control job) = Takes line (Steer control job)
turn_of (turn.Asks line session) = Takes line (Ask session by_first)
turn_of (turn.Notes line noted) = Takes line (Note noted)
turn_of (turn.Claims job attempt) = Claims job attempt
turn_of (turn.StepEnds job attempt outcome) = StepEnds job attempt outcome
turn_of (turn.QueryTakes line) = QueryTakes line
turn_of (turn.QueryEnds line out) = QueryEnds line out

-- the turns of a log
abbrev pub turns_of : List BoardTurn → List (Turn Query)
turns_of turns = map turn_of turns

-- the events are those of the turns, there is room for so many more, and there are few enough for numbers of 32 bits
pub record IsLog (room : ℕ) (log : Log) : Type 0 where
  pub history : log.history.items ≡ map event_of (turns_of log.turns.items)
  pub turns_room : vec_len log.turns + room ≤ vec_capacity log.turns
  pub history_room : vec_len log.history + room ≤ vec_capacity log.history
  pub few : vec_len log.turns + room ≤ 4_000_000_000

-- a turn was recorded
pub record IsRecorded (old : Log) (turn : BoardTurn) (new : Log) : Type 0 where
  pub turns : new.turns.items ≡ old.turns.items ++ turn ∷ []
  pub history : new.history.items ≡ old.history.items ++ event_of (turn_of turn) ∷ []
  pub turns_len : vec_len new.turns ≡ vec_len old.turns + 1
  pub history_len : vec_len new.history ≡ vec_len old.history + 1
  pub turns_capacity : vec_capacity old.turns ≤ vec_capacity new.turns
  pub history_capacity : vec_capacity old.history ≤ vec_capacity new.history
