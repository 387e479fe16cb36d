-- What holds of every board.
use Rattle.std.specs.Prelude.{◌≡◌, ℕ, List, []}
use Rattle.fixed_cube.specs.Cube.{fixed}
use Rattle.fixed_state.specs.Kept.{AreKept}
use Rattle.fixed_state.specs.States.{FixedState, StandsFor, cells_of}
use Rattle.job_board.specs.Turns.{IsLog, turns_of}
use Rattle.job_board.specs.declared.turn.Log.{Log}
use Rattle.run_history.specs.Histories.{HasFreshAnswers, IsLegal}
use Rattle.run_history.specs.Steps.{world}
use Rattle.run_state.specs.Orders.{products_of}

-- the state is that of the turns so far, what is kept belongs to it, and the turns are a legal history with fresh answers
pub record IsBoard (honest : Type 0) (workers room : ℕ) (tables : List (List ℕ)) (s : FixedState) (logged : Log) : Type 0 where
  pub state : StandsFor (world fixed workers [] (turns_of logged.turns.items)) s
  pub kept : AreKept honest (world fixed workers [] (turns_of logged.turns.items)) (products_of s) (cells_of s)
  pub legal : IsLegal fixed workers [] (turns_of logged.turns.items)
  pub fresh : HasFreshAnswers fixed workers [] (turns_of logged.turns.items)
  pub log : IsLog room logged
  pub names : tables ≡ fixed.tables
