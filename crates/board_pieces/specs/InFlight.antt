-- The pieces of work in flight, as the turns of a board have them.
use Rattle.std.specs.Prelude.{◌≡◌, ◌≤◌, ◌⊎◌, ◌==◌, ◌&&◌, ℕ, Bool, false, [], ◌∷◌, List, All, Some, count_by, find, length}
use Rattle.fixed_cube.specs.Answers.{by_first}
use Rattle.fixed_cube.specs.Cube.{fixed}
use Rattle.fixed_cube.specs.Tasks.{IsTask}
use Rattle.fixed_query.specs.declared.query.FixedQuery.{FixedQuery}
use Rattle.fixed_state.specs.Ready.{AreCellsOf}
use Rattle.job_board.specs.BoardModel.{BoardModel, now, turns}
use Rattle.outside.specs.Hands.{call_of}
use Rattle.plain_answer.specs.declared.ask.Ask.{Ask}
use Rattle.run_history.specs.Histories.{claim_count}
use Rattle.run_history.specs.World.{Asked, World, busy, set_at}
use Rattle.step_outcomes.specs.Calls.{IsTaskOf}
use Rattle.worker_pool.specs.Pools.{PoolModel, hands, pieces}
use Rattle.worker_pool.specs.declared.piece.Piece.{Piece}
use Rattle.worker_pool.specs.declared.piece.Piece.TheVariants.{Step, Query}
use Rattle.worker_pool.specs.declared.piece.Work.{Work}

-- ---- counts

abbrev pub is_step_of : ℕ → ℕ → Piece FixedQuery → Bool
is_step_of job attempt (Step work) = (work.job == job) && (work.attempt == attempt)
is_step_of job attempt (Query query) = false

abbrev pub is_query_of : ℕ → Piece FixedQuery → Bool
is_query_of line (Step work) = false
is_query_of line (Query query) = query.line == line

-- so many pieces run this attempt of this job
abbrev pub step_count : ℕ → ℕ → List (Piece FixedQuery) → ℕ
step_count job attempt pieces = count_by (is_step_of job attempt) pieces

-- so many answer the query of this line
abbrev pub query_count : ℕ → List (Piece FixedQuery) → ℕ
query_count line pieces = count_by (is_query_of line) pieces

-- so many queries of this line are in flight
abbrev pub asked_count : ℕ → List (Asked Ask) → ℕ
asked_count line asked = count_by (λ q. q.waiting.line == line) asked

-- ---- what each piece has

-- a step as it was claimed: its task is a task, and where hands are honest that of its job's next step in the world before its claim
pub record IsStepOf (honest : Type 0) (board : BoardModel) (work : Work) : Type 0 where
  pub task : honest → IsTaskOf fixed board.workers (turns board) (call_of work.job work.attempt work.task.items)
  pub is_task : IsTask work.task.items

-- a query in flight: its version is that of its taking, and its cells are those of that version's set, where hands are honest or the set
-- has no segment
pub record IsQueryOf (honest : Type 0) (w : World Ask) (query : FixedQuery) : Type 0 where
  pub asked : Asked Ask
  pub found : find (λ q. q.waiting.line == query.line) w.asked ≡ Some asked
  pub asks : asked.waiting.query ≡ by_first
  pub version : query.version ≡ asked.at_take
  pub cells : honest ⊎ (set_at w query.version ≡ []) → AreCellsOf (set_at w query.version) query.cells

abbrev pub IsWorkIn : Type 0 → BoardModel → Piece FixedQuery → Type 0
IsWorkIn honest board (Step work) = IsStepOf honest board work
IsWorkIn honest board (Query query) = IsQueryOf honest (now board) query

-- these pieces are what the board has in flight: as many as claims and queries without their end, each claim and each query by one piece
-- at most, with what it was given
pub record AreInFlight (honest : Type 0) (board : BoardModel) (pieces : List (Piece FixedQuery)) : Type 0 where
  pub count : length pieces ≡ busy (now board)
  pub steps : (job attempt : ℕ) → step_count job attempt pieces ≤ claim_count job attempt (now board).steps
  pub queries : (line : ℕ) → query_count line pieces ≤ asked_count line (now board).asked
  pub works : All (IsWorkIn honest board) pieces

-- the pool has what the board has in flight, and a hand for each worker
pub record HasPieces {H : Type 0} (honest : Type 0) (board : BoardModel) (pool : PoolModel H FixedQuery) : Type 0 where
  pub in_flight : AreInFlight honest board (pieces pool)
  pub enough : board.workers ≤ length (hands pool)

-- the same with a piece that no hand was given yet
pub record HasPiecesWith {H : Type 0} (honest : Type 0) (board : BoardModel) (piece : Piece FixedQuery) (pool : PoolModel H FixedQuery) : Type 0 where
  pub in_flight : AreInFlight honest board (piece ∷ pieces pool)
  pub enough : board.workers ≤ length (hands pool)
