-- The turns of pieces: starts and ends.
use Rattle.std.specs.Prelude.{◌≡◌, ◌≢◌, ◌<◌, ◌⊎◌, ◌==◌, ◌∷◌, ◌++◌, [], ⊤, ℕ, List, Option, Some, None, Result, Ok, Err, find}
use Rattle.std.specs.declared.alloc.AllocError.{AllocError}
use Rattle.fixed_cube.specs.Cube.{fixed}
use Rattle.fixed_query.specs.declared.query.QueryEnd.{QueryEnd}
use Rattle.fixed_query.specs.declared.query.QueryEnd.TheVariants as query_end
use Rattle.fixed_state.specs.Ends.{IsProductOf, kept_of}
use Rattle.job_board.specs.BoardModel.{BoardModel, IsAdded, IsRecordedAs, IsSame, now, turns}
use Rattle.plain_answer.specs.declared.ask.Ask.{Ask}
use Rattle.run_history.specs.Commands.{Turn}
use Rattle.run_history.specs.Commands.Turn.{Claims, QueryEnds, QueryTakes, StepEnds}
use Rattle.run_history.specs.Histories.{IsFresh, IsInFlight, claim_count}
use Rattle.run_history.specs.Sets.{rows_of}
use Rattle.run_history.specs.World.{Asked, World, job_of, set_at}
use Rattle.run_history.specs.declared.event.Outcome.{Outcome}
use Rattle.run_history.specs.declared.event.Outcome.TheVariants as outcome
use Rattle.run_history.specs.declared.event.QueryOut.{QueryOut}
use Rattle.run_history.specs.declared.event.QueryOut.TheVariants.{Answered, Memory as NoAnswer}
use Rattle.worker_pool.specs.declared.piece.PieceEnd.{PieceEnd}
use Rattle.worker_pool.specs.declared.piece.PieceEnd.TheVariants as piece_end
use Rattle.board_pieces.specs.declared.pieces.PieceTurn.{PieceTurn}
use Rattle.board_pieces.specs.declared.pieces.PieceTurn.TheVariants as turn

-- these turns more
pub record IsGrown (old : BoardModel) (later : List (Turn Ask)) (new : BoardModel) : Type 0 where
  pub turns : turns new ≡ turns old ++ later
  pub workers : new.workers ≡ old.workers

-- what is recorded of the end of a query
abbrev pub out_of : QueryEnd → QueryOut
out_of (query_end.Answered version table) = Answered version
out_of query_end.Memory = NoAnswer

-- a query that ended so in a world has the plain answer to its question over the rows of its version's set, where hands are honest or the
-- set has no segment
abbrev pub IsEndOf : Type 0 → World Ask → ℕ → QueryEnd → Type 0
IsEndOf honest w line (query_end.Answered version table) =
    (q : Asked Ask) → find (λ other. other.waiting.line == line) w.asked ≡ Some q → honest ⊎ (set_at w version ≡ [])
    → table ≡ fixed.answer q.waiting.query (rows_of fixed (set_at w version))
IsEndOf honest w line query_end.Memory = ⊤

-- a piece may end so in a world: its claim or its query is in flight, an honest hand's product is that of the step, and the answer is fresh
abbrev pub MayEnd : Type 0 → World Ask → PieceEnd QueryEnd → Type 0
MayEnd honest w (piece_end.Step job attempt answer) = (0 < claim_count job attempt w.steps) × (honest → IsProductOf w (job_of w job) attempt answer)
MayEnd honest w (piece_end.Query line end) = IsInFlight w line × IsFresh w (QueryEnds line (out_of end))

-- the end of a piece was recorded, by one turn more
abbrev pub IsRecorded : Type 0 → BoardModel → PieceEnd QueryEnd → PieceTurn → BoardModel → Type 0
IsRecorded honest old (piece_end.Step job attempt answer) turn.StepEnded new =
    (o : Outcome) × IsAdded old (StepEnds job attempt o) new × IsRecordedAs (now old) (job_of (now old) job) (kept_of old.products job) attempt answer o × (honest → o ≢ outcome.Damaged)
IsRecorded honest old (piece_end.Query line end) (turn.QueryEnded ended said) new = (ended ≡ line) × (said ≡ end) × IsAdded old (QueryEnds line (out_of end)) new
IsRecorded honest old (piece_end.Step job attempt answer) turn.Started new = ⊥
IsRecorded honest old (piece_end.Step job attempt answer) (turn.QueryEnded ended said) new = ⊥
IsRecorded honest old (piece_end.Query line end) turn.Started new = ⊥
IsRecorded honest old (piece_end.Query line end) turn.StepEnded new = ⊥

-- a piece in flight came to its end: one turn more
abbrev pub HasEnded : Type 0 → BoardModel → Option PieceTurn → BoardModel → Type 0
HasEnded honest old None new = IsSame old new
HasEnded honest old (Some turn.Started) new = ⊥
HasEnded honest old (Some turn.StepEnded) new = (job : ℕ) × (attempt : ℕ) × (out : Outcome) × IsAdded old (StepEnds job attempt out) new
HasEnded honest old (Some (turn.QueryEnded line end)) new = IsAdded old (QueryEnds line (out_of end)) new × IsEndOf honest (now old) line end

-- a claimed step went to a hand, or has its end at once for want of memory; and so of a query that was taken
abbrev pub HasGivenStep : ℕ → ℕ → BoardModel → Option PieceTurn → BoardModel → Type 0
HasGivenStep job attempt old (Some turn.Started) new = IsSame old new
HasGivenStep job attempt old (Some turn.StepEnded) new = IsAdded old (StepEnds job attempt outcome.Memory) new
HasGivenStep job attempt old (Some (turn.QueryEnded line end)) new = ⊥
HasGivenStep job attempt old None new = ⊥

abbrev pub HasGivenQuery : ℕ → BoardModel → Option PieceTurn → BoardModel → Type 0
HasGivenQuery line old (Some turn.Started) new = IsSame old new
HasGivenQuery line old (Some turn.StepEnded) new = ⊥
HasGivenQuery line old (Some (turn.QueryEnded ended end)) new = (end ≡ query_end.Memory) × IsAdded old (QueryEnds ended NoAnswer) new × (ended ≡ line)
HasGivenQuery line old None new = ⊥

-- a step was claimed, or a query was taken
abbrev pub HasBegun : BoardModel → BoardModel → Type 0
HasBegun old new = ((job : ℕ) × (attempt : ℕ) × IsAdded old (Claims job attempt) new) ⊎ ((line : ℕ) × IsAdded old (QueryTakes line) new)

-- a piece was started; where no memory was found for that it has its end, and where none was found for its end it has begun at most
abbrev pub HasStarted : BoardModel → Result (Option PieceTurn) AllocError → BoardModel → Type 0
HasStarted old (Ok None) new = IsSame old new
HasStarted old (Ok (Some turn.Started)) new = HasBegun old new
HasStarted old (Ok (Some turn.StepEnded)) new = (job : ℕ) × (attempt : ℕ) × IsGrown old (Claims job attempt ∷ StepEnds job attempt outcome.Memory ∷ []) new
HasStarted old (Ok (Some (turn.QueryEnded line end))) new = (end ≡ query_end.Memory) × IsGrown old (QueryTakes line ∷ QueryEnds line NoAnswer ∷ []) new
HasStarted old (Err refused) new = IsSame old new ⊎ HasBegun old new
