-- Hands that keep up with the turns of a board, and pieces that go with them.
use Rattle.std.proofs.Common.{◌≡◌, ℕ, ◌<◌, Bool, true, false, Option, Some, None, Result, Ok, Err, IfOk, OnErr, OnOk, List, [], ◌++◌, append-nil, length, map, refl, sym, ap, ◌∙◌, subst, arith}
use Rattle.std.specs.Prelude.{IfSome}
use Rattle.std.specs.Result.{is_ok}
use Rattle.fixed_query.specs.declared.query.FixedQuery.{FixedQuery}
use Rattle.fixed_query.specs.declared.query.QueryEnd.{QueryEnd}
use Rattle.fixed_query.specs.declared.query.QueryEnd.TheVariants as query_end
use Rattle.job_board.specs.BoardModel.{BoardModel, IsAdded, IsSame, now}
use Rattle.outside.specs.Hands.{Call, Fail}
use Rattle.outside.specs.Rises.{Risen, TellSame}
use Rattle.outside.proofs.Rises.{Risen-none, TellSame-none}
use Rattle.plain_answer.specs.declared.ask.Ask.{Ask}
use Rattle.run_history.specs.Commands.{Turn}
use Rattle.run_history.specs.Commands.Turn.{QueryEnds, StepEnds}
use Rattle.run_history.specs.World.{busy}
use Rattle.run_history.specs.declared.event.Outcome.TheVariants as outcome
use Rattle.run_history.specs.declared.event.QueryOut.TheVariants.{Memory as NoAnswer}
use Rattle.step_outcomes.specs.Ends.{EndsNoStep}
use Rattle.worker_pool.specs.Pools.{InFlight, IsLanded, IsStarted, PoolModel, hands, pieces}
use Rattle.worker_pool.specs.declared.piece.Piece.{Piece}
use Rattle.worker_pool.specs.declared.piece.Piece.TheVariants.{Step, Query}
use Rattle.worker_pool.specs.declared.piece.PieceEnd.{PieceEnd}
use Rattle.worker_pool.specs.declared.piece.Work.{Work}
use Rattle.board_pieces.specs.HandLists.{HandsKeepUp}
use Rattle.board_pieces.specs.InFlight.{HasPieces, HasPiecesWith}
use Rattle.board_pieces.specs.Turns.{HasGivenQuery, HasGivenStep, IsRecorded}
use Rattle.board_pieces.specs.declared.pieces.PieceTurn.{PieceTurn}
use Rattle.board_pieces.specs.declared.pieces.PieceTurn.TheVariants as turn
use Rattle.board_pieces.proofs.Landed.{CameTo, agrees-landed, called-landed, counted-landed, fails-gathered, faults-gathered, hands-landed, runs-gathered}
use Rattle.board_pieces.proofs.Moves.{in_flight-answered, in_flight-ended, in_flight-same}
use Rattle.board_pieces.proofs.Reached.{IsReached, same-refl}
use Rattle.board_pieces.proofs.Started.{agrees-refused, agrees-same, agrees-started, agrees-turn, called-refused, called-same, called-started, called-turn, counted-refused, counted-same, counted-started, counted-turn, free-hand, hands-started, pieces-started}
use Rattle.board_pieces.proofs.Worlds.{workers-now}

-- ---- what holds of a result

pub on_ok : {A E : Type 0} (r : Result A E) (P Q : Type 0) → (P → Q) → OnOk r P → OnOk r Q
on_ok (Ok x) P Q f h = f h
on_ok (Err e) P Q f h = tt

-- a result that is there, and one that isn't
pub ok-when : {A E : Type 0} (r : Result A E) (b : Bool) (P : Type 0) → b ≡ is_ok r → b ≡ true → OnOk r P → P
ok-when (Ok x) b P is e h = h
ok-when (Err x) b P is e h = absurd (let clash : true ≡ false = sym e ∙ is in cc)

pub err-when : {A E : Type 0} (r : Result A E) (b : Bool) (P : Type 0) → b ≡ is_ok r → b ≡ false → OnErr r P → P
err-when (Ok x) b P is e h = absurd (let clash : false ≡ true = sym e ∙ is in cc)
err-when (Err x) b P is e h = h

either : {A E : Type 0} (r : Result A E) (P Q R : Type 0) → (P → R) → (Q → R) → OnOk r P → OnErr r Q → R
either (Ok x) P Q R f g h k = f h
either (Err e) P Q R f g h k = g k

module _ {H : Type 0} (honest : Type 0) (runs faults : H → ℕ) (fails : H → Option (List Fail)) (calls : H → Option (List Call)) where
  abbrev pub KeepUp : List H → BoardModel → List H → BoardModel → Type 0
  KeepUp = HandsKeepUp honest runs faults fails calls

  pub keep-then : (were between are : List H) (old mid new : BoardModel) → KeepUp were old between mid → KeepUp between mid are new → KeepUp were old are new
  keep-then were between are old mid new k l = record {
    as_many = l.as_many ∙ k.as_many;
    counted = λ base h. l.counted base (k.counted base h);
    agrees = λ base h. l.agrees base (k.agrees base h);
    called = λ base h. l.called base (k.called base h);
  }

  pub keep-same : (hs : List H) (old new : BoardModel) → IsSame old new → KeepUp hs old hs new
  keep-same hs old new same = record {
    as_many = refl;
    counted = λ base. counted-same honest runs faults fails calls base hs old new same;
    agrees = λ base. agrees-same honest runs faults fails calls base hs old new same;
    called = λ base. called-same honest runs faults fails calls base hs old new same;
  }

  pub keep-turn : (hs : List H) (old new : BoardModel) (turn : Turn Ask) → EndsNoStep turn → IsAdded old turn new → KeepUp hs old hs new
  keep-turn hs old new turn silent a = record {
    as_many = refl;
    counted = λ base. counted-turn honest runs faults fails calls base hs old new turn silent a;
    agrees = λ base. agrees-turn honest runs faults fails calls base hs old new turn silent a;
    called = λ base. called-turn honest runs faults fails calls base hs old new turn silent a;
  }

  keep_refused : (hs : List H) (old new : BoardModel) (job attempt : ℕ) → IsAdded old (StepEnds job attempt outcome.Memory) new → KeepUp hs old hs new
  keep_refused hs old new job attempt a = record {
    as_many = refl;
    counted = λ base. counted-refused honest runs faults fails calls base hs old new job attempt a;
    agrees = λ base. agrees-refused honest runs faults fails calls base hs old new job attempt a;
    called = λ base. called-refused honest runs faults fails calls base hs old new job attempt a;
  }

  -- ---- starts

  module _ (board : BoardModel) (piece : Piece FixedQuery) (pool pool' : PoolModel H FixedQuery) (s : IsStarted piece pool pool') where
    pub keep-started : KeepUp (hands pool) board (hands pool') board
    keep-started = record {
      as_many = hands-started honest runs faults fails calls [] board board (same-refl board) piece pool pool' s;
      counted = λ base. counted-started honest runs faults fails calls base board board (same-refl board) piece pool pool' s;
      agrees = λ base. agrees-started honest runs faults fails calls base board board (same-refl board) piece pool pool' s;
      called = λ base. called-started honest runs faults fails calls base board board (same-refl board) piece pool pool' s;
    }

    pub given-pieces : HasPiecesWith honest board piece pool → HasPieces honest board pool'
    given-pieces f = record {
      in_flight = pieces-started honest runs faults fails calls [] board board (same-refl board) piece pool pool' s f.in_flight;
      enough = omega (arith, f.enough, keep-started.as_many);
    }

  -- a pool that is as it was
  pub keep-pool : (old new : BoardModel) (pool pool' : PoolModel H FixedQuery) → pool' ≡ pool → KeepUp (hands pool) old (hands pool) new → KeepUp (hands pool) old (hands pool') new
  keep-pool old new pool pool' e k = subst (λ (p : PoolModel H FixedQuery). KeepUp (hands pool) old (hands p) new) (sym e) k

  module _ {E : Type 0} (r : Result (Option PieceTurn) E) (old new : BoardModel) (pool pool' : PoolModel H FixedQuery) (e : pool' ≡ pool) where
    pub refused-step_keeps : (job attempt : ℕ) → OnOk r (IsAdded old (StepEnds job attempt outcome.Memory) new) → OnErr r (IsSame old new) → KeepUp (hands pool) old (hands pool') new
    refused-step_keeps job attempt h k =
        keep-pool old new pool pool' e
        (either r (IsAdded old (StepEnds job attempt outcome.Memory) new) (IsSame old new) (KeepUp (hands pool) old (hands pool) new) (keep_refused (hands pool) old new job attempt) (keep-same (hands pool) old new) h k)

    pub refused-query_keeps : (line : ℕ) → OnOk r (IsAdded old (QueryEnds line NoAnswer) new) → OnErr r (IsSame old new) → KeepUp (hands pool) old (hands pool') new
    refused-query_keeps line h k =
        keep-pool old new pool pool' e
        (either r (IsAdded old (QueryEnds line NoAnswer) new) (IsSame old new) (KeepUp (hands pool) old (hands pool) new) (keep-turn (hands pool) old new (QueryEnds line NoAnswer) tt) (keep-same (hands pool) old new) h k)

    pub refused-step_pieces : (work : Work) → HasPiecesWith honest old (Step work) pool → IsReached old → OnOk r (IsAdded old (StepEnds work.job work.attempt outcome.Memory) new) → OnOk r (HasPieces honest new pool')
    refused-step_pieces work f reached h = on_ok r (IsAdded old (StepEnds work.job work.attempt outcome.Memory) new) (HasPieces honest new pool') (λ a. subst (HasPieces honest new) (sym e) (record {
      in_flight = in_flight-ended honest old new work (pieces pool) reached outcome.Memory a f.in_flight;
      enough = omega (arith, f.enough, a.workers);
    })) h

    pub refused-query_pieces : (query : FixedQuery) → HasPiecesWith honest old (Query query) pool → IsReached old → OnOk r (IsAdded old (QueryEnds query.line NoAnswer) new) → OnOk r (HasPieces honest new pool')
    refused-query_pieces query f reached h = on_ok r (IsAdded old (QueryEnds query.line NoAnswer) new) (HasPieces honest new pool') (λ a. subst (HasPieces honest new) (sym e) (record {
      in_flight = in_flight-answered honest old new query (pieces pool) reached NoAnswer a f.in_flight;
      enough = omega (arith, f.enough, a.workers);
    })) h

  -- ---- ends

  pub keep-landed : (board : BoardModel) (pool pool' : PoolModel H FixedQuery) (f : HasPieces honest board pool) (r : IsReached board) (new : BoardModel) (e : PieceEnd QueryEnd) (turned : PieceTurn)
      → IsLanded (CameTo honest runs faults fails calls) e pool pool' → IsRecorded honest board e turned new → KeepUp (hands pool) board (hands pool') new
  keep-landed board pool pool' f r new e turned l recorded = record {
    as_many = hands-landed honest runs faults fails calls board pool pool' f r e l;
    counted = counted-landed honest runs faults fails calls board pool pool' f r new e turned l recorded;
    agrees = agrees-landed honest runs faults fails calls board pool pool' f r new e turned l recorded;
    called = called-landed honest runs faults fails calls board pool pool' f r new e turned l recorded;
  }

-- ---- pieces

pub pieces-same : {H : Type 0} (honest : Type 0) (old new : BoardModel) (pool : PoolModel H FixedQuery) → IsSame old new → HasPieces honest old pool → HasPieces honest new pool
pieces-same honest old new pool same f = record {
  in_flight = in_flight-same honest old new (pieces pool) same f.in_flight;
  enough = omega (arith, f.enough, same.workers);
}

pub hand-free : {H : Type 0} (honest : Type 0) (board : BoardModel) (pool : PoolModel H FixedQuery) → HasPieces honest board pool → busy (now board) < (now board).workers → 0 < length pool.free
hand-free honest board pool f less = free-hand honest board pool f (omega (arith, less, workers-now board))

-- ---- what a refused start answers

pub given-step : {E : Type 0} (r : Result (Option PieceTurn) E) (job attempt : ℕ) (old new : BoardModel) → OnOk r (IsAdded old (StepEnds job attempt outcome.Memory) new)
    → IfOk r (λ given. given ≡ Some turn.StepEnded) → IfOk r (λ given. HasGivenStep job attempt old given new)
given-step (Ok given) job attempt old new a e = subst (λ (x : Option PieceTurn). HasGivenStep job attempt old x new) (sym e) a
given-step (Err e) job attempt old new a h = tt

pub given-query : {E : Type 0} (r : Result (Option PieceTurn) E) (line : ℕ) (old new : BoardModel) → OnOk r (IsAdded old (QueryEnds line NoAnswer) new)
    → IfOk r (λ given. given ≡ Some (turn.QueryEnded line query_end.Memory)) → IfOk r (λ given. HasGivenQuery line old given new)
given-query (Ok given) line old new a e = subst (λ (x : Option PieceTurn). HasGivenQuery line old x new) (sym e) (refl, a, refl)
given-query (Err e) line old new a h = tt

-- ---- hands that are gathered

module _ {H : Type 0} (honest : Type 0) (runs faults : H → ℕ) (fails : H → Option (List Fail)) (calls : H → Option (List Call)) (pool pool' : PoolModel H FixedQuery) where
  pub gathered-runs : (r : Option (PieceEnd QueryEnd)) → (r ≡ None → pool' ≡ pool) → IfSome r (λ e. IsLanded (CameTo honest runs faults fails calls) e pool pool') → Risen runs (hands pool) (hands pool') 0
  gathered-runs None same landed = subst (λ (p : PoolModel H FixedQuery). Risen runs (hands pool) (hands p) 0) (sym (same refl)) (Risen-none runs (hands pool))
  gathered-runs (Some e) same landed = runs-gathered honest runs faults fails calls pool pool' e landed

  pub gathered-faults : (r : Option (PieceEnd QueryEnd)) → (r ≡ None → pool' ≡ pool) → IfSome r (λ e. IsLanded (CameTo honest runs faults fails calls) e pool pool') → Risen faults (hands pool) (hands pool') 0
  gathered-faults None same landed = subst (λ (p : PoolModel H FixedQuery). Risen faults (hands pool) (hands p) 0) (sym (same refl)) (Risen-none faults (hands pool))
  gathered-faults (Some e) same landed = faults-gathered honest runs faults fails calls pool pool' e landed

  pub gathered-fails : (r : Option (PieceEnd QueryEnd)) → (r ≡ None → pool' ≡ pool) → IfSome r (λ e. IsLanded (CameTo honest runs faults fails calls) e pool pool') → TellSame fails (hands pool) (hands pool')
  gathered-fails None same landed = subst (λ (p : PoolModel H FixedQuery). TellSame fails (hands pool) (hands p)) (sym (same refl)) (TellSame-none fails (hands pool))
  gathered-fails (Some e) same landed = fails-gathered honest runs faults fails calls pool pool' e landed

-- nothing is in flight: the free hands are all
pub all-free : {H : Type 0} (pool : PoolModel H FixedQuery) (items : List H) → pool.in_flight ≡ [] → items ≡ pool.free → hands pool ≡ items
all-free {H = H} pool items none is = ap (λ (flights : List (InFlight H FixedQuery)). pool.free ++ map (λ flight. flight.hand) flights) none ∙ (append-nil pool.free ∙ sym is)
