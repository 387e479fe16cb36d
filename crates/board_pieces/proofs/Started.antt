-- What a start is to the hands of a pool, and what starts and ends leave of boards with the same turns.
use Rattle.std.proofs.Common.{◌≡◌, ℕ, ◌<◌, Option, Some, None, Result, Ok, Err, List, [], ◌∷◌, ◌++◌, length, map, refl, sym, ap, ◌∙◌, subst, inl, inr, arith, length-append, append_assoc}
use Rattle.std.specs.declared.alloc.AllocError.{AllocError}
use Rattle.std.proofs.lemmas.List.{length-map}
use Rattle.std.proofs.lemmas.List.Sorted.{length_permutation}
use Rattle.fixed_query.specs.declared.query.FixedQuery.{FixedQuery}
use Rattle.job_board.specs.BoardModel.{BoardModel, IsAdded, IsSame, now, turns}
use Rattle.outside.specs.Hands.{Call, Fail, fault_for}
use Rattle.outside.specs.declared.hand.HandFault.{HandFault}
use Rattle.outside.proofs.Rises.{Gained-none, Risen-none, TellSame-none}
use Rattle.plain_answer.specs.declared.ask.Ask.{Ask}
use Rattle.run_history.specs.Commands.{Turn}
use Rattle.run_history.specs.Commands.Turn.{Claims, QueryEnds, QueryTakes, StepEnds}
use Rattle.run_history.specs.World.{World, busy}
use Rattle.run_history.specs.declared.event.Outcome.TheVariants as outcome
use Rattle.run_history.specs.declared.event.QueryOut.TheVariants.{Memory as NoAnswer}
use Rattle.step_outcomes.specs.Ends.{EndsNoStep}
use Rattle.step_outcomes.specs.Faults.{EndsBy}
use Rattle.worker_pool.specs.Pools.{IsStarted, PoolModel, hands, pieces}
use Rattle.worker_pool.specs.declared.piece.Piece.{Piece}
use Rattle.worker_pool.proofs.Hands.{Gained-started, Risen-started, TellSame-started, started-hands, started-pieces}
use Rattle.board_pieces.specs.HandLists.{AgreesWithHands, HaveCalled, IsCounted}
use Rattle.board_pieces.specs.InFlight.{AreInFlight, HasPieces}
use Rattle.board_pieces.specs.Turns.{HasEnded, HasGivenQuery, HasGivenStep, HasStarted, IsEndOf, IsGrown, out_of}
use Rattle.board_pieces.specs.declared.pieces.PieceTurn.{PieceTurn}
use Rattle.board_pieces.specs.declared.pieces.PieceTurn.TheVariants as turn
use Rattle.board_pieces.proofs.Moves.{in_flight-back, in_flight-same}
use Rattle.board_pieces.proofs.Reached.{added-same, now-same, same-then, turns-same}
use Rattle.board_pieces.proofs.Told.{agrees-added, agrees-kept, agrees-silent, called-kept, called-missed, called-silent, counted-added, counted-kept, counted-silent}

ends_memory : (met : Option HandFault) → EndsBy met outcome.Memory
ends_memory None = refl
ends_memory (Some f) = inr refl

module _ {H : Type 0} (honest : Type 0) (runs faults : H → ℕ) (fails : H → Option (List Fail)) (calls : H → Option (List Call)) (base : List H) where
  -- ---- a hand that goes with a piece

  module _ (board new : BoardModel) (same : IsSame board new) (piece : Piece FixedQuery) (pool pool' : PoolModel H FixedQuery) (s : IsStarted piece pool pool') where
    pub hands-started : length (hands pool') ≡ length (hands pool)
    hands-started = length_permutation (hands pool) (hands pool') (started-hands piece pool pool' s)

    pub pieces-started : AreInFlight honest board (piece ∷ pieces pool) → AreInFlight honest new (pieces pool')
    pieces-started f = in_flight-same honest board new (pieces pool') same (in_flight-back honest board piece (pieces pool') (pieces pool) (started-pieces piece pool pool' s) f)

    pub counted-started : IsCounted runs faults base (hands pool) board → IsCounted runs faults base (hands pool') new
    counted-started c = counted-kept base (hands pool) (hands pool') runs faults board new (turns-same board new same) (Risen-started runs piece pool pool' s) (Risen-started faults piece pool pool' s) c

    pub agrees-started : AgreesWithHands honest fails base (hands pool) board → AgreesWithHands honest fails base (hands pool') new
    agrees-started t = agrees-kept base (hands pool) (hands pool') honest fails board new (turns-same board new same) (TellSame-started fails piece pool pool' s) t

    pub called-started : HaveCalled honest calls base (hands pool) board → HaveCalled honest calls base (hands pool') new
    called-started t = called-kept base (hands pool) (hands pool') honest calls board new (turns-same board new same) same.workers (Gained-started calls piece pool pool' s) t

  -- ---- turns in which no hand has a part

  module _ (hs : List H) (board new : BoardModel) where
    pub counted-same : IsSame board new → IsCounted runs faults base hs board → IsCounted runs faults base hs new
    counted-same same c = counted-kept base hs hs runs faults board new (turns-same board new same) (Risen-none runs hs) (Risen-none faults hs) c

    pub agrees-same : IsSame board new → AgreesWithHands honest fails base hs board → AgreesWithHands honest fails base hs new
    agrees-same same t = agrees-kept base hs hs honest fails board new (turns-same board new same) (TellSame-none fails hs) t

    pub called-same : IsSame board new → HaveCalled honest calls base hs board → HaveCalled honest calls base hs new
    called-same same t = called-kept base hs hs honest calls board new (turns-same board new same) same.workers (Gained-none calls hs) t

    -- a turn that ends no step
    module _ (turn : Turn Ask) (silent : EndsNoStep turn) (a : IsAdded board turn new) where
      pub counted-turn : IsCounted runs faults base hs board → IsCounted runs faults base hs new
      counted-turn c = counted-silent base hs hs runs faults board new turn silent a (Risen-none runs hs) (Risen-none faults hs) c

      pub agrees-turn : AgreesWithHands honest fails base hs board → AgreesWithHands honest fails base hs new
      agrees-turn t = agrees-silent base hs hs honest fails board new turn silent a (TellSame-none fails hs) t

      pub called-turn : HaveCalled honest calls base hs board → HaveCalled honest calls base hs new
      called-turn t = called-silent base hs hs honest calls board new turn silent a (Gained-none calls hs) t

    -- a step that no hand was given
    module _ (job attempt : ℕ) (a : IsAdded board (StepEnds job attempt outcome.Memory) new) where
      pub counted-refused : IsCounted runs faults base hs board → IsCounted runs faults base hs new
      counted-refused c =
          counted-added base hs hs runs faults board new (StepEnds job attempt outcome.Memory) 0 0 a (omega arith) (omega arith) (Risen-none runs hs) (Risen-none faults hs) c

      pub agrees-refused : AgreesWithHands honest fails base hs board → AgreesWithHands honest fails base hs new
      agrees-refused t =
          agrees-added base hs hs honest fails board new (StepEnds job attempt outcome.Memory) a (TellSame-none fails hs) (λ told all. ends_memory (fault_for job attempt told))
          (λ trust. refl) t

      pub called-refused : HaveCalled honest calls base hs board → HaveCalled honest calls base hs new
      called-refused t = called-missed base hs hs honest calls board new job attempt outcome.Memory a refl (Gained-none calls hs) t

-- ---- turns of starts

grown-two : (old mid : BoardModel) (first second : Turn Ask) (new : BoardModel) → IsAdded old first mid → IsAdded mid second new → IsGrown old (first ∷ second ∷ []) new
grown-two old mid first second new a b = record {
  turns = b.turns ∙ (ap (λ (ts : List (Turn Ask)). ts ++ second ∷ []) a.turns ∙ append_assoc (turns old) (first ∷ []) (second ∷ []));
  workers = b.workers ∙ a.workers;
}

pub begun-step : (old mid new : BoardModel) (job attempt : ℕ) (given : Option PieceTurn) → IsAdded old (Claims job attempt) mid → HasGivenStep job attempt mid given new → HasStarted old (Ok given) new
begun-step old mid new job attempt (Some turn.Started) a same = inl (job, attempt, record { turns = turns-same mid new same ∙ a.turns; workers = same.workers ∙ a.workers })
begun-step old mid new job attempt (Some turn.StepEnded) a b = (job, attempt, grown-two old mid (Claims job attempt) (StepEnds job attempt outcome.Memory) new a b)
begun-step old mid new job attempt (Some (turn.QueryEnded line end)) a b = absurd b
begun-step old mid new job attempt None a b = absurd b

pub begun-query : (old mid new : BoardModel) (line : ℕ) (given : Option PieceTurn) → IsAdded old (QueryTakes line) mid → HasGivenQuery line mid given new → HasStarted old (Ok given) new
begun-query old mid new line (Some turn.Started) a same = inr (line, record { turns = turns-same mid new same ∙ a.turns; workers = same.workers ∙ a.workers })
begun-query old mid new line (Some turn.StepEnded) a b = absurd b
begun-query old mid new line None a b = absurd b
begun-query old mid new line (Some (turn.QueryEnded ended end)) a b = (
  b.0,
  subst (λ (n : ℕ). IsGrown old (QueryTakes n ∷ QueryEnds ended NoAnswer ∷ []) new) (sym b.2)
      (grown-two old mid (QueryTakes line) (QueryEnds ended NoAnswer) new a b.1),
)

-- a start after a call that left the board as it was
pub started-same : (old mid new : BoardModel) (r : Result (Option PieceTurn) AllocError) → IsSame old mid → HasStarted mid r new → HasStarted old r new
started-same old mid new (Ok None) s h = same-then old mid new s h
started-same old mid new (Ok (Some turn.Started)) s (inl h) = inl (h.0, h.1, added-same old mid (Claims h.0 h.1) new s h.2)
started-same old mid new (Ok (Some turn.Started)) s (inr h) = inr (h.0, added-same old mid (QueryTakes h.0) new s h.1)
started-same old mid new (Ok (Some turn.StepEnded)) s h =
    (h.0, h.1, grown_same (Claims h.0 h.1 ∷ StepEnds h.0 h.1 outcome.Memory ∷ []) s h.2)
  where
    grown_same : (later : List (Turn Ask)) → IsSame old mid → IsGrown mid later new → IsGrown old later new
    grown_same later s g = record { turns = g.turns ∙ ap (λ (ts : List (Turn Ask)). ts ++ later) (turns-same old mid s); workers = g.workers ∙ s.workers }
started-same old mid new (Ok (Some (turn.QueryEnded line end))) s h =
    (h.0, grown_same (QueryTakes line ∷ QueryEnds line NoAnswer ∷ []) s h.1)
  where
    grown_same : (later : List (Turn Ask)) → IsSame old mid → IsGrown mid later new → IsGrown old later new
    grown_same later s g = record { turns = g.turns ∙ ap (λ (ts : List (Turn Ask)). ts ++ later) (turns-same old mid s); workers = g.workers ∙ s.workers }
started-same old mid new (Err e) s (inl h) = inl (same-then old mid new s h)
started-same old mid new (Err e) s (inr (inl h)) = inr (inl (h.0, h.1, added-same old mid (Claims h.0 h.1) new s h.2))
started-same old mid new (Err e) s (inr (inr h)) = inr (inr (h.0, added-same old mid (QueryTakes h.0) new s h.1))

-- ---- hands

-- where a worker is free so is a hand
pub free-hand : {H : Type 0} (honest : Type 0) (board : BoardModel) (pool : PoolModel H FixedQuery) → HasPieces honest board pool → busy (now board) < board.workers → 0 < length pool.free
free-hand {H = H} honest board pool f less = omega (
  arith,
  f.enough,
  f.in_flight.count,
  less,
  length-append pool.free (map (λ flight. flight.hand) pool.in_flight),
  length-map pool.in_flight (λ flight. flight.hand),
  length-map pool.in_flight (λ flight. flight.piece),
)

-- an end after a call that left the board as it was
pub ended-same : (honest : Type 0) (old mid new : BoardModel) (turned : PieceTurn) → IsSame old mid → HasEnded honest mid (Some turned) new → HasEnded honest old (Some turned) new
ended-same honest old mid new turn.Started s h = absurd h
ended-same honest old mid new turn.StepEnded s h = (h.0, h.1, h.2, added-same old mid (StepEnds h.0 h.1 h.2) new s h.3)
ended-same honest old mid new (turn.QueryEnded line end) s h =
    (added-same old mid (QueryEnds line (out_of end)) new s h.0, subst (λ (w : World Ask). IsEndOf honest w line end) (now-same old mid s) h.1)
