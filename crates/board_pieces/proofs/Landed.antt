-- What the end of a piece is to the board that records it, and to the pool that it comes from.
use Rattle.std.proofs.Common.{◌≡◌, ◌≢◌, ◌⊎◌, ℕ, ◌+◌, ◌-◌, ◌^◌, ◌<◌, ◌≤◌, ◌==◌, Option, Some, List, [], ◌∷◌, length, refl, sym, ap, ◌∙◌, subst, inl, inr, arith}
use Rattle.std.specs.Prelude.{find}
use Rattle.std.proofs.lemmas.List.Elements.{All-head}
use Rattle.std.proofs.lemmas.List.Sorted.{All-permutation, IsPermutation-sym, length_permutation}
use Rattle.fixed_cube.specs.Answers.{by_first}
use Rattle.fixed_cube.specs.Cube.{fixed}
use Rattle.fixed_cube.specs.Tasks.{IsTask, product_of}
use Rattle.fixed_query.specs.QueryEnds.{EndsQuery}
use Rattle.fixed_query.specs.declared.query.FixedQuery.{FixedQuery}
use Rattle.fixed_query.specs.declared.query.QueryEnd.{QueryEnd}
use Rattle.fixed_query.specs.declared.query.QueryEnd.TheVariants as query_end
use Rattle.fixed_state.specs.Ends.{Answer, IsProductOf, kept_of}
use Rattle.job_board.specs.BoardModel.{BoardModel, IsAdded, IsRecordedAs, now}
use Rattle.outside.specs.Hands.{Call, Fail, call_of, fault_for, with_call}
use Rattle.outside.specs.Rises.{AllTellThat, Risen, TellSame}
use Rattle.outside.proofs.Rises.{Rose-one}
use Rattle.plain_answer.specs.declared.ask.Ask.{Ask}
use Rattle.run_history.specs.Commands.Turn.{StepEnds, QueryEnds}
use Rattle.run_history.specs.Histories.{IsFresh, IsInFlight, IsLawful, claim_count}
use Rattle.run_history.specs.Sets.{rows_of}
use Rattle.run_history.specs.World.{Asked, World, job_of, set_at}
use Rattle.run_history.specs.declared.event.Outcome.{Outcome}
use Rattle.run_history.specs.declared.event.Outcome.TheVariants as outcome
use Rattle.run_history.proofs.Queries.{take_lawful}
use Rattle.step_outcomes.specs.Faults.{EndsBy}
use Rattle.step_outcomes.proofs.AnswerFacts.{called-by, follows-fails, rises_of, run_count}
use Rattle.step_outcomes.proofs.CallFacts.{calls-none}
use Rattle.step_outcomes.proofs.FaultFacts.{no_damage}
use Rattle.worker_pool.specs.Answered.{HasAnswered, HasRun}
use Rattle.worker_pool.specs.Pools.{IsLanded, PoolModel, hands, pieces}
use Rattle.worker_pool.specs.declared.piece.Piece.{Piece}
use Rattle.worker_pool.specs.declared.piece.Piece.TheVariants.{Step, Query}
use Rattle.worker_pool.specs.declared.piece.PieceEnd.{PieceEnd}
use Rattle.worker_pool.specs.declared.piece.PieceEnd.TheVariants as end
use Rattle.worker_pool.specs.declared.piece.Work.{Work}
use Rattle.worker_pool.proofs.Hands.{Gained-landed, Risen-landed, TellSame-landed, landed-after, landed-before, landed-pieces, other_hands}
use Rattle.board_pieces.specs.HandLists.{AgreesWithHands, HaveCalled, IsCounted}
use Rattle.board_pieces.specs.InFlight.{AreInFlight, HasPieces, IsQueryOf, IsStepOf, IsWorkIn}
use Rattle.board_pieces.specs.Turns.{HasEnded, IsEndOf, IsRecorded, MayEnd, out_of}
use Rattle.board_pieces.specs.declared.pieces.PieceTurn.{PieceTurn}
use Rattle.board_pieces.specs.declared.pieces.PieceTurn.TheVariants as turn
use Rattle.board_pieces.proofs.Moves.{any-found, has-claim, in_flight-answered, in_flight-ended, in_flight-first}
use Rattle.board_pieces.proofs.Products.{product-ended}
use Rattle.board_pieces.proofs.Reached.{IsReached, queries-of}
use Rattle.board_pieces.proofs.Recorded.{faults-by, recorded-answer, recorded-rises}
use Rattle.board_pieces.proofs.Told.{agrees-added, agrees-silent, called-ended, called-missed, called-silent, counted-added, counted-silent}

-- ---- queries

asked_same : (q r : Asked Ask) → Some q ≡ Some r → q ≡ r
asked_same q r e = cc

fresh_by : (w : World Ask) (query : FixedQuery) (end : QueryEnd) (asked : Asked Ask) → find (λ q. q.waiting.line == query.line) w.asked ≡ Some asked → query.version ≡ asked.at_take
    → IsLawful w (Some asked) asked.at_take → EndsQuery query end → IsFresh w (QueryEnds query.line (out_of end))
fresh_by w query (query_end.Answered version table) asked found at lawful e =
    subst (λ (o : Option (Asked Ask)). IsLawful w o version) (sym found) (subst (λ (v : ℕ). IsLawful w (Some asked) v) (sym (e.0 ∙ at)) lawful)
fresh_by w query query_end.Memory asked found at lawful e = tt

end_by : (honest : Type 0) (w : World Ask) (query : FixedQuery) (end : QueryEnd) → IsQueryOf honest w query → EndsQuery query end → IsEndOf honest w query.line end
end_by honest w query (query_end.Answered version table) s e = λ q found trust.
    let same : s.asked ≡ q = asked_same s.asked q (sym s.found ∙ found) in
    let is : version ≡ query.version = e.0 in
    let plain : table ≡ fixed.answer by_first (rows_of fixed (set_at w query.version)) =
    e.1.plain (set_at w query.version) (s.cells (subst (λ (v : ℕ). honest ⊎ (set_at w v ≡ [])) is trust)) in
    let asks : q.waiting.query ≡ by_first = subst (λ (x : Asked Ask). x.waiting.query ≡ by_first) same s.asks in
    subst (λ (v : ℕ). table ≡ fixed.answer q.waiting.query (rows_of fixed (set_at w v))) (sym is)
    (subst (λ (asked : Ask). table ≡ fixed.answer asked (rows_of fixed (set_at w query.version))) (sym asks) plain)
end_by honest w query query_end.Memory s e = tt

-- ---- what came back

module _ {H : Type 0} (honest : Type 0) (runs faults : H → ℕ) (fails : H → Option (List Fail)) (calls : H → Option (List Call)) where
  abbrev pub Ran : H → Work → Answer → H → Type 0
  Ran = HasRun honest IsTask product_of runs faults fails calls

  abbrev pub CameTo : H → Piece FixedQuery → PieceEnd QueryEnd → H → Type 0
  CameTo = HasAnswered Ran (λ (query : FixedQuery). query.line) EndsQuery

  -- a step by its hand's answer
  record IsStepBack (before : H) (piece : Piece FixedQuery) (job attempt : ℕ) (answer : Answer) (after : H) : Type 0 where
    work : Work
    is : piece ≡ Step work
    job_is : job ≡ work.job
    attempt_is : attempt ≡ work.attempt
    ran : Ran before work answer after

  step_back : (before : H) (piece : Piece FixedQuery) (job attempt : ℕ) (answer : Answer) (after : H) → CameTo before piece (end.Step job attempt answer) after
      → IsStepBack before piece job attempt answer after
  step_back before (Step work) job attempt answer after h = record { work = work; is = refl; job_is = h.0; attempt_is = h.1; ran = h.2 }
  step_back before (Query query) job attempt answer after h = absurd h

  -- a query by an end that it may have
  record IsQueryBack (before : H) (piece : Piece FixedQuery) (line : ℕ) (out : QueryEnd) (after : H) : Type 0 where
    query : FixedQuery
    is : piece ≡ Query query
    line_is : line ≡ query.line
    ends : EndsQuery query out
    same : after ≡ before

  query_back : (before : H) (piece : Piece FixedQuery) (line : ℕ) (out : QueryEnd) (after : H) → CameTo before piece (end.Query line out) after
      → IsQueryBack before piece line out after
  query_back before (Step work) line out after h = absurd h
  query_back before (Query query) line out after h = record { query = query; is = refl; line_is = h.0; ends = h.1; same = h.2 }

  -- whatever came back, its hand counts no less and tells the same faults
  runs_stay : (before : H) (piece : Piece FixedQuery) (e : PieceEnd QueryEnd) (after : H) → CameTo before piece e after → runs after < 2 ^ 64 - 1 → runs before + 0 ≤ runs after
  runs_stay before (Step work) (end.Step job attempt answer) after h below = omega (arith, Rose-one (runs before) (runs after) h.2.ran below)
  runs_stay before (Query query) (end.Query line out) after h below = omega (arith, ap runs h.2)
  runs_stay before (Step work) (end.Query line out) after h below = absurd h
  runs_stay before (Query query) (end.Step job attempt answer) after h below = absurd h

  faults_stay : (before : H) (piece : Piece FixedQuery) (e : PieceEnd QueryEnd) (after : H) → CameTo before piece e after → faults after < 2 ^ 64 - 1 → faults before + 0 ≤ faults after
  faults_stay before (Step work) (end.Step job attempt answer) after h below = omega (arith, h.2.later)
  faults_stay before (Query query) (end.Query line out) after h below = omega (arith, ap faults h.2)
  faults_stay before (Step work) (end.Query line out) after h below = absurd h
  faults_stay before (Query query) (end.Step job attempt answer) after h below = absurd h

  fails_stay : (before : H) (piece : Piece FixedQuery) (e : PieceEnd QueryEnd) (after : H) → CameTo before piece e after → fails after ≡ fails before
  fails_stay before (Step work) (end.Step job attempt answer) after h = h.2.steady
  fails_stay before (Query query) (end.Query line out) after h = ap fails h.2
  fails_stay before (Step work) (end.Query line out) after h = absurd h
  fails_stay before (Query query) (end.Step job attempt answer) after h = absurd h

  module _ (pool pool' : PoolModel H FixedQuery) (e : PieceEnd QueryEnd) (l : IsLanded CameTo e pool pool') where
    pub runs-gathered : Risen runs (hands pool) (hands pool') 0
    runs-gathered = Risen-landed runs CameTo e pool pool' 0 l (runs_stay l.ended.flight.hand l.ended.flight.piece e l.hand l.ended.answer)

    pub faults-gathered : Risen faults (hands pool) (hands pool') 0
    faults-gathered = Risen-landed faults CameTo e pool pool' 0 l (faults_stay l.ended.flight.hand l.ended.flight.piece e l.hand l.ended.answer)

    pub fails-gathered : TellSame fails (hands pool) (hands pool')
    fails-gathered = TellSame-landed fails CameTo e pool pool' l (fails_stay l.ended.flight.hand l.ended.flight.piece e l.hand l.ended.answer)

  module _ (board : BoardModel) (pool pool' : PoolModel H FixedQuery) (f : HasPieces honest board pool) (r : IsReached board) where
    pub hands-landed : (e : PieceEnd QueryEnd) → IsLanded CameTo e pool pool' → length (hands pool') ≡ length (hands pool)
    hands-landed e l =
        let others = other_hands pool pool' in
        omega (
          arith,
          length_permutation (l.ended.flight.hand ∷ others) (hands pool) (landed-before CameTo e pool pool' l),
          length_permutation (l.hand ∷ others) (hands pool') (landed-after CameTo e pool pool' l),
        )

    first_of : (e : PieceEnd QueryEnd) (l : IsLanded CameTo e pool pool') (piece : Piece FixedQuery) → l.ended.flight.piece ≡ piece → AreInFlight honest board (piece ∷ pieces pool')
    first_of e l piece is =
        subst (λ (p : Piece FixedQuery). AreInFlight honest board (p ∷ pieces pool')) is
        (in_flight-first honest board l.ended.flight.piece (pieces pool) (pieces pool') (landed-pieces CameTo e pool pool' l) f.in_flight)

    enough_of : (e : PieceEnd QueryEnd) → IsLanded CameTo e pool pool' → (new : BoardModel) → new.workers ≡ board.workers → new.workers ≤ length (hands pool')
    enough_of e l new workers = omega (arith, workers, hands-landed e l, f.enough)

    told_by : (e : PieceEnd QueryEnd) (l : IsLanded CameTo e pool pool') (told : List Fail) → AllTellThat fails told (hands pool) → fails l.ended.flight.hand ≡ Some told
    told_by e l told all =
        let others = other_hands pool pool' in
        let P : H → Type 0 = λ hand. fails hand ≡ Some told in
        All-head P l.ended.flight.hand others
        (All-permutation P (hands pool) (l.ended.flight.hand ∷ others) (IsPermutation-sym _ _ (landed-before CameTo e pool pool' l)) all)

    -- ---- the end of a step

    module _ (job attempt : ℕ) (answer : Answer) (l : IsLanded CameTo (end.Step job attempt answer) pool pool') where
      back : IsStepBack l.ended.flight.hand l.ended.flight.piece job attempt answer l.hand
      back = step_back l.ended.flight.hand l.ended.flight.piece job attempt answer l.hand l.ended.answer

      first : AreInFlight honest board (Step back.work ∷ pieces pool')
      first = first_of (end.Step job attempt answer) l (Step back.work) back.is

      was : IsStepOf honest board back.work
      was = All-head (IsWorkIn honest board) (Step back.work) (pieces pool') first.works

      pub step-claimed : 0 < claim_count job attempt (now board).steps
      step-claimed =
          subst (λ (n : ℕ). 0 < claim_count n attempt (now board).steps) (sym back.job_is)
          (subst (λ (m : ℕ). 0 < claim_count back.work.job m (now board).steps) (sym back.attempt_is) (has-claim honest board board back.work (pieces pool') r first))

      pub step-product : honest → IsProductOf (now board) (job_of (now board) job) attempt answer
      step-product trust =
          subst (λ (n : ℕ). IsProductOf (now board) (job_of (now board) n) attempt answer) (sym back.job_is)
          (subst (λ (m : ℕ). IsProductOf (now board) (job_of (now board) back.work.job) m answer) (sym back.attempt_is)
          (product-ended honest board back.work answer r was back.ran.product trust))

      module _ (o : Outcome) (new : BoardModel) (a : IsAdded board (StepEnds job attempt o) new) (products : List (List ℕ))
          (recorded : IsRecordedAs (now board) (job_of (now board) job) products attempt answer o) where
        added : IsAdded board (StepEnds back.work.job back.work.attempt o) new
        added =
            subst (λ (n : ℕ). IsAdded board (StepEnds n back.work.attempt o) new) back.job_is (subst (λ (m : ℕ). IsAdded board (StepEnds job m o) new) back.attempt_is a)

        pub step-pieces : HasPieces honest new pool'
        step-pieces = record {
          in_flight = in_flight-ended honest board new back.work (pieces pool') r o added first;
          enough = enough_of (end.Step job attempt answer) l new a.workers;
        }

        pub step-counted : (base : List H) → IsCounted runs faults base (hands pool) board → IsCounted runs faults base (hands pool') new
        step-counted base c =
            let fewer = recorded-rises (now board) (job_of (now board) job) products attempt answer o recorded in
            counted-added base (hands pool) (hands pool') runs faults board new (StepEnds job attempt o) 1 (rises_of answer) a (run_count Ask job attempt o) (omega (arith, fewer))
            (Risen-landed runs CameTo (end.Step job attempt answer) pool pool' 1 l (Rose-one (runs l.ended.flight.hand) (runs l.hand) back.ran.ran))
            (Risen-landed faults CameTo (end.Step job attempt answer) pool pool' (rises_of answer) l
            (faults-by answer (faults l.ended.flight.hand) (faults l.hand) back.ran.later back.ran.failed)) c

        follows_by : (told : List Fail) → AllTellThat fails told (hands pool) → EndsBy (fault_for job attempt told) o
        follows_by told all =
            let is = recorded-answer (now board) (job_of (now board) job) products attempt answer o recorded in
            let here : EndsBy (fault_for back.work.job back.work.attempt told) o =
            follows-fails (fails l.ended.flight.hand) back.work.job back.work.attempt answer o (back.ran.answers_fails was.is_task) is told (told_by (end.Step job attempt answer) l told all) in
            subst (λ (n : ℕ). EndsBy (fault_for n attempt told) o) (sym back.job_is)
            (subst (λ (m : ℕ). EndsBy (fault_for back.work.job m told) o) (sym back.attempt_is) here)

        pub step-agrees : (honest → o ≢ outcome.Damaged) → (base : List H) → AgreesWithHands honest fails base (hands pool) board → AgreesWithHands honest fails base (hands pool') new
        step-agrees sound base t =
            agrees-added base (hands pool) (hands pool') honest fails board new (StepEnds job attempt o) a
            (TellSame-landed fails CameTo (end.Step job attempt answer) pool pool' l back.ran.steady) follows_by (λ trust. no_damage o (sound trust)) t

        abbrev call : Call
        call = call_of back.work.job back.work.attempt back.work.task.items

        pub step-called : (base : List H) → HaveCalled honest calls base (hands pool) board → HaveCalled honest calls base (hands pool') new
        step-called base t =
            let is = recorded-answer (now board) (job_of (now board) job) products attempt answer o recorded in
            elim (called-by answer o (calls l.hand ≡ with_call (calls l.ended.flight.hand) call) (calls l.hand ≡ calls l.ended.flight.hand) is back.ran.called back.ran.called_memory) [
              | inl e ↦ called-ended base (hands pool) (hands pool') honest calls board new call o added was.task (Gained-landed calls CameTo (end.Step job attempt answer) pool pool' (call ∷ []) l e) t
              | inr e ↦
                  called-missed base (hands pool) (hands pool') honest calls board new job attempt o a e.0
                  (Gained-landed calls CameTo (end.Step job attempt answer) pool pool' [] l (e.1 ∙ calls-none (calls l.ended.flight.hand))) t
            ]

    -- ---- the end of a query

    module _ (line : ℕ) (out : QueryEnd) (l : IsLanded CameTo (end.Query line out) pool pool') where
      came : IsQueryBack l.ended.flight.hand l.ended.flight.piece line out l.hand
      came = query_back l.ended.flight.hand l.ended.flight.piece line out l.hand l.ended.answer

      first_query : AreInFlight honest board (Query came.query ∷ pieces pool')
      first_query = first_of (end.Query line out) l (Query came.query) came.is

      asked_was : IsQueryOf honest (now board) came.query
      asked_was = All-head (IsWorkIn honest board) (Query came.query) (pieces pool') first_query.works

      pub query-in_flight : IsInFlight (now board) line
      query-in_flight =
          subst (λ (n : ℕ). IsInFlight (now board) n) (sym came.line_is) (any-found (λ q. q.waiting.line == came.query.line) (now board).asked asked_was.asked asked_was.found)

      pub query-fresh : IsFresh (now board) (QueryEnds line (out_of out))
      query-fresh =
          subst (λ (n : ℕ). IsFresh (now board) (QueryEnds n (out_of out))) (sym came.line_is)
          (fresh_by (now board) came.query out asked_was.asked asked_was.found asked_was.version (take_lawful (now board) (queries-of board r) came.query.line asked_was.asked asked_was.found) came.ends)

      pub query-end : IsEndOf honest (now board) line out
      query-end = subst (λ (n : ℕ). IsEndOf honest (now board) n out) (sym came.line_is) (end_by honest (now board) came.query out asked_was came.ends)

      module _ (new : BoardModel) (a : IsAdded board (QueryEnds line (out_of out)) new) where
        pub query-pieces : HasPieces honest new pool'
        query-pieces = record {
          in_flight = in_flight-answered honest board new came.query (pieces pool') r (out_of out)
              (subst (λ (n : ℕ). IsAdded board (QueryEnds n (out_of out)) new) came.line_is a) first_query;
          enough = enough_of (end.Query line out) l new a.workers;
        }

        kept_by : (count : H → ℕ) → count l.hand < 2 ^ 64 - 1 → count l.ended.flight.hand + 0 ≤ count l.hand
        kept_by count below = omega (arith, ap count came.same)

        pub query-counted : (base : List H) → IsCounted runs faults base (hands pool) board → IsCounted runs faults base (hands pool') new
        query-counted base c =
            counted-silent base (hands pool) (hands pool') runs faults board new (QueryEnds line (out_of out)) tt a
            (Risen-landed runs CameTo (end.Query line out) pool pool' 0 l (kept_by runs)) (Risen-landed faults CameTo (end.Query line out) pool pool' 0 l (kept_by faults)) c

        pub query-agrees : (base : List H) → AgreesWithHands honest fails base (hands pool) board → AgreesWithHands honest fails base (hands pool') new
        query-agrees base t =
            agrees-silent base (hands pool) (hands pool') honest fails board new (QueryEnds line (out_of out)) tt a
            (TellSame-landed fails CameTo (end.Query line out) pool pool' l (ap fails came.same)) t

        pub query-called : (base : List H) → HaveCalled honest calls base (hands pool) board → HaveCalled honest calls base (hands pool') new
        query-called base t =
            called-silent base (hands pool) (hands pool') honest calls board new (QueryEnds line (out_of out)) tt a
            (Gained-landed calls CameTo (end.Query line out) pool pool' [] l (ap calls came.same ∙ calls-none (calls l.ended.flight.hand))) t

    -- ---- the end of a piece

    pub may-end : (e : PieceEnd QueryEnd) → IsLanded CameTo e pool pool' → MayEnd honest (now board) e
    may-end (end.Step job attempt answer) l = (step-claimed job attempt answer l, step-product job attempt answer l)
    may-end (end.Query line out) l = (query-in_flight line out l, query-fresh line out l)

    module _ (new : BoardModel) where
      pub pieces-ended : (e : PieceEnd QueryEnd) (turned : PieceTurn) → IsLanded CameTo e pool pool' → IsRecorded honest board e turned new → HasPieces honest new pool'
      pieces-ended (end.Step job attempt answer) turn.StepEnded l h = step-pieces job attempt answer l h.0 new h.1 (kept_of board.products job) h.2
      pieces-ended (end.Query line out) (turn.QueryEnded ended said) l h = query-pieces line out l new h.2
      pieces-ended (end.Step job attempt answer) turn.Started l h = absurd h
      pieces-ended (end.Step job attempt answer) (turn.QueryEnded ended said) l h = absurd h
      pieces-ended (end.Query line out) turn.Started l h = absurd h
      pieces-ended (end.Query line out) turn.StepEnded l h = absurd h

      pub turns-ended : (e : PieceEnd QueryEnd) (turned : PieceTurn) → IsLanded CameTo e pool pool' → IsRecorded honest board e turned new → HasEnded honest board (Some turned) new
      turns-ended (end.Step job attempt answer) turn.StepEnded l h = (job, attempt, h.0, h.1)
      turns-ended (end.Query line out) (turn.QueryEnded ended said) l h =
          subst (λ (n : ℕ). IsAdded board (QueryEnds n (out_of said)) new × IsEndOf honest (now board) n said) (sym h.0)
          (subst (λ (x : QueryEnd). IsAdded board (QueryEnds line (out_of x)) new × IsEndOf honest (now board) line x) (sym h.1) (h.2, query-end line out l))
      turns-ended (end.Step job attempt answer) turn.Started l h = absurd h
      turns-ended (end.Step job attempt answer) (turn.QueryEnded ended said) l h = absurd h
      turns-ended (end.Query line out) turn.Started l h = absurd h
      turns-ended (end.Query line out) turn.StepEnded l h = absurd h

      pub counted-landed : (e : PieceEnd QueryEnd) (turned : PieceTurn) → IsLanded CameTo e pool pool' → IsRecorded honest board e turned new → (base : List H) → IsCounted runs faults base (hands pool) board
          → IsCounted runs faults base (hands pool') new
      counted-landed (end.Step job attempt answer) turn.StepEnded l h = step-counted job attempt answer l h.0 new h.1 (kept_of board.products job) h.2
      counted-landed (end.Query line out) (turn.QueryEnded ended said) l h = query-counted line out l new h.2
      counted-landed (end.Step job attempt answer) turn.Started l h = absurd h
      counted-landed (end.Step job attempt answer) (turn.QueryEnded ended said) l h = absurd h
      counted-landed (end.Query line out) turn.Started l h = absurd h
      counted-landed (end.Query line out) turn.StepEnded l h = absurd h

      pub agrees-landed : (e : PieceEnd QueryEnd) (turned : PieceTurn) → IsLanded CameTo e pool pool' → IsRecorded honest board e turned new → (base : List H) → AgreesWithHands honest fails base (hands pool) board
          → AgreesWithHands honest fails base (hands pool') new
      agrees-landed (end.Step job attempt answer) turn.StepEnded l h = step-agrees job attempt answer l h.0 new h.1 (kept_of board.products job) h.2 h.3
      agrees-landed (end.Query line out) (turn.QueryEnded ended said) l h = query-agrees line out l new h.2
      agrees-landed (end.Step job attempt answer) turn.Started l h = absurd h
      agrees-landed (end.Step job attempt answer) (turn.QueryEnded ended said) l h = absurd h
      agrees-landed (end.Query line out) turn.Started l h = absurd h
      agrees-landed (end.Query line out) turn.StepEnded l h = absurd h

      pub called-landed : (e : PieceEnd QueryEnd) (turned : PieceTurn) → IsLanded CameTo e pool pool' → IsRecorded honest board e turned new → (base : List H) → HaveCalled honest calls base (hands pool) board
          → HaveCalled honest calls base (hands pool') new
      called-landed (end.Step job attempt answer) turn.StepEnded l h = step-called job attempt answer l h.0 new h.1 (kept_of board.products job) h.2
      called-landed (end.Query line out) (turn.QueryEnded ended said) l h = query-called line out l new h.2
      called-landed (end.Step job attempt answer) turn.Started l h = absurd h
      called-landed (end.Step job attempt answer) (turn.QueryEnded ended said) l h = absurd h
      called-landed (end.Query line out) turn.Started l h = absurd h
      called-landed (end.Query line out) turn.StepEnded l h = absurd h
