-- What is claimed or taken on a board is a piece more.
use Rattle.std.proofs.Common.{◌≡◌, ◌⊎◌, ℕ, ◌+◌, ◌==◌, Bool, true, false, Option, Some, None, Result, Ok, Err, IfOk, OnErr, List, [], ◌∷◌, ◌++◌, length, refl, sym, ap, ◌∙◌, subst, inl, inr, arith, eq-eqb, unwrap_or}
use Rattle.std.specs.Prelude.{count_by, find, slice_get}
use Rattle.std.specs.declared.alloc.AllocError.{AllocError}
use Rattle.fixed_cube.specs.Answers.{by_first}
use Rattle.fixed_cube.specs.Cube.{fixed}
use Rattle.fixed_cube.specs.Tasks.{IsTask}
use Rattle.fixed_query.specs.declared.query.FixedQuery.{FixedQuery}
use Rattle.fixed_state.specs.Ready.{AreCellsOf}
use Rattle.flight_laws.proofs.Counted.{found_key}
use Rattle.job_board.specs.BoardModel.{BoardModel, IsAdded, IsSame, now, turns}
use Rattle.outside.specs.Hands.{call_of}
use Rattle.plain_answer.specs.declared.ask.Ask.{Ask}
use Rattle.run_history.specs.Commands.Turn.{Claims, QueryTakes}
use Rattle.run_history.specs.Histories.{IsNextAttempt, IsNextOfSession}
use Rattle.run_history.specs.Sets.{ReadySet}
use Rattle.run_history.specs.Steps.{query_taken}
use Rattle.run_history.specs.World.{Asked, Submitted, Waiting, World, job_of, next_task, number, set_at}
use Rattle.step_outcomes.specs.Calls.{IsTaskOf}
use Rattle.worker_pool.specs.Pools.{PoolModel, pieces}
use Rattle.worker_pool.specs.declared.piece.Piece.TheVariants.{Step, Query}
use Rattle.worker_pool.specs.declared.piece.Work.{Work}
use Rattle.board_pieces.specs.InFlight.{HasPieces, HasPiecesWith, IsQueryOf, asked_count}
use Rattle.board_pieces.specs.Turns.{HasGivenQuery, HasGivenStep, HasStarted}
use Rattle.board_pieces.specs.declared.pieces.PieceTurn.{PieceTurn}
use Rattle.board_pieces.proofs.Members.{count-cons, one_if}
use Rattle.board_pieces.proofs.Moves.{in_flight-claimed, in_flight-taken}
use Rattle.board_pieces.proofs.Reached.{IsReached, added-then_same, lines-of, now-added}
use Rattle.board_pieces.proofs.Started.{begun-query, begun-step}
use Rattle.board_pieces.proofs.Worlds.{asked_of, waits-next}

-- ---- a claim

job_there : (found : Option Submitted) (attempt : ℕ) → IsNextAttempt found attempt → (s : Submitted) × (found ≡ Some s)
job_there None attempt h = absurd h
job_there (Some s) attempt h = (s, refl)

module _ {H : Type 0} (honest : Type 0) (old new : BoardModel) (pool : PoolModel H FixedQuery) (f : HasPieces honest old pool) (r : IsReached old) where
  module _ (work : Work) (a : IsAdded old (Claims work.job work.attempt) new) (next : IsNextAttempt (job_of (now old) work.job) work.attempt)
      (task : (s : Submitted) → job_of (now old) work.job ≡ Some s → honest → work.task.items ≡ next_task fixed (now old) s) (is_task : IsTask work.task.items) where
    claimed_task : honest → IsTaskOf fixed new.workers (turns new) (call_of work.job work.attempt work.task.items)
    claimed_task trust =
        let there = job_there (job_of (now old) work.job) work.attempt next in
        let first : IsTaskOf fixed old.workers (turns new) (call_of work.job work.attempt work.task.items) = record {
          before = turns old;
          later = [];
          claimed = a.turns;
          job = there.0;
          there = there.1;
          task = task there.0 there.1 trust;
        } in
        subst (λ (n : ℕ). IsTaskOf fixed n (turns new) (call_of work.job work.attempt work.task.items)) (sym a.workers) first

    pub claimed-pieces : HasPiecesWith honest new (Step work) pool
    claimed-pieces = record {
      in_flight = in_flight-claimed honest old new work (pieces pool) r a next (record { task = claimed_task; is_task = is_task }) f.in_flight;
      enough = omega (arith, f.enough, a.workers);
    }

  -- ---- the taking of a query

  module _ (query : FixedQuery) (a : IsAdded old (QueryTakes query.line) new) (next : IsNextOfSession (now old) (find (λ q. q.line == query.line) (now old).waiting))
      (asks : (q : Waiting Ask) → find (λ q. q.line == query.line) (now old).waiting ≡ Some q → q.query ≡ by_first) (version : query.version ≡ number (now old))
      (cells : honest ⊎ ((now old).ready ≡ []) → AreCellsOf (now old).ready query.cells) where
    waits : (q : Waiting Ask) × (find (λ q. q.line == query.line) (now old).waiting ≡ Some q)
    waits = waits-next (now old) (find (λ q. q.line == query.line) (now old).waiting) next

    taken_is : now new ≡ query_taken (now old) query.line (Some waits.0)
    taken_is = now-added old (QueryTakes query.line) new a ∙ ap (query_taken (now old) query.line) waits.1

    pub taken-pieces : HasPiecesWith honest new (Query query) pool
    taken-pieces = record {
      in_flight = in_flight-taken honest old new query (pieces pool) r waits.0 a waits.1 taken f.in_flight;
      enough = omega (arith, f.enough, a.workers);
    }
      where
        find_last : (b : Bool) (p : Asked Ask → Bool) (x y : Asked Ask) (xs : List (Asked Ask)) → p x ≡ b → one_if (p x) + count_by p xs ≡ 0
            → (count_by p xs ≡ 0 → find p (xs ++ y ∷ []) ≡ Some y) → find p ((x ∷ xs) ++ y ∷ []) ≡ Some y
        find_last true p x y xs e none rest = absurd (omega (arith, none, ap (λ (b : Bool). one_if b) e))
        find_last false p x y xs e none rest = rw e (rest (omega (arith, none)))

        find_push : (p : Asked Ask → Bool) (y : Asked Ask) (xs : List (Asked Ask)) → p y ≡ true → count_by p xs ≡ 0 → find p (xs ++ y ∷ []) ≡ Some y
        find_push p y [] e none = rw e refl
        find_push p y (x ∷ xs) e none = find_last (p x) p x y xs refl (omega (arith, none, count-cons p x xs)) (find_push p y xs e)

        get_end : (xs : List ReadySet) (x : ReadySet) → slice_get (xs ++ x ∷ []) (length xs) ≡ Some x
        get_end [] x = refl
        get_end (y ∷ xs) x = get_end xs x

        none_asked : asked_count query.line (now old).asked ≡ 0
        none_asked = omega (arith, (lines-of old r).each_once query.line, (found_key (λ (q : Waiting Ask). q.line) query.line (now old).waiting waits.0 waits.1).1)

        set_is : set_at (now new) query.version ≡ (now old).ready
        set_is =
            ap (λ (w : World Ask). set_at w query.version) taken_is
            ∙ (ap (set_at (now old)) version ∙ ap (λ (o : Option ReadySet). unwrap_or o []) (get_end (now old).past (now old).ready))

        taken : IsQueryOf honest (now new) query
        taken = record {
          asked = asked_of (now old) waits.0;
          found =
              ap (λ (w : World Ask). find (λ q. q.waiting.line == query.line) w.asked) taken_is
              ∙ find_push (λ q. q.waiting.line == query.line) (asked_of (now old) waits.0) (now old).asked
              (eq-eqb waits.0.line query.line (found_key (λ (q : Waiting Ask). q.line) query.line (now old).waiting waits.0 waits.1).0) none_asked;
          asks = asks waits.0 waits.1;
          version = version;
          cells = subst (λ (set : ReadySet). honest ⊎ (set ≡ []) → AreCellsOf set query.cells) (sym set_is) cells;
        }

-- ---- what a start answers

pub start-by_query : (r : Result (Option PieceTurn) AllocError) (old mid new : BoardModel) (line : ℕ) → IsAdded old (QueryTakes line) mid → IfOk r (λ given. HasGivenQuery line mid given new) → OnErr r (IsSame mid new)
    → HasStarted old r new
start-by_query (Ok given) old mid new line a h k = begun-query old mid new line given a h
start-by_query (Err e) old mid new line a h k = inr (inr (line, added-then_same old mid (QueryTakes line) new a k))

pub start-by_step : (r : Result (Option PieceTurn) AllocError) (old mid new : BoardModel) (job attempt : ℕ) → IsAdded old (Claims job attempt) mid → IfOk r (λ given. HasGivenStep job attempt mid given new) → OnErr r (IsSame mid new)
    → HasStarted old r new
start-by_step (Ok given) old mid new job attempt a h k = begun-step old mid new job attempt given a h
start-by_step (Err e) old mid new job attempt a h k = inr (inl (job, attempt, added-then_same old mid (Claims job attempt) new a k))

pub no-none : (r : Result (Option PieceTurn) AllocError) (P : Option PieceTurn → Type 0) → (P None → ⊥) → IfOk r P → r ≡ Ok None → ⊥
no-none (Ok None) P never h e = never h
no-none (Ok (Some turn)) P never h e = cc
no-none (Err err) P never h e = cc

pub queue-none : (queue : List ℕ) → None ≡ slice_get queue 0 → queue ≡ []
queue-none [] e = refl
queue-none (job ∷ queue) e = cc
