-- The pieces in flight, from turn to turn.
use Rattle.std.proofs.Common.{◌≡◌, ◌⊎◌, ℕ, ◌+◌, ◌<◌, ◌≤◌, ◌==◌, ◌&&◌, Bool, true, false, not, Some, List, [], ◌∷◌, ◌++◌, All, length, refl, sym, ap, ◌∙◌, subst, inl, inr, arith, append_assoc, eq-eqb, length-append}
use Rattle.std.specs.Prelude.{⊤, filter, find}
use Rattle.std.specs.List.{list_any}
use Rattle.std.proofs.lemmas.Bool.{cases_eq, ne_eqb}
use Rattle.std.proofs.lemmas.List.Elements.{All-cons, All-head, All-nil, All-tail, All-weaker}
use Rattle.fixed_cube.specs.Cube.{fixed}
use Rattle.fixed_query.specs.declared.query.FixedQuery.{FixedQuery}
use Rattle.fixed_state.specs.Ready.{AreCellsOf}
use Rattle.flight_laws.proofs.Counted.{found_key, times_other, times_push}
use Rattle.job_board.specs.BoardModel.{BoardModel, IsAdded, IsSame, now, turns}
use Rattle.outside.specs.Hands.{Call, call_of}
use Rattle.plain_answer.specs.declared.ask.Ask.{Ask}
use Rattle.run_history.specs.Commands.{Command, Turn}
use Rattle.run_history.specs.Commands.Turn.{Takes, Claims, StepEnds, QueryTakes, QueryEnds}
use Rattle.run_history.specs.Histories.{IsInFlight, IsNextAttempt, claim_count}
use Rattle.run_history.specs.Kept.{ends_query}
use Rattle.run_history.specs.Sets.{ReadySet}
use Rattle.run_history.specs.Steps.{without_claim}
use Rattle.run_history.specs.World.{Asked, Waiting, World, job_of, number, set_at}
use Rattle.run_history.specs.declared.event.Outcome.{Outcome}
use Rattle.run_history.specs.declared.event.QueryOut.{QueryOut}
use Rattle.run_history.proofs.Kept.{kept_step, query_stays}
use Rattle.run_history.proofs.Laws.{claim_count-push, claim_count-without, length-without_claim}
use Rattle.run_history.proofs.Queries.{take_lawful}
use Rattle.step_outcomes.specs.Calls.{IsTaskOf}
use Rattle.worker_pool.specs.Lists.{IsWithout}
use Rattle.worker_pool.specs.declared.piece.Piece.{Piece}
use Rattle.worker_pool.specs.declared.piece.Piece.TheVariants.{Step, Query}
use Rattle.worker_pool.specs.declared.piece.Work.{Work}
use Rattle.worker_pool.proofs.Lists.{without-length}
use Rattle.board_pieces.specs.InFlight.{AreInFlight, IsQueryOf, IsStepOf, IsWorkIn, asked_count, is_query_of, is_step_of, query_count, step_count}
use Rattle.board_pieces.proofs.Members.{all-back, all-both, all-first, count-cons, count-without, length-filter_not, none-counted, one_if}
use Rattle.board_pieces.proofs.Reached.{IsReached, lines-of, now-added, now-same, queries-of, sound-of, turns-same}
use Rattle.board_pieces.proofs.Worlds.{asked-claimed, asked-ended, asked-taken, asked_of, flight-ended, flight-took, steps-answered, steps-claimed, steps-taken}

-- ---- what a turn leaves of a piece

-- the turn doesn't end this piece's query
abbrev Stays : Turn Ask → Piece FixedQuery → Type 0
Stays turn (Step work) = ⊤
Stays turn (Query query) = ends_query query.line turn ≡ false

stays_quiet : (turn : Turn Ask) → ((line : ℕ) → ends_query line turn ≡ false) → (piece : Piece FixedQuery) → Stays turn piece
stays_quiet turn h (Step work) = tt
stays_quiet turn h (Query query) = h query.line

all_stay : (turn : Turn Ask) → ((line : ℕ) → ends_query line turn ≡ false) → (pieces : List (Piece FixedQuery)) → All (Stays turn) pieces
all_stay turn h [] = All-nil (Stays turn)
all_stay turn h (piece ∷ pieces) = All-cons (Stays turn) piece pieces (stays_quiet turn h piece) (all_stay turn h pieces)

task_later : (old : BoardModel) (turn : Turn Ask) (new : BoardModel) → IsAdded old turn new → (call : Call) → IsTaskOf fixed old.workers (turns old) call → IsTaskOf fixed new.workers (turns new) call
task_later old turn new a call t =
    let moved : IsTaskOf fixed old.workers (turns new) call = record {
      before = t.before;
      later = t.later ++ turn ∷ [];
      claimed =
          a.turns ∙ (ap (λ (ts : List (Turn Ask)). ts ++ turn ∷ []) t.claimed ∙ append_assoc t.before (Claims call.job call.attempt ∷ t.later) (turn ∷ []));
      job = t.job;
      there = t.there;
      task = t.task;
    } in
    subst (λ (n : ℕ). IsTaskOf fixed n (turns new) call) (sym a.workers) moved

module _ (honest : Type 0) (old : BoardModel) (turn : Turn Ask) (new : BoardModel) (a : IsAdded old turn new) (r : IsReached old) where
  keeps_step : (work : Work) → IsStepOf honest old work → IsStepOf honest new work
  keeps_step work s = record {
    task = λ h. task_later old turn new a (call_of work.job work.attempt work.task.items) (s.task h);
    is_task = s.is_task;
  }

  set_kept : (version : ℕ) → version ≤ number (now old) → set_at (now new) version ≡ set_at (now old) version
  set_kept version le =
      subst (λ (w : World Ask). set_at w version ≡ set_at (now old) version) (sym (now-added old turn new a)) ((kept_step fixed (now old) turn (sound-of old r)).sets version le)

  keeps_query : (query : FixedQuery) → IsQueryOf honest (now old) query → ends_query query.line turn ≡ false → IsQueryOf honest (now new) query
  keeps_query query s stays =
      let known = take_lawful (now old) (queries-of old r) query.line s.asked s.found in
      let le : query.version ≤ number (now old) = omega (arith, s.version, known.3) in
      record {
        asked = s.asked;
        found =
            subst (λ (w : World Ask). find (λ q. q.waiting.line == query.line) w.asked ≡ Some s.asked) (sym (now-added old turn new a))
            (query_stays fixed (now old) turn query.line s.asked stays s.found);
        asks = s.asks;
        version = s.version;
        cells = subst (λ (set : ReadySet). honest ⊎ (set ≡ []) → AreCellsOf set query.cells) (sym (set_kept query.version le)) s.cells;
      }

  keeps_work : (piece : Piece FixedQuery) → IsWorkIn honest old piece × Stays turn piece → IsWorkIn honest new piece
  keeps_work (Step work) h = keeps_step work h.0
  keeps_work (Query query) h = keeps_query query h.0 h.1

  keeps_works : (pieces : List (Piece FixedQuery)) → All (IsWorkIn honest old) pieces → All (Stays turn) pieces → All (IsWorkIn honest new) pieces
  keeps_works pieces h k =
      All-weaker (λ piece. IsWorkIn honest old piece × Stays turn piece) (IsWorkIn honest new) keeps_work pieces (all-both (IsWorkIn honest old) (Stays turn) pieces h k)

-- ---- the same turns, and another order of the pieces

same_work : (honest : Type 0) (old new : BoardModel) → IsSame old new → (piece : Piece FixedQuery) → IsWorkIn honest old piece → IsWorkIn honest new piece
same_work honest old new same (Step work) s = record {
  task = λ h.
      subst (λ (n : ℕ). IsTaskOf fixed n (turns new) (call_of work.job work.attempt work.task.items)) (sym same.workers)
      (subst (λ (ts : List (Turn Ask)). IsTaskOf fixed old.workers ts (call_of work.job work.attempt work.task.items)) (sym (turns-same old new same)) (s.task h));
  is_task = s.is_task;
}
same_work honest old new same (Query query) s = subst (λ (w : World Ask). IsQueryOf honest w query) (sym (now-same old new same)) s

pub in_flight-same : (honest : Type 0) (old new : BoardModel) (pieces : List (Piece FixedQuery)) → IsSame old new → AreInFlight honest old pieces → AreInFlight honest new pieces
in_flight-same honest old new pieces same f =
    let back = sym (now-same old new same) in
    record {
      count = f.count ∙ ap (λ (w : World Ask). length w.steps + length w.asked) back;
      steps = λ job attempt. subst (λ (w : World Ask). step_count job attempt pieces ≤ claim_count job attempt w.steps) back (f.steps job attempt);
      queries = λ line. subst (λ (w : World Ask). query_count line pieces ≤ asked_count line w.asked) back (f.queries line);
      works = All-weaker (IsWorkIn honest old) (IsWorkIn honest new) (same_work honest old new same) pieces f.works;
    }

module _ (honest : Type 0) (board : BoardModel) (piece : Piece FixedQuery) (whole rest : List (Piece FixedQuery)) (w : IsWithout piece whole rest) where
  pub in_flight-first : AreInFlight honest board whole → AreInFlight honest board (piece ∷ rest)
  in_flight-first f = record {
    count = omega (arith, f.count, without-length piece whole rest w);
    steps = λ job attempt.
        omega (arith, f.steps job attempt, count-without (is_step_of job attempt) piece whole rest w, count-cons (is_step_of job attempt) piece rest);
    queries = λ line. omega (arith, f.queries line, count-without (is_query_of line) piece whole rest w, count-cons (is_query_of line) piece rest);
    works = all-first (IsWorkIn honest board) piece whole rest w f.works;
  }

  pub in_flight-back : AreInFlight honest board (piece ∷ rest) → AreInFlight honest board whole
  in_flight-back f = record {
    count = omega (arith, f.count, without-length piece whole rest w);
    steps = λ job attempt.
        omega (arith, f.steps job attempt, count-without (is_step_of job attempt) piece whole rest w, count-cons (is_step_of job attempt) piece rest);
    queries = λ line. omega (arith, f.queries line, count-without (is_query_of line) piece whole rest w, count-cons (is_query_of line) piece rest);
    works = all-back (IsWorkIn honest board) piece whole rest w f.works;
  }

-- ---- a step more, and one less

both_true : (b c : Bool) → b ≡ true → c ≡ true → one_if (b && c) ≡ 1
both_true true true e f = refl
both_true true false e f = absurd (let clash : false ≡ true = f in cc)
both_true false c e f = absurd (let clash : false ≡ true = e in cc)

counts_itself : (job attempt : ℕ) → one_if ((job == job) && (attempt == attempt)) ≡ 1
counts_itself job attempt = both_true (job == job) (attempt == attempt) (eq-eqb job job refl) (eq-eqb attempt attempt refl)

module _ (honest : Type 0) (old new : BoardModel) (work : Work) (pieces : List (Piece FixedQuery)) (r : IsReached old) where
  pub in_flight-claimed : IsAdded old (Claims work.job work.attempt) new → IsNextAttempt (job_of (now old) work.job) work.attempt → IsStepOf honest new work → AreInFlight honest old pieces
      → AreInFlight honest new (Step work ∷ pieces)
  in_flight-claimed a next s f =
      let turn = Claims work.job work.attempt in
      let e = now-added old turn new a in
      let claims : (now new).steps ≡ (now old).steps ++ (work.job, work.attempt) ∷ [] =
      ap (λ (w : World Ask). w.steps) e ∙ steps-claimed (now old) work.job work.attempt (job_of (now old) work.job) next in
      let asked : (now new).asked ≡ (now old).asked = ap (λ (w : World Ask). w.asked) e ∙ asked-claimed (now old) work.job work.attempt (job_of (now old) work.job) in
      let longer : length (now new).steps ≡ length (now old).steps + 1 = ap length claims ∙ length-append (now old).steps ((work.job, work.attempt) ∷ []) in
      let same : length (now new).asked ≡ length (now old).asked = ap length asked in
      record {
        count = omega (arith, f.count, longer, same);
        steps = λ job attempt. omega (
          arith,
          f.steps job attempt,
          count-cons (is_step_of job attempt) (Step work) pieces,
          ap (claim_count job attempt) claims,
          claim_count-push job attempt (now old).steps (work.job, work.attempt),
        );
        queries = λ line. omega (arith, f.queries line, count-cons (is_query_of line) (Step work) pieces, ap (asked_count line) asked);
        works = All-cons (IsWorkIn honest new) (Step work) pieces s (keeps_works honest old turn new a r pieces f.works (all_stay turn (λ line. refl) pieces));
      }

  -- a piece that runs a step has its claim
  pub has-claim : AreInFlight honest old (Step work ∷ pieces) → 0 < claim_count work.job work.attempt (now old).steps
  has-claim f =
      omega (arith, f.steps work.job work.attempt, count-cons (is_step_of work.job work.attempt) (Step work) pieces, counts_itself work.job work.attempt)

  pub in_flight-ended : (o : Outcome) → IsAdded old (StepEnds work.job work.attempt o) new → AreInFlight honest old (Step work ∷ pieces) → AreInFlight honest new pieces
  in_flight-ended o a f =
      let turn = StepEnds work.job work.attempt o in
      let e = now-added old turn new a in
      let w = record (now old) { steps = without_claim work.job work.attempt (now old).steps } in
      let left = flight-ended w work.job work.attempt o (job_of (now old) work.job) in
      let claims : (now new).steps ≡ without_claim work.job work.attempt (now old).steps = ap (λ (x : World Ask). x.steps) e ∙ left.steps in
      let asked : (now new).asked ≡ (now old).asked = ap (λ (x : World Ask). x.asked) e ∙ left.asked in
      let one = has-claim f in
      let same : length (now new).asked ≡ length (now old).asked = ap length asked in
      let fewer : length (now new).steps ≡ length (without_claim work.job work.attempt (now old).steps) = ap length claims in
      record {
        count = omega (arith, f.count, fewer, length-without_claim work.job work.attempt (now old).steps one, same);
        steps = λ job attempt. omega (
          arith,
          f.steps job attempt,
          count-cons (is_step_of job attempt) (Step work) pieces,
          ap (claim_count job attempt) claims,
          claim_count-without work.job work.attempt job attempt (now old).steps one,
        );
        queries = λ line. omega (arith, f.queries line, count-cons (is_query_of line) (Step work) pieces, ap (asked_count line) asked);
        works = keeps_works honest old turn new a r pieces (All-tail (IsWorkIn honest old) (Step work) pieces f.works) (all_stay turn (λ line. refl) pieces);
      }

-- ---- a query more, and one less

found_in : (b : Bool) (p : Asked Ask → Bool) (x : Asked Ask) (xs : List (Asked Ask)) (q : Asked Ask) → p x ≡ b → (find p xs ≡ Some q → list_any p xs ≡ true) → find p (x ∷ xs) ≡ Some q → list_any p (x ∷ xs) ≡ true
found_in true p x xs q e rest f = rw e refl
found_in false p x xs q e rest f =
    let f' : find p xs ≡ Some q = rw e at f in
    rw e (rest f')

pub any-found : (p : Asked Ask → Bool) (xs : List (Asked Ask)) (q : Asked Ask) → find p xs ≡ Some q → list_any p xs ≡ true
any-found p [] q f = cc
any-found p (x ∷ xs) q f = found_in (p x) p x xs q refl (any-found p xs q) f

other_line : (line ended : ℕ) → (line == ended) ≡ false → (ended == line) ≡ false
other_line line ended e = elim (cases_eq ended line) [
  | inl same ↦ absurd (let clash : true ≡ false = sym (eq-eqb line ended (sym same)) ∙ e in cc)
  | inr other ↦ ne_eqb ended line other
]

stays_other : (line : ℕ) (out : QueryOut) (piece : Piece FixedQuery) → is_query_of line piece ≡ false → Stays (QueryEnds line out) piece
stays_other line out (Step work) e = tt
stays_other line out (Query query) e = other_line query.line line e

module _ (honest : Type 0) (old new : BoardModel) (query : FixedQuery) (pieces : List (Piece FixedQuery)) (r : IsReached old) where
  pub in_flight-taken : (waits : Waiting Ask) → IsAdded old (QueryTakes query.line) new → find (λ q. q.line == query.line) (now old).waiting ≡ Some waits → IsQueryOf honest (now new) query
      → AreInFlight honest old pieces → AreInFlight honest new (Query query ∷ pieces)
  in_flight-taken waits a found s f =
      let turn = QueryTakes query.line in
      let e = now-added old turn new a in
      let line_is = (found_key (λ (q : Waiting Ask). q.line) query.line (now old).waiting waits found).0 in
      let claims : (now new).steps ≡ (now old).steps =
      ap (λ (w : World Ask). w.steps) e ∙ steps-taken (now old) query.line (find (λ q. q.line == query.line) (now old).waiting) in
      let asked : (now new).asked ≡ (now old).asked ++ asked_of (now old) waits ∷ [] =
      ap (λ (w : World Ask). w.asked) e ∙ asked-taken (now old) query.line waits (find (λ q. q.line == query.line) (now old).waiting) found in
      let longer : length (now new).asked ≡ length (now old).asked + 1 = ap length asked ∙ length-append (now old).asked (asked_of (now old) waits ∷ []) in
      let same : length (now new).steps ≡ length (now old).steps = ap length claims in
      record {
        count = omega (arith, f.count, longer, same);
        steps = λ job attempt.
            omega (arith, f.steps job attempt, count-cons (is_step_of job attempt) (Query query) pieces, ap (claim_count job attempt) claims);
        queries = λ line. omega (
          arith,
          f.queries line,
          count-cons (is_query_of line) (Query query) pieces,
          ap (asked_count line) asked,
          times_push (λ (q : Asked Ask). q.waiting.line) line (now old).asked (asked_of (now old) waits),
          ap (λ (n : ℕ). one_if (n == line)) line_is,
        );
        works = All-cons (IsWorkIn honest new) (Query query) pieces s (keeps_works honest old turn new a r pieces f.works (all_stay turn (λ line. refl) pieces));
      }

  -- the query of a line is in flight once, and by one piece
  one_query : AreInFlight honest old (Query query ∷ pieces) → (asked_count query.line (now old).asked ≡ 1) × (query_count query.line pieces ≡ 0)
  one_query f =
      let once = (lines-of old r).each_once query.line in
      let here : one_if (query.line == query.line) ≡ 1 = ap (λ (b : Bool). one_if b) (eq-eqb query.line query.line refl) in
      let counted = count-cons (is_query_of query.line) (Query query) pieces in
      (omega (arith, once, here, counted, f.queries query.line), omega (arith, once, here, counted, f.queries query.line))

  -- the query of a piece is in flight
  pub asked-there : AreInFlight honest old (Query query ∷ pieces) → IsInFlight (now old) query.line
  asked-there f =
      let s : IsQueryOf honest (now old) query = All-head (IsWorkIn honest old) (Query query) pieces f.works in
      any-found (λ q. q.waiting.line == query.line) (now old).asked s.asked s.found

  pub in_flight-answered : (out : QueryOut) → IsAdded old (QueryEnds query.line out) new → AreInFlight honest old (Query query ∷ pieces) → AreInFlight honest new pieces
  in_flight-answered out a f =
      let turn = QueryEnds query.line out in
      let e = now-added old turn new a in
      let s : IsQueryOf honest (now old) query = All-head (IsWorkIn honest old) (Query query) pieces f.works in
      let found = find (λ (q : Asked Ask). q.waiting.line == query.line) (now old).asked in
      let claims : (now new).steps ≡ (now old).steps = ap (λ (w : World Ask). w.steps) e ∙ steps-answered (now old) query.line out found in
      let asked : (now new).asked ≡ filter (λ q. not (q.waiting.line == query.line)) (now old).asked =
      ap (λ (w : World Ask). w.asked) e ∙ asked-ended (now old) query.line out s.asked found s.found in
      let one = one_query f in
      let fewer : length (now new).asked + 1 ≡ length (now old).asked =
      omega (arith, ap length asked, length-filter_not (λ (q : Asked Ask). q.waiting.line == query.line) (now old).asked, one.0) in
      let same : length (now new).steps ≡ length (now old).steps = ap length claims in
      record {
        count = omega (arith, f.count, fewer, same);
        steps = λ job attempt.
            omega (arith, f.steps job attempt, count-cons (is_step_of job attempt) (Query query) pieces, ap (claim_count job attempt) claims);
        queries = λ line. elim (cases_eq line query.line) [
          | inl same_line ↦ subst (λ (n : ℕ). query_count n pieces ≤ asked_count n (now new).asked) (sym same_line) (omega (arith, one.1))
          | inr other ↦ omega (
            arith,
            f.queries line,
            count-cons (is_query_of line) (Query query) pieces,
            ap (asked_count line) asked,
            times_other (λ (q : Asked Ask). q.waiting.line) query.line line (now old).asked other,
          )
        ];
        works =
            keeps_works honest old turn new a r pieces (All-tail (IsWorkIn honest old) (Query query) pieces f.works)
            (All-weaker (λ piece. is_query_of query.line piece ≡ false) (Stays turn) (stays_other query.line out) pieces (none-counted (is_query_of query.line) pieces one.1));
      }

-- ---- a command

pub in_flight-took : (honest : Type 0) (old : BoardModel) (line : ℕ) (command : Command Ask) (new : BoardModel) (pieces : List (Piece FixedQuery)) → IsReached old → IsAdded old (Takes line command) new
    → AreInFlight honest old pieces → AreInFlight honest new pieces
in_flight-took honest old line command new pieces r a f =
    let turn = Takes line command in
    let e = now-added old turn new a in
    let left = flight-took (now old) line command in
    let claims : (now new).steps ≡ (now old).steps = ap (λ (w : World Ask). w.steps) e ∙ left.steps in
    let asked : (now new).asked ≡ (now old).asked = ap (λ (w : World Ask). w.asked) e ∙ left.asked in
    let same_steps : length (now new).steps ≡ length (now old).steps = ap length claims in
    let same_asked : length (now new).asked ≡ length (now old).asked = ap length asked in
    record {
      count = omega (arith, f.count, same_steps, same_asked);
      steps = λ job attempt. omega (arith, f.steps job attempt, ap (claim_count job attempt) claims);
      queries = λ line. omega (arith, f.queries line, ap (asked_count line) asked);
      works = keeps_works honest old turn new a r pieces f.works (all_stay turn (λ line. refl) pieces);
    }
