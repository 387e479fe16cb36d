-- The turns of boards, and the worlds that they reach.
use Rattle.std.proofs.Common.{◌≡◌, ℕ, List, [], ◌∷◌, ◌++◌, length, refl, sym, ap, ◌∙◌, subst}
use Rattle.std.specs.Prelude.{fold}
use Rattle.std.proofs.lemmas.List.Sums.{fold-append}
use Rattle.fixed_cube.specs.Cube.{fixed}
use Rattle.flight_laws.specs.OpenLines.{AreOpenLines}
use Rattle.flight_laws.proofs.Lines.{lines_world}
use Rattle.job_board.specs.BoardModel.{BoardModel, IsAdded, IsSame, now, turns}
use Rattle.job_board.specs.Turns.{turns_of}
use Rattle.job_board.proofs.Steps.{has_steps}
use Rattle.plain_answer.specs.declared.ask.Ask.{Ask}
use Rattle.run_history.specs.Commands.{Turn}
use Rattle.run_history.specs.Cubes.{CubeSemantics}
use Rattle.run_history.specs.Histories.{Along, HasFreshAnswers, IsLegal}
use Rattle.run_history.specs.Invariants.{AreQueries, IsSound}
use Rattle.run_history.specs.Steps.{step, world}
use Rattle.run_history.specs.World.{World, start}
use Rattle.run_history.proofs.Laws.{world-push}
use Rattle.run_history.proofs.Queries.{queries_world}
use Rattle.run_history.proofs.Sound.{empty_starts, sound_world}

-- ---- histories in two parts

module _ {Query Answer : Type 0} (cube : CubeSemantics Query Answer) (P : World Query → Turn Query → Type 0) where
  pub along-front : (w : World Query) (turns later : List (Turn Query)) → Along cube P w (turns ++ later) → Along cube P w turns
  along-front w [] later h = tt
  along-front w (turn ∷ turns) later h = (h.0, along-front (step cube w turn) turns later h.1)

  pub along-behind : (w : World Query) (turns later : List (Turn Query)) → Along cube P w (turns ++ later) → Along cube P (fold (step cube) w turns) later
  along-behind w [] later h = h
  along-behind w (turn ∷ turns) later h = along-behind (step cube w turn) turns later h.1

-- ---- what holds of a board's turns

pub record IsReached (board : BoardModel) : Type 0 where
  pub legal : IsLegal fixed board.workers [] (turns board)
  pub fresh : HasFreshAnswers fixed board.workers [] (turns board)

pub sound-of : (board : BoardModel) → IsReached board → IsSound fixed (now board)
sound-of board r = sound_world fixed has_steps board.workers [] (turns board) empty_starts r.legal

pub queries-of : (board : BoardModel) → IsReached board → AreQueries (now board)
queries-of board r = queries_world fixed board.workers [] (turns board) r.legal r.fresh

pub lines-of : (board : BoardModel) → IsReached board → AreOpenLines (now board).line (now board).waiting (now board).asked
lines-of board r = lines_world fixed board.workers [] (turns board) r.legal

-- ---- one turn more, or none

pub turns-same : (old new : BoardModel) → IsSame old new → turns new ≡ turns old
turns-same old new s = ap turns_of s.log

pub now-same : (old new : BoardModel) → IsSame old new → now new ≡ now old
now-same old new s = ap (λ (n : ℕ). world fixed n [] (turns new)) s.workers ∙ ap (λ (ts : List (Turn Ask)). world fixed old.workers [] ts) (turns-same old new s)

pub same-then : (old mid new : BoardModel) → IsSame old mid → IsSame mid new → IsSame old new
same-then old mid new s t = record { log = t.log ∙ s.log; workers = t.workers ∙ s.workers; products = t.products ∙ s.products }

pub same-equal : (old mid new : BoardModel) → IsSame old mid → new ≡ mid → IsSame old new
same-equal old mid new s e = subst (IsSame old) (sym e) s

pub same-refl : (old : BoardModel) → IsSame old old
same-refl old = record { log = refl; workers = refl; products = refl }

pub reached-same : (old new : BoardModel) → IsSame old new → IsReached new → IsReached old
reached-same old new s r = record {
  legal =
      subst (λ (n : ℕ). IsLegal fixed n [] (turns old)) s.workers (subst (λ (ts : List (Turn Ask)). IsLegal fixed new.workers [] ts) (turns-same old new s) r.legal);
  fresh =
      subst (λ (n : ℕ). HasFreshAnswers fixed n [] (turns old)) s.workers (subst (λ (ts : List (Turn Ask)). HasFreshAnswers fixed new.workers [] ts) (turns-same old new s) r.fresh);
}

pub added-same : (old mid : BoardModel) (turn : Turn Ask) (new : BoardModel) → IsSame old mid → IsAdded mid turn new → IsAdded old turn new
added-same old mid turn new s a = record {
  turns = a.turns ∙ ap (λ (ts : List (Turn Ask)). ts ++ turn ∷ []) (turns-same old mid s);
  workers = a.workers ∙ s.workers;
}

pub added-then_same : (old mid : BoardModel) (turn : Turn Ask) (new : BoardModel) → IsAdded old turn mid → IsSame mid new → IsAdded old turn new
added-then_same old mid turn new a s = record { turns = turns-same mid new s ∙ a.turns; workers = s.workers ∙ a.workers }

pub now-added : (old : BoardModel) (turn : Turn Ask) (new : BoardModel) → IsAdded old turn new → now new ≡ step fixed (now old) turn
now-added old turn new a =
    ap (λ (n : ℕ). world fixed n [] (turns new)) a.workers
    ∙ (ap (λ (ts : List (Turn Ask)). world fixed old.workers [] ts) a.turns ∙ world-push fixed old.workers [] (turns old) turn)

-- the world behind some turns of a board
pub now-behind : (board : BoardModel) (before later : List (Turn Ask)) → turns board ≡ before ++ later → now board ≡ fold (step fixed) (world fixed board.workers [] before) later
now-behind board before later e =
    ap (λ (ts : List (Turn Ask)). world fixed board.workers [] ts) e ∙ fold-append (step fixed) (start board.workers (length fixed.tables) []) before later
