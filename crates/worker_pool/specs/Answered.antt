-- What the end of a piece says of its hand.
use Rattle.std.specs.Prelude.{◌≡◌, ◌≢◌, ◌≤◌, ◌⊎◌, ⊤, ℕ, List, Option, Result, Err, IfErr, IfOk, IsErrOf, Vec}
use Rattle.std.specs.declared.alloc.Global.{Global}
use Rattle.outside.specs.Counts.{Rose}
use Rattle.outside.specs.Hands.{AnswersFails, Call, Fail, call_of, with_call}
use Rattle.outside.specs.declared.hand.HandFault.{HandFault}
use Rattle.outside.specs.declared.hand.HandFault.TheVariants.{Memory}
use Rattle.worker_pool.specs.declared.piece.Piece.{Piece}
use Rattle.worker_pool.specs.declared.piece.Piece.TheVariants.{Step, Query}
use Rattle.worker_pool.specs.declared.piece.PieceEnd.{PieceEnd}
use Rattle.worker_pool.specs.declared.piece.PieceEnd.TheVariants as end
use Rattle.worker_pool.specs.declared.piece.Work.{Work}

-- a hand's answer: the bytes of a product, or a fault
abbrev pub Answer : Type 0
Answer = Result (Vec ℕ Global) HandFault

-- the hand gave this answer to this step, by one call
pub record HasRun {H : Type 0} (honest : Type 0) (is_task : List ℕ → Type 0) (text : List ℕ → List ℕ) (runs faults : H → ℕ) (fails : H → Option (List Fail)) (calls : H → Option (List Call)) (before : H) (work : Work) (answer : Answer) (after : H) : Type 0 where
  pub product : honest → is_task work.task.items → IfOk answer (λ product. product.items ≡ text work.task.items)
  pub ran : Rose (runs before) (runs after)
  pub failed : IfErr answer (λ fault. fault ≢ Memory → Rose (faults before) (faults after))
  pub later : faults before ≤ faults after
  pub answers_fails : is_task work.task.items → AnswersFails (fails before) work.job work.attempt answer
  pub steady : fails after ≡ fails before
  pub called : answer ≢ Err Memory → calls after ≡ with_call (calls before) (call_of work.job work.attempt work.task.items)
  pub called_memory : IsErrOf answer Memory → (calls after ≡ with_call (calls before) (call_of work.job work.attempt work.task.items)) ⊎ (calls after ≡ calls before)

-- the piece came to this end: a step by its hand's answer, a query by an end that it may have, and its hand was not called
abbrev pub HasAnswered : {H Q E : Type 0} → (H → Work → Answer → H → Type 0) → (Q → ℕ) → (Q → E → Type 0) → H → Piece Q → PieceEnd E → H → Type 0
HasAnswered ran line_of ends before (Step work) (end.Step job attempt answer) after = (job ≡ work.job) × (attempt ≡ work.attempt) × ran before work answer after
HasAnswered ran line_of ends before (Query query) (end.Query line out) after = (line ≡ line_of query) × ends query out × (after ≡ before)
HasAnswered ran line_of ends before (Step work) (end.Query line out) after = ⊥
HasAnswered ran line_of ends before (Query query) (end.Step job attempt answer) after = ⊥

-- a query may be run
abbrev pub CanRun : {Q : Type 0} → (Q → Type 0) → Piece Q → Type 0
CanRun can_run (Step work) = ⊤
CanRun can_run (Query query) = can_run query
