-- What is recorded of a hand's answer, and what the hand counts for it.
use Rattle.std.proofs.Common.{◌≡◌, ◌≢◌, ◌⊎◌, ℕ, ◌≤◌, false, cond, Option, Some, None, Ok, Err, IsErrOf, List, [], ◌∷◌, map, refl, sym, ap, ◌∙◌, subst, inl, inr, arith}
use Rattle.std.specs.Prelude.{IfErr}
use Rattle.fixed_state.specs.Ends.{Answer, IsJudged, IsOutcomeOf, outcome_of, stale_outcome}
use Rattle.outside.specs.Counts.{Rose}
use Rattle.outside.specs.Hands.{AnswersFails, Fail, fault_for}
use Rattle.outside.specs.Rises.{Risen}
use Rattle.outside.specs.declared.hand.HandFault.{HandFault}
use Rattle.outside.specs.declared.hand.HandFault.TheVariants as fault
use Rattle.outside.proofs.Rises.{Risen-one}
use Rattle.run_history.specs.Commands.{Turn, event_of}
use Rattle.run_history.specs.Commands.Turn.{StepEnds}
use Rattle.run_history.specs.declared.event.Outcome.{Outcome}
use Rattle.run_history.specs.declared.event.Outcome.TheVariants as outcome
use Rattle.step_outcomes.specs.Ends.{is_fault, run_ends}
use Rattle.step_outcomes.specs.Faults.{EndsBy}

-- ---- what is recorded of an answer

-- what is recorded of a product is no fault
judged_no_fault : (task bytes : List ℕ) (o : Outcome) → IsJudged task bytes o → is_fault o ≡ false
judged_no_fault task bytes outcome.Done h = refl
judged_no_fault task bytes outcome.Damaged h = refl
judged_no_fault task bytes outcome.Memory h = refl
judged_no_fault task bytes outcome.NotStarted h = absurd h
judged_no_fault task bytes (outcome.Ended status) h = absurd h
judged_no_fault task bytes outcome.Killed h = absurd h
judged_no_fault task bytes outcome.NoFile h = absurd h

-- a fault is recorded as it is
abbrev pub IsOfAnswer : Answer → Outcome → Type 0
IsOfAnswer (Ok product) o = is_fault o ≡ false
IsOfAnswer (Err f) o = o ≡ outcome_of f

pub stale_answer : (answer : Answer) (o : Outcome) → o ≡ stale_outcome answer → IsOfAnswer answer o
stale_answer (Ok product) o e = ap is_fault e
stale_answer (Err f) o e = e

pub current_answer : (task : List ℕ) (answer : Answer) (o : Outcome) → IsOutcomeOf task answer o → IsOfAnswer answer o
current_answer task (Ok product) o h = judged_no_fault task product.items o h
current_answer task (Err f) o e = e

ends_memory : (met : Option HandFault) (o : Outcome) → o ≡ outcome.Memory → EndsBy met o
ends_memory None o e = ap is_fault e
ends_memory (Some f) o e = inr e

follows_told : (fails : List Fail) (job attempt : ℕ) (answer : Answer) (o : Outcome) → AnswersFails (Some fails) job attempt answer → IsOfAnswer answer o → EndsBy (fault_for job attempt fails) o
follows_told fails job attempt (Ok product) o a h = subst (λ (met : Option HandFault). EndsBy met o) (sym a) h
follows_told fails job attempt (Err f) o (inl m) h = ends_memory (fault_for job attempt fails) o (h ∙ ap outcome_of m)
follows_told fails job attempt (Err f) o (inr e) h = subst (λ (met : Option HandFault). EndsBy met o) (sym e) (inl h)

-- the end of an attempt follows the faults that the hand tells
pub follows-fails : (told : Option (List Fail)) (job attempt : ℕ) (answer : Answer) (o : Outcome) → AnswersFails told job attempt answer → IsOfAnswer answer o
    → (fails : List Fail) → told ≡ Some fails → EndsBy (fault_for job attempt fails) o
follows-fails told job attempt answer o a h fails e = follows_told fails job attempt answer o (subst (λ (x : Option (List Fail)). AnswersFails x job attempt answer) e a) h

-- the call of an answer, by what the hand says of answers with memory and without
pub called-by : (answer : Answer) (o : Outcome) (with same : Type 0) → IsOfAnswer answer o → (answer ≢ Err fault.Memory → with) → (IsErrOf answer fault.Memory → with ⊎ same)
    → with ⊎ ((o ≡ outcome.Memory) × same)
called-by (Ok product) o with same h k m = inl (k (λ e. cc))
called-by (Err fault.NotStarted) o with same h k m = inl (k (λ e. cc))
called-by (Err (fault.Ended status)) o with same h k m = inl (k (λ e. cc))
called-by (Err fault.Killed) o with same h k m = inl (k (λ e. cc))
called-by (Err fault.NoFile) o with same h k m = inl (k (λ e. cc))
called-by (Err fault.Memory) o with same h k m = elim (m refl) [ inl x ↦ inl x | inr y ↦ inr (h, y) ]

-- ---- counts

-- how often a hand's faults rose at least
abbrev pub rises_of : Answer → ℕ
rises_of (Ok product) = 0
rises_of (Err fault.Memory) = 0
rises_of (Err fault.NotStarted) = 1
rises_of (Err (fault.Ended status)) = 1
rises_of (Err fault.Killed) = 1
rises_of (Err fault.NoFile) = 1

abbrev pub fault_count : Outcome → ℕ
fault_count o = cond (is_fault o) 1 0

fault_recorded : (f : HandFault) → fault_count (outcome_of f) ≤ rises_of (Err f)
fault_recorded fault.Memory = omega arith
fault_recorded fault.NotStarted = omega arith
fault_recorded (fault.Ended status) = omega arith
fault_recorded fault.Killed = omega arith
fault_recorded fault.NoFile = omega arith

fault_judged : (task bytes : List ℕ) (o : Outcome) → IsJudged task bytes o → fault_count o ≤ 0
fault_judged task bytes outcome.Done h = omega arith
fault_judged task bytes outcome.Damaged h = omega arith
fault_judged task bytes outcome.Memory h = omega arith
fault_judged task bytes outcome.NotStarted h = absurd h
fault_judged task bytes (outcome.Ended status) h = absurd h
fault_judged task bytes outcome.Killed h = absurd h
fault_judged task bytes outcome.NoFile h = absurd h

pub fault_stale : (answer : Answer) (o : Outcome) → o ≡ stale_outcome answer → fault_count o ≤ rises_of answer
fault_stale (Ok product) o e = rw e (omega arith)
fault_stale (Err f) o e = rw e (fault_recorded f)

pub fault_current : (task : List ℕ) (answer : Answer) (o : Outcome) → IsOutcomeOf task answer o → fault_count o ≤ rises_of answer
fault_current task (Ok product) o h = fault_judged task product.items o h
fault_current task (Err f) o e = rw e (fault_recorded f)

-- one end counts at most one run
abbrev pub one_end : {Query : Type 0} → ℕ → ℕ → Outcome → List (Turn Query)
one_end job attempt o = StepEnds job attempt o ∷ []

pub run_count : (Query : Type 0) (job attempt : ℕ) (o : Outcome) → run_ends (map event_of (one_end {Query = Query} job attempt o)) ≤ 1
run_count Query job attempt outcome.Done = omega arith
run_count Query job attempt outcome.NotStarted = omega arith
run_count Query job attempt (outcome.Ended status) = omega arith
run_count Query job attempt outcome.Killed = omega arith
run_count Query job attempt outcome.NoFile = omega arith
run_count Query job attempt outcome.Damaged = omega arith
run_count Query job attempt outcome.Memory = omega arith

-- the faults of a hand rose by as many
pub faults_rose : {H : Type 0} (count : H → ℕ) (old new : H) (answer : Answer) → count old ≤ count new
    → IfErr answer (λ f. f ≢ fault.Memory → Rose (count old) (count new)) → Risen count (old ∷ []) (new ∷ []) (rises_of answer)
faults_rose count old new (Ok product) later h = Risen-one count old new 0 (λ below. omega (arith, later))
faults_rose count old new (Err fault.Memory) later h = Risen-one count old new 0 (λ below. omega (arith, later))
faults_rose count old new (Err fault.NotStarted) later h = let r = h (λ e. cc) in Risen-one count old new 1 (λ below. omega (arith, r, below))
faults_rose count old new (Err (fault.Ended status)) later h = let r = h (λ e. cc) in Risen-one count old new 1 (λ below. omega (arith, r, below))
faults_rose count old new (Err fault.Killed) later h = let r = h (λ e. cc) in Risen-one count old new 1 (λ below. omega (arith, r, below))
faults_rose count old new (Err fault.NoFile) later h = let r = h (λ e. cc) in Risen-one count old new 1 (λ below. omega (arith, r, below))

pub runs_rose : {H : Type 0} (count : H → ℕ) (old new : H) → Rose (count old) (count new) → Risen count (old ∷ []) (new ∷ []) 1
runs_rose count old new r = Risen-one count old new 1 (λ below. omega (arith, r, below))
