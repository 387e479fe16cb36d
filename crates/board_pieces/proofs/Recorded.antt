-- What a board records of a hand's answer.
use Rattle.std.proofs.Common.{◌≢◌, ℕ, ◌+◌, ◌-◌, ◌^◌, ◌<◌, ◌≤◌, Bool, true, false, Option, Some, None, Ok, Err, List, arith}
use Rattle.std.specs.Prelude.{IfErr}
use Rattle.fixed_state.specs.Ends.{Answer, IsProductOf}
use Rattle.job_board.specs.BoardModel.{IsCountedAs, IsRecordedAs, task_of}
use Rattle.job_machine.specs.Job.{is_current}
use Rattle.outside.specs.Counts.{Rose}
use Rattle.outside.specs.declared.hand.HandFault.{HandFault}
use Rattle.outside.specs.declared.hand.HandFault.TheVariants as fault
use Rattle.outside.proofs.Rises.{Rose-one}
use Rattle.plain_answer.specs.declared.ask.Ask.{Ask}
use Rattle.run_history.specs.World.{Submitted, World}
use Rattle.run_history.specs.declared.event.Outcome.{Outcome}
use Rattle.step_outcomes.proofs.AnswerFacts.{IsOfAnswer, current_answer, fault_count, fault_current, fault_stale, rises_of, stale_answer}

counted_answer : (b : Bool) (task : List ℕ) (answer : Answer) (o : Outcome) → IsCountedAs b task answer o → IsOfAnswer answer o
counted_answer true task answer o h = current_answer task answer o h
counted_answer false task answer o h = stale_answer answer o h

pub recorded-answer : (w : World Ask) (found : Option Submitted) (products : List (List ℕ)) (attempt : ℕ) (answer : Answer) (o : Outcome)
    → IsRecordedAs w found products attempt answer o → IsOfAnswer answer o
recorded-answer w None products attempt answer o h = stale_answer answer o h
recorded-answer w (Some s) products attempt answer o h = counted_answer (is_current s.job attempt) (task_of w s products) answer o h

counted_rises : (b : Bool) (task : List ℕ) (answer : Answer) (o : Outcome) → IsCountedAs b task answer o → fault_count o ≤ rises_of answer
counted_rises true task answer o h = fault_current task answer o h
counted_rises false task answer o h = fault_stale answer o h

pub recorded-rises : (w : World Ask) (found : Option Submitted) (products : List (List ℕ)) (attempt : ℕ) (answer : Answer) (o : Outcome)
    → IsRecordedAs w found products attempt answer o → fault_count o ≤ rises_of answer
recorded-rises w None products attempt answer o h = fault_stale answer o h
recorded-rises w (Some s) products attempt answer o h = counted_rises (is_current s.job attempt) (task_of w s products) answer o h

-- the faults of a hand rose by as many
pub faults-by : (answer : Answer) (before after : ℕ) → before ≤ after → IfErr answer (λ f. f ≢ fault.Memory → Rose before after) → after < 2 ^ 64 - 1 → before + rises_of answer ≤ after
faults-by (Ok product) before after later h below = omega (arith, later)
faults-by (Err fault.Memory) before after later h below = omega (arith, later)
faults-by (Err fault.NotStarted) before after later h below = Rose-one before after (h (λ e. cc)) below
faults-by (Err (fault.Ended status)) before after later h below = Rose-one before after (h (λ e. cc)) below
faults-by (Err fault.Killed) before after later h below = Rose-one before after (h (λ e. cc)) below
faults-by (Err fault.NoFile) before after later h below = Rose-one before after (h (λ e. cc)) below

-- a fault is no product
pub no-product : (w : World Ask) (found : Option Submitted) (attempt : ℕ) (f : HandFault) → IsProductOf w found attempt (Err f)
no-product w None attempt f = tt
no-product w (Some s) attempt f = tt
