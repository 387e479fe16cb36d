-- What is recorded of the ends of steps.
use Rattle.std.specs.Prelude.{◌≡◌, ℕ, ◌-◌, true, false, List, [], ◌∷◌, ◌++◌, Vec, Option, Some, None, Result, Ok, Err, slice_get, slice_set, unwrap_or}
use Rattle.std.specs.declared.alloc.Global.{Global}
use Rattle.fixed_cube.specs.Tasks.{is_product}
use Rattle.job_machine.specs.declared.state.Ended.{Ended}
use Rattle.job_machine.specs.declared.state.Ended.TheVariants as ended
use Rattle.fixed_cube.specs.Cube.{fixed}
use Rattle.fixed_state.specs.States.{FixedEntry}
use Rattle.job_machine.specs.Job.{is_current}
use Rattle.plain_answer.specs.declared.ask.Ask.{Ask}
use Rattle.run_history.specs.Steps.{end_by, step_ended, without_claim}
use Rattle.run_history.specs.World.{Submitted, World, job_of, next_task}
use Rattle.outside.specs.declared.hand.HandFault.{HandFault}
use Rattle.outside.specs.declared.hand.HandFault.TheVariants as fault
use Rattle.run_history.specs.declared.event.Outcome.{Outcome}
use Rattle.run_history.specs.declared.event.Outcome.TheVariants.{Done, NotStarted, Ended as EndedWith, Killed, NoFile, Damaged, Memory}

-- a hand's answer: the bytes of a product, or a fault
abbrev pub Answer : Type 0
Answer = Result (Vec ℕ Global) HandFault

-- what is recorded of a hand's fault
abbrev pub outcome_of : HandFault → Outcome
outcome_of fault.Memory = Memory
outcome_of fault.NotStarted = NotStarted
outcome_of (fault.Ended status) = EndedWith status
outcome_of fault.Killed = Killed
outcome_of fault.NoFile = NoFile

-- what is recorded of an end that doesn't count: what the hand gave
abbrev pub stale_outcome : Answer → Outcome
stale_outcome (Ok product) = Done
stale_outcome (Err fault) = outcome_of fault

-- what is recorded of bytes that were given as the product of a task: Damaged exactly where they are none; want of memory may stand in
-- place of both
abbrev pub IsJudged : List ℕ → List ℕ → Outcome → Type 0
IsJudged task bytes Done = is_product task bytes ≡ true
IsJudged task bytes Damaged = is_product task bytes ≡ false
IsJudged task bytes Memory = Unit {0}
IsJudged task bytes NotStarted = ⊥
IsJudged task bytes (EndedWith status) = ⊥
IsJudged task bytes Killed = ⊥
IsJudged task bytes NoFile = ⊥

-- what is recorded of an end that counts
abbrev pub IsOutcomeOf : List ℕ → Answer → Outcome → Type 0
IsOutcomeOf task (Ok product) outcome = IsJudged task product.items outcome
IsOutcomeOf task (Err fault) outcome = outcome ≡ outcome_of fault

-- the products kept of each job's steps done after the end of a step of one of them, to which the hand gave this answer
abbrev pub products_after : Ended → ℕ → Answer → List (List (List ℕ)) → List (List (List ℕ))
products_after ended.Advanced job (Ok product) products =
    slice_set products (job - 1) (unwrap_or (slice_get products (job - 1)) [] ++ product.items ∷ [])
products_after ended.Finished job answer products = slice_set products (job - 1) []
products_after _ job answer products = products

-- the products kept of the steps done of one job
abbrev pub kept_of : List (List (List ℕ)) → ℕ → List (List ℕ)
kept_of products job = unwrap_or (slice_get products (job - 1)) []

-- what the end of an attempt is to a job; nothing where there is no such job
abbrev pub ended_at : Option FixedEntry → ℕ → Outcome → Ended
ended_at None attempt outcome = ended.Stale
ended_at (Some entry) attempt outcome = end_by outcome entry.job attempt

-- where the attempt counts, the bytes are the product of the task of the job's next step
abbrev pub IsProductOf : World Ask → Option Submitted → ℕ → Answer → Type 0
IsProductOf w None attempt answer = Unit {0}
IsProductOf w (Some s) attempt (Ok product) = is_current s.job attempt ≡ true → product.items ≡ fixed.product (next_task fixed w s)
IsProductOf w (Some s) attempt (Err fault) = Unit {0}

-- the world after the end of a step
abbrev pub world_ended : World Ask → ℕ → ℕ → Outcome → World Ask
world_ended w job attempt outcome = step_ended (record w { steps = without_claim job attempt w.steps }) job attempt outcome (job_of w job)
