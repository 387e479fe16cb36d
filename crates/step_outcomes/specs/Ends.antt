-- The ends of steps by their outcomes: with a hand's fault, with a Damaged product, and without want of memory.
use Rattle.std.specs.Prelude.{◌≡◌, ⊤, ℕ, Bool, true, false, List, count_by}
use Rattle.run_history.specs.Commands.{Turn}
use Rattle.run_history.specs.Commands.Turn.{Takes, Claims, StepEnds, QueryTakes, QueryEnds}
use Rattle.run_history.specs.declared.event.Event.{Event}
use Rattle.run_history.specs.declared.event.Event.TheVariants as event
use Rattle.run_history.specs.declared.event.Outcome.{Outcome}
use Rattle.run_history.specs.declared.event.Outcome.TheVariants as outcome

-- the end of a step with a hand's fault
abbrev pub is_fault : Outcome → Bool
is_fault outcome.NotStarted = true
is_fault (outcome.Ended status) = true
is_fault outcome.Killed = true
is_fault outcome.NoFile = true
is_fault outcome.Done = false
is_fault outcome.Damaged = false
is_fault outcome.Memory = false

abbrev pub is_no_memory : Outcome → Bool
is_no_memory outcome.Memory = false
is_no_memory _ = true

abbrev pub is_end : (Outcome → Bool) → Event → Bool
is_end test (event.StepEnd job attempt outcome) = test outcome
is_end test (event.Command line) = false
is_end test (event.Claim job attempt) = false
is_end test (event.QueryTake line) = false
is_end test (event.QueryEnd line out) = false

-- how many steps ended with a hand's fault, and with another outcome than want of memory
abbrev pub fault_ends : List Event → ℕ
fault_ends history = count_by (is_end is_fault) history

abbrev pub run_ends : List Event → ℕ
run_ends history = count_by (is_end is_no_memory) history

-- a product that was Damaged
abbrev pub is_damage : Outcome → Bool
is_damage outcome.Damaged = true
is_damage outcome.Done = false
is_damage outcome.NotStarted = false
is_damage (outcome.Ended status) = false
is_damage outcome.Killed = false
is_damage outcome.NoFile = false
is_damage outcome.Memory = false

-- the event is no end of a step whose product was Damaged
abbrev pub IsUndamaged : Event → Type 0
IsUndamaged event = is_end is_damage event ≡ false

-- a turn that ends no step
abbrev pub EndsNoStep : {Query : Type 0} → Turn Query → Type 0
EndsNoStep (StepEnds job attempt outcome) = ⊥
EndsNoStep (Takes line command) = ⊤
EndsNoStep (Claims job attempt) = ⊤
EndsNoStep (QueryTakes line) = ⊤
EndsNoStep (QueryEnds line out) = ⊤
