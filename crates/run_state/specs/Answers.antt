-- What commands are answered.
use Rattle.std.specs.Prelude.{ℕ, ◌-◌, slice_set, ⊤, Bool, true, false, not, List, [], ◌∷◌, option_map, Option, Some, None, Result, Ok, Err}
use Rattle.job_machine.specs.Job.{JobRecord, attempt_in_flight, state_after}
use Rattle.job_machine.specs.declared.state.JobState.{JobState}
use Rattle.job_machine.specs.declared.state.JobRefusal.{JobRefusal}
use Rattle.job_machine.specs.declared.state.JobRefusal.TheVariants as job
use Rattle.run_history.specs.Cubes.{CubeSemantics}
use Rattle.run_history.specs.Verdicts.{act_of, first_of, refused_if, state_refusal}
use Rattle.run_history.specs.World.{Submitted}
use Rattle.run_history.specs.declared.command.Control.{Control}
use Rattle.run_history.specs.declared.command.Control.TheVariants.{Pause, Resume, Discard}
use Rattle.run_history.specs.declared.event.Outcome.{Outcome}
use Rattle.run_history.specs.declared.event.Outcome.TheVariants.{Done}
use Rattle.run_history.specs.declared.refused.Refused.{Refused}
use Rattle.run_history.specs.declared.refused.Refused.TheVariants.{Hole, JobEnded, NoSuchJob, NotOnBounds, OneSegment, WrongState}
use Rattle.run_state.specs.declared.parts.Controlled.{Controlled}

-- the attempt that a command on a job stops
abbrev pub stopped_by : Control → JobRecord → Option ℕ
stopped_by Pause job = attempt_in_flight job
stopped_by Discard job = attempt_in_flight job
stopped_by Resume job = None

abbrev pub steered_to : Control → JobRecord → Option JobState → Result Controlled Refused
steered_to control job (Some state) = Ok (record { state = state; stop = stopped_by control job })
steered_to control job None = Err (state_refusal job.state)

-- the answer to a command on a job: its next state and the attempt that was stopped, or the refusal
abbrev pub steered_job : Control → JobRecord → Result Controlled Refused
steered_job control job = steered_to control job (state_after (act_of control) job.state)

-- how a job's refusal is told
abbrev pub refused_by : JobRefusal → Refused
refused_by (job.JobEnded state) = JobEnded state
refused_by (job.WrongState state) = WrongState state

abbrev pub steer_answer : Control → ℕ → Option Submitted → Result Controlled Refused
steer_answer control number None = Err (NoSuchJob number)
steer_answer control number (Some s) = steered_job control s.job

-- a job's answer with the state that it is in
abbrev pub told : Result (Option ℕ) JobRefusal → JobState → Result Controlled Refused
told (Ok stop) state = Ok (record { state = state; stop = stop })
told (Err refusal) state = Err (refused_by refusal)

-- an answer that stops no attempt
abbrev pub without_stop : Result (Unit {0}) JobRefusal → Result (Option ℕ) JobRefusal
without_stop (Ok done) = Ok None
without_stop (Err refusal) = Err refusal

-- the refusal of an answer
abbrev pub refusal_of : {A : Type 0} → Result A Refused → Option Refused
refusal_of (Ok value) = None
refusal_of (Err refused) = Some refused

-- what is kept of a job's products after a command on it: none where it is discarded
abbrev pub products_left : {P : Type 0} → Control → Option Refused → List P → List P
products_left Discard None products = []
products_left Discard (Some refused) products = products
products_left Pause refusal products = products
products_left Resume refusal products = products

-- the products kept of each job after a command on the one of this number
abbrev pub products_steered : {P : Type 0} → Control → Option Refused → ℕ → List (List P) → List (List P)
products_steered Discard None number products = slice_set products (number - 1) []
products_steered Discard (Some refused) number products = products
products_steered Pause refusal number products = products
products_steered Resume refusal number products = products

-- an outcome that fails the step
abbrev pub is_failure : Outcome → Bool
is_failure Done = false
is_failure _ = true

-- a cube of which nothing but the names of its tables is known
abbrev pub named : {Q : Type 0} → List (List ℕ) → CubeSemantics Q ⊤
named names = record {
  tables = names;
  steps = λ kind. 0;
  task = λ kind range parts done. [];
  product = λ task. [];
  is_product = λ task bytes. false;
  rows = λ snapshot. [];
  answer = λ query rows. tt;
  lookup_that_differs = λ parts. None;
}

-- what refuses a MERGE of a range by the ready segments alone: whether it is on their bounds, whether one has the range, and the first
-- day of it that none holds
abbrev pub of_cover : Bool → Bool → Option ℕ → Option Refused
of_cover on one day = first_of (refused_if (not on) NotOnBounds ∷ refused_if one OneSegment ∷ option_map Hole day ∷ [])
