-- Commands with what they bring, and turns: events with their commands.
use Rattle.std.specs.Prelude.{ℕ}
use Rattle.job_machine.specs.declared.state.JobKind.{JobKind}
use Rattle.range_list.specs.Ranges.{Interval}
use Rattle.run_history.specs.Cubes.{Rows}
use Rattle.run_history.specs.declared.command.Control.{Control}
use Rattle.run_history.specs.declared.command.Noted.{Noted}
use Rattle.run_history.specs.declared.event.Event.{Event}
use Rattle.run_history.specs.declared.event.Event.TheVariants as event
use Rattle.run_history.specs.declared.event.Outcome.{Outcome}
use Rattle.run_history.specs.declared.event.QueryOut.{QueryOut}

-- a command: rows loaded into the table of this place, a job submitted, a segment dropped, a job steered, a query of this session
-- accepted, or a command that changes nothing
pub data Command (Query : Type 0) : Type 0 where
  Load : ℕ → Rows → Command Query
  Submit : JobKind → Interval → Command Query
  Drop : Interval → Command Query
  Steer : Control → ℕ → Command Query
  Ask : ℕ → Query → Command Query
  Note : Noted → Command Query

-- a turn of the coordinator: an event, with its command where it is one
pub data Turn (Query : Type 0) : Type 0 where
  Takes : ℕ → Command Query → Turn Query
  Claims : ℕ → ℕ → Turn Query
  StepEnds : ℕ → ℕ → Outcome → Turn Query
  QueryTakes : ℕ → Turn Query
  QueryEnds : ℕ → QueryOut → Turn Query

-- the event of a turn, as the history shows it
abbrev pub event_of : {Query : Type 0} → Turn Query → Event
event_of (Takes line command) = event.Command line
event_of (Claims job attempt) = event.Claim job attempt
event_of (StepEnds job attempt outcome) = event.StepEnd job attempt outcome
event_of (QueryTakes line) = event.QueryTake line
event_of (QueryEnds line out) = event.QueryEnd line out
