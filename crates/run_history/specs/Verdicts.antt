-- Whether a command is accepted, or the first refusal that applies to it.
use Rattle.std.specs.Prelude.{ℕ, zero, suc, ◌+◌, ◌-◌, Bool, true, false, not, ◌&&◌, ◌==◌, nat_le, List, [], ◌∷◌, length, map, find, option_map, Option, Some, None}
use Rattle.std.specs.List.{list_any}
use Rattle.job_machine.specs.Job.{Act, state_after}
use Rattle.job_machine.specs.declared.state.JobKind.{JobKind}
use Rattle.job_machine.specs.declared.state.JobKind.TheVariants.{Build, Refresh, Merge}
use Rattle.job_machine.specs.declared.state.JobState.{JobState}
use Rattle.job_machine.specs.declared.state.JobState.TheVariants as state
use Rattle.range_list.specs.Ranges.{Interval}
use Rattle.run_history.specs.Commands.{Command}
use Rattle.run_history.specs.Commands.Command.{Load, Submit, Drop, Steer, Ask, Note}
use Rattle.run_history.specs.Cubes.{CubeSemantics, Rows}
use Rattle.run_history.specs.Sets.{ReadySet, inside, is_overlap, is_same_range}
use Rattle.run_history.specs.World.{Submitted, World, is_live, job_of, live_builds}
use Rattle.run_history.specs.declared.command.Control.{Control}
use Rattle.run_history.specs.declared.command.Control.TheVariants.{Pause, Resume, Discard}
use Rattle.run_history.specs.declared.command.Noted.TheVariants.{AwaitJob, AwaitJobs, AwaitQueries, Other}
use Rattle.run_history.specs.declared.refused.Refused.{Refused}
use Rattle.run_history.specs.declared.refused.Refused.TheVariants.{NotLoaded, TooManySegments, OverlapsSegment, OverlapsJob, NoSuchSegment, NotOnBounds, OneSegment, Hole, LookupsDiffer, NoSuchJob, JobEnded, WrongState}

-- the first of some refusals, each of which may apply or not
abbrev pub first_of : List (Option Refused) → Option Refused
first_of [] = None
first_of (None ∷ rest) = first_of rest
first_of (Some refused ∷ rest) = Some refused

abbrev pub refused_if : Bool → Refused → Option Refused
refused_if true refused = Some refused
refused_if false refused = None

-- the most ready segments and live BUILD jobs together
abbrev pub most_segments : ℕ
most_segments = 128

-- the first table that no load has given
abbrev pub first_not_loaded : List (List ℕ) → List (Option Rows) → Option (List ℕ)
first_not_loaded [] loaded = None
first_not_loaded (name ∷ names) [] = Some name
first_not_loaded (name ∷ names) (None ∷ loaded) = Some name
first_not_loaded (name ∷ names) (Some rows ∷ loaded) = first_not_loaded names loaded

-- a ready segment starts where the range starts, and one ends where it ends
abbrev pub is_on_bounds : Interval → ReadySet → Bool
is_on_bounds r set = list_any (λ s. s.range.start == r.start) set && list_any (λ s. s.range.end == r.end) set

-- a ready segment has exactly this range
abbrev pub is_ready : Interval → ReadySet → Bool
is_ready r set = list_any (λ s. is_same_range r s.range) set

abbrev pub is_held : ReadySet → ℕ → Bool
is_held set day = list_any (λ s. nat_le s.range.start day && nat_le (day + 1) s.range.end) set

-- so many days from a day on
abbrev pub days_from : ℕ → ℕ → List ℕ
days_from day zero = []
days_from day (suc count) = day ∷ days_from (day + 1) count

-- the first day of the range that no ready segment holds
abbrev pub first_free_day : Interval → ReadySet → Option ℕ
first_free_day r set = find (λ day. not (is_held set day)) (days_from r.start (r.end - r.start))

module _ {Query Answer : Type 0} (cube : CubeSemantics Query Answer) where
  abbrev pub not_loaded : World Query → Option Refused
  not_loaded w = option_map NotLoaded (first_not_loaded cube.tables w.loaded)

  abbrev pub too_many_segments : World Query → Option Refused
  too_many_segments w = refused_if (nat_le most_segments (length w.ready + live_builds w.jobs)) TooManySegments

  abbrev pub overlaps_segment : Interval → World Query → Option Refused
  overlaps_segment r w = option_map (λ s. OverlapsSegment s.range) (find (λ s. is_overlap s.range r) w.ready)

  abbrev pub overlaps_job : Interval → World Query → Option Refused
  overlaps_job r w = option_map (λ s. OverlapsJob s.job.id) (find (λ s. is_live s.job.state && is_overlap s.range r) w.jobs)

  abbrev pub no_such_segment : Interval → World Query → Option Refused
  no_such_segment r w = refused_if (not (is_ready r w.ready)) NoSuchSegment

  abbrev pub hole : Interval → World Query → Option Refused
  hole r w = option_map Hole (first_free_day r w.ready)

  abbrev pub lookups_differ : Interval → World Query → Option Refused
  lookups_differ r w = option_map LookupsDiffer (cube.lookup_that_differs (map (λ s. s.origin) (inside r w.ready)))

  -- what a submission is refused by
  abbrev pub submit_refusals : JobKind → Interval → World Query → List (Option Refused)
  submit_refusals Build r w = not_loaded w ∷ too_many_segments w ∷ overlaps_segment r w ∷ overlaps_job r w ∷ []
  submit_refusals Refresh r w = not_loaded w ∷ no_such_segment r w ∷ overlaps_job r w ∷ []
  submit_refusals Merge r w =
      refused_if (not (is_on_bounds r w.ready)) NotOnBounds ∷ refused_if (is_ready r w.ready) OneSegment ∷ hole r w ∷ overlaps_job r w
      ∷ lookups_differ r w ∷ []

-- what a command on a job does to it
abbrev pub act_of : Control → Act
act_of Pause = Act.Pause
act_of Resume = Act.Resume
act_of Discard = Act.Discard

-- why a job is not steered from a state
abbrev pub state_refusal : JobState → Refused
state_refusal state.Discarded = JobEnded state.Discarded
state_refusal state.Finished = JobEnded state.Finished
state_refusal state.Pending = WrongState state.Pending
state_refusal state.Running = WrongState state.Running
state_refusal state.Error = WrongState state.Error
state_refusal state.Stopped = WrongState state.Stopped

abbrev pub steer_by : JobState → Option JobState → Option Refused
steer_by before (Some after) = None
steer_by before None = Some (state_refusal before)

abbrev pub steer_refusal : Control → ℕ → Option Submitted → Option Refused
steer_refusal control number None = Some (NoSuchJob number)
steer_refusal control number (Some s) = steer_by s.job.state (state_after (act_of control) s.job.state)

abbrev pub await_refusal : ℕ → Option Submitted → Option Refused
await_refusal number None = Some (NoSuchJob number)
await_refusal number (Some s) = None

-- None where a command is accepted, else the first refusal that applies
abbrev pub verdict : {Query Answer : Type 0} → CubeSemantics Query Answer → World Query → Command Query → Option Refused
verdict cube w (Load table rows) = None
verdict cube w (Submit kind r) = first_of (submit_refusals cube kind r w)
verdict cube w (Drop r) = first_of (no_such_segment cube r w ∷ overlaps_job cube r w ∷ [])
verdict cube w (Steer control number) = steer_refusal control number (job_of w number)
verdict cube w (Ask session query) = None
verdict cube w (Note (AwaitJob number)) = await_refusal number (job_of w number)
verdict cube w (Note AwaitJobs) = None
verdict cube w (Note AwaitQueries) = None
verdict cube w (Note Other) = None
