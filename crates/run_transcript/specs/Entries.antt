-- What each turn adds to a transcript.
use Rattle.std.specs.Prelude.{ℕ, ◌+◌, Bool, true, false, ◌==◌, List, [], ◌∷◌, ◌++◌, find, length, map, Option, Some, None, Result, Ok, Err, slice_index_or, if◌then◌else◌}
use Rattle.std.specs.List.{flat_map}
use Rattle.job_machine.specs.declared.state.JobState.{JobState}
use Rattle.job_machine.specs.declared.state.JobState.TheVariants as state
use Rattle.run_history.specs.Commands.{Command, Turn}
use Rattle.run_history.specs.Commands.Command.{Load, Submit, Drop, Steer, Ask, Note}
use Rattle.run_history.specs.Commands.Turn.{Takes, Claims, StepEnds, QueryTakes, QueryEnds}
use Rattle.run_history.specs.Sets.{Segment, rows_of}
use Rattle.run_history.specs.Steps.{step}
use Rattle.run_history.specs.Verdicts.{verdict}
use Rattle.run_history.specs.World.{Asked, Submitted, World, count_in, job_of, set_at}
use Rattle.run_history.specs.declared.command.Noted.{Noted}
use Rattle.run_history.specs.declared.command.Noted.TheVariants.{AwaitJob, AwaitJobs, AwaitQueries, Other}
use Rattle.run_history.specs.declared.event.QueryOut.{QueryOut}
use Rattle.run_history.specs.declared.event.QueryOut.TheVariants.{Answered, Memory as NoAnswer}
use Rattle.run_history.specs.declared.refused.Refused.{Refused}
use Rattle.run_history.specs.declared.refused.Refused.TheVariants.{NoSuchJob}
use Rattle.script_text.specs.Blocks.{block_text}
use Rattle.script_text.specs.declared.block.Block.{Block}
use Rattle.script_text.specs.declared.block.Block.TheVariants as block
use Rattle.script_text.specs.declared.block.JobLine.{JobLine}
use Rattle.script_text.specs.declared.block.SegmentLine.{SegmentLine}
use Rattle.script_text.specs.declared.block.Tally.{Tally}
use Rattle.script_text.specs.declared.verb.Line.{Line}
use Rattle.script_text.specs.declared.verb.Verb.{Verb}
use Rattle.script_text.specs.declared.verb.Verb.TheVariants as verb
use Rattle.run_transcript.specs.Served.{Served, verb_at}

-- a command that was taken: its line with its block, or an accepted query of this line without its end
pub data Entry : Type 0 where
  Told : ℕ → Block → Entry
  Open : ℕ → Entry

-- ---- blocks

abbrev pub is_finished : JobState → Bool
is_finished state.Finished = true
is_finished _ = false

abbrev pub is_in_error : JobState → Bool
is_in_error state.Error = true
is_in_error _ = false

abbrev pub is_stopped : JobState → Bool
is_stopped state.Stopped = true
is_stopped _ = false

abbrev pub is_discarded : JobState → Bool
is_discarded state.Discarded = true
is_discarded _ = false

-- how many jobs rest in each state
abbrev pub tally_of : List Submitted → Tally
tally_of jobs = record {
  finished = count_in is_finished jobs;
  error = count_in is_in_error jobs;
  stopped = count_in is_stopped jobs;
  discarded = count_in is_discarded jobs;
}

abbrev pub job_line : Submitted → JobLine
job_line s = record { id = s.job.id; kind = s.job.kind; range = s.range; state = s.job.state; done = s.job.done; steps = s.job.steps }

abbrev pub segment_line : ℕ → Segment → SegmentLine
segment_line cuboids segment = record { range = segment.range; job = segment.job; cuboids = cuboids }

-- where a job stands
abbrev pub state_block : ℕ → Option Submitted → Block
state_block job None = block.Refused (NoSuchJob job)
state_block job (Some s) = block.State job s.job.state

module _ {Query : Type 0} (served : Served Query) where
  -- a query that was refused
  abbrev pub refusal_block : Result Query Refused → Block
  refusal_block (Ok query) = served.shown
  refusal_block (Err refused) = block.Refused refused

  -- the block of a line that changes nothing and waits for nothing
  abbrev pub listing : World Query → Option Verb → Block
  listing w None = served.shown
  listing w (Some verb.Jobs) = block.Jobs (map job_line w.jobs)
  listing w (Some verb.Segments) = block.Segments (map (segment_line served.cuboids) w.ready)
  listing w (Some (verb.Load name path)) = block.Refused (served.no_table name)
  listing w (Some (verb.Query session text)) = refusal_block (served.query_of text)
  listing w (Some said) = served.shown

  abbrev pub noted_block : World Query → Option Verb → Noted → Block
  noted_block w said (AwaitJob job) = state_block job (job_of w job)
  noted_block w said AwaitJobs = block.JobsAtRest (tally_of w.jobs)
  noted_block w said AwaitQueries = block.QueriesAtRest w.accepted
  noted_block w said Other = listing w said

  -- the entry of a command that was accepted in a world; the state of a job is that after the command
  abbrev pub accepted_entry : World Query → ℕ → Option Verb → Command Query → Entry
  accepted_entry w line said (Load place rows) = Told line (block.Loaded (slice_index_or served.cube.tables place []) (length rows))
  accepted_entry w line said (Submit kind range) = Told line (block.Job (length w.jobs + 1) kind range)
  accepted_entry w line said (Drop range) = Told line (block.Dropped range)
  accepted_entry w line said (Steer control job) = Told line (state_block job (job_of (step served.cube w (Takes line (Steer control job))) job))
  accepted_entry w line said (Ask session query) = Open line
  accepted_entry w line said (Note noted) = Told line (noted_block w said noted)

  abbrev pub entry_by : Option Refused → World Query → ℕ → Option Verb → Command Query → Entry
  entry_by (Some refused) w line said command = Told line (block.Refused refused)
  entry_by None w line said command = accepted_entry w line said command

  -- the entry of a command that is taken in a world
  abbrev pub entry_of : World Query → ℕ → Option Verb → Command Query → Entry
  entry_of w line said command = entry_by (verdict served.cube w command) w line said command

  -- the answer to a query in flight, in the world before its end
  abbrev pub answer_block : World Query → Asked Query → QueryOut → Block
  answer_block w q (Answered version) = block.Answer (served.cube.answer q.waiting.query (rows_of served.cube (set_at w version)))
  answer_block w q NoAnswer = block.OutOfMemory

-- ---- entries

-- the block of a query, where it is open
abbrev pub filled_entry : ℕ → Block → Entry → Entry
filled_entry line said (Told other block) = Told other block
filled_entry line said (Open other) = if other == line then Told line said else Open other

abbrev pub filled : ℕ → Block → List Entry → List Entry
filled line said entries = map (filled_entry line said) entries

module _ {Query : Type 0} (served : Served Query) where
  abbrev pub query_ended : World Query → List Entry → ℕ → QueryOut → Option (Asked Query) → List Entry
  query_ended w entries line out None = entries
  query_ended w entries line out (Some q) = filled line (answer_block served w q out) entries

  -- the entries after a turn, in the world before it
  abbrev pub entries_after : List Line → World Query → List Entry → Turn Query → List Entry
  entries_after script w entries (Takes line command) = entries ++ entry_of served w line (verb_at script line) command ∷ []
  entries_after script w entries (Claims job attempt) = entries
  entries_after script w entries (StepEnds job attempt outcome) = entries
  entries_after script w entries (QueryTakes line) = entries
  entries_after script w entries (QueryEnds line out) = query_ended w entries line out (find (λ q. q.waiting.line == line) w.asked)

  -- the entries after some turns, from a world and its entries on
  abbrev pub entries_along : List Line → World Query → List Entry → List (Turn Query) → List Entry
  entries_along script w entries [] = entries
  entries_along script w entries (turn ∷ turns) = entries_along script (step served.cube w turn) (entries_after script w entries turn) turns

-- ---- what is told

-- the blocks up to the first query without its end
abbrev pub told : List Entry → List (ℕ × Block)
told [] = []
told (Told line block ∷ entries) = (line, block) ∷ told entries
told (Open line ∷ entries) = []

abbrev pub told_text : List Entry → List ℕ
told_text entries = flat_map (λ t. block_text t.0 t.1) (told entries)
