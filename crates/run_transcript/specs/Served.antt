-- A cube as its scripts and transcripts speak of it, and what the lines of a script come to.
use Rattle.std.specs.Prelude.{ℕ, ◌==◌, List, find, option_map, Option, Some, None, Result, Ok, Err}
use Rattle.std.specs.List.{position}
use Rattle.std.specs.Str.{bytes_eq}
use Rattle.job_machine.specs.declared.state.JobKind.TheVariants.{Build, Refresh, Merge}
use Rattle.plain_answer.specs.declared.answer.AnswerTable.{AnswerTable}
use Rattle.run_history.specs.Commands.{Command, Command as command}
use Rattle.run_history.specs.Cubes.{CubeSemantics, Rows}
use Rattle.run_history.specs.Sets.{ReadySet}
use Rattle.run_history.specs.declared.command.Control.TheVariants.{Pause, Resume, Discard}
use Rattle.run_history.specs.declared.command.Noted.TheVariants.{AwaitJob, AwaitJobs, AwaitQueries, Other}
use Rattle.run_history.specs.declared.refused.Refused.{Refused}
use Rattle.script_text.specs.declared.block.Block.{Block}
use Rattle.script_text.specs.declared.verb.Line.{Line}
use Rattle.script_text.specs.declared.verb.Verb.{Verb}
use Rattle.script_text.specs.declared.verb.Verb.TheVariants as verb

-- the cube; what is written of it for its descriptor; how many cuboids each of its segments has; the query that a text is, or why it is
-- refused; and why the load of a table that the cube hasn't is refused
pub record Served (Query : Type 0) : Type 0 where
  pub cube : CubeSemantics Query AnswerTable
  pub shown : Block
  pub cuboids : ℕ
  pub query_of : List ℕ → Result Query Refused
  pub no_table : List ℕ → Refused

-- what a run is given: the number of workers, the ready set that it starts with, the script, and the rows of the file of the load at a line
pub record Inputs : Type 0 where
  pub workers : ℕ
  pub ready : ReadySet
  pub script : List Line
  pub rows : ℕ → Rows

-- the verb of the line with this number
abbrev pub verb_at : List Line → ℕ → Option Verb
verb_at script number = option_map (λ line. line.verb) (find (λ line. line.number == number) script)

module _ {Query : Type 0} where
  -- a load of the table at a place; it changes nothing where there is none
  abbrev pub load_at : Option ℕ → Rows → Command Query
  load_at None rows = command.Note Other
  load_at (Some place) rows = command.Load place rows

  -- a query of a session; it changes nothing where it is refused
  abbrev pub ask_of : ℕ → Result Query Refused → Command Query
  ask_of session (Ok query) = command.Ask session query
  ask_of session (Err refused) = command.Note Other

  -- the command that a line asks for
  abbrev pub command_of : Served Query → Rows → Verb → Command Query
  command_of served rows (verb.Descriptor path) = command.Note Other
  command_of served rows (verb.Load name path) = load_at (position (bytes_eq name) served.cube.tables) rows
  command_of served rows (verb.Build range) = command.Submit Build range
  command_of served rows (verb.Refresh range) = command.Submit Refresh range
  command_of served rows (verb.Merge range) = command.Submit Merge range
  command_of served rows (verb.Drop range) = command.Drop range
  command_of served rows (verb.Pause job) = command.Steer Pause job
  command_of served rows (verb.Resume job) = command.Steer Resume job
  command_of served rows (verb.Discard job) = command.Steer Discard job
  command_of served rows (verb.AwaitJob job) = command.Note (AwaitJob job)
  command_of served rows verb.AwaitJobs = command.Note AwaitJobs
  command_of served rows verb.AwaitQueries = command.Note AwaitQueries
  command_of served rows verb.Jobs = command.Note Other
  command_of served rows verb.Segments = command.Note Other
  command_of served rows (verb.Query session text) = ask_of session (served.query_of text)

  -- the command of the line with this number; nothing where the script has no such line
  abbrev pub command_by : Served Query → Rows → Option Verb → Command Query
  command_by served rows None = command.Note Other
  command_by served rows (Some said) = command_of served rows said

  abbrev pub command_at : Served Query → Inputs → ℕ → Command Query
  command_at served inputs line = command_by served (inputs.rows line) (verb_at inputs.script line)
