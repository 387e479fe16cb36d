-- The transcript of a history.
use Rattle.std.specs.Prelude.{ℕ, Bool, true, false, List, [], ◌++◌, length}
use Rattle.run_history.specs.World.{World, start}
use Rattle.run_history.specs.declared.event.Event.{Event}
use Rattle.script_text.specs.Blocks.{end_text}
use Rattle.run_transcript.specs.Entries.{Entry, entries_along, tally_of, told_text}
use Rattle.run_transcript.specs.Runs.{is_whole, turns_of, world_of}
use Rattle.run_transcript.specs.Served.{Inputs, Served}

module _ {Query : Type 0} (served : Served Query) (inputs : Inputs) where
  -- the entries of a history
  abbrev pub entries_of : List Event → List Entry
  entries_of history =
      entries_along served inputs.script (start inputs.workers (length served.cube.tables) inputs.ready) [] (turns_of served inputs history)

  -- the end line of a run that left this world
  abbrev pub end_of : World Query → List ℕ
  end_of w = end_text (tally_of w.jobs) (length w.ready)

  abbrev pub end_if : Bool → World Query → List ℕ
  end_if true w = end_of w
  end_if false w = []

  -- the blocks up to the first accepted query without its end, and the end line where the history is whole
  abbrev pub transcript : List Event → List ℕ
  transcript history = told_text (entries_of history) ++ end_if (is_whole served inputs history) (world_of served inputs history)
