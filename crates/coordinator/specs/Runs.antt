-- What a run leaves: its history, what was written, and how often the hands were called.
use Rattle.std.specs.Prelude.{◌≡◌, ◌≢◌, ◌⊎◌, ⊤, ℕ, List, [], length, Option, Result, Ok, Err}
use Rattle.std.specs.Io.KnownBytes.{append_known}
use Rattle.outside.specs.Written.{AppendsPart}
use Rattle.plain_answer.specs.declared.ask.Ask.{Ask}
use Rattle.range_list.specs.Ranges.{IsApart}
use Rattle.run_history.specs.Commands.{Turn}
use Rattle.run_history.specs.Commands.Turn.{Takes, Claims, StepEnds, QueryTakes, QueryEnds}
use Rattle.run_history.specs.Histories.{Along}
use Rattle.run_history.specs.Invariants.{ranges_of}
use Rattle.run_history.specs.World.{World, set_at, start}
use Rattle.run_history.specs.declared.event.Event.{Event}
use Rattle.run_history.specs.declared.event.QueryOut.TheVariants.{Answered, Memory as NoAnswer}
use Rattle.run_transcript.specs.Runs.{IsFresh, IsLegal, IsWhole, turns_of, world_of}
use Rattle.run_transcript.specs.Served.{Inputs}
use Rattle.run_transcript.specs.Transcripts.{transcript}
use Rattle.coordinator.specs.Served.{served}
use Rattle.coordinator.specs.declared.fault.RunFault.{RunFault}
use Rattle.job_board.specs.Ledger.{cube}
use Rattle.coordinator.specs.declared.fault.RunFault.TheVariants as fault

-- an answer is over a set without a segment
abbrev pub IsOverNone : World Ask → Turn Ask → Type 0
IsOverNone w (Takes line command) = ⊤
IsOverNone w (Claims job attempt) = ⊤
IsOverNone w (StepEnds job attempt outcome) = ⊤
IsOverNone w (QueryTakes line) = ⊤
IsOverNone w (QueryEnds line (Answered version)) = set_at w version ≡ []
IsOverNone w (QueryEnds line NoAnswer) = ⊤

-- hands are honest, or no query was answered over a set that holds a segment
abbrev pub AreTrusted : Type 0 → ℕ → List (Turn Ask) → Type 0
AreTrusted honest workers turns = honest ⊎ Along cube IsOverNone (start workers (length cube.tables) []) turns

-- ---- what a run leaves

-- the status of a run that came to its end, or ended before
abbrev pub status_of : Result (Unit {0}) RunFault → ℕ
status_of (Ok done) = 0
status_of (Err fault.Memory) = 1
status_of (Err fault.Write) = 4

-- the history of a run over these inputs, its status, and what was written before and after it: the history is legal and fresh, and every
-- ready set is apart; with status 0 it is whole, and where the run is trusted its transcript was written; with another status a part of
-- the transcript from the front
pub record IsRunOver (honest : Type 0) (inputs : Inputs) (history : List Event) (status : ℕ) (before now : Option (List ℕ)) : Type 0 where
  pub legal : IsLegal served inputs history
  pub fresh : IsFresh served inputs history
  pub apart : (version : ℕ) → IsApart (ranges_of (set_at (world_of served inputs history) version))
  pub whole : status ≡ 0 → IsWhole served inputs history
  pub written : status ≡ 0 → AreTrusted honest inputs.workers (turns_of served inputs history) → now ≡ append_known before (transcript served inputs history)
  pub part : status ≢ 0 → AreTrusted honest inputs.workers (turns_of served inputs history) → AppendsPart before now (transcript served inputs history)
