-- A line that was taken: what the coordinator keeps, and what is told.
use Rattle.std.proofs.Common.{◌≡◌, ℕ, ◌+◌, Option, Some, List, [], ◌∷◌, ◌++◌, map, drop, slice_get, refl, sym, ap, ◌∙◌, subst, arith}
use Rattle.std.proofs.lemmas.Option.{slice_get_within}
use Rattle.job_board.specs.Ledger.{cube}
use Rattle.job_board.specs.BoardModel.{BoardModel, now, turns}
use Rattle.plain_answer.specs.declared.ask.Ask.{Ask as Query}
use Rattle.run_history.specs.Commands.{Command, Turn, event_of}
use Rattle.run_history.specs.Commands.Turn.{Takes}
use Rattle.run_history.specs.World.{World}
use Rattle.run_inputs.specs.declared.inputs.LoadedTable.{LoadedTable}
use Rattle.run_transcript.specs.Entries.{Entry, entry_of, told_text}
use Rattle.run_transcript.specs.Entries.Entry.{Told, Open}
use Rattle.run_transcript.specs.Opens.{AreTold}
use Rattle.run_transcript.specs.Runs.{lines_taken, turns_of}
use Rattle.run_transcript.specs.Served.{command_of}
use Rattle.run_transcript.proofs.Told.{told-block}
use Rattle.script_text.specs.Blocks.{block_text}
use Rattle.script_text.specs.declared.block.Block.{Block}
use Rattle.script_text.specs.declared.verb.Line.{Line}
use Rattle.script_text.specs.declared.verb.Verb.{Verb}
use Rattle.coordinator.specs.Coordinator.{IsGrown, IsIdle, IsSound, RisesFrom, entries_in, inputs_in}
use Rattle.coordinator.specs.Runs.{AreTrusted}
use Rattle.coordinator.specs.Served.{rows_at, served}
use Rattle.flight_laws.specs.Stops.{stops_along}
use Rattle.coordinator.specs.ExecutedLines.{IsCommand}
use Rattle.coordinator.proofs.Boards.{entries-grown, grown-added, lines-grown, named-grown, no-stops-command, no-stops-grown, now-grown}
use Rattle.coordinator.proofs.Idle.{idle-command, line-command, no_ask}
use Rattle.coordinator.proofs.Scripts.{command_found, rest_more, taken_more, verb_found}

told_push : (entries : List Entry) (line : ℕ) (said : Block) → AreTold entries → AreTold (entries ++ Told line said ∷ [])
told_push [] line said h = tt
told_push (Told other block ∷ entries) line said h = told_push entries line said h
told_push (Open other ∷ entries) line said h = absurd h

-- ---- some turns with the one command of a line, which tell its block

pub record TellsLine (honest : Type 0) (script : List Line) (tables : List LoadedTable) (old : BoardModel) (line : Line) (said : Block) (later : List (Turn Query)) (new : BoardModel) : Type 0 where
  pub grown : IsGrown old later new
  pub named : turns_of served (inputs_in script tables) (map event_of later) ≡ later
  pub lines : lines_taken (map event_of later) ≡ line.number ∷ []
  pub last : (now new).line ≡ line.number
  pub idle : IsIdle (now new)
  pub no_stops : stops_along cube (now old) later ≡ []
  pub told : Block
  pub entries : entries_in script new ≡ entries_in script old ++ Told line.number told ∷ []
  pub trusted : AreTrusted honest new.workers (turns new) → told ≡ said

module _ (honest : Type 0) (script : List Line) (tables : List LoadedTable) (old : BoardModel) (taken : ℕ) (line : Line) (said : Block) (later : List (Turn Query)) (new : BoardModel)
    (s : IsSound (inputs_in script tables) old taken) (e : slice_get script taken ≡ Some line) (t : TellsLine honest script tables old line said later new) where
  rises : RisesFrom line.number (drop (taken + 1) script)
  rises = let h = subst (RisesFrom (now old).line) (rest_more script taken line e) s.later in h.1

  pub sound-line : IsSound (inputs_in script tables) new (taken + 1)
  sound-line = record {
    within = omega (arith, slice_get_within script taken line e);
    workers = t.grown.workers ∙ s.workers;
    ready = s.ready;
    named = named-grown old new later t.grown (inputs_in script tables) s.named t.named;
    in_order =
        lines-grown old new later t.grown
        ∙ (ap (λ (ls : List ℕ). lines_taken (map event_of (turns old)) ++ ls) t.lines
        ∙ (ap (λ (ls : List ℕ). ls ++ line.number ∷ []) s.in_order ∙ sym (taken_more script taken line e)));
    later = subst (λ (n : ℕ). RisesFrom n (drop (taken + 1) script)) (sym t.last) rises;
    idle = t.idle;
    no_stops = no-stops-grown old new later t.grown t.no_stops s.no_stops;
    all_told = subst AreTold (sym t.entries) (told_push (entries_in script old) line.number t.told s.all_told);
  }

  -- the text of its block is what is told more
  pub text-line : AreTrusted honest new.workers (turns new) → told_text (entries_in script new) ≡ told_text (entries_in script old) ++ block_text line.number said
  text-line h =
      ap told_text t.entries
      ∙ (told-block (entries_in script old) line.number t.told s.all_told
      ∙ ap (λ (b : Block). told_text (entries_in script old) ++ block_text line.number b) (t.trusted h))

-- ---- a command

module _ (honest : Type 0) (script : List Line) (tables : List LoadedTable) (old : BoardModel) (taken : ℕ) (line : Line) (said : Block) (new : BoardModel)
    (rise : RisesFrom 0 script) (e : slice_get script taken ≡ Some line) (idle : IsIdle (now old)) (c : IsCommand tables old line said new) where
  pub tells-command : TellsLine honest script tables old line said (Takes line.number (command_of served (rows_at tables line.number) line.verb) ∷ []) new
  tells-command =
      let g = grown-added old (Takes line.number (command_of served (rows_at tables line.number) line.verb)) new c.added in
      let after = now-grown old new (Takes line.number (command_of served (rows_at tables line.number) line.verb) ∷ []) g in
      record {
        grown = g;
        named = ap (λ (k : Command Query). Takes line.number k ∷ []) (command_found script tables taken line rise e);
        lines = refl;
        last = ap (λ (w : World Query). w.line) after ∙ line-command (now old) line.number (command_of served (rows_at tables line.number) line.verb);
        idle = subst IsIdle (sym after)
            (idle-command (now old) line.number (command_of served (rows_at tables line.number) line.verb) (no_ask (rows_at tables line.number) line.verb c.no_query) idle);
        no_stops = no-stops-command (now old) line.number (command_of served (rows_at tables line.number) line.verb) idle.not_in_flight;
        told = said;
        entries =
            entries-grown old new (Takes line.number (command_of served (rows_at tables line.number) line.verb) ∷ []) g script
            ∙ ap (λ (x : Entry). entries_in script old ++ x ∷ [])
            (ap (λ (v : Option Verb). entry_of served (now old) line.number v (command_of served (rows_at tables line.number) line.verb)) (verb_found script tables taken line rise e) ∙ c.block);
        trusted = λ h. refl;
      }
