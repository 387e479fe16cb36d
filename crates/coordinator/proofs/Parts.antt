-- What is written of a line that was taken, and of one that was not.
use Rattle.std.proofs.Common.{◌≡◌, ℕ, zero, suc, ◌+◌, Option, Some, List, [], ◌∷◌, ◌++◌, map, take, drop, slice_get, refl, sym, ap, ◌∙◌, subst, inl, inr, append_assoc}
use Rattle.std.specs.Io.KnownBytes.{append_known}
use Rattle.std.proofs.lemmas.List.{map-append, take-append-drop}
use Rattle.job_board.specs.Ledger.{cube, only_query}
use Rattle.job_board.specs.BoardModel.{BoardModel, now, turns}
use Rattle.outside.specs.Written.{AppendsPart}
use Rattle.plain_answer.specs.declared.ask.Ask.{Ask as Query}
use Rattle.run_history.specs.Commands.{Command, Turn, event_of}
use Rattle.run_history.specs.Commands.Command.{Ask}
use Rattle.run_history.specs.Commands.Turn.{Takes, QueryTakes, QueryEnds}
use Rattle.run_inputs.specs.declared.inputs.LoadedTable.{LoadedTable}
use Rattle.run_transcript.specs.Entries.{told_text}
use Rattle.run_transcript.specs.Runs.{lines_in, lines_taken, turns_of}
use Rattle.run_transcript.specs.Served.{command_at, command_of}
use Rattle.run_transcript.proofs.Told.{told-along}
use Rattle.script_text.specs.Blocks.{block_text}
use Rattle.script_text.specs.declared.block.Block.{Block}
use Rattle.script_text.specs.declared.verb.Line.{Line}
use Rattle.coordinator.specs.Coordinator.{HasWritten, HasWrittenPart, IsCounted, IsFront, IsGrown, IsSound, IsWorked, RisesFrom, asked_turns, entries_in, inputs_in}
use Rattle.step_outcomes.specs.Ends.{fault_ends, run_ends}
use Rattle.coordinator.specs.Served.{rows_at, served}
use Rattle.flight_laws.specs.Stops.{stops_along}
use Rattle.coordinator.specs.ExecutedLines.{IsPartOfQuery, HasExecuted, HasExecutedPart}
use Rattle.coordinator.proofs.Boards.{entries-grown, grown-added, lines-grown, named-grown, no-stops-grown, trusted-grown, worked-entries}
use Rattle.coordinator.proofs.Ends.{counted-silent}
use Rattle.coordinator.proofs.Scripts.{command_found, rest_more}
use Rattle.coordinator.proofs.Tells.{TellsLine, sound-line, tells-command, text-line}
use Rattle.coordinator.proofs.Queries.{tells-query}
use Rattle.coordinator.proofs.Written.{all_then, part_front, part_then}

-- ---- a line that was taken

module _ (honest : Type 0) (script : List Line) (tables : List LoadedTable) (old : BoardModel) (taken : ℕ) (line : Line) (said : Block) (new : BoardModel)
    (rise : RisesFrom 0 script) (e : slice_get script taken ≡ Some line) (s : IsSound (inputs_in script tables) old taken) where
  pub tells-taken : HasExecuted honest tables old line said new → (later : List (Turn Query)) × TellsLine honest script tables old line said later new
  tells-taken (inl c) = (Takes line.number (command_of served (rows_at tables line.number) line.verb) ∷ [], tells-command honest script tables old taken line said new rise e s.idle c)
  tells-taken (inr q) = (asked_turns line.number q.session ++ QueryEnds line.number q.out ∷ [], tells-query honest script tables old taken line said new rise e s q)

  pub sound-taken : HasExecuted honest tables old line said new → IsSound (inputs_in script tables) new (taken + 1)
  sound-taken t = let tells = tells-taken t in sound-line honest script tables old taken line said tells.0 new s e tells.1

  pub written-taken : (before mid written : Option (List ℕ)) → HasExecuted honest tables old line said new → HasWritten honest script old before mid
      → written ≡ append_known mid (block_text line.number said) → HasWritten honest script new before written
  written-taken before mid written t h w = λ trusted.
      let tells = tells-taken t in
      let first = trusted-grown honest old new tells.0 tells.1.grown trusted in
      all_then before mid written (told_text (entries_in script old)) (block_text line.number said) (told_text (entries_in script new)) (h first.0) w
      (text-line honest script tables old taken line said tells.0 new s e tells.1 trusted)

  pub part-taken : (before mid written : Option (List ℕ)) → HasExecuted honest tables old line said new → HasWritten honest script old before mid
      → AppendsPart mid written (block_text line.number said) → HasWrittenPart honest script new before written
  part-taken before mid written t h w = λ trusted.
      let tells = tells-taken t in
      let first = trusted-grown honest old new tells.0 tells.1.grown trusted in
      part_then before mid written (told_text (entries_in script old)) (block_text line.number said) (told_text (entries_in script new)) (h first.0) w
      (text-line honest script tables old taken line said tells.0 new s e tells.1 trusted)

-- ---- turns after which nothing more was written

pub part-grown : (honest : Type 0) (script : List Line) (old new : BoardModel) (later : List (Turn Query)) (before written : Option (List ℕ)) → IsGrown old later new
    → HasWritten honest script old before written → HasWrittenPart honest script new before written
part-grown honest script old new later before written g h = λ trusted.
    let first = trusted-grown honest old new later g trusted in
    let more = told-along served script (now old) (entries_in script old) later in
    part_front before written (told_text (entries_in script old)) more.0 (told_text (entries_in script new)) (h first.0)
    (ap told_text (entries-grown old new later g script) ∙ more.1)

pub written-worked : (honest : Type 0) (script : List Line) (old new : BoardModel) (before written : Option (List ℕ)) → IsWorked old new
    → HasWritten honest script old before written → HasWritten honest script new before written
written-worked honest script old new before written w h = λ trusted.
    let first = trusted-grown honest old new w.later w.grown trusted in
    h first.0 ∙ ap (λ (text : List ℕ). append_known before text) (ap told_text (sym (worked-entries script old new w)))

-- ---- a line that was not taken, or only in part

module _ (script : List Line) (tables : List LoadedTable) (old : BoardModel) (taken : ℕ) (new : BoardModel) (s : IsSound (inputs_in script tables) old taken) where
  -- the lines taken are the first ones
  front-grown : (later : List (Turn Query)) (lines rest : List ℕ) → IsGrown old later new → turns_of served (inputs_in script tables) (map event_of later) ≡ later
      → lines_taken (map event_of later) ≡ lines → lines_in (drop taken script) ≡ lines ++ rest → stops_along cube (now old) later ≡ [] → IsFront (inputs_in script tables) new
  front-grown later lines rest g named l r none = record {
    no_stops = no-stops-grown old new later g none s.no_stops;
    ready = s.ready;
    workers = g.workers ∙ s.workers;
    named = named-grown old new later g (inputs_in script tables) s.named named;
    later = rest;
    in_order =
        ap lines_in (sym (take-append-drop taken script))
        ∙ (map-append (λ (line : Line). line.number) (take taken script) (drop taken script)
        ∙ (ap (λ (ls : List ℕ). ls ++ lines_in (drop taken script)) (sym s.in_order)
        ∙ (ap (λ (ls : List ℕ). lines_taken (map event_of (turns old)) ++ ls) r
        ∙ (sym (append_assoc (lines_taken (map event_of (turns old))) lines rest)
        ∙ ap (λ (ls : List ℕ). ls ++ rest) (sym (lines-grown old new later g ∙ ap (λ (ls : List ℕ). lines_taken (map event_of (turns old)) ++ ls) l))))));
  }

  module _ (line : Line) (rise : RisesFrom 0 script) (e : slice_get script taken ≡ Some line) where
    first_line : lines_in (drop taken script) ≡ (line.number ∷ []) ++ lines_in (drop (taken + 1) script)
    first_line = ap lines_in (rest_more script taken line e)

    front-query : (q : IsPartOfQuery old line new) (count : ℕ) → q.count ≡ count → IsFront (inputs_in script tables) new
    front-query q zero c = front-grown [] [] (lines_in (drop taken script)) (subst (λ (n : ℕ). IsGrown old (take n (asked_turns line.number q.session)) new) c q.grown) refl refl refl refl
    front-query q (suc zero) c =
        let asks : command_at served (inputs_in script tables) line.number ≡ Ask q.session only_query = command_found script tables taken line rise e ∙ ap (command_of served (rows_at tables line.number)) q.asks in
        front-grown (Takes line.number (Ask q.session only_query) ∷ []) (line.number ∷ []) (lines_in (drop (taken + 1) script))
        (subst (λ (n : ℕ). IsGrown old (take n (asked_turns line.number q.session)) new) c q.grown) (ap (λ (k : Command Query). Takes line.number k ∷ []) asks) refl first_line refl
    front-query q (suc (suc zero)) c =
        let asks : command_at served (inputs_in script tables) line.number ≡ Ask q.session only_query = command_found script tables taken line rise e ∙ ap (command_of served (rows_at tables line.number)) q.asks in
        front-grown (asked_turns line.number q.session) (line.number ∷ []) (lines_in (drop (taken + 1) script))
        (subst (λ (n : ℕ). IsGrown old (take n (asked_turns line.number q.session)) new) c q.grown) (ap (λ (k : Command Query). Takes line.number k ∷ QueryTakes line.number ∷ []) asks) refl first_line refl
    front-query q (suc (suc (suc n))) c =
        let asks : command_at served (inputs_in script tables) line.number ≡ Ask q.session only_query = command_found script tables taken line rise e ∙ ap (command_of served (rows_at tables line.number)) q.asks in
        front-grown (asked_turns line.number q.session) (line.number ∷ []) (lines_in (drop (taken + 1) script))
        (subst (λ (m : ℕ). IsGrown old (take m (asked_turns line.number q.session)) new) c q.grown) (ap (λ (k : Command Query). Takes line.number k ∷ QueryTakes line.number ∷ []) asks) refl first_line refl

    pub front-part : HasExecutedPart old line new → IsFront (inputs_in script tables) new
    front-part (inl g) = front-grown [] [] (lines_in (drop taken script)) g refl refl refl refl
    front-part (inr q) = front-query q q.count refl

-- what is written stays a part
pub part-of-part : (honest : Type 0) (script : List Line) (old : BoardModel) (line : Line) (new : BoardModel) (before written : Option (List ℕ)) → HasExecutedPart old line new
    → HasWritten honest script old before written → HasWrittenPart honest script new before written
part-of-part honest script old line new before written (inl g) h = part-grown honest script old new [] before written g h
part-of-part honest script old line new before written (inr q) h = part-grown honest script old new (take q.count (asked_turns line.number q.session)) before written q.grown h

-- ---- what hands count

ends_none : (line session count : ℕ) → (run_ends (map event_of (take count (asked_turns line session))) ≡ 0) × (fault_ends (map event_of (take count (asked_turns line session))) ≡ 0)
ends_none line session zero = (refl, refl)
ends_none line session (suc zero) = (refl, refl)
ends_none line session (suc (suc zero)) = (refl, refl)
ends_none line session (suc (suc (suc n))) = (refl, refl)

pub counted-taken : {H : Type 0} (runs faults : H → ℕ) (base hands : List H) (honest : Type 0) (tables : List LoadedTable) (old : BoardModel) (line : Line) (said : Block) (new : BoardModel)
    → HasExecuted honest tables old line said new → IsCounted runs faults base hands old → IsCounted runs faults base hands new
counted-taken runs faults base hands honest tables old line said new (inl c) h =
    counted-silent runs faults base hands old new (Takes line.number (command_of served (rows_at tables line.number) line.verb) ∷ [])
    (grown-added old (Takes line.number (command_of served (rows_at tables line.number) line.verb)) new c.added) refl refl h
counted-taken runs faults base hands honest tables old line said new (inr q) h =
    counted-silent runs faults base hands old new (asked_turns line.number q.session ++ QueryEnds line.number q.out ∷ []) q.grown refl refl h

pub counted-part : {H : Type 0} (runs faults : H → ℕ) (base hands : List H) (old : BoardModel) (line : Line) (new : BoardModel) → HasExecutedPart old line new
    → IsCounted runs faults base hands old → IsCounted runs faults base hands new
counted-part runs faults base hands old line new (inl g) h = counted-silent runs faults base hands old new [] g refl refl h
counted-part runs faults base hands old line new (inr q) h =
    let none = ends_none line.number q.session q.count in
    counted-silent runs faults base hands old new (take q.count (asked_turns line.number q.session)) q.grown none.0 none.1 h
