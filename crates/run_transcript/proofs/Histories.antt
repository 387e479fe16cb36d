-- One event more at the end of a history, and later parts of it.
use Rattle.std.proofs.Common.{◌≡◌, ◌≤◌, ℕ, List, [], ◌∷◌, ◌++◌, length, fold, refl, sym, ap, ◌∙◌, subst, append_assoc, append-nil}
use Rattle.std.proofs.lemmas.List.{map-append}
use Rattle.std.proofs.lemmas.List.Concat.{flat_map-append}
use Rattle.std.proofs.lemmas.List.Sums.{fold-append}
use Rattle.run_history.specs.Commands.{Turn}
use Rattle.run_history.specs.Histories.{Along, Allowed}
use Rattle.run_history.specs.Histories as histories
use Rattle.run_history.specs.Invariants.{HasSteps, IsStart}
use Rattle.run_history.specs.Steps.{step, world}
use Rattle.run_history.specs.World.{World, number, set_at, start}
use Rattle.run_history.specs.declared.event.Event.{Event}
use Rattle.run_history.proofs.Kept.{kept_turns}
use Rattle.run_history.proofs.Laws.{Along-push, world-push}
use Rattle.run_history.proofs.Sound.{sound_world}
use Rattle.script_text.specs.declared.verb.Line.{Line}
use Rattle.run_transcript.specs.Entries.{Entry, entries_after, entries_along, told_text}
use Rattle.run_transcript.specs.Runs.{IsFresh, IsLegal, is_whole, line_of, lines_in, lines_taken, turn_of, turns_of, world_of}
use Rattle.run_transcript.specs.Served.{Inputs, Served}
use Rattle.run_transcript.specs.Transcripts.{end_if, entries_of, transcript}
use Rattle.run_transcript.proofs.Told.{GoesOn, told-along}

module _ {Query : Type 0} (served : Served Query) where
  pub entries_along-append : (script : List Line) (w : World Query) (entries : List Entry) (turns later : List (Turn Query))
      → entries_along served script w entries (turns ++ later)
      ≡ entries_along served script (fold (step served.cube) w turns) (entries_along served script w entries turns) later
  entries_along-append script w entries [] later = refl
  entries_along-append script w entries (turn ∷ turns) later =
      entries_along-append script (step served.cube w turn) (entries_after served script w entries turn) turns later

  Along-first : (P : World Query → Turn Query → Type 0) (w : World Query) (turns later : List (Turn Query)) → Along served.cube P w (turns ++ later)
      → Along served.cube P w turns × Along served.cube P (fold (step served.cube) w turns) later
  Along-first P w [] later h = (tt, h)
  Along-first P w (turn ∷ turns) later h =
      let rest = Along-first P (step served.cube w turn) turns later h.1 in
      ((h.0, rest.0), rest.1)

  module _ (inputs : Inputs) where
    first : World Query
    first = start inputs.workers (length served.cube.tables) inputs.ready

    pub turns-push : (history : List Event) (event : Event) → turns_of served inputs (history ++ event ∷ []) ≡ turns_of served inputs history ++ turn_of served inputs event ∷ []
    turns-push history event = map-append (turn_of served inputs) history (event ∷ [])

    pub world-next : (history : List Event) (event : Event)
        → world_of served inputs (history ++ event ∷ []) ≡ step served.cube (world_of served inputs history) (turn_of served inputs event)
    world-next history event =
        ap (world served.cube inputs.workers inputs.ready) (turns-push history event) ∙ world-push served.cube inputs.workers inputs.ready (turns_of served inputs history) (turn_of served inputs event)

    pub entries-next : (history : List Event) (event : Event)
        → entries_of served inputs (history ++ event ∷ [])
        ≡ entries_after served inputs.script (world_of served inputs history) (entries_of served inputs history) (turn_of served inputs event)
    entries-next history event =
        ap (entries_along served inputs.script (start inputs.workers (length served.cube.tables) inputs.ready) []) (turns-push history event)
        ∙ entries_along-append inputs.script (start inputs.workers (length served.cube.tables) inputs.ready) [] (turns_of served inputs history) (turn_of served inputs event ∷ [])

    lines-push : (history : List Event) (event : Event) → lines_taken (history ++ event ∷ []) ≡ lines_taken history ++ line_of event
    lines-push history event = flat_map-append line_of history (event ∷ []) ∙ ap (λ (l : List ℕ). lines_taken history ++ l) (append-nil (line_of event))

    pub legal-next : (history : List Event) (event : Event) (later : List ℕ) → IsLegal served inputs history
        → lines_in inputs.script ≡ lines_taken history ++ (line_of event ++ later)
        → Allowed (world_of served inputs history) (turn_of served inputs event) → IsLegal served inputs (history ++ event ∷ [])
    legal-next history event later legal order allowed = record {
      later = later;
      in_order = order ∙ (sym (append_assoc (lines_taken history) (line_of event) later) ∙ ap (λ (l : List ℕ). l ++ later) (sym (lines-push history event)));
      allowed =
          subst (λ (ts : List (Turn Query)). histories.IsLegal served.cube inputs.workers inputs.ready ts) (sym (turns-push history event))
          (Along-push served.cube Allowed (start inputs.workers (length served.cube.tables) inputs.ready) (turns_of served inputs history) (turn_of served inputs event) legal.allowed allowed);
    }

    pub fresh-next : (history : List Event) (event : Event) → IsFresh served inputs history
        → histories.IsFresh (world_of served inputs history) (turn_of served inputs event) → IsFresh served inputs (history ++ event ∷ [])
    fresh-next history event fresh next =
        subst (λ (ts : List (Turn Query)). histories.HasFreshAnswers served.cube inputs.workers inputs.ready ts) (sym (turns-push history event))
        (Along-push served.cube histories.IsFresh (start inputs.workers (length served.cube.tables) inputs.ready) (turns_of served inputs history) (turn_of served inputs event) fresh next)

    pub told-front : (history later : List Event) → GoesOn (transcript served inputs (history ++ later)) (told_text (entries_of served inputs history))
    told-front history later =
        let turns = map-append (turn_of served inputs) history later in
        let apart = ap (entries_along served inputs.script (start inputs.workers (length served.cube.tables) inputs.ready) []) turns
        ∙ entries_along-append inputs.script (start inputs.workers (length served.cube.tables) inputs.ready) [] (turns_of served inputs history) (turns_of served inputs later) in
        let more = told-along served inputs.script (world_of served inputs history) (entries_of served inputs history) (turns_of served inputs later) in
        let last = end_if served inputs (is_whole served inputs (history ++ later)) (world_of served inputs (history ++ later)) in (
          more.0 ++ last,
          ap (λ (t : List ℕ). t ++ last) (ap told_text apart ∙ more.1)
              ∙ append_assoc (told_text (entries_of served inputs history)) more.0 last,
        )

    pub sets-stay : (history later : List Event) → HasSteps served.cube → IsStart inputs.ready → IsLegal served inputs (history ++ later) → (version : ℕ)
        → version ≤ number (world_of served inputs history)
        → set_at (world_of served inputs (history ++ later)) version ≡ set_at (world_of served inputs history) version
    sets-stay history later steps initial legal version within =
        let turns = map-append (turn_of served inputs) history later in
        let both = Along-first Allowed (start inputs.workers (length served.cube.tables) inputs.ready) (turns_of served inputs history) (turns_of served inputs later)
        (subst (λ (ts : List (Turn Query)). histories.IsLegal served.cube inputs.workers inputs.ready ts) turns legal.allowed) in
        let sound = sound_world served.cube steps inputs.workers inputs.ready (turns_of served inputs history) initial both.0 in
        let kept = kept_turns served.cube steps (world_of served inputs history) (turns_of served inputs later) sound both.1 in
        let after = ap (world served.cube inputs.workers inputs.ready) turns
        ∙ fold-append (step served.cube) (start inputs.workers (length served.cube.tables) inputs.ready) (turns_of served inputs history) (turns_of served inputs later) in
        ap (λ (w : World Query). set_at w version) after ∙ kept.sets version within
