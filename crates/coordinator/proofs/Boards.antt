-- What turns leave of a board: its world, its entries, its names and its lines.
use Rattle.std.proofs.Common.{◌≡◌, ℕ, ◌⊎◌, Bool, true, false, cond, Option, Some, None, List, [], ◌∷◌, ◌++◌, length, map, fold, take, drop, refl, sym, ap, ◌∙◌, subst, inl, inr, append_assoc, append-nil}
use Rattle.std.specs.List.{AllByRecursion}
use Rattle.std.proofs.lemmas.List.{map-append, take-append-drop}
use Rattle.std.proofs.lemmas.List.Concat.{flat_map-append}
use Rattle.std.proofs.lemmas.List.Sums.{fold-append}
use Rattle.job_board.specs.Ledger.{cube}
use Rattle.job_board.specs.BoardModel.{IsAdded, IsSame, BoardModel, now, turns}
use Rattle.job_board.specs.Turns as board_turns
use Rattle.job_machine.specs.Job.{state_after}
use Rattle.job_machine.specs.declared.state.JobState.{JobState}
use Rattle.outside.specs.declared.stopper.Request.{Request}
use Rattle.plain_answer.specs.declared.ask.Ask.{Ask}
use Rattle.run_history.specs.Commands.{Command, Turn, event_of}
use Rattle.run_history.specs.Commands.{Command as commands}
use Rattle.run_history.specs.Commands.Turn.{Takes, Claims, StepEnds, QueryTakes, QueryEnds}
use Rattle.run_history.specs.Histories.{Along}
use Rattle.run_history.specs.Steps.{step, world}
use Rattle.run_history.specs.Verdicts.{act_of}
use Rattle.run_history.specs.World.{Submitted, World, job_of, start}
use Rattle.run_history.specs.declared.command.Control.{Control}
use Rattle.run_history.specs.declared.command.Control.TheVariants as control
use Rattle.run_state.specs.Answers.{steer_answer, steered_to}
use Rattle.run_transcript.specs.Entries.{Entry, entries_along}
use Rattle.run_transcript.specs.Runs.{line_of, lines_in, lines_taken, turn_of, turns_of}
use Rattle.run_transcript.specs.Served.{Inputs}
use Rattle.run_transcript.proofs.Histories.{entries_along-append}
use Rattle.script_text.specs.declared.verb.Line.{Line}
use Rattle.coordinator.specs.Coordinator.{AreNotInFlight, IsFront, IsGrown, IsOfStep, IsSound, IsWorked, entries_in, stops_in}
use Rattle.coordinator.specs.Runs.{AreTrusted, IsOverNone}
use Rattle.coordinator.specs.Served.{served}
use Rattle.flight_laws.specs.Stops.{request_for, requests_by, stops_along, stops_at}

-- ---- turns more

pub grown-same : (old new : BoardModel) → IsSame old new → IsGrown old [] new
grown-same old new s = record { turns = ap board_turns.turns_of s.log ∙ sym (append-nil (turns old)); workers = s.workers }

pub grown-equal : (old new : BoardModel) → new ≡ old → IsGrown old [] new
grown-equal old new e = record { turns = ap turns e ∙ sym (append-nil (turns old)); workers = ap (λ (l : BoardModel). l.workers) e }

pub grown-added : (old : BoardModel) (turn : Turn Ask) (new : BoardModel) → IsAdded old turn new → IsGrown old (turn ∷ []) new
grown-added old turn new a = record { turns = a.turns; workers = a.workers }

pub grown-then : (old mid new : BoardModel) (first later : List (Turn Ask)) → IsGrown old first mid → IsGrown mid later new → IsGrown old (first ++ later) new
grown-then old mid new first later g h = record {
  turns = h.turns ∙ (ap (λ (ts : List (Turn Ask)). ts ++ later) g.turns ∙ append_assoc (turns old) first later);
  workers = h.workers ∙ g.workers;
}

-- a turn after a call that leaves the board as it is
pub added-same : (old mid : BoardModel) (turn : Turn Ask) (new : BoardModel) → IsSame old mid → IsAdded mid turn new → IsAdded old turn new
added-same old mid turn new s a = record {
  turns = a.turns ∙ ap (λ (ts : List (Turn Ask)). ts ++ turn ∷ []) (ap board_turns.turns_of s.log);
  workers = a.workers ∙ s.workers;
}

pub same-equal : (old mid new : BoardModel) → IsSame old mid → new ≡ mid → IsSame old new
same-equal old mid new s e = subst (IsSame old) (sym e) s

pub now-same : (old new : BoardModel) → IsSame old new → now new ≡ now old
now-same old new s =
    ap (λ (n : ℕ). world cube n [] (turns new)) s.workers ∙ ap (λ (ts : List (Turn Ask)). world cube old.workers [] ts) (ap board_turns.turns_of s.log)

module _ (old new : BoardModel) (later : List (Turn Ask)) (g : IsGrown old later new) where
  pub now-grown : now new ≡ fold (step cube) (now old) later
  now-grown =
      ap (λ (n : ℕ). world cube n [] (turns new)) g.workers
      ∙ (ap (λ (ts : List (Turn Ask)). world cube old.workers [] ts) g.turns ∙ fold-append (step cube) (start old.workers (length cube.tables) []) (turns old) later)

  pub entries-grown : (script : List Line) → entries_in script new ≡ entries_along served script (now old) (entries_in script old) later
  entries-grown script =
      ap (λ (n : ℕ). entries_along served script (start n (length cube.tables) []) [] (turns new)) g.workers
      ∙ (ap (λ (ts : List (Turn Ask)). entries_along served script (start old.workers (length cube.tables) []) [] ts) g.turns
      ∙ entries_along-append served script (start old.workers (length cube.tables) []) [] (turns old) later)

  pub named-grown : (inputs : Inputs) → turns_of served inputs (map event_of (turns old)) ≡ turns old → turns_of served inputs (map event_of later) ≡ later
      → turns_of served inputs (map event_of (turns new)) ≡ turns new
  named-grown inputs n e =
      ap (λ (ts : List (Turn Ask)). turns_of served inputs (map event_of ts)) g.turns
      ∙ (ap (turns_of served inputs) (map-append event_of (turns old) later)
      ∙ (map-append (turn_of served inputs) (map event_of (turns old)) (map event_of later)
      ∙ (ap (λ (ts : List (Turn Ask)). ts ++ turns_of served inputs (map event_of later)) n
      ∙ (ap (λ (ts : List (Turn Ask)). turns old ++ ts) e ∙ sym g.turns))))

  pub lines-grown : lines_taken (map event_of (turns new)) ≡ lines_taken (map event_of (turns old)) ++ lines_taken (map event_of later)
  lines-grown =
      ap (λ (ts : List (Turn Ask)). lines_taken (map event_of ts)) g.turns
      ∙ (ap lines_taken (map-append event_of (turns old) later) ∙ flat_map-append line_of (map event_of (turns old)) (map event_of later))

-- ---- the attempts that commands find in flight

stops_append : (w : World Ask) (turns later : List (Turn Ask)) → stops_along cube w (turns ++ later) ≡ stops_along cube w turns ++ stops_along cube (fold (step cube) w turns) later
stops_append w [] later = refl
stops_append w (turn ∷ turns) later =
    ap (λ (rs : List Request). stops_at w turn ++ rs) (stops_append (step cube w turn) turns later)
    ∙ sym (append_assoc (stops_at w turn) (stops_along cube (step cube w turn) turns) (stops_along cube (fold (step cube) (step cube w turn) turns) later))

pub no-stops-grown : (old new : BoardModel) (later : List (Turn Ask)) → IsGrown old later new → stops_along cube (now old) later ≡ [] → stops_in old ≡ [] → stops_in new ≡ []
no-stops-grown old new later g more none =
    ap (λ (n : ℕ). stops_along cube (start n (length cube.tables) []) (turns new)) g.workers
    ∙ (ap (stops_along cube (start old.workers (length cube.tables) [])) g.turns
    ∙ (stops_append (start old.workers (length cube.tables) []) (turns old) later
    ∙ (ap (λ (rs : List Request). rs ++ stops_along cube (now old) later) none ∙ more)))

stops_steps : (w : World Ask) (later : List (Turn Ask)) → AllByRecursion IsOfStep later → stops_along cube w later ≡ []
stops_steps w [] h = refl
stops_steps w (Claims job attempt ∷ later) h = stops_steps (step cube w (Claims job attempt)) later h.1
stops_steps w (StepEnds job attempt outcome ∷ later) h = stops_steps (step cube w (StepEnds job attempt outcome)) later h.1
stops_steps w (Takes line command ∷ later) h = absurd h.0
stops_steps w (QueryTakes line ∷ later) h = absurd h.0
stops_steps w (QueryEnds line out ∷ later) h = absurd h.0

pub no-stops-worked : (old new : BoardModel) → IsWorked old new → stops_in old ≡ [] → stops_in new ≡ []
no-stops-worked old new w none = no-stops-grown old new w.later w.grown (stops_steps (now old) w.later w.steps) none

attempt_none : (b : Bool) (job attempt : ℕ) → b ≡ false → request_for job (cond b (Some attempt) None) ≡ []
attempt_none true job attempt e = absurd (let clash : true ≡ false = e in cc)
attempt_none false job attempt e = refl

stops_steered : (control : Control) (job : ℕ) (s : Submitted) (o : Option JobState) → s.job.in_flight ≡ false → requests_by job (steered_to control s.job o) ≡ []
stops_steered control job s None still = refl
stops_steered control.Pause job s (Some state) still = attempt_none s.job.in_flight job s.job.attempt still
stops_steered control.Discard job s (Some state) still = attempt_none s.job.in_flight job s.job.attempt still
stops_steered control.Resume job s (Some state) still = refl

-- where no job is in flight, a command finds none
pub no-request : (w : World Ask) (control : Control) (job : ℕ) → AreNotInFlight w.jobs → requests_by job (steer_answer control job (job_of w job)) ≡ []
no-request w control job not_in_flight = by_found (job_of w job) refl
  where
    by_found : (found : Option Submitted) → job_of w job ≡ found → requests_by job (steer_answer control job found) ≡ []
    by_found None e = refl
    by_found (Some s) e = stops_steered control job s (state_after (act_of control) s.job.state) (not_in_flight job s e)

pub no-stops-command : (w : World Ask) (line : ℕ) (command : Command Ask) → AreNotInFlight w.jobs → stops_along cube w (Takes line command ∷ []) ≡ []
no-stops-command w line (commands.Steer control job) not_in_flight = ap (λ (rs : List Request). rs ++ []) (no-request w control job not_in_flight)
no-stops-command w line (commands.Load place rows) not_in_flight = refl
no-stops-command w line (commands.Submit kind range) not_in_flight = refl
no-stops-command w line (commands.Drop range) not_in_flight = refl
no-stops-command w line (commands.Ask session query) not_in_flight = refl
no-stops-command w line (commands.Note noted) not_in_flight = refl

-- ---- what is trusted

along-parts : (P : World Ask → Turn Ask → Type 0) (w : World Ask) (turns later : List (Turn Ask)) → Along cube P w (turns ++ later)
    → Along cube P w turns × Along cube P (fold (step cube) w turns) later
along-parts P w [] later h = (tt, h)
along-parts P w (turn ∷ turns) later h = let rest = along-parts P (step cube w turn) turns later h.1 in ((h.0, rest.0), rest.1)

pub trusted-grown : (honest : Type 0) (old new : BoardModel) (later : List (Turn Ask)) → IsGrown old later new → AreTrusted honest new.workers (turns new)
    → AreTrusted honest old.workers (turns old) × (honest ⊎ Along cube IsOverNone (now old) later)
trusted-grown honest old new later g (inl h) = (inl h, inl h)
trusted-grown honest old new later g (inr h) =
    let k = subst (λ (n : ℕ). Along cube IsOverNone (start n (length cube.tables) []) (turns old ++ later)) g.workers
    (subst (λ (ts : List (Turn Ask)). Along cube IsOverNone (start new.workers (length cube.tables) []) ts) g.turns h) in
    let parts = along-parts IsOverNone (start old.workers (length cube.tables) []) (turns old) later k in
    (inr parts.0, inr parts.1)

-- ---- claims and ends of steps

steps-named : (inputs : Inputs) (later : List (Turn Ask)) → AllByRecursion IsOfStep later → turns_of served inputs (map event_of later) ≡ later
steps-named inputs [] h = refl
steps-named inputs (Claims job attempt ∷ later) h = ap (λ (ts : List (Turn Ask)). Claims job attempt ∷ ts) (steps-named inputs later h.1)
steps-named inputs (StepEnds job attempt outcome ∷ later) h = ap (λ (ts : List (Turn Ask)). StepEnds job attempt outcome ∷ ts) (steps-named inputs later h.1)
steps-named inputs (Takes line command ∷ later) h = absurd h.0
steps-named inputs (QueryTakes line ∷ later) h = absurd h.0
steps-named inputs (QueryEnds line out ∷ later) h = absurd h.0

steps-lines : (later : List (Turn Ask)) → AllByRecursion IsOfStep later → lines_taken (map event_of later) ≡ []
steps-lines [] h = refl
steps-lines (Claims job attempt ∷ later) h = steps-lines later h.1
steps-lines (StepEnds job attempt outcome ∷ later) h = steps-lines later h.1
steps-lines (Takes line command ∷ later) h = absurd h.0
steps-lines (QueryTakes line ∷ later) h = absurd h.0
steps-lines (QueryEnds line out ∷ later) h = absurd h.0

steps-entries : (script : List Line) (w : World Ask) (entries : List Entry) (later : List (Turn Ask)) → AllByRecursion IsOfStep later
    → entries_along served script w entries later ≡ entries
steps-entries script w entries [] h = refl
steps-entries script w entries (Claims job attempt ∷ later) h = steps-entries script (step cube w (Claims job attempt)) entries later h.1
steps-entries script w entries (StepEnds job attempt outcome ∷ later) h = steps-entries script (step cube w (StepEnds job attempt outcome)) entries later h.1
steps-entries script w entries (Takes line command ∷ later) h = absurd h.0
steps-entries script w entries (QueryTakes line ∷ later) h = absurd h.0
steps-entries script w entries (QueryEnds line out ∷ later) h = absurd h.0

pub worked-entries : (script : List Line) (old new : BoardModel) → IsWorked old new → entries_in script new ≡ entries_in script old
worked-entries script old new w = entries-grown old new w.later w.grown script ∙ steps-entries script (now old) (entries_in script old) w.later w.steps

pub worked-named : (inputs : Inputs) (old new : BoardModel) → IsWorked old new → turns_of served inputs (map event_of (turns old)) ≡ turns old
    → turns_of served inputs (map event_of (turns new)) ≡ turns new
worked-named inputs old new w n = named-grown old new w.later w.grown inputs n (steps-named inputs w.later w.steps)

pub worked-lines : (old new : BoardModel) → IsWorked old new → lines_taken (map event_of (turns new)) ≡ lines_taken (map event_of (turns old))
worked-lines old new w =
    lines-grown old new w.later w.grown
    ∙ (ap (λ (ls : List ℕ). lines_taken (map event_of (turns old)) ++ ls) (steps-lines w.later w.steps) ∙ append-nil (lines_taken (map event_of (turns old))))

-- ---- what is front

pub front-sound : (inputs : Inputs) (board : BoardModel) (taken : ℕ) → IsSound inputs board taken → IsFront inputs board
front-sound inputs board taken s = record {
  workers = s.workers;
  ready = s.ready;
  named = s.named;
  no_stops = s.no_stops;
  later = lines_in (drop taken inputs.script);
  in_order =
      ap lines_in (sym (take-append-drop taken inputs.script))
      ∙ (map-append (λ (line : Line). line.number) (take taken inputs.script) (drop taken inputs.script)
      ∙ ap (λ (ls : List ℕ). ls ++ lines_in (drop taken inputs.script)) (sym s.in_order));
}

pub front-worked : (inputs : Inputs) (old new : BoardModel) → IsWorked old new → IsFront inputs old → IsFront inputs new
front-worked inputs old new w f = record {
  workers = w.grown.workers ∙ f.workers;
  ready = f.ready;
  named = worked-named inputs old new w f.named;
  later = f.later;
  in_order = f.in_order ∙ ap (λ (ls : List ℕ). ls ++ f.later) (sym (worked-lines old new w));
  no_stops = no-stops-worked old new w f.no_stops;
}
