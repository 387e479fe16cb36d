-- Each line has as many open entries as queries without their end.
use Rattle.std.proofs.Common.{◌≡◌, ◌≢◌, ℕ, ◌+◌, ◌≤◌, ◌==◌, Bool, true, false, cond, not, Option, Some, None, List, [], ◌∷◌, ◌++◌, fold, length, refl, sym, ap, ◌∙◌, subst, inl, inr, arith, count_by}
use Rattle.std.specs.Prelude.{filter, find}
use Rattle.std.proofs.lemmas.Bool.{cases_eq, eq-eqb, eqb-true, ne_eqb}
use Rattle.std.proofs.lemmas.List.Sums.{sum_by-cons, sum_by_push}
use Rattle.flight_laws.specs.OpenLines.{AreOpenLines, open_count}
use Rattle.flight_laws.proofs.Counted.{found_key, one_if, other_key, times, times_gone, times_other, times_push}
use Rattle.flight_laws.proofs.Lines.{keeps_lines}
use Rattle.job_machine.specs.declared.state.Ended.{Ended}
use Rattle.job_machine.specs.declared.state.Ended.TheVariants as ended
use Rattle.run_history.specs.Commands.{Command, Turn}
use Rattle.run_history.specs.Commands.Command.{Load, Submit, Drop, Steer, Ask, Note}
use Rattle.run_history.specs.Commands.Turn.{Takes, Claims, StepEnds, QueryTakes, QueryEnds}
use Rattle.run_history.specs.Histories.{Along, Allowed}
use Rattle.run_history.specs.Steps as steps
use Rattle.run_history.specs.Steps.{step, end_by, without_claim, steered, accepted, claimed, ended_as, step_ended, query_taken, by_verdict, steps_of}
use Rattle.run_history.specs.Verdicts.{verdict}
use Rattle.run_history.specs.World.{Submitted, Waiting, Asked, World, start, number, job_of}
use Rattle.run_history.specs.declared.command.Control.{Control}
use Rattle.run_history.specs.declared.event.Event.{Event}
use Rattle.run_history.specs.declared.event.Outcome.{Outcome}
use Rattle.run_history.specs.declared.event.QueryOut.{QueryOut}
use Rattle.run_history.specs.declared.refused.Refused.{Refused}
use Rattle.script_text.specs.declared.block.Block.{Block}
use Rattle.script_text.specs.declared.verb.Line.{Line}
use Rattle.script_text.specs.declared.verb.Verb.{Verb}
use Rattle.run_transcript.specs.Entries.{Entry, accepted_entry, answer_block, entries_after, entries_along, entry_by, filled, filled_entry, query_ended}
use Rattle.run_transcript.specs.Entries.Entry.{Told, Open}
use Rattle.entry_laws.specs.OpenEntries.{is_open_at, open_entries}
use Rattle.run_transcript.specs.Runs.{IsLegal, turns_of, world_of}
use Rattle.run_transcript.specs.Served.{Inputs, Served, verb_at}
use Rattle.run_transcript.specs.Transcripts.{entries_of}

-- ---- entries

opened_push : (line : ℕ) (entries : List Entry) (entry : Entry) → open_entries line (entries ++ entry ∷ []) ≡ open_entries line entries + one_if (is_open_at line entry)
opened_push line entries entry = sum_by_push (λ e. one_if (is_open_at line e)) entries entry

opened_cons : (line : ℕ) (entry : Entry) (entries : List Entry) → open_entries line (entry ∷ entries) ≡ one_if (is_open_at line entry) + open_entries line entries
opened_cons line entry entries = sum_by-cons (λ e. one_if (is_open_at line e)) entry entries

-- the entries of a line are told, and those of other lines stay
filled_one : (line : ℕ) (said : Block) (entry : Entry) → one_if (is_open_at line (filled_entry line said entry)) ≡ 0
filled_one line said (Told other block) = refl
filled_one line said (Open other) = by (other == line) refl
  where
    by : (b : Bool) → (other == line) ≡ b → one_if (is_open_at line (cond b (Told line said) (Open other))) ≡ 0
    by true e = refl
    by false e = ap (λ b. one_if b) e

filled_away : (line n : ℕ) (said : Block) (entry : Entry) → n ≢ line → one_if (is_open_at n (filled_entry line said entry)) ≡ one_if (is_open_at n entry)
filled_away line n said (Told other block) away = refl
filled_away line n said (Open other) away = by (other == line) refl
  where
    by : (b : Bool) → (other == line) ≡ b → one_if (is_open_at n (cond b (Told line said) (Open other))) ≡ one_if (other == n)
    by true e = sym (other_key other n (λ same. away (sym same ∙ eqb-true other line e)))
    by false e = refl

filled_none : (line : ℕ) (said : Block) (entries : List Entry) → open_entries line (filled line said entries) ≡ 0
filled_none line said [] = refl
filled_none line said (entry ∷ entries) = omega (arith, opened_cons line (filled_entry line said entry) (filled line said entries), filled_one line said entry, filled_none line said entries)

filled_others : (line n : ℕ) (said : Block) (entries : List Entry) → n ≢ line → open_entries n (filled line said entries) ≡ open_entries n entries
filled_others line n said [] away = refl
filled_others line n said (entry ∷ entries) away =
    omega (arith, opened_cons n (filled_entry line said entry) (filled line said entries), opened_cons n entry entries, filled_away line n said entry away, filled_others line n said entries away)

-- ---- turns

module _ {Query : Type 0} where
  -- each line has as many open entries as queries without their end
  abbrev AreOpened : World Query → List Entry → Type 0
  AreOpened w entries = (line : ℕ) → open_entries line entries ≡ open_count line w.waiting w.asked

  opened_told : (w : World Query) (entries : List Entry) (line : ℕ) (said : Block) → AreOpened w entries → AreOpened w (entries ++ Told line said ∷ [])
  opened_told w entries line said h n = omega (arith, opened_push n entries (Told line said), h n)

  opened_asked : (waits : List (Waiting Query)) (flies : List (Asked Query)) (new : Waiting Query) (entries : List Entry) → ((n : ℕ) → open_entries n entries ≡ open_count n waits flies) → (n : ℕ)
      → open_entries n (entries ++ Open new.line ∷ []) ≡ open_count n (waits ++ new ∷ []) flies
  opened_asked waits flies new entries h n = omega (arith, opened_push n entries (Open new.line), times_push (λ (q : Waiting Query). q.line) n waits new, h n)

  -- a query that is taken stays without its end
  count_taken : (last line : ℕ) (waits : List (Waiting Query)) (flies : List (Asked Query)) (q : Waiting Query) (at : ℕ) → find (λ x. x.line == line) waits ≡ Some q → AreOpenLines last waits flies → (n : ℕ)
      → open_count n (filter (λ x. not (x.line == line)) waits) (flies ++ record { waiting = q; at_take = at } ∷ []) ≡ open_count n waits flies
  count_taken last line waits flies q at e h n =
      let found = found_key (λ (x : Waiting Query). x.line) line waits q e in
      elim (cases_eq n line) [
        | inl same ↦ subst (λ (m : ℕ). open_count m (filter (λ x. not (x.line == line)) waits) (flies ++ record { waiting = q; at_take = at } ∷ []) ≡ open_count m waits flies) (sym same)
            (omega (
              arith,
              times_gone (λ (x : Waiting Query). x.line) line waits,
              times_push (λ (x : Asked Query). x.waiting.line) line flies (record { waiting = q; at_take = at }),
              ap (λ b. one_if b) (eq-eqb q.line line found.0),
              found.1,
              h.each_once line,
            ))
        | inr other ↦ omega (
          arith,
          times_other (λ (x : Waiting Query). x.line) line n waits other,
          times_push (λ (x : Asked Query). x.waiting.line) n flies (record { waiting = q; at_take = at }),
          other_key q.line n (λ same. other (sym same ∙ found.0)),
        )
      ]

  -- the query of a line has its end, and its entry is told
  opened_ended : (last line : ℕ) (waits : List (Waiting Query)) (flies : List (Asked Query)) (q : Asked Query) (said : Block) (entries : List Entry) → find (λ x. x.waiting.line == line) flies ≡ Some q → AreOpenLines last waits flies
      → ((n : ℕ) → open_entries n entries ≡ open_count n waits flies) → (n : ℕ) → open_entries n (filled line said entries) ≡ open_count n waits (filter (λ x. not (x.waiting.line == line)) flies)
  opened_ended last line waits flies q said entries e h same_count n =
      let found = found_key (λ (x : Asked Query). x.waiting.line) line flies q e in
      elim (cases_eq n line) [
        | inl same ↦ subst (λ (m : ℕ). open_entries m (filled line said entries) ≡ open_count m waits (filter (λ x. not (x.waiting.line == line)) flies)) (sym same)
            (omega (arith, filled_none line said entries, times_gone (λ (x : Asked Query). x.waiting.line) line flies, found.1, h.each_once line))
        | inr other ↦ omega (arith, filled_others line n said entries other, times_other (λ (x : Asked Query). x.waiting.line) line n flies other, same_count n)
      ]

  opened_taken : (w : World Query) (entries : List Entry) (line : ℕ) (o : Option (Waiting Query)) → find (λ q. q.line == line) w.waiting ≡ o → AreOpenLines w.line w.waiting w.asked → AreOpened w entries → AreOpened (query_taken w line o) entries
  opened_taken w entries line None e lines h n = h n
  opened_taken w entries line (Some q) e lines h n = h n ∙ sym (count_taken w.line line w.waiting w.asked q (number w) e lines n)

  opened_steered : (w : World Query) (control : Control) (n : ℕ) (o : Option Submitted) (entries : List Entry) → AreOpened w entries → AreOpened (steered w control n o) entries
  opened_steered w control n None entries h = h
  opened_steered w control n (Some s) entries h = h

  opened_claimed : (w : World Query) (n attempt : ℕ) (o : Option Submitted) (entries : List Entry) → AreOpened w entries → AreOpened (claimed w n attempt o) entries
  opened_claimed w n attempt None entries h = h
  opened_claimed w n attempt (Some s) entries h = h

  opened_end : (w : World Query) (n : ℕ) (s : Submitted) (how : Ended) (entries : List Entry) → AreOpened w entries → AreOpened (ended_as how w n s) entries
  opened_end w n s ended.Stale entries h = h
  opened_end w n s ended.Advanced entries h = h
  opened_end w n s ended.Finished entries h = h
  opened_end w n s ended.Failed entries h = h

  opened_step : (w : World Query) (n attempt : ℕ) (out : Outcome) (o : Option Submitted) (entries : List Entry) → AreOpened w entries → AreOpened (step_ended w n attempt out o) entries
  opened_step w n attempt out None entries h = h
  opened_step w n attempt out (Some s) entries h = opened_end w n s (end_by out s.job attempt) entries h

module _ {Query : Type 0} (served : Served Query) (script : List Line) where
  opened_accepted : (steps : ℕ) (w : World Query) (line : ℕ) (said : Option Verb) (command : Command Query) (entries : List Entry) → AreOpened w entries
      → AreOpened (accepted steps (record w { line = line }) command) (entries ++ accepted_entry served w line said command ∷ [])
  opened_accepted steps w line said (Load place rows) entries h n = omega (arith, opened_push n entries (accepted_entry served w line said (Load place rows)), h n)
  opened_accepted steps w line said (Submit kind range) entries h n = omega (arith, opened_push n entries (accepted_entry served w line said (Submit kind range)), h n)
  opened_accepted steps w line said (Drop range) entries h n = omega (arith, opened_push n entries (accepted_entry served w line said (Drop range)), h n)
  opened_accepted steps w line said (Steer control job) entries h n =
      omega (arith, opened_push n entries (accepted_entry served w line said (Steer control job)), opened_steered (record w { line = line }) control job (job_of w job) entries h n)
  opened_accepted steps w line said (Ask session query) entries h n = opened_asked w.waiting w.asked (record { line = line; session = session; query = query; at_command = number w }) entries h n
  opened_accepted steps w line said (Note noted) entries h n = omega (arith, opened_push n entries (accepted_entry served w line said (Note noted)), h n)

  opened_verdict : (refusal : Option Refused) (steps : ℕ) (w : World Query) (line : ℕ) (said : Option Verb) (command : Command Query) (entries : List Entry) → AreOpened w entries
      → AreOpened (by_verdict refusal steps (record w { line = line }) command) (entries ++ entry_by served refusal w line said command ∷ [])
  opened_verdict (Some refused) steps w line said command entries h n = omega (arith, opened_push n entries (entry_by served (Some refused) w line said command), h n)
  opened_verdict None steps w line said command entries h n = opened_accepted steps w line said command entries h n

  opened_answered : (w : World Query) (line : ℕ) (out : QueryOut) (o : Option (Asked Query)) (entries : List Entry) → find (λ q. q.waiting.line == line) w.asked ≡ o → AreOpenLines w.line w.waiting w.asked → AreOpened w entries
      → AreOpened (steps.query_ended w line out o) (query_ended served w entries line out o)
  opened_answered w line out None entries e lines h = h
  opened_answered w line out (Some q) entries e lines h = opened_ended w.line line w.waiting w.asked q (answer_block served w q out) entries e lines h

  opened_turn : (w : World Query) (turn : Turn Query) (entries : List Entry) → AreOpenLines w.line w.waiting w.asked → AreOpened w entries → AreOpened (step served.cube w turn) (entries_after served script w entries turn)
  opened_turn w (Takes line command) entries lines h = opened_verdict (verdict served.cube w command) (steps_of served.cube command) w line (verb_at script line) command entries h
  opened_turn w (Claims job attempt) entries lines h = opened_claimed w job attempt (job_of w job) entries h
  opened_turn w (StepEnds job attempt out) entries lines h = opened_step (record w { steps = without_claim job attempt w.steps }) job attempt out (job_of w job) entries h
  opened_turn w (QueryTakes line) entries lines h = opened_taken w entries line (find (λ q. q.line == line) w.waiting) refl lines h
  opened_turn w (QueryEnds line out) entries lines h = opened_answered w line out (find (λ q. q.waiting.line == line) w.asked) entries refl lines h

  opened_along : (w : World Query) (turns : List (Turn Query)) (entries : List Entry) → Along served.cube Allowed w turns → AreOpenLines w.line w.waiting w.asked → AreOpened w entries
      → AreOpened (fold (step served.cube) w turns) (entries_along served script w entries turns)
  opened_along w [] entries legal lines h = h
  opened_along w (turn ∷ turns) entries legal lines h =
      opened_along (step served.cube w turn) turns (entries_after served script w entries turn) legal.1 (keeps_lines served.cube w turn legal.0 lines) (opened_turn w turn entries lines h)

module _ {Query : Type 0} (served : Served Query) (inputs : Inputs) where
  pub opened_world : (history : List Event) → IsLegal served inputs history → (line : ℕ)
      → open_entries line (entries_of served inputs history) ≡ open_count line (world_of served inputs history).waiting (world_of served inputs history).asked
  opened_world history legal =
      opened_along served inputs.script (start inputs.workers (length served.cube.tables) inputs.ready) (turns_of served inputs history) [] legal.allowed
      (record { each_once = λ line. omega arith; taken = λ line lt. refl }) (λ line. refl)
