-- Queries without their end have lines of their own.
use Rattle.std.proofs.Common.{◌≡◌, ℕ, ◌≤◌, ◌<◌, ◌==◌, not, Option, Some, None, List, [], ◌∷◌, ◌++◌, length, refl, sym, subst, ◌∙◌, inl, inr, arith}
use Rattle.std.specs.Prelude.{filter, find}
use Rattle.std.proofs.lemmas.Bool.{cases_eq}
use Rattle.flight_laws.specs.OpenLines.{AreOpenLines, open_count}
use Rattle.flight_laws.proofs.Counted.{found_key, one_le, other_key, times_filter, times_gone, times_push}
use Rattle.job_machine.specs.declared.state.Ended.{Ended}
use Rattle.job_machine.specs.declared.state.Ended.TheVariants as ended
use Rattle.run_history.specs.Commands.{Command, Turn}
use Rattle.run_history.specs.Commands.Command.{Load, Submit, Drop, Steer, Ask, Note}
use Rattle.run_history.specs.Commands.Turn.{Takes, Claims, StepEnds, QueryTakes, QueryEnds}
use Rattle.run_history.specs.Cubes.{CubeSemantics}
use Rattle.run_history.specs.Histories.{Along, Allowed}
use Rattle.run_history.specs.Sets.{ReadySet}
use Rattle.run_history.specs.Steps.{step, world, end_by, without_claim, steered, accepted, claimed, ended_as, step_ended, query_taken, query_ended, by_verdict, steps_of}
use Rattle.run_history.specs.Verdicts.{verdict}
use Rattle.run_history.specs.World.{Submitted, Waiting, Asked, World, start, number, job_of}
use Rattle.run_history.specs.declared.command.Control.{Control}
use Rattle.run_history.specs.declared.event.Outcome.{Outcome}
use Rattle.run_history.specs.declared.event.QueryOut.{QueryOut}
use Rattle.run_history.specs.declared.refused.Refused.{Refused}
use Rattle.run_history.proofs.Laws.{reached}

module _ {Query : Type 0} where
  abbrev HaveLines : World Query → Type 0
  HaveLines w = AreOpenLines w.line w.waiting w.asked

  -- a later last line
  lines_later : (last next : ℕ) (waits : List (Waiting Query)) (flies : List (Asked Query)) → last ≤ next → AreOpenLines last waits flies → AreOpenLines next waits flies
  lines_later last next waits flies le h = record { each_once = h.each_once; taken = λ line lt. h.taken line (omega arith) }

  -- a query more, of the last line
  lines_asked : (waits : List (Waiting Query)) (flies : List (Asked Query)) (new : Waiting Query) → open_count new.line waits flies ≡ 0 → AreOpenLines new.line waits flies → AreOpenLines new.line (waits ++ new ∷ []) flies
  lines_asked waits flies new none h = record {
    each_once = λ line. elim (cases_eq line new.line) [
      | inl same ↦ subst (λ (n : ℕ). open_count n (waits ++ new ∷ []) flies ≤ 1) (sym same) (omega (arith, times_push (λ (q : Waiting Query). q.line) new.line waits new, none, one_le (new.line == new.line)))
      | inr other ↦ omega (arith, times_push (λ (q : Waiting Query). q.line) line waits new, h.each_once line, other_key new.line line (λ same. other (sym same)))
    ];
    taken = λ line lt. omega (arith, times_push (λ (q : Waiting Query). q.line) line waits new, h.taken line lt, other_key new.line line (λ same. different line new.line lt same));
  }
    where
      different : (n m : ℕ) → m < n → m ≡ n → ⊥
      different n m lt same = absurd (omega arith)

  -- one that waited is in flight
  lines_moved : (last line : ℕ) (waits : List (Waiting Query)) (flies : List (Asked Query)) (q : Waiting Query) (at : ℕ) → find (λ x. x.line == line) waits ≡ Some q → AreOpenLines last waits flies
      → AreOpenLines last (filter (λ x. not (x.line == line)) waits) (flies ++ record { waiting = q; at_take = at } ∷ [])
  lines_moved last line waits flies q at e h = record {
    each_once = λ n. omega (arith, no_more n, h.each_once n);
    taken = λ n lt. omega (arith, no_more n, h.taken n lt);
  }
    where
      no_more : (n : ℕ) → open_count n (filter (λ x. not (x.line == line)) waits) (flies ++ record { waiting = q; at_take = at } ∷ []) ≤ open_count n waits flies
      no_more n =
          let found = found_key (λ (x : Waiting Query). x.line) line waits q e in
          elim (cases_eq n line) [
            | inl same ↦ subst (λ (m : ℕ). open_count m (filter (λ x. not (x.line == line)) waits) (flies ++ record { waiting = q; at_take = at } ∷ []) ≤ open_count m waits flies) (sym same)
                (omega (arith, times_gone (λ (x : Waiting Query). x.line) line waits, times_push (λ (x : Asked Query). x.waiting.line) line flies (record { waiting = q; at_take = at }), one_le (q.line == line), found.1))
            | inr other ↦ omega (
              arith,
              times_filter (λ (x : Waiting Query). x.line) (λ x. not (x.line == line)) n waits,
              times_push (λ (x : Asked Query). x.waiting.line) n flies (record { waiting = q; at_take = at }),
              other_key q.line n (λ same. other (sym same ∙ found.0)),
            )
          ]

  lines_taken : (w : World Query) (line : ℕ) (o : Option (Waiting Query)) → find (λ q. q.line == line) w.waiting ≡ o → HaveLines w → HaveLines (query_taken w line o)
  lines_taken w line None e h = h
  lines_taken w line (Some q) e h = lines_moved w.line line w.waiting w.asked q (number w) e h

  lines_ended : (w : World Query) (line : ℕ) (out : QueryOut) (o : Option (Asked Query)) → HaveLines w → HaveLines (query_ended w line out o)
  lines_ended w line out None h = h
  lines_ended w line out (Some q) h = record {
    each_once = λ n. omega (arith, times_filter (λ (x : Asked Query). x.waiting.line) (λ x. not (x.waiting.line == line)) n w.asked, h.each_once n);
    taken = λ n lt. omega (arith, times_filter (λ (x : Asked Query). x.waiting.line) (λ x. not (x.waiting.line == line)) n w.asked, h.taken n lt);
  }

  lines_steered : (w : World Query) (control : Control) (n : ℕ) (o : Option Submitted) → HaveLines w → HaveLines (steered w control n o)
  lines_steered w control n None h = h
  lines_steered w control n (Some s) h = h

  lines_accepted : (w : World Query) (steps : ℕ) (command : Command Query) → open_count w.line w.waiting w.asked ≡ 0 → HaveLines w → HaveLines (accepted steps w command)
  lines_accepted w steps (Load table rows) none h = h
  lines_accepted w steps (Submit kind r) none h = h
  lines_accepted w steps (Drop r) none h = h
  lines_accepted w steps (Steer control n) none h = lines_steered w control n (job_of w n) h
  lines_accepted w steps (Ask session query) none h = lines_asked w.waiting w.asked (record { line = w.line; session = session; query = query; at_command = number w }) none h
  lines_accepted w steps (Note noted) none h = h

  lines_verdict : (w : World Query) (steps : ℕ) (command : Command Query) (o : Option Refused) → open_count w.line w.waiting w.asked ≡ 0 → HaveLines w → HaveLines (by_verdict o steps w command)
  lines_verdict w steps command (Some r) none h = h
  lines_verdict w steps command None none h = lines_accepted w steps command none h

  lines_claimed : (w : World Query) (n attempt : ℕ) (o : Option Submitted) → HaveLines w → HaveLines (claimed w n attempt o)
  lines_claimed w n attempt None h = h
  lines_claimed w n attempt (Some s) h = h

  lines_end : (w : World Query) (n : ℕ) (s : Submitted) (how : Ended) → HaveLines w → HaveLines (ended_as how w n s)
  lines_end w n s ended.Stale h = h
  lines_end w n s ended.Advanced h = h
  lines_end w n s ended.Finished h = h
  lines_end w n s ended.Failed h = h

  lines_step : (w : World Query) (n attempt : ℕ) (out : Outcome) (o : Option Submitted) → HaveLines w → HaveLines (step_ended w n attempt out o)
  lines_step w n attempt out None h = h
  lines_step w n attempt out (Some s) h = lines_end w n s (end_by out s.job attempt) h

module _ {Query Answer : Type 0} (cube : CubeSemantics Query Answer) where
  pub keeps_lines : (w : World Query) (turn : Turn Query) → Allowed w turn → HaveLines w → HaveLines (step cube w turn)
  keeps_lines w (Takes line command) a h =
      lines_verdict (record w { line = line }) (steps_of cube command) command (verdict cube w command) (h.taken line a.0) (lines_later w.line line w.waiting w.asked (omega (arith, a.0)) h)
  keeps_lines w (Claims n attempt) a h = lines_claimed w n attempt (job_of w n) h
  keeps_lines w (StepEnds n attempt out) a h = lines_step (record w { steps = without_claim n attempt w.steps }) n attempt out (job_of w n) h
  keeps_lines w (QueryTakes line) a h = lines_taken w line (find (λ q. q.line == line) w.waiting) refl h
  keeps_lines w (QueryEnds line out) a h = lines_ended w line out (find (λ q. q.waiting.line == line) w.asked) h

  pub lines_world : (workers : ℕ) (initial : ReadySet) (turns : List (Turn Query)) → Along cube Allowed (start workers (length cube.tables) initial) turns
      → AreOpenLines (world cube workers initial turns).line (world cube workers initial turns).waiting (world cube workers initial turns).asked
  lines_world workers initial turns legal =
      reached cube HaveLines keeps_lines (start workers (length cube.tables) initial) turns (record { each_once = λ line. omega arith; taken = λ line lt. refl }) legal
