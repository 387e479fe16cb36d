-- Open entries are queries that wait or are in flight, and each command has its entry.
use Rattle.std.proofs.Common.{◌≡◌, ◌+◌, ◌⊎◌, inl, inr, ℕ, Bool, true, false, cond, not, ◌&&◌, ◌||◌, ◌==◌, List, [], ◌∷◌, ◌++◌, Option, Some, None, length, fold, refl, ◌∙◌, subst, arith, length-append, eq-eqb}
use Rattle.std.specs.List.{filter, find, list_any}
use Rattle.std.proofs.lemmas.Bool.{eqb-true}
use Rattle.std.proofs.lemmas.List.{length-map}
use Rattle.std.proofs.lemmas.List.Folds.{list_any-append}
use Rattle.job_machine.specs.declared.state.Ended.{Ended}
use Rattle.job_machine.specs.declared.state.Ended.TheVariants as ended
use Rattle.run_history.specs.Commands.{Command, Turn}
use Rattle.run_history.specs.Commands.Command.{Load, Submit, Drop, Steer, Ask, Note}
use Rattle.run_history.specs.Commands.Turn.{Takes, Claims, StepEnds, QueryTakes, QueryEnds}
use Rattle.run_history.specs.Histories.{is_empty, is_settled}
use Rattle.run_history.specs.Steps as steps
use Rattle.run_history.specs.Steps.{accepted, by_verdict, claimed, end_by, ended_as, query_taken, step, step_ended, steered, steps_of, world, without_claim}
use Rattle.run_history.specs.Verdicts.{verdict}
use Rattle.run_history.specs.World.{Asked, Submitted, Waiting, World, job_of, number, start}
use Rattle.run_history.specs.declared.command.Control.{Control}
use Rattle.run_history.specs.declared.event.Event.{Event}
use Rattle.run_history.specs.declared.event.Event.TheVariants as event
use Rattle.run_history.specs.declared.event.Outcome.{Outcome}
use Rattle.run_history.specs.declared.event.QueryOut.{QueryOut}
use Rattle.run_history.specs.declared.refused.Refused.{Refused}
use Rattle.script_text.specs.declared.block.Block.{Block}
use Rattle.script_text.specs.declared.verb.Line.{Line}
use Rattle.script_text.specs.declared.verb.Verb.{Verb}
use Rattle.run_transcript.specs.Entries.{Entry, accepted_entry, answer_block, entries_after, entries_along, entry_by, entry_of, filled, filled_entry, query_ended}
use Rattle.run_transcript.specs.Entries.Entry.{Told, Open}
use Rattle.run_transcript.specs.Opens.{AreTold, AreUnanswered, is_unanswered}
use Rattle.run_transcript.specs.Runs.{lines_taken, turn_of, turns_of, world_of}
use Rattle.run_transcript.specs.Served.{Inputs, Served, command_at, verb_at}
use Rattle.run_transcript.specs.Transcripts.{entries_of}

-- ---- tests

or_left : (a b : Bool) → a ≡ true → (a || b) ≡ true
or_left true b h = refl
or_left false b h = absurd cc

or_right : (a b : Bool) → b ≡ true → (a || b) ≡ true
or_right true b h = refl
or_right false b h = h

or_cases : (a b : Bool) → (a || b) ≡ true → (a ≡ true) ⊎ (b ≡ true)
or_cases true b h = inl refl
or_cases false b h = inr h

any_kept : {A : Type 0} (test keep : A → Bool) → ((x : A) → test x ≡ true → keep x ≡ true) → (xs : List A) → list_any test xs ≡ true → list_any test (filter keep xs) ≡ true
any_kept test keep h [] e = absurd cc
any_kept test keep h (x ∷ xs) e = split (test x) (keep x) refl refl (any_kept test keep h xs) e where
  split : (t k : Bool) → test x ≡ t → keep x ≡ k → (list_any test xs ≡ true → list_any test (filter keep xs) ≡ true) → (t || list_any test xs) ≡ true
      → list_any test (cond k (x ∷ filter keep xs) (filter keep xs)) ≡ true
  split true true p q next e = or_left (test x) (list_any test (filter keep xs)) p
  split true false p q next e = let kept = h x p in absurd cc
  split false true p q next e = or_right (test x) (list_any test (filter keep xs)) (next e)
  split false false p q next e = next e

found_passes : {A : Type 0} (test : A → Bool) (xs : List A) (x : A) → find test xs ≡ Some x → test x ≡ true
found_passes test [] x e = absurd cc
found_passes {A} test (y ∷ ys) x e = split (test y) refl (found_passes test ys x) e where
  same : Some y ≡ Some x → y ≡ x
  same e = cc

  split : (b : Bool) → test y ≡ b → (find test ys ≡ Some x → test x ≡ true) → cond b (Some y) (find test ys) ≡ Some x → test x ≡ true
  split true p next e = subst (λ (z : A). test z ≡ true) (same e) p
  split false p next e = next e

module _ {Query : Type 0} where
  abbrev waits : ℕ → Waiting Query → Bool
  waits line q = q.line == line

  abbrev flies : ℕ → Asked Query → Bool
  flies line q = q.waiting.line == line

  -- waiting queries and those in flight are as they were
  record SameQueries (old new : World Query) : Type 0 where
    waiting : new.waiting ≡ old.waiting
    asked : new.asked ≡ old.asked

  abbrev Keeps : World Query → World Query → Type 0
  Keeps old new = (line : ℕ) → is_unanswered line old ≡ true → is_unanswered line new ≡ true

  kept_same : (old new : World Query) → SameQueries old new → Keeps old new
  kept_same old new h line e = rw (h.waiting, h.asked) e

  -- ---- entries

  carried : (old new : World Query) → Keeps old new → (entries : List Entry) → AreUnanswered old entries → AreUnanswered new entries
  carried old new keeps [] h = tt
  carried old new keeps (Told line block ∷ entries) h = carried old new keeps entries h
  carried old new keeps (Open line ∷ entries) h = (keeps line h.0, carried old new keeps entries h.1)

  pushed : (w : World Query) (entries more : List Entry) → AreUnanswered w entries → AreUnanswered w more → AreUnanswered w (entries ++ more)
  pushed w [] more h k = k
  pushed w (Told line block ∷ entries) more h k = pushed w entries more h k
  pushed w (Open line ∷ entries) more h k = (h.0, pushed w entries more h.1 k)

  filled_carried : (line : ℕ) (said : Block) (old new : World Query) → ((other : ℕ) → (other == line) ≡ false → is_unanswered other old ≡ true → is_unanswered other new ≡ true)
      → (entries : List Entry) → AreUnanswered old entries → AreUnanswered new (filled line said entries)
  filled_carried line said old new keeps [] h = tt
  filled_carried line said old new keeps (Told other block ∷ entries) h = filled_carried line said old new keeps entries h
  filled_carried line said old new keeps (Open other ∷ entries) h = split (other == line) refl (filled_carried line said old new keeps entries h.1) where
    split : (b : Bool) → (other == line) ≡ b → AreUnanswered new (filled line said entries)
        → AreUnanswered new (cond b (Told line said) (Open other) ∷ filled line said entries)
    split true e rest = rest
    split false e rest = (keeps other e h.0, rest)

  -- ---- turns that leave queries as they are

  same_steered : (w : World Query) (control : Control) (job : ℕ) (found : Option Submitted) → SameQueries w (steered w control job found)
  same_steered w control job None = record { waiting = refl; asked = refl }
  same_steered w control job (Some s) = record { waiting = refl; asked = refl }

  same_claimed : (w : World Query) (job attempt : ℕ) (found : Option Submitted) → SameQueries w (claimed w job attempt found)
  same_claimed w job attempt None = record { waiting = refl; asked = refl }
  same_claimed w job attempt (Some s) = record { waiting = refl; asked = refl }

  same_ended : (e : Ended) (w : World Query) (job : ℕ) (s : Submitted) → SameQueries w (ended_as e w job s)
  same_ended ended.Stale w job s = record { waiting = refl; asked = refl }
  same_ended ended.Advanced w job s = record { waiting = refl; asked = refl }
  same_ended ended.Finished w job s = record { waiting = refl; asked = refl }
  same_ended ended.Failed w job s = record { waiting = refl; asked = refl }

  same_step_ended : (w : World Query) (job attempt : ℕ) (outcome : Outcome) (found : Option Submitted) → SameQueries w (step_ended w job attempt outcome found)
  same_step_ended w job attempt outcome None = record { waiting = refl; asked = refl }
  same_step_ended w job attempt outcome (Some s) = same_ended (end_by outcome s.job attempt) w job s

  -- ---- a query is taken, and ends

  kept_taken : (w : World Query) (line : ℕ) (found : Option (Waiting Query)) → find (waits line) w.waiting ≡ found → Keeps w (query_taken w line found)
  kept_taken w line None e other h = h
  kept_taken w line (Some q) e other h = by (or_cases (list_any (waits other) w.waiting) (list_any (flies other) w.asked) h) where
    passes : (q.line == line) ≡ true
    passes = found_passes (waits line) w.waiting q e

    flying : list_any (flies other) w.asked ≡ true → list_any (flies other) (w.asked ++ record { waiting = q; at_take = number w } ∷ []) ≡ true
    flying k = list_any-append (flies other) w.asked (record { waiting = q; at_take = number w } ∷ []) ∙ or_left (list_any (flies other) w.asked) ((q.line == other) || false) k

    waiting : (b : Bool) → (other == line) ≡ b → list_any (waits other) w.waiting ≡ true → is_unanswered other (query_taken w line (Some q)) ≡ true
    waiting true same k =
        let here : other ≡ line = eqb-true other line same in
        let there : (q.line == other) ≡ true = rw here passes in
        or_right (list_any (waits other) (filter (λ o. not (o.line == line)) w.waiting)) (list_any (flies other) (w.asked ++ record { waiting = q; at_take = number w } ∷ []))
        (list_any-append (flies other) w.asked (record { waiting = q; at_take = number w } ∷ [])
        ∙ or_right (list_any (flies other) w.asked) ((q.line == other) || false) (or_left (q.line == other) false there))
    waiting false apart k =
        or_left (list_any (waits other) (filter (λ o. not (o.line == line)) w.waiting)) (list_any (flies other) (w.asked ++ record { waiting = q; at_take = number w } ∷ []))
        (any_kept (waits other) (λ o. not (o.line == line)) (λ o p. (let same : o.line ≡ other = eqb-true o.line other p in rw (same, apart) refl)) w.waiting k)

    by : (list_any (waits other) w.waiting ≡ true) ⊎ (list_any (flies other) w.asked ≡ true) → is_unanswered other (query_taken w line (Some q)) ≡ true
    by (inl k) = waiting (other == line) refl k
    by (inr k) =
        or_right (list_any (waits other) (filter (λ o. not (o.line == line)) w.waiting)) (list_any (flies other) (w.asked ++ record { waiting = q; at_take = number w } ∷ [])) (flying k)

  kept_answered : (w : World Query) (line : ℕ) (out : QueryOut) (q : Asked Query) (other : ℕ) → (other == line) ≡ false → is_unanswered other w ≡ true
      → is_unanswered other (steps.query_ended w line out (Some q)) ≡ true
  kept_answered w line out q other apart h = by (or_cases (list_any (waits other) w.waiting) (list_any (flies other) w.asked) h) where
    by : (list_any (waits other) w.waiting ≡ true) ⊎ (list_any (flies other) w.asked ≡ true) → is_unanswered other (steps.query_ended w line out (Some q)) ≡ true
    by (inl k) = or_left (list_any (waits other) w.waiting) (list_any (flies other) (filter (λ o. not (o.waiting.line == line)) w.asked)) k
    by (inr k) =
        or_right (list_any (waits other) w.waiting) (list_any (flies other) (filter (λ o. not (o.waiting.line == line)) w.asked))
        (any_kept (flies other) (λ o. not (o.waiting.line == line)) (λ o p. (let same : o.waiting.line ≡ other = eqb-true o.waiting.line other p in rw (same, apart) refl)) w.asked k)

-- ---- every turn

module _ {Query : Type 0} (served : Served Query) (script : List Line) where
  -- a command that was accepted
  command_kept : (n : ℕ) (w : World Query) (line : ℕ) (said : Option Verb) (command : Command Query) (entries : List Entry) → AreUnanswered w entries
      → AreUnanswered (accepted n (record w { line = line }) command) (entries ++ accepted_entry served w line said command ∷ [])
  command_kept n w line said (Load place rows) entries h = pushed w entries (accepted_entry served w line said (Load place rows) ∷ []) h tt
  command_kept n w line said (Submit kind range) entries h = pushed w entries (accepted_entry served w line said (Submit kind range) ∷ []) h tt
  command_kept n w line said (Drop range) entries h = pushed w entries (accepted_entry served w line said (Drop range) ∷ []) h tt
  command_kept n w line said (Steer control job) entries h =
      let same = same_steered (record w { line = line }) control job (job_of w job) in
      pushed (steered (record w { line = line }) control job (job_of w job)) entries (accepted_entry served w line said (Steer control job) ∷ [])
      (carried w (steered (record w { line = line }) control job (job_of w job)) (kept_same w (steered (record w { line = line }) control job (job_of w job)) (record { waiting = same.waiting; asked = same.asked })) entries h) tt
  command_kept n w line said (Ask session query) entries h =
      pushed (accepted n (record w { line = line }) (Ask session query)) entries (Open line ∷ [])
      (carried w (accepted n (record w { line = line }) (Ask session query)) (added (record { line = line; session = session; query = query; at_command = number w }) session query) entries h)
      (here (record { line = line; session = session; query = query; at_command = number w }), tt)
    where
      added : (new : Waiting Query) (session : ℕ) (query : Query) → Keeps w (record w { line = line; waiting = w.waiting ++ new ∷ []; accepted = w.accepted + 1 })
      added new session query other k = by (or_cases (list_any (waits other) w.waiting) (list_any (flies other) w.asked) k) where
        by : (list_any (waits other) w.waiting ≡ true) ⊎ (list_any (flies other) w.asked ≡ true)
            → (list_any (waits other) (w.waiting ++ new ∷ []) || list_any (flies other) w.asked) ≡ true
        by (inl k) =
            or_left (list_any (waits other) (w.waiting ++ new ∷ [])) (list_any (flies other) w.asked)
            (list_any-append (waits other) w.waiting (new ∷ []) ∙ or_left (list_any (waits other) w.waiting) ((new.line == other) || false) k)
        by (inr k) = or_right (list_any (waits other) (w.waiting ++ new ∷ [])) (list_any (flies other) w.asked) k

      here : (new : Waiting Query) → (list_any (waits new.line) (w.waiting ++ new ∷ []) || list_any (flies new.line) w.asked) ≡ true
      here new =
          or_left (list_any (waits new.line) (w.waiting ++ new ∷ [])) (list_any (flies new.line) w.asked)
          (list_any-append (waits new.line) w.waiting (new ∷ [])
          ∙ or_right (list_any (waits new.line) w.waiting) ((new.line == new.line) || false) (or_left (new.line == new.line) false (eq-eqb new.line new.line refl)))
  command_kept n w line said (Note noted) entries h = pushed w entries (accepted_entry served w line said (Note noted) ∷ []) h tt

  taken_kept : (refusal : Option Refused) (n : ℕ) (w : World Query) (line : ℕ) (said : Option Verb) (command : Command Query) (entries : List Entry) → AreUnanswered w entries
      → AreUnanswered (by_verdict refusal n (record w { line = line }) command) (entries ++ entry_by served refusal w line said command ∷ [])
  taken_kept (Some refused) n w line said command entries h = pushed w entries (entry_by served (Some refused) w line said command ∷ []) h tt
  taken_kept None n w line said command entries h = command_kept n w line said command entries h

  ended_kept : (w : World Query) (line : ℕ) (out : QueryOut) (found : Option (Asked Query)) (entries : List Entry) → AreUnanswered w entries
      → AreUnanswered (steps.query_ended w line out found) (query_ended served w entries line out found)
  ended_kept w line out None entries h = h
  ended_kept w line out (Some q) entries h =
      filled_carried line (answer_block served w q out) w (steps.query_ended w line out (Some q)) (kept_answered w line out q) entries h

  turn_kept : (w : World Query) (turn : Turn Query) (entries : List Entry) → AreUnanswered w entries
      → AreUnanswered (step served.cube w turn) (entries_after served script w entries turn)
  turn_kept w (Takes line command) entries h =
      taken_kept (verdict served.cube w command) (steps_of served.cube command) w line (verb_at script line) command entries h
  turn_kept w (Claims job attempt) entries h =
      carried w (claimed w job attempt (job_of w job)) (kept_same w (claimed w job attempt (job_of w job)) (same_claimed w job attempt (job_of w job))) entries h
  turn_kept w (StepEnds job attempt outcome) entries h =
      let less : World Query = record w { steps = without_claim job attempt w.steps } in
      let same = same_step_ended (record w { steps = without_claim job attempt w.steps }) job attempt outcome (job_of w job) in
      carried w (step served.cube w (StepEnds job attempt outcome)) (kept_same w (step served.cube w (StepEnds job attempt outcome)) (record { waiting = same.waiting; asked = same.asked })) entries h
  turn_kept w (QueryTakes line) entries h =
      carried w (query_taken w line (find (waits line) w.waiting)) (kept_taken w line (find (waits line) w.waiting) refl) entries h
  turn_kept w (QueryEnds line out) entries h = ended_kept w line out (find (flies line) w.asked) entries h

  pub along_kept : (w : World Query) (turns : List (Turn Query)) (entries : List Entry) → AreUnanswered w entries
      → AreUnanswered (fold (step served.cube) w turns) (entries_along served script w entries turns)
  along_kept w [] entries h = h
  along_kept w (turn ∷ turns) entries h =
      along_kept (step served.cube w turn) turns (entries_after served script w entries turn) (turn_kept w turn entries h)

-- ---- settled worlds

and_parts : (a b : Bool) → (a && b) ≡ true → (a ≡ true) × (b ≡ true)
and_parts true b h = (refl, h)
and_parts false b h = absurd cc

nothing_in : {A : Type 0} (test : A → Bool) (xs : List A) → is_empty xs ≡ true → list_any test xs ≡ false
nothing_in test [] h = refl
nothing_in test (x ∷ xs) h = absurd cc

settled_none : {Query : Type 0} (w : World Query) (line : ℕ) → is_settled w ≡ true → is_unanswered line w ≡ false
settled_none w line h =
    let last = and_parts (is_empty w.queue && is_empty w.steps && is_empty w.waiting) (is_empty w.asked) h in
    let third = and_parts (is_empty w.queue && is_empty w.steps) (is_empty w.waiting) last.0 in
    rw (nothing_in (λ q. q.line == line) w.waiting third.1, nothing_in (λ q. q.waiting.line == line) w.asked last.1) refl

all_told : {Query : Type 0} (w : World Query) (entries : List Entry) → is_settled w ≡ true → AreUnanswered w entries → AreTold entries
all_told w [] s h = tt
all_told w (Told line block ∷ entries) s h = all_told w entries s h
all_told w (Open line ∷ entries) s h = let none = settled_none w line s in absurd cc

-- ---- histories

module _ {Query : Type 0} (served : Served Query) (inputs : Inputs) where
  pub settled_told : (history : List Event) → is_settled (world_of served inputs history) ≡ true → AreTold (entries_of served inputs history)
  settled_told history s =
      all_told (world_of served inputs history) (entries_of served inputs history) s
      (along_kept served inputs.script (start inputs.workers (length served.cube.tables) inputs.ready) (turns_of served inputs history) [] tt)

  length-ended : (w : World Query) (entries : List Entry) (line : ℕ) (out : QueryOut) (found : Option (Asked Query)) → length (query_ended served w entries line out found) ≡ length entries
  length-ended w entries line out None = refl
  length-ended w entries line out (Some q) = length-map entries (filled_entry line (answer_block served w q out))

  count_along : (w : World Query) (entries : List Entry) (history : List Event)
      → length (entries_along served inputs.script w entries (turns_of served inputs history)) ≡ length entries + length (lines_taken history)
  count_along w entries [] = omega arith
  count_along w entries (event.Command line ∷ history) =
      let rest = count_along (step served.cube w (turn_of served inputs (event.Command line))) (entries_after served inputs.script w entries (turn_of served inputs (event.Command line))) history in
      omega (arith, rest, length-append entries (entry_of served w line (verb_at inputs.script line) (command_at served inputs line) ∷ []))
  count_along w entries (event.Claim job attempt ∷ history) = count_along (step served.cube w (Claims job attempt)) entries history
  count_along w entries (event.StepEnd job attempt outcome ∷ history) = count_along (step served.cube w (StepEnds job attempt outcome)) entries history
  count_along w entries (event.QueryTake line ∷ history) = count_along (step served.cube w (QueryTakes line)) entries history
  count_along w entries (event.QueryEnd line out ∷ history) =
      let rest = count_along (step served.cube w (QueryEnds line out)) (query_ended served w entries line out (find (flies line) w.asked)) history in
      omega (arith, rest, length-ended w entries line out (find (flies line) w.asked))

  pub count_entries : (history : List Event) → length (entries_of served inputs history) ≡ length (lines_taken history)
  count_entries history = omega (arith, count_along (start inputs.workers (length served.cube.tables) inputs.ready) [] history)
