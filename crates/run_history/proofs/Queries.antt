-- The versions of queries and answers over every legal and fresh history.
use Rattle.std.proofs.Common.{◌≡◌, ◌≢◌, ℕ, zero, suc, ◌≤◌, Bool, true, false, cond, not, ◌==◌, Option, Some, None, List, [], ◌∷◌, ◌++◌, length, refl, sym, subst, arith, length-append}
use Rattle.std.specs.Prelude.{AllPairs, filter, find, ⊤}
use Rattle.std.proofs.lemmas.Bool.{eqb-false, ne_eqb}
use Rattle.job_machine.specs.declared.state.Ended.{Ended}
use Rattle.job_machine.specs.declared.state.Ended.TheVariants as ended
use Rattle.run_history.specs.Commands.{Command, Turn}
use Rattle.run_history.specs.Commands.Command.{Load, Submit, Drop, Steer, Ask, Note}
use Rattle.run_history.specs.Commands.Turn.{Takes, Claims, StepEnds, QueryTakes, QueryEnds}
use Rattle.run_history.specs.Cubes.{CubeSemantics}
use Rattle.run_history.specs.Histories.{Along, Allowed, IsFresh, IsLawful, IsNextOfSession}
use Rattle.run_history.specs.Invariants.{AreQueries}
use Rattle.run_history.specs.Sets.{ReadySet}
use Rattle.run_history.specs.Steps.{step, world, end_by, without_claim, steered, accepted, claimed, ended_as, step_ended, query_taken, query_ended, answered_as, by_verdict, steps_of}
use Rattle.run_history.specs.Verdicts.{verdict}
use Rattle.run_history.specs.World.{Submitted, Waiting, Asked, World, start, number, job_of}
use Rattle.run_history.specs.declared.command.Control.{Control}
use Rattle.run_history.specs.declared.event.Outcome.{Outcome}
use Rattle.run_history.specs.declared.event.QueryOut.{QueryOut}
use Rattle.run_history.specs.declared.event.QueryOut.TheVariants.{Answered, Memory as NoAnswer}
use Rattle.run_history.specs.declared.refused.Refused.{Refused}
use Rattle.run_history.proofs.Laws.{reached_along, Along-both}
use Rattle.run_history.proofs.Lists.{Every, every_map, every_filter, every_append, any_false, cond_at_false, to_all, from_all}

-- ---- lists

abbrev EveryPair : {X : Type 0} → (X → X → Type 0) → List X → Type 0
EveryPair R [] = ⊤
EveryPair R (x ∷ xs) = Every (R x) xs × EveryPair R xs

to_pairs : {X : Type 0} (R : X → X → Type 0) (xs : List X) → EveryPair R xs → AllPairs R xs
to_pairs R [] h i j d lt within = absurd (omega arith)
to_pairs R (x ∷ xs) h i zero d lt within = absurd (omega arith)
to_pairs R (x ∷ xs) h zero (suc j) d lt within = to_all (R x) xs h.0 j d (omega arith)
to_pairs R (x ∷ xs) h (suc i) (suc j) d lt within = to_pairs R xs h.1 i j d (omega arith) (omega arith)

every_part : {X : Type 0} (P : X → Type 0) (test : X → Bool) (xs : List X) → Every P xs → Every P (filter test xs)
every_part P test xs h = every_map (λ x. P x × (test x ≡ true)) P (filter test xs) (λ x k. k.0) (every_filter P test xs h)

pair_cond : {X : Type 0} (R : X → X → Type 0) (b : Bool) (x : X) (l : List X) → Every (R x) l → EveryPair R l → EveryPair R (cond b (x ∷ l) l)
pair_cond R true x l e h = (e, h)
pair_cond R false x l e h = h

pair_part : {X : Type 0} (R : X → X → Type 0) (test : X → Bool) (xs : List X) → EveryPair R xs → EveryPair R (filter test xs)
pair_part R test [] h = tt
pair_part R test (x ∷ xs) h = pair_cond R (test x) x (filter test xs) (every_part (R x) test xs h.0) (pair_part R test xs h.1)

pair_push : {X : Type 0} (R : X → X → Type 0) (xs : List X) (new : X) → Every (λ x. R x new) xs → EveryPair R xs → EveryPair R (xs ++ new ∷ [])
pair_push R [] new e h = (tt, tt)
pair_push R (x ∷ xs) new e h = (every_append (R x) xs (new ∷ []) h.0 (e.0, tt), pair_push R xs new e.1 h.1)

found_first : {X : Type 0} (P : X → Type 0) (b : Bool) (x q : X) (o : Option X) → P x → (o ≡ Some q → P q) → cond b (Some x) o ≡ Some q → P q
found_first P true x q o p f h = subst P (same h) p
  where
    same : Some x ≡ Some q → x ≡ q
    same e = cc
found_first P false x q o p f h = f h

every_find : {X : Type 0} (P : X → Type 0) (test : X → Bool) (xs : List X) (q : X) → Every P xs → find test xs ≡ Some q → P q
every_find P test [] q h e = cc
every_find P test (x ∷ xs) q h e = found_first P (test x) x q (find test xs) h.0 (every_find P test xs q h.1) e

-- ---- what holds of queries

other_answer : (out : QueryOut) (session other : ℕ) (before : ℕ → ℕ) → other ≢ session → answered_as out session before other ≡ before other
other_answer (Answered version) session other before e = cond_at_false (other == session) version (before other) (ne_eqb other session e)
other_answer NoAnswer session other before e = refl

answer_known : (out : QueryOut) (session last : ℕ) (before : ℕ → ℕ) → ((version : ℕ) → out ≡ Answered version → version ≤ last) → ((s : ℕ) → before s ≤ last) → (s : ℕ) → answered_as out session before s ≤ last
answer_known NoAnswer session last before v h s = h s
answer_known (Answered version) session last before v h s = by (s == session)
  where
    by : (b : Bool) → cond b version (before s) ≤ last
    by true = v version refl
    by false = h s

module _ {Query : Type 0} where
  abbrev is_query : ℕ → Asked Query → Bool
  is_query line q = q.waiting.line == line

  abbrev AreTwo : Asked Query → Asked Query → Type 0
  AreTwo q r = r.waiting.session ≢ q.waiting.session

  abbrev IsTaken : (ℕ → ℕ) → ℕ → Asked Query → Type 0
  IsTaken answered last q = (q.waiting.at_command ≤ q.at_take) × (answered q.waiting.session ≤ q.at_take) × (q.at_take ≤ last)

  record Queries (answers : ℕ → ℕ) (last : ℕ) (waits : List (Waiting Query)) (flies : List (Asked Query)) : Type 0 where
    last_answers : (session : ℕ) → answers session ≤ last
    commands : Every (λ q. q.at_command ≤ last) waits
    takes : Every (IsTaken answers last) flies
    sessions : EveryPair AreTwo flies

  abbrev HaveVersions : World Query → Type 0
  HaveVersions w = Queries w.answered (number w) w.waiting w.asked

  later : (answers : ℕ → ℕ) (last next : ℕ) (waits : List (Waiting Query)) (flies : List (Asked Query)) → last ≤ next → Queries answers last waits flies → Queries answers next waits flies
  later answers last next waits flies le h = record {
    last_answers = λ session. omega (arith, h.last_answers session);
    commands = every_map (λ q. q.at_command ≤ last) (λ q. q.at_command ≤ next) waits (λ q k. omega (arith, k)) h.commands;
    takes = every_map (IsTaken answers last) (IsTaken answers next) flies (λ q k. (k.0, k.1, omega (arith, k.2))) h.takes;
    sessions = h.sessions;
  }

  -- a query less: those that stay are of other sessions
  others_of : (line : ℕ) (xs : List (Asked Query)) (q : Asked Query) → EveryPair AreTwo xs → find (is_query line) xs ≡ Some q → Every (λ r. r.waiting.session ≢ q.waiting.session) (filter (λ r. not (r.waiting.line == line)) xs)
  others_of line [] q h e = tt
  others_of line (x ∷ xs) q h e = by (is_query line x) (others_of line xs q h.1) e
    where
      same : (a b : Asked Query) → Some a ≡ Some b → a ≡ b
      same a b f = cc

      by : (b : Bool) → (find (is_query line) xs ≡ Some q → Every (λ r. r.waiting.session ≢ q.waiting.session) (filter (λ r. not (r.waiting.line == line)) xs)) → cond b (Some x) (find (is_query line) xs) ≡ Some q
          → Every (λ r. r.waiting.session ≢ q.waiting.session) (cond (not b) (x ∷ filter (λ r. not (r.waiting.line == line)) xs) (filter (λ r. not (r.waiting.line == line)) xs))
      by true rest f = subst (λ (y : Asked Query). Every (λ r. r.waiting.session ≢ y.waiting.session) (filter (λ r. not (r.waiting.line == line)) xs)) (same x q f) (every_part (λ r. r.waiting.session ≢ x.waiting.session) (λ r. not (r.waiting.line == line)) xs h.0)
      by false rest f = ((λ e2. every_find (λ r. r.waiting.session ≢ x.waiting.session) (is_query line) xs q h.0 f (sym e2)), rest f)

  -- ---- turns

  versions_taken : (w : World Query) (line : ℕ) (o : Option (Waiting Query)) → find (λ q. q.line == line) w.waiting ≡ o → IsNextOfSession w o → HaveVersions w → HaveVersions (query_taken w line o)
  versions_taken w line None e next_one h = h
  versions_taken w line (Some q) e next_one h = record {
    last_answers = h.last_answers;
    commands = every_part (λ x. x.at_command ≤ number w) (λ x. not (x.line == line)) w.waiting h.commands;
    takes = every_append (IsTaken w.answered (number w)) w.asked (record { waiting = q; at_take = number w } ∷ []) h.takes ((every_find (λ x. x.at_command ≤ number w) (λ x. x.line == line) w.waiting q h.commands e, h.last_answers q.session, omega arith), tt);
    sessions = pair_push AreTwo w.asked (record { waiting = q; at_take = number w }) (every_map (λ x. (x.waiting.session == q.session) ≡ false) (λ x. q.session ≢ x.waiting.session) w.asked (λ x k same. eqb-false x.waiting.session q.session k (sym same)) (any_false (λ x. x.waiting.session == q.session) w.asked next_one.1)) h.sessions;
  }

  versions_ended : (w : World Query) (line : ℕ) (out : QueryOut) (o : Option (Asked Query)) → find (λ q. q.waiting.line == line) w.asked ≡ o → ((version : ℕ) → out ≡ Answered version → version ≤ number w) → HaveVersions w → HaveVersions (query_ended w line out o)
  versions_ended w line out None e known h = h
  versions_ended w line out (Some q) e known h =
      let stays = filter (λ other. not (other.waiting.line == line)) w.asked in
      record {
        last_answers = answer_known out q.waiting.session (number w) w.answered known h.last_answers;
        commands = h.commands;
        takes = kept stays (every_part (IsTaken w.answered (number w)) (λ other. not (other.waiting.line == line)) w.asked h.takes) (others_of line w.asked q h.sessions e);
        sessions = pair_part AreTwo (λ other. not (other.waiting.line == line)) w.asked h.sessions;
      }
    where
      kept : (l : List (Asked Query)) → Every (IsTaken w.answered (number w)) l → Every (λ r. r.waiting.session ≢ q.waiting.session) l → Every (IsTaken (answered_as out q.waiting.session w.answered) (number w)) l
      kept [] a b = tt
      kept (r ∷ l) a b = ((a.0.0, omega (arith, a.0.1, other_answer out q.waiting.session r.waiting.session w.answered b.0), a.0.2), kept l a.1 b.1)

  more_sets : (w : World Query) → number w ≤ length (w.past ++ w.ready ∷ [])
  more_sets w = omega (arith, length-append w.past (w.ready ∷ []))

  versions_steered : (w : World Query) (control : Control) (n : ℕ) (o : Option Submitted) → HaveVersions w → HaveVersions (steered w control n o)
  versions_steered w control n None h = h
  versions_steered w control n (Some s) h = h

  versions_accepted : (w : World Query) (steps : ℕ) (command : Command Query) → HaveVersions w → HaveVersions (accepted steps w command)
  versions_accepted w steps (Load table rows) h = h
  versions_accepted w steps (Submit kind r) h = h
  versions_accepted w steps (Drop r) h = later w.answered (number w) (length (w.past ++ w.ready ∷ [])) w.waiting w.asked (more_sets w) h
  versions_accepted w steps (Steer control n) h = versions_steered w control n (job_of w n) h
  versions_accepted w steps (Ask session query) h = record {
    last_answers = h.last_answers;
    commands = every_append (λ q. q.at_command ≤ number w) w.waiting (record { line = w.line; session = session; query = query; at_command = number w } ∷ []) h.commands (omega arith, tt);
    takes = h.takes;
    sessions = h.sessions;
  }
  versions_accepted w steps (Note noted) h = h

  versions_verdict : (w : World Query) (steps : ℕ) (command : Command Query) (o : Option Refused) → HaveVersions w → HaveVersions (by_verdict o steps w command)
  versions_verdict w steps command (Some r) h = h
  versions_verdict w steps command None h = versions_accepted w steps command h

  versions_claimed : (w : World Query) (n attempt : ℕ) (o : Option Submitted) → HaveVersions w → HaveVersions (claimed w n attempt o)
  versions_claimed w n attempt None h = h
  versions_claimed w n attempt (Some s) h = h

  versions_end : (w : World Query) (n : ℕ) (s : Submitted) (how : Ended) → HaveVersions w → HaveVersions (ended_as how w n s)
  versions_end w n s ended.Stale h = h
  versions_end w n s ended.Advanced h = h
  versions_end w n s ended.Finished h = later w.answered (number w) (length (w.past ++ w.ready ∷ [])) w.waiting w.asked (more_sets w) h
  versions_end w n s ended.Failed h = h

  versions_step : (w : World Query) (n attempt : ℕ) (out : Outcome) (o : Option Submitted) → HaveVersions w → HaveVersions (step_ended w n attempt out o)
  versions_step w n attempt out None h = h
  versions_step w n attempt out (Some s) h = versions_end w n s (end_by out s.job attempt) h

  known_version : (w : World Query) (o : Option (Asked Query)) (version : ℕ) → IsLawful w o version → version ≤ number w
  known_version w None version h = absurd h
  known_version w (Some q) version h = h.3

  known_out : (w : World Query) (line : ℕ) (out : QueryOut) → IsFresh w (QueryEnds line out) → (version : ℕ) → out ≡ Answered version → version ≤ number w
  known_out w line NoAnswer fresh version e = cc
  known_out w line (Answered v) fresh version e = subst (λ (x : ℕ). x ≤ number w) (same e) (known_version w (find (λ q. q.waiting.line == line) w.asked) v fresh)
    where
      same : Answered v ≡ Answered version → v ≡ version
      same f = cc

  -- the version at which a query in flight was taken is lawful at its end
  pub take_lawful : (w : World Query) → AreQueries w → (line : ℕ) (q : Asked Query) → find (λ other. other.waiting.line == line) w.asked ≡ Some q → IsLawful w (Some q) q.at_take
  take_lawful w h line q e =
      let k = every_find (IsTaken w.answered (number w)) (is_query line) w.asked q (from_all (IsTaken w.answered (number w)) w.asked h.takes) e in
      (k.0, omega arith, k.1, k.2)

module _ {Query Answer : Type 0} (cube : CubeSemantics Query Answer) where
  keeps_versions : (w : World Query) (turn : Turn Query) → Allowed w turn × IsFresh w turn → HaveVersions w → HaveVersions (step cube w turn)
  keeps_versions w (Takes line command) a h = versions_verdict (record w { line = line }) (steps_of cube command) command (verdict cube w command) h
  keeps_versions w (Claims n attempt) a h = versions_claimed w n attempt (job_of w n) h
  keeps_versions w (StepEnds n attempt out) a h = versions_step (record w { steps = without_claim n attempt w.steps }) n attempt out (job_of w n) h
  keeps_versions w (QueryTakes line) a h = versions_taken w line (find (λ q. q.line == line) w.waiting) refl a.0.1 h
  keeps_versions w (QueryEnds line out) a h = versions_ended w line out (find (λ q. q.waiting.line == line) w.asked) refl (known_out w line out a.1) h

  pub queries_world : (workers : ℕ) (initial : ReadySet) (turns : List (Turn Query)) → Along cube Allowed (start workers (length cube.tables) initial) turns → Along cube IsFresh (start workers (length cube.tables) initial) turns → AreQueries (world cube workers initial turns)
  queries_world workers initial turns legal fresh =
      let w = world cube workers initial turns in
      let h : HaveVersions w = reached_along cube (λ w turn. Allowed w turn × IsFresh w turn) HaveVersions keeps_versions (start workers (length cube.tables) initial) turns
      (record { last_answers = λ session. omega arith; commands = tt; takes = tt; sessions = tt }) (Along-both cube Allowed IsFresh (start workers (length cube.tables) initial) turns legal fresh) in
      record {
        last_answers = h.last_answers;
        commands = to_all (λ q. q.at_command ≤ number w) w.waiting h.commands;
        takes = to_all (IsTaken w.answered (number w)) w.asked h.takes;
        sessions = to_pairs AreTwo w.asked h.sessions;
      }
