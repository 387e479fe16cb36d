-- A query from its command to its end, in a world in which nothing is in flight.
use Rattle.std.proofs.Common.{◌≡◌, ℕ, ◌≤◌, ◌<◌, ◌⊎◌, Bool, true, false, cond, not, ◌||◌, ◌==◌, Option, Some, None, List, [], ◌∷◌, ◌++◌, length, slice_get, take, unwrap_or, refl, sym, ap, ◌∙◌, subst, inl, inr, arith, eq-eqb}
use Rattle.std.specs.Prelude.{filter, find}
use Rattle.std.specs.List.{list_any}
use Rattle.job_board.specs.Ledger.{AreCellsOf, cube, only_query}
use Rattle.job_board.specs.BoardModel.{IsAdded, IsSame, BoardModel, next_query, now}
use Rattle.job_board.specs.declared.answers.QueryWork.{QueryWork}
use Rattle.plain_answer.specs.declared.ask.Ask.{Ask as Query}
use Rattle.run_history.specs.Commands.{Command}
use Rattle.run_history.specs.Commands.Command.{Ask}
use Rattle.run_history.specs.Commands.Turn.{Takes, QueryTakes, QueryEnds}
use Rattle.run_history.specs.Histories.{Along, IsFresh, IsInFlight, IsLawful}
use Rattle.run_history.specs.Sets.{ReadySet, rows_of}
use Rattle.run_history.specs.Steps.{answered_as, query_ended, query_taken, step}
use Rattle.run_history.specs.World.{Asked, Waiting, World, busy, number, set_at}
use Rattle.run_history.specs.declared.event.QueryOut.{QueryOut}
use Rattle.run_history.specs.declared.event.QueryOut.TheVariants.{Answered, Memory as NoAnswer}
use Rattle.run_inputs.specs.declared.inputs.LoadedTable.{LoadedTable}
use Rattle.run_transcript.specs.Entries.{Entry, answer_block, entries_along, filled, query_ended as query_told}
use Rattle.run_transcript.specs.Entries.Entry.{Told, Open}
use Rattle.run_transcript.specs.Opens.{AreTold}
use Rattle.run_transcript.specs.Served.{command_of, command_at}
use Rattle.script_text.specs.declared.block.Block.{Block}
use Rattle.script_text.specs.declared.block.Block.TheVariants as block
use Rattle.script_text.specs.declared.verb.Line.{Line}
use Rattle.coordinator.specs.Answers.{CanEnd, IsAccepted, IsAnswerOf, IsAnswerOver, IsTakenQuery}
use Rattle.coordinator.specs.Coordinator.{AreNotInFlight, IsGrown, IsIdle, IsSound, RisesFrom, asked_turns, entries_in, inputs_in}
use Rattle.coordinator.specs.Runs.{IsOverNone}
use Rattle.coordinator.specs.Served.{rows_at, served}
use Rattle.coordinator.specs.ExecutedLines.{IsQuery}
use Rattle.coordinator.proofs.Boards.{entries-grown, grown-added, grown-same, grown-then, now-grown, trusted-grown}
use Rattle.coordinator.proofs.Tells.{TellsLine}
use Rattle.coordinator.proofs.Scripts.{command_found}

-- the query as it waits
abbrev pub waiting_now : World Query → ℕ → ℕ → Waiting Query
waiting_now w line session = record { line = line; session = session; query = only_query; at_command = number w }

abbrev pub asked_now : World Query → ℕ → ℕ → Asked Query
asked_now w line session = record { waiting = waiting_now w line session; at_take = number w }

-- the worlds after its command, its taking and its end
abbrev pub accepted_world : World Query → ℕ → ℕ → World Query
accepted_world w line session = step cube w (Takes line (Ask session only_query))

abbrev pub taken_world : World Query → ℕ → ℕ → World Query
taken_world w line session = step cube (accepted_world w line session) (QueryTakes line)

get_end : {X : Type 0} (xs : List X) (x : X) → slice_get (xs ++ x ∷ []) (length xs) ≡ Some x
get_end [] x = refl
get_end (y ∷ xs) x = get_end xs x

filled_push : (line : ℕ) (said : Block) (entries : List Entry) → AreTold entries → filled line said (entries ++ Open line ∷ []) ≡ entries ++ Told line said ∷ []
filled_push line said [] h = ap (λ (t : Bool). cond t (Told line said) (Open line) ∷ []) (eq-eqb line line refl)
filled_push line said (Told other first ∷ entries) h = ap (λ (l : List Entry). Told other first ∷ l) (filled_push line said entries h)
filled_push line said (Open other ∷ entries) h = absurd h

-- the end of a query is over the last set, if it has an answer
abbrev pub IsOutAt : World Query → QueryOut → Type 0
IsOutAt w (Answered version) = version ≡ number w
IsOutAt w NoAnswer = Unit {0}

pub out_over : (honest : Type 0) (w : World Query) (out : QueryOut) (said : Block) → IsAnswerOver honest w out said → IsOutAt w out
out_over honest w (Answered version) said a = a.0
out_over honest w NoAnswer said a = tt

module _ (w : World Query) (line session : ℕ) (i : IsIdle w) where
  pub waits_alone : (accepted_world w line session).waiting ≡ waiting_now w line session ∷ []
  waits_alone = ap (λ (ws : List (Waiting Query)). ws ++ waiting_now w line session ∷ []) i.waiting

  pub none_in_flight : (accepted_world w line session).asked ≡ []
  none_in_flight = i.asked

  -- it is found by its line
  pub found_waiting : find (λ q. q.line == line) (accepted_world w line session).waiting ≡ Some (waiting_now w line session)
  found_waiting =
      ap (find (λ (q : Waiting Query). q.line == line)) waits_alone
      ∙ ap (λ (t : Bool). cond t (Some (waiting_now w line session)) None) (eq-eqb line line refl)

  -- and it is the next one
  pub next_waiting : next_query (accepted_world w line session) ≡ Some (waiting_now w line session)
  next_waiting =
      ap (find (λ (q : Waiting Query). not (list_any (λ (other : Asked Query). other.waiting.session == q.session) (accepted_world w line session).asked))) waits_alone
      ∙ ap (λ (qs : List (Asked Query)). find (λ (q : Waiting Query). not (list_any (λ (other : Asked Query). other.waiting.session == q.session) qs)) (waiting_now w line session ∷ [])) none_in_flight

  taken_is : taken_world w line session ≡ query_taken (accepted_world w line session) line (Some (waiting_now w line session))
  taken_is = ap (query_taken (accepted_world w line session) line) found_waiting

  pub flies_alone : (taken_world w line session).asked ≡ asked_now w line session ∷ []
  flies_alone = ap (λ (x : World Query). x.asked) taken_is ∙ ap (λ (qs : List (Asked Query)). qs ++ asked_now w line session ∷ []) i.asked

  pub no_more_waits : (taken_world w line session).waiting ≡ []
  no_more_waits =
      ap (λ (x : World Query). x.waiting) taken_is
      ∙ (ap (filter (λ (q : Waiting Query). not (q.line == line))) waits_alone ∙ ap (λ (t : Bool). cond (not t) (waiting_now w line session ∷ []) []) (eq-eqb line line refl))

  pub found_asked : find (λ q. q.waiting.line == line) (taken_world w line session).asked ≡ Some (asked_now w line session)
  found_asked =
      ap (find (λ (q : Asked Query). q.waiting.line == line)) flies_alone
      ∙ ap (λ (t : Bool). cond t (Some (asked_now w line session)) None) (eq-eqb line line refl)

  pub is_in_flight : IsInFlight (taken_world w line session) line
  is_in_flight =
      ap (list_any (λ (q : Asked Query). q.waiting.line == line)) flies_alone
      ∙ ap (λ (t : Bool). t || false) (eq-eqb line line refl)

  same_sets : ((taken_world w line session).past ≡ w.past) × ((taken_world w line session).ready ≡ w.ready)
  same_sets = (ap (λ (x : World Query). x.past) taken_is, ap (λ (x : World Query). x.ready) taken_is)

  ended_is : (out : QueryOut) → step cube (taken_world w line session) (QueryEnds line out) ≡ query_ended (taken_world w line session) line out (Some (asked_now w line session))
  ended_is out = ap (query_ended (taken_world w line session) line out) found_asked

  answers_ended : (out : QueryOut) → IsOutAt w out → (before : ℕ → ℕ) → ((other : ℕ) → before other ≤ number w) → (other : ℕ) → answered_as out session before other ≤ number w
  answers_ended NoAnswer h before k other = k other
  answers_ended (Answered version) h before k other = split (other == session) where
    split : (b : Bool) → cond b version (before other) ≤ number w
    split true = omega (arith, h)
    split false = k other

  pub idle_ended : (out : QueryOut) → IsOutAt w out → IsIdle (step cube (taken_world w line session) (QueryEnds line out))
  idle_ended out h = subst IsIdle (sym (ended_is out)) (record {
    workers = subst (λ (x : World Query). 0 < x.workers) (sym taken_is) i.workers;
    answers = subst (λ (x : World Query). (other : ℕ) → answered_as out session x.answered other ≤ number x) (sym taken_is) (answers_ended out h w.answered i.answers);
    steps = ap (λ (x : World Query). x.steps) taken_is ∙ i.steps;
    waiting = no_more_waits;
    asked =
        ap (filter (λ (q : Asked Query). not (q.waiting.line == line))) flies_alone
        ∙ ap (λ (t : Bool). cond (not t) (asked_now w line session ∷ []) []) (eq-eqb line line refl);
    not_in_flight = subst (λ (x : World Query). AreNotInFlight x.jobs) (sym taken_is) i.not_in_flight;
  })

  pub line_ended : (out : QueryOut) → (step cube (taken_world w line session) (QueryEnds line out)).line ≡ line
  line_ended out = ap (λ (x : World Query). x.line) (ended_is out) ∙ ap (λ (x : World Query). x.line) taken_is

  -- the version of the last set is lawful at its end
  pub lawful_now : IsLawful (taken_world w line session) (Some (asked_now w line session)) (number w)
  lawful_now = subst (λ (x : World Query). IsLawful x (Some (asked_now w line session)) (number w)) (sym taken_is) (omega arith, omega arith, i.answers session, omega arith)

  pub fresh_end : (out : QueryOut) → IsOutAt w out → IsFresh (taken_world w line session) (QueryEnds line out)
  fresh_end NoAnswer h = tt
  fresh_end (Answered version) h =
      subst (λ (o : Option (Asked Query)). IsLawful (taken_world w line session) o version) (sym found_asked)
      (subst (λ (v : ℕ). IsLawful (taken_world w line session) (Some (asked_now w line session)) v) (sym h) lawful_now)

  -- it is taken over the last set
  pub set_now : set_at (taken_world w line session) (number w) ≡ w.ready
  set_now = ap (λ (x : World Query). set_at x (number w)) taken_is ∙ ap (λ (o : Option ReadySet). unwrap_or o []) (get_end w.past w.ready)

  none_there : (honest : Type 0) (version : ℕ) (out : QueryOut) → set_at (taken_world w line session) version ≡ w.ready → out ≡ Answered version
      → honest ⊎ Along cube IsOverNone w (asked_turns line session ++ QueryEnds line (Answered version) ∷ []) → honest ⊎ (w.ready ≡ [])
  none_there honest version out set e (inl h) = inl h
  none_there honest version out set e (inr h) = inr (sym set ∙ h.1.1.0)

  pub answer_is : (honest : Type 0) (out : QueryOut) (said : Block) → IsAnswerOver honest w out said
      → honest ⊎ Along cube IsOverNone w (asked_turns line session ++ QueryEnds line out ∷ [])
      → answer_block served (taken_world w line session) (asked_now w line session) out ≡ said
  answer_is honest NoAnswer said a t = sym a
  answer_is honest (Answered version) said a t =
      let set : set_at (taken_world w line session) version ≡ w.ready = ap (set_at (taken_world w line session)) a.0 ∙ set_now in
      ap (λ (s : ReadySet). block.Answer (cube.answer only_query (rows_of cube s))) set
      ∙ sym (a.1 (none_there honest version (Answered version) set refl t))

  pub entries_query : (script : List Line) (entries : List Entry) (out : QueryOut) → AreTold entries
      → entries_along served script w entries (asked_turns line session ++ QueryEnds line out ∷ [])
      ≡ entries ++ Told line (answer_block served (taken_world w line session) (asked_now w line session) out) ∷ []
  entries_query script entries out h =
      ap (query_told served (taken_world w line session) (entries ++ Open line ∷ []) line out) found_asked
      ∙ filled_push line (answer_block served (taken_world w line session) (asked_now w line session) out) entries h

-- ---- the calls of a query

module _ (old mid : BoardModel) (line session : ℕ) (i : IsIdle (now old)) (a : IsAdded old (Takes line (Ask session only_query)) mid) where
  now_accepted : now mid ≡ accepted_world (now old) line session
  now_accepted = now-grown old mid (Takes line (Ask session only_query) ∷ []) (grown-added old (Takes line (Ask session only_query)) mid a)

  free : busy (accepted_world (now old) line session) < (accepted_world (now old) line session).workers
  free = omega (arith, i.workers, ap length i.steps, ap length i.asked)

  pub is_accepted : IsAccepted (now mid) line
  is_accepted = subst (λ (w : World Query). IsAccepted w line) (sym now_accepted) (record {
    worker = free;
    query = waiting_now (now old) line session;
    line_is = refl;
    next = next_waiting (now old) line session i;
  })

  module _ (later : BoardModel) (t : IsAdded mid (QueryTakes line) later) where
    now_taken : now later ≡ taken_world (now old) line session
    now_taken =
        now-grown mid later (QueryTakes line ∷ []) (grown-added mid (QueryTakes line) later t)
        ∙ ap (λ (w : World Query). step cube w (QueryTakes line)) now_accepted

    version_now : (honest : Type 0) (work : QueryWork) → IsTakenQuery honest (now mid) line work → work.version ≡ number (now old)
    version_now honest work k = k.version ∙ ap number now_accepted

    pub can_end : (honest : Type 0) (work : QueryWork) → IsTakenQuery honest (now mid) line work → CanEnd (now later) work.line work.version
    can_end honest work k =
        subst (λ (n : ℕ). CanEnd (now later) n work.version) (sym k.line_is)
        (subst (λ (v : ℕ). CanEnd (now later) line v) (sym (version_now honest work k))
        (subst (λ (w : World Query). CanEnd w line (number (now old))) (sym now_taken) (record {
          in_flight = is_in_flight (now old) line session i;
          fresh = fresh_end (now old) line session i (Answered (number (now old))) refl;
        })))

    pub answer_over : (honest : Type 0) (work : QueryWork) (out : QueryOut) (said : Block) → IsTakenQuery honest (now mid) line work → IsAnswerOf work out said → IsAnswerOver honest (now old) out said
    answer_over honest work NoAnswer said k a = a
    answer_over honest work (Answered version) said k a = (
      a.0 ∙ version_now honest work k,
      λ h. (let ready : (now mid).ready ≡ (now old).ready = ap (λ (w : World Query). w.ready) now_accepted in
          a.1 (now old).ready (subst (λ (set : ReadySet). AreCellsOf set work.cells) ready (k.cells (by_ready ready h)))),
    ) where
      by_ready : {honest : Type 0} → (now mid).ready ≡ (now old).ready → honest ⊎ ((now old).ready ≡ []) → honest ⊎ ((now mid).ready ≡ [])
      by_ready ready (inl h) = inl h
      by_ready ready (inr h) = inr (ready ∙ h)

    pub grown_query : (new : BoardModel) (out : QueryOut) → IsAdded later (QueryEnds line out) new → IsGrown old (asked_turns line session ++ QueryEnds line out ∷ []) new
    grown_query new out e =
        grown-then old later new (asked_turns line session) (QueryEnds line out ∷ []) grown_taken (grown-added later (QueryEnds line out) new e) where
          grown_taken : IsGrown old (asked_turns line session) later
          grown_taken =
              grown-then old mid later (Takes line (Ask session only_query) ∷ []) (QueryTakes line ∷ []) (grown-added old (Takes line (Ask session only_query)) mid a)
              (grown-added mid (QueryTakes line) later t)

    pub part_taken : (new : BoardModel) → IsSame later new → (count : ℕ) × IsGrown old (take count (asked_turns line session)) new
    part_taken new e = (
      2,
      grown-then old mid new (Takes line (Ask session only_query) ∷ []) (QueryTakes line ∷ []) (grown-added old (Takes line (Ask session only_query)) mid a)
          (grown-then mid later new (QueryTakes line ∷ []) [] (grown-added mid (QueryTakes line) later t) (grown-same later new e)),
    )

  pub part_accepted : (new : BoardModel) → IsSame mid new → (count : ℕ) × IsGrown old (take count (asked_turns line session)) new
  part_accepted new e = (1, grown-then old mid new (Takes line (Ask session only_query) ∷ []) [] (grown-added old (Takes line (Ask session only_query)) mid a) (grown-same mid new e))

pub part_none : (old new : BoardModel) (line session : ℕ) → IsSame old new → (count : ℕ) × IsGrown old (take count (asked_turns line session)) new
part_none old new line session e = (0, grown-same old new e)

-- the turns of a query, and what they tell
module _ (honest : Type 0) (script : List Line) (tables : List LoadedTable) (old : BoardModel) (taken : ℕ) (line : Line) (said : Block) (new : BoardModel)
    (rise : RisesFrom 0 script) (e : slice_get script taken ≡ Some line) (s : IsSound (inputs_in script tables) old taken) (q : IsQuery honest old line said new) where
  after : now new ≡ step cube (taken_world (now old) line.number q.session) (QueryEnds line.number q.out)
  after = now-grown old new (asked_turns line.number q.session ++ QueryEnds line.number q.out ∷ []) q.grown

  asks : command_at served (inputs_in script tables) line.number ≡ Ask q.session only_query
  asks = command_found script tables taken line rise e ∙ ap (command_of served (rows_at tables line.number)) q.asks

  pub tells-query : TellsLine honest script tables old line said (asked_turns line.number q.session ++ QueryEnds line.number q.out ∷ []) new
  tells-query = record {
    grown = q.grown;
    named = ap (λ (k : Command Query). Takes line.number k ∷ QueryTakes line.number ∷ QueryEnds line.number q.out ∷ []) asks;
    lines = refl;
    last = ap (λ (w : World Query). w.line) after ∙ line_ended (now old) line.number q.session s.idle q.out;
    idle = subst IsIdle (sym after) (idle_ended (now old) line.number q.session s.idle q.out (out_over honest (now old) q.out said q.answer));
    told = answer_block served (taken_world (now old) line.number q.session) (asked_now (now old) line.number q.session) q.out;
    no_stops = refl;
    entries =
        entries-grown old new (asked_turns line.number q.session ++ QueryEnds line.number q.out ∷ []) q.grown script
        ∙ entries_query (now old) line.number q.session s.idle script (entries_in script old) q.out s.all_told;
    trusted = λ h.
        (let parts = trusted-grown honest old new (asked_turns line.number q.session ++ QueryEnds line.number q.out ∷ []) q.grown h in
        answer_is (now old) line.number q.session s.idle honest q.out said q.answer parts.1);
  }
