-- What each call adds to a board.
use Rattle.std.proofs.Common.{◌≡◌, ℕ, ◌+◌, ◌<◌, ◌≤◌, ◌^◌, true, List, [], ◌∷◌, ◌++◌, Option, Some, None, Result, length, slice_get, vec_len, All, refl, sym, ap, ◌∙◌, subst, arith}
use Rattle.std.specs.Prelude.{◌==◌, find}
use Rattle.std.specs.List.{list_any}
use Rattle.fixed_cube.specs.Answers.{by_first}
use Rattle.fixed_cube.specs.Columns.{fact_columns, row_limit}
use Rattle.fixed_cube.specs.Cube.{fixed}
use Rattle.fixed_state.specs.Ends.{world_ended}
use Rattle.fixed_state.specs.Kept.{AreKept, IsFixedState}
use Rattle.fixed_state.specs.States.{FixedState, ReadyModel, StandsFor, cells_of, ready_seen, rows_seen}
use Rattle.fixed_state.proofs.EndFacts.{kept_again}
use Rattle.fixed_state.proofs.Events.{kept_ask, kept_claimed, kept_line, kept_load, kept_query_end, kept_steer, kept_submit, kept_taken}
use Rattle.job_board.specs.Boards.{IsBoard}
use Rattle.job_board.specs.BoardModel.{BoardModel, now}
use Rattle.job_board.specs.Turns.{IsRecorded}
use Rattle.job_board.specs.declared.turn.BoardTurn.TheVariants as turn
use Rattle.job_board.specs.declared.turn.Log.{Log}
use Rattle.job_machine.specs.declared.state.JobKind.TheVariants.{Build}
use Rattle.plain_answer.specs.declared.ask.Ask.{Ask as Query}
use Rattle.range_list.specs.Ranges.{Interval}
use Rattle.run_history.specs.Bounds.{AreAtMost}
use Rattle.run_history.specs.Commands.Command.{Load, Submit, Steer, Ask}
use Rattle.run_history.specs.Commands.Turn.{QueryEnds}
use Rattle.run_history.specs.Cubes.{Rows}
use Rattle.run_history.specs.Histories.{AreAtRest, IsFresh, IsInFlight, IsNextAttempt, IsNextOfSession, MayNote, claim_count}
use Rattle.run_history.specs.Invariants.{IsSound}
use Rattle.run_history.specs.Steps.{accepted, by_verdict, claimed, query_ended, query_taken, submitted}
use Rattle.run_history.specs.Verdicts.{act_of, most_segments, steer_by, steer_refusal, verdict}
use Rattle.run_history.specs.World.{Submitted, World, busy, job_of, number}
use Rattle.job_machine.specs.Job.{state_after}
use Rattle.job_machine.specs.declared.state.JobState.{JobState}
use Rattle.run_history.specs.declared.command.Control.{Control}
use Rattle.run_history.specs.declared.command.Noted.{Noted}
use Rattle.run_history.specs.declared.event.Outcome.{Outcome}
use Rattle.run_history.specs.declared.event.QueryOut.{QueryOut}
use Rattle.run_history.specs.declared.refused.Refused.{Refused}
use Rattle.run_state.specs.Answers.{named, products_steered, refusal_of, steer_answer, steered_to}
use Rattle.run_state.specs.declared.parts.Controlled.{Controlled}
use Rattle.run_state.specs.Orders.{IsQueued, KeepsData, products_of}
use Rattle.run_state.proofs.SoundStates.{queued}
use Rattle.step_fields.specs.Fits.{FitsRows, IsDayRange}
use Rattle.job_board.proofs.Calls.{attempts_few, cells_count, in_flight_there, jobs_count, segments_few}
use Rattle.job_board.proofs.Rest.{all_rest}
use Rattle.job_board.proofs.Steps.{board_step, claims_now, fixed_now, named_verdict, noted_world, refused_world, small_now, sound_now, submitted_world, world_now}

-- the ready set that stays has the same cells
kept_cells : {old new : FixedState} → KeepsData old new → cells_of new ≡ cells_of old
kept_cells keeps = ap (λ (r : ReadyModel). r.cells) keeps.ready

-- an answer to a command on a job is a refusal where the verdict is
answer_refusal : (control : Control) (number : ℕ) (o : Option Submitted) → refusal_of (steer_answer control number o) ≡ steer_refusal control number o
answer_refusal control number None = refl
answer_refusal control number (Some s) = by_after (state_after (act_of control) s.job.state)
  where
    by_after : (o : Option JobState) → refusal_of (steered_to control s.job o) ≡ steer_by s.job.state o
    by_after None = refl
    by_after (Some after) = refl

module _ (honest : Type 0) (workers room : ℕ) (names : List (List ℕ)) (s : FixedState) (log : Log) (l : BoardModel) (e : record { workers = workers; log = log.turns.items; room = room; products = products_of s } ≡ l) (b : IsBoard honest workers room names s log) where
  abbrev pub w : World Query
  w = world_now honest workers room names s log

  pub same_now : w ≡ now l
  same_now = ap now e

  -- what a call asks of the ledger's world
  pub back : (P : World Query → Type 0) → P (now l) → P w
  back P h = subst P (sym same_now) h

  pub forth : (P : World Query → Type 0) → P w → P (now l)
  forth P h = subst P same_now h

  pub room_now : 0 < l.room → 0 < room
  room_now h = let same : room ≡ l.room = ap (λ (x : BoardModel). x.room) e in omega arith

  pub sound_here : IsSound fixed w
  sound_here = sound_now honest workers room names s log b

  pub sound_there : IsSound fixed (now l)
  sound_there = forth (IsSound fixed) sound_here

  pub small_here : AreAtMost (vec_len log.turns) w
  small_here = small_now honest workers room names s log b

  pub queued_here : IsQueued s
  queued_here = queued fixed rows_seen ready_seen w s sound_here b.state

  pub fixed_here : IsFixedState honest s
  fixed_here = fixed_now honest workers room names s log b

  -- numbers are small
  pub jobs_small : length s.jobs.items + 2 < 2 ^ 32
  jobs_small = omega (arith, jobs_count w s b.state, small_here.jobs, b.log.few)

  pub attempts_small : All (λ entry. entry.job.attempt + 1 < 2 ^ 32) s.jobs.items
  attempts_small = attempts_few w s b.state (vec_len log.turns) (omega (arith, b.log.few)) small_here

  pub version_small : s.ready.set.version + 1 < 2 ^ 32
  version_small = let same : length w.past ≡ s.ready.set.version = b.state.version in omega (arith, small_here.versions, b.log.few)

  pub accepted_small : s.accepted + 1 < 2 ^ 32
  accepted_small = let same : w.accepted ≡ s.accepted = b.state.accepted in omega (arith, small_here.accepted, b.log.few)

  pub jobs_few : length s.jobs.items ≤ 4_000_000_000
  jobs_few = omega (arith, jobs_count w s b.state, small_here.jobs, b.log.few)

  -- no job is under way where none waits and none is in flight
  pub rest_there : (now l).queue ≡ [] → (now l).steps ≡ [] → AreAtRest (now l).jobs
  rest_there queue steps =
      forth (λ (v : World Query). AreAtRest v.jobs)
      (all_rest w sound_here (claims_now honest workers room names s log b) (back (λ (v : World Query). v.queue ≡ []) queue) (back (λ (v : World Query). v.steps ≡ []) steps))

  pub segments_small : length s.ready.set.segments ≤ most_segments
  segments_small = segments_few w s b.state sound_here

  pub cells_small : length s.ready.cells ≤ most_segments
  cells_small = omega (arith, segments_small, sym (cells_count w s b.state honest b.kept.ready))

  -- the ready set is the world's
  pub ready_there : s.ready.set.segments ≡ (now l).ready
  ready_there = sym b.state.ready ∙ ap (λ (v : World Query). v.ready) same_now

  pub version_there : s.ready.set.version ≡ number (now l)
  version_there = sym b.state.version ∙ ap number same_now

  pub asked_there : (line : ℕ) → IsInFlight (now l) line → list_any (λ q. q.line == line) s.asked.items ≡ true
  asked_there line h = in_flight_there w s b.state line (back (λ (v : World Query). IsInFlight v line) h)

  module _ (h : 0 < l.room) (s' : FixedState) (log' : Log) where
    pub added_load : (line table : ℕ) (rows : Rows) → IsRecorded log (turn.Loads line table rows) log' → (now l).line < line → table < length fixed.tables → FitsRows fact_columns row_limit rows
        → StandsFor (accepted 0 (record w { line = line }) (Load table rows)) s' → KeepsData s s' → IsBoard honest workers 0 names s' log'
    added_load line table rows r above there fits stands keeps =
        let within : table < length w.loaded = omega (arith, ap length b.kept.loaded.only, there) in
        board_step honest workers room names s log (turn.Loads line table rows) s' log' (room_now h) b r (back (λ (v : World Query). v.line < line) above, within) tt stands
        (kept_again honest _ _ _ _ _ keeps.products (kept_cells keeps) (kept_load honest w (products_of s) (cells_of s) b.kept line table rows within fits))

    pub added_steer : (line job : ℕ) (control : Control) → IsRecorded log (turn.Steers line control job) log' → (now l).line < line
        → StandsFor (by_verdict (steer_refusal control job (job_of w job)) 0 (record w { line = line }) (Steer control job)) s'
        → (answer : Result Controlled Refused) → answer ≡ steer_answer control job (job_of w job) → products_of s' ≡ products_steered control (refusal_of answer) job (products_of s) → s'.ready ≡ s.ready → IsBoard honest workers 0 names s' log'
    added_steer line job control r above stands answer is products ready =
        let refusal = ap refusal_of is ∙ answer_refusal control job (job_of w job) in
        board_step honest workers room names s log (turn.Steers line control job) s' log' (room_now h) b r (back (λ (v : World Query). v.line < line) above, tt) tt stands
        (kept_again honest _ _ _ _ _ (products ∙ ap (λ (o : Option Refused). products_steered control o job (products_of s)) refusal) (ap (λ (r : ReadyModel). r.cells) ready)
        (kept_steer honest w (products_of s) (cells_of s) b.kept line job control))

    pub added_note : (line : ℕ) (noted : Noted) → IsRecorded log (turn.Notes line noted) log' → (now l).line < line → MayNote (now l) noted
        → StandsFor (record w { line = line }) s' → KeepsData s s' → IsBoard honest workers 0 names s' log'
    added_note line noted r above may stands keeps =
        board_step honest workers room names s log (turn.Notes line noted) s' log' (room_now h) b r (back (λ (v : World Query). v.line < line) above, back (λ (v : World Query). MayNote v noted) may) tt
        (subst (λ (v : World Query). StandsFor v s') (sym (noted_world w line noted)) stands)
        (kept_again honest _ _ _ _ _ keeps.products (kept_cells keeps)
        (subst (λ (v : World Query). AreKept honest v (products_of s) (cells_of s)) (sym (noted_world w line noted)) (kept_line honest w (products_of s) (cells_of s) b.kept line)))

    pub added_ask : (line session : ℕ) → IsRecorded log (turn.Asks line session) log' → (now l).line < line
        → StandsFor (accepted 0 (record w { line = line }) (Ask session by_first)) s' → KeepsData s s' → IsBoard honest workers 0 names s' log'
    added_ask line session r above stands keeps =
        board_step honest workers room names s log (turn.Asks line session) s' log' (room_now h) b r (back (λ (v : World Query). v.line < line) above, tt) tt stands
        (kept_again honest _ _ _ _ _ keeps.products (kept_cells keeps) (kept_ask honest w (products_of s) (cells_of s) b.kept line session))

    pub added_submit : (line : ℕ) (range : Interval) → IsRecorded log (turn.Builds line range) log' → (now l).line < line → IsDayRange range → verdict (named names) w (Submit Build range) ≡ None
        → StandsFor (submitted (record w { line = line }) Build 3 range) s' → products_of s' ≡ products_of s ++ [] ∷ [] → s'.ready ≡ s.ready → IsBoard honest workers 0 names s' log'
    added_submit line range r above days accepts stands products ready =
        let is : verdict fixed w (Submit Build range) ≡ None = sym (named_verdict names w range b.names) ∙ accepts in
        board_step honest workers room names s log (turn.Builds line range) s' log' (room_now h) b r (back (λ (v : World Query). v.line < line) above, days.0) tt
        (subst (λ (v : World Query). StandsFor v s') (sym (submitted_world w line range is)) stands)
        (kept_again honest _ _ _ _ _ products (ap (λ (r : ReadyModel). r.cells) ready)
        (subst (λ (v : World Query). AreKept honest v (products_of s ++ [] ∷ []) (cells_of s)) (sym (submitted_world w line range is)) (kept_submit honest w (products_of s) (cells_of s) b.kept line range days)))

    pub added_refused : (line : ℕ) (range : Interval) (refused : Refused) → IsRecorded log (turn.Builds line range) log' → (now l).line < line → IsDayRange range → verdict (named names) w (Submit Build range) ≡ Some refused
        → StandsFor (record w { line = line }) s' → KeepsData s s' → IsBoard honest workers 0 names s' log'
    added_refused line range refused r above days refuses stands keeps =
        let is : verdict fixed w (Submit Build range) ≡ Some refused = sym (named_verdict names w range b.names) ∙ refuses in
        board_step honest workers room names s log (turn.Builds line range) s' log' (room_now h) b r (back (λ (v : World Query). v.line < line) above, days.0) tt
        (subst (λ (v : World Query). StandsFor v s') (sym (refused_world w line range refused is)) stands)
        (kept_again honest _ _ _ _ _ keeps.products (kept_cells keeps)
        (subst (λ (v : World Query). AreKept honest v (products_of s) (cells_of s)) (sym (refused_world w line range refused is)) (kept_line honest w (products_of s) (cells_of s) b.kept line)))

    pub added_claim : (job attempt : ℕ) → IsRecorded log (turn.Claims job attempt) log' → busy (now l) < (now l).workers → slice_get s.queue.items 0 ≡ Some job → IsNextAttempt (job_of w job) attempt
        → StandsFor (claimed w job attempt (job_of w job)) s' → KeepsData s s' → IsBoard honest workers 0 names s' log'
    added_claim job attempt r worker front next stands keeps =
        board_step honest workers room names s log (turn.Claims job attempt) s' log' (room_now h) b r
        (back (λ (v : World Query). busy v < v.workers) worker, ap (λ (queue : List ℕ). slice_get queue 0) b.state.queue ∙ front, next) tt stands
        (kept_again honest _ _ _ _ _ keeps.products (kept_cells keeps) (kept_claimed honest w (products_of s) (cells_of s) b.kept job attempt (job_of w job) refl))

    pub added_end : (job attempt : ℕ) (outcome : Outcome) → IsRecorded log (turn.StepEnds job attempt outcome) log' → 0 < claim_count job attempt (now l).steps
        → StandsFor (world_ended w job attempt outcome) s' → AreKept honest (world_ended w job attempt outcome) (products_of s') (cells_of s') → IsBoard honest workers 0 names s' log'
    added_end job attempt outcome r claim stands kept =
        board_step honest workers room names s log (turn.StepEnds job attempt outcome) s' log' (room_now h) b r (back (λ (v : World Query). 0 < claim_count job attempt v.steps) claim) tt stands kept

    pub added_take : (line : ℕ) → IsRecorded log (turn.QueryTakes line) log' → busy (now l) < (now l).workers → IsNextOfSession w (find (λ q. q.line == line) w.waiting)
        → StandsFor (query_taken w line (find (λ q. q.line == line) w.waiting)) s' → KeepsData s s' → IsBoard honest workers 0 names s' log'
    added_take line r worker next stands keeps =
        board_step honest workers room names s log (turn.QueryTakes line) s' log' (room_now h) b r (back (λ (v : World Query). busy v < v.workers) worker, next) tt stands
        (kept_again honest _ _ _ _ _ keeps.products (kept_cells keeps) (kept_taken honest w (products_of s) (cells_of s) b.kept line (find (λ q. q.line == line) w.waiting) refl))

    pub added_query_end : (line : ℕ) (out : QueryOut) → IsRecorded log (turn.QueryEnds line out) log' → IsInFlight (now l) line → IsFresh (now l) (QueryEnds line out)
        → StandsFor (query_ended w line out (find (λ q. q.waiting.line == line) w.asked)) s' → KeepsData s s' → IsBoard honest workers 0 names s' log'
    added_query_end line out r asked fresh stands keeps =
        board_step honest workers room names s log (turn.QueryEnds line out) s' log' (room_now h) b r (back (λ (v : World Query). IsInFlight v line) asked) (back (λ (v : World Query). IsFresh v (QueryEnds line out)) fresh) stands
        (kept_again honest _ _ _ _ _ keeps.products (kept_cells keeps) (kept_query_end honest w (products_of s) (cells_of s) b.kept line out (find (λ q. q.waiting.line == line) w.asked)))
