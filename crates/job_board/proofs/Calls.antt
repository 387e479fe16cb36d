-- What the calls ask of a state, from what a board has of its history.
use Rattle.std.proofs.Common.{◌≡◌, ℕ, zero, suc, ◌+◌, ◌<◌, ◌≤◌, ◌^◌, true, ◌==◌, Some, List, [], ◌∷◌, length, slice_get, All, refl, sym, ap, ◌∙◌, arith}
use Rattle.std.proofs.lemmas.List.{length-map}
use Rattle.std.specs.Prelude.{option_map, slice_index_or}
use Rattle.std.proofs.lemmas.Option.{slice_get-map}
use Rattle.std.specs.List.{list_any}
use Rattle.fixed_cube.specs.Cube.{fixed}
use Rattle.byte_frame.specs.Spelling.{EachFits}
use Rattle.fixed_state.specs.Kept.{IsLoaded, IsReadyKept}
use Rattle.fixed_state.specs.States.{FixedState, StandsFor, rows_seen}
use Rattle.plain_answer.specs.declared.ask.Ask.{Ask as Query}
use Rattle.run_history.specs.Bounds.{AreAtMost}
use Rattle.run_history.specs.Histories.{IsInFlight}
use Rattle.run_history.specs.Invariants.{IsSound}
use Rattle.run_history.specs.Verdicts.{most_segments}
use Rattle.run_history.specs.World.{Submitted, World, busy, job_at}
use Rattle.run_state.specs.States.{claim_of, in_flight_of, submitted_of}
use Rattle.run_state.specs.declared.parts.QueryInFlight.{QueryInFlight}
use Rattle.run_state.proofs.Lists.{any_map}

get_at : {X : Type 0} (xs : List X) (k : ℕ) (d : X) → k < length xs → slice_get xs k ≡ Some (slice_index_or xs k d)
get_at [] k d h = absurd (omega (arith, h))
get_at (x ∷ xs) zero d h = refl
get_at (x ∷ xs) (suc k) d h = get_at xs k d (omega (arith, h))

same_count : {C A : Type 0} (F : C → A → Type 0) (cs : List C) (xs : List A) → EachFits F cs xs → length cs ≡ length xs
same_count F [] [] h = refl
same_count F [] (x ∷ xs) h = absurd h
same_count F (c ∷ cs) [] h = absurd h
same_count F (c ∷ cs) (x ∷ xs) h = ap suc (same_count F cs xs h.1)

module _ (w : World Query) (s : FixedState) (i : StandsFor w s) where
  pub jobs_count : length s.jobs.items ≡ length w.jobs
  jobs_count = sym (ap length i.jobs ∙ length-map s.jobs.items (submitted_of rows_seen))

  pub loaded_count : IsLoaded w.loaded → length s.loaded.items ≡ 1
  loaded_count l = sym (length-map s.loaded.items (option_map rows_seen)) ∙ (sym (ap length i.loaded) ∙ ap length l.only)

  pub segments_few : IsSound fixed w → length s.ready.set.segments ≤ most_segments
  segments_few sound = omega (arith, sym (ap length i.ready), sound.room)

  -- there are cells for each segment
  pub cells_count : (honest : Type 0) → EachFits (IsReadyKept honest) w.ready s.ready.cells → length s.ready.set.segments ≡ length s.ready.cells
  cells_count honest k = ap length (sym i.ready) ∙ same_count (IsReadyKept honest) w.ready s.ready.cells k

  pub busy_count : length s.steps.items + length s.asked.items ≡ busy w
  busy_count =
      let steps : length w.steps ≡ length s.steps.items = ap length i.steps ∙ length-map s.steps.items claim_of in
      let asked : length s.asked.items ≡ length w.asked = sym (ap length i.asked) ∙ length-map w.asked in_flight_of in
      omega arith

  -- attempts are few
  pub attempts_few : (most : ℕ) → most + 1 < 2 ^ 32 → AreAtMost most w → All (λ entry. entry.job.attempt + 1 < 2 ^ 32) s.jobs.items
  attempts_few most few small = λ k d lt.
      let there : job_at w.jobs (suc k) ≡ Some (submitted_of rows_seen (slice_index_or s.jobs.items k d)) =
      ap (λ (jobs : List Submitted). slice_get jobs k) i.jobs ∙ (slice_get-map (submitted_of rows_seen) s.jobs.items k ∙ ap (option_map (submitted_of rows_seen)) (get_at s.jobs.items k d lt)) in
      let le : (slice_index_or s.jobs.items k d).job.attempt ≤ most = small.attempts (suc k) (submitted_of rows_seen (slice_index_or s.jobs.items k d)) there in
      omega arith

  pub in_flight_there : (line : ℕ) → IsInFlight w line → list_any (λ q. q.line == line) s.asked.items ≡ true
  in_flight_there line h = ap (list_any (λ (q : QueryInFlight). q.line == line)) (sym i.asked) ∙ (any_map in_flight_of (λ q. q.line == line) w.asked ∙ h)
