-- A BUILD's refusal, read off a state; and what a command waits for.
use Rattle.std.proofs.Common.{◌≡◌, ℕ, ◌+◌, ◌<◌, ◌≤◌, Bool, true, false, not, Option, Some, None, List, length, get_or, ◌&&◌, refl, sym, ap, ◌∙◌, subst, arith}
use Rattle.std.specs.Prelude.{is_none, option_map, position, nat_le, count_by, find}
use Rattle.std.specs.List.{list_any}
use Rattle.std.proofs.lemmas.List.Quantifiers.{position-Some}
use Rattle.range_list.specs.Ranges.{Interval}
use Rattle.run_history.specs.Cubes.{Rows}
use Rattle.run_history.specs.Histories.{AreAtRest, IsAtRest}
use Rattle.run_history.specs.Invariants.{ranges_of}
use Rattle.run_history.specs.Sets.{is_overlap}
use Rattle.run_history.specs.Verdicts.{first_not_loaded, most_segments, not_loaded, overlaps_job, overlaps_segment}
use Rattle.run_history.specs.World.{Submitted, World, is_build, is_live, is_under_way, job_at, job_of, live_builds}
use Rattle.run_history.specs.declared.refused.Refused.TheVariants.{NotLoaded, OverlapsJob, OverlapsSegment}
use Rattle.run_state.specs.Answers.{named}
use Rattle.run_state.specs.Numbered.{NumberedSet}
use Rattle.run_state.specs.Orders.{is_under_way_at}
use Rattle.run_state.specs.States.{IsStateOf, entry_at, submitted_of}
use Rattle.run_state.specs.declared.parts.JobEntry.{JobEntry}
use Rattle.run_state.specs.declared.parts.RunState.{RunState}
use Rattle.run_state.proofs.Lists.{any_map, none_there}
use Rattle.run_state.proofs.Refusals.{builds_count, first_absent, job_found, none_absent, ready_count, segment_found}
use Rattle.run_state.proofs.Turns.{job_by_entry}

module _ {T P R Q : Type 0} (rows : T → Rows) (ready_set : R → NumberedSet) (w : World Q) (s : RunState T P R Q) (i : IsStateOf rows ready_set w s) where
  module _ (names : List (List ℕ)) (same : length names ≡ length s.loaded.items) where
    pub table_absent : (place : ℕ) (name : List ℕ) → position is_none s.loaded.items ≡ Some place → name ≡ get_or names place name → not_loaded (named names) w ≡ Some (NotLoaded name)
    table_absent place name found e =
        let f = position-Some is_none s.loaded.items place None found in
        ap (λ (l : List (Option Rows)). option_map NotLoaded (first_not_loaded names l)) i.loaded
        ∙ (ap (option_map NotLoaded) (first_absent rows names s.loaded.items place None name same f.0 f.1 f.2) ∙ ap (λ (n : List ℕ). Some (NotLoaded n)) (sym e))

    pub tables_there : position is_none s.loaded.items ≡ None → not_loaded (named names) w ≡ None
    tables_there none =
        ap (λ (l : List (Option Rows)). option_map NotLoaded (first_not_loaded names l)) i.loaded
        ∙ ap (option_map NotLoaded) (none_absent rows names s.loaded.items same (none_there _ _ none))

  -- whether there are as many as there may be
  pub full_told : (ranges : List Interval) (segments builds : ℕ) (b : Bool) → ranges ≡ ranges_of (ready_set s.ready).segments → segments ≡ length ranges
      → builds ≡ count_by (λ (e : JobEntry T P). is_live e.job.state && is_build e.job.kind) s.jobs.items → b ≡ nat_le most_segments (segments + builds) → nat_le most_segments (length w.ready + live_builds w.jobs) ≡ b
  full_told ranges segments builds b h n m e =
      ap (λ (k : ℕ). nat_le most_segments (k + live_builds w.jobs)) (ready_count rows ready_set w s i ranges h ∙ sym n)
      ∙ (ap (λ (k : ℕ). nat_le most_segments (segments + k)) (builds_count rows ready_set w s i ∙ sym m) ∙ sym e)

  pub segment_told : (ranges : List Interval) (names : List (List ℕ)) (r : Interval) (o : Option Interval) → ranges ≡ ranges_of (ready_set s.ready).segments → o ≡ find (λ other. is_overlap other r) ranges
      → overlaps_segment (named names) r w ≡ option_map OverlapsSegment o
  segment_told ranges names r o h e = segment_found rows ready_set w s i ranges h r ∙ ap (option_map OverlapsSegment) (sym e)

  pub job_told : (names : List (List ℕ)) (r : Interval) (o : Option ℕ) → o ≡ option_map (λ (e : JobEntry T P). e.job.id) (find (λ (e : JobEntry T P). is_live e.job.state && is_overlap e.range r) s.jobs.items)
      → overlaps_job (named names) r w ≡ option_map OverlapsJob o
  job_told names r o e = job_found rows ready_set w s i r ∙ ap (option_map OverlapsJob) (sym e)

  -- ---- what a command waits for

  pub job_rests : (job : ℕ) (r : Bool) → r ≡ not (is_under_way_at (entry_at s.jobs.items job)) → (r ≡ true → IsAtRest (job_of w job)) × (IsAtRest (job_of w job) → r ≡ true)
  job_rests job r e = by_entry (entry_at s.jobs.items job) refl e
    where
      told : job_of w job ≡ option_map (submitted_of rows) (entry_at s.jobs.items job)
      told = ap (λ (jobs : List Submitted). job_at jobs job) i.jobs ∙ job_by_entry rows s.jobs.items job

      single : (b : Bool) → not b ≡ true → b ≡ false
      single true h = cc
      single false h = refl

      by_entry : (o : Option (JobEntry T P)) → entry_at s.jobs.items job ≡ o → r ≡ not (is_under_way_at o) → (r ≡ true → IsAtRest (job_of w job)) × (IsAtRest (job_of w job) → r ≡ true)
      by_entry None f h = ((λ t. subst IsAtRest (sym (told ∙ ap (option_map (submitted_of rows)) f)) tt), (λ t. h))
      by_entry (Some entry) f h = (
        (λ t. subst IsAtRest (sym (told ∙ ap (option_map (submitted_of rows)) f)) (single (is_under_way entry.job.state) (sym h ∙ t))),
        (λ t. let rest : is_under_way entry.job.state ≡ false = subst IsAtRest (told ∙ ap (option_map (submitted_of rows)) f) t in h ∙ ap not rest),
      )

  pub jobs_rest : (r : Bool) → r ≡ not (list_any (λ (e : JobEntry T P). is_under_way e.job.state) s.jobs.items) → (r ≡ true → AreAtRest w.jobs) × (AreAtRest w.jobs → r ≡ true)
  jobs_rest r e = (
    (λ t. told ∙ single (list_any (λ (x : JobEntry T P). is_under_way x.job.state) s.jobs.items) (sym e ∙ t)),
    (λ t. e ∙ ap not (sym told ∙ t)),
  )
    where
      told : list_any (λ (x : Submitted). is_under_way x.job.state) w.jobs ≡ list_any (λ (x : JobEntry T P). is_under_way x.job.state) s.jobs.items
      told = ap (list_any (λ (x : Submitted). is_under_way x.job.state)) i.jobs ∙ any_map (submitted_of rows) (λ (x : Submitted). is_under_way x.job.state) s.jobs.items

      single : (b : Bool) → not b ≡ true → b ≡ false
      single true h = cc
      single false h = refl
