-- What refuses a REFRESH, a MERGE and a drop, read off a state.
use Rattle.std.proofs.Common.{◌≡◌, ℕ, Bool, true, false, not, ◌&&◌, Option, Some, None, List, [], ◌∷◌, length, map, refl, sym, ap, ◌∙◌}
use Rattle.std.specs.Prelude.{find, option_map}
use Rattle.std.specs.List.{list_any}
use Rattle.std.specs.Option.{option_or}
use Rattle.job_machine.specs.declared.state.JobKind.TheVariants.{Merge, Refresh}
use Rattle.range_list.specs.Ranges.{Interval}
use Rattle.run_history.specs.Commands.Command.{Drop, Submit}
use Rattle.run_history.specs.Cubes.{CubeSemantics, Rows}
use Rattle.run_history.specs.Invariants.{ranges_of}
use Rattle.run_history.specs.Sets.{Segment, is_overlap, is_same_range}
use Rattle.run_history.specs.Verdicts.{first_free_day, first_of, hole, is_on_bounds, is_ready, lookups_differ, no_such_segment, not_loaded, overlaps_job, refused_if, verdict}
use Rattle.run_history.specs.World.{World, is_live}
use Rattle.run_history.specs.declared.refused.Refused.{Refused}
use Rattle.run_history.specs.declared.refused.Refused.TheVariants as refused
use Rattle.run_state.specs.Answers.{named, of_cover}
use Rattle.run_state.specs.Numbered.{NumberedSet}
use Rattle.run_state.specs.States.{IsStateOf}
use Rattle.run_state.specs.declared.parts.JobEntry.{JobEntry}
use Rattle.run_state.specs.declared.parts.RunState.{RunState}
use Rattle.run_state.proofs.Lists.{any_map}
use Rattle.run_state.proofs.Builds.{job_told}
use Rattle.run_state.proofs.Coverings.{first_of_five, first_of_four, first_of_two}
use Rattle.run_state.proofs.Refusals.{ranges_here}

module _ {Q : Type 0} (w : World Q) (ranges : List Interval) (here : ranges_of w.ready ≡ ranges) where
  -- a ready segment has the range
  pub ready_here : (r : Interval) (b : Bool) → b ≡ list_any (λ other. is_same_range r other) ranges → is_ready r w.ready ≡ b
  ready_here r b e = sym (any_map (λ (x : Segment). x.range) (is_same_range r) w.ready) ∙ (ap (list_any (is_same_range r)) here ∙ sym e)

module _ {Q : Type 0} (w : World Q) (r : Interval) where
  -- ---- a drop
  pub drop_by : (one : Bool) (job : Option Refused) → is_ready r w.ready ≡ one → overlaps_job (named []) r w ≡ job → option_or (refused_if (not one) refused.NoSuchSegment) job ≡ verdict (named []) w (Drop r)
  drop_by one job e g =
      sym (first_of_two (refused_if (not one) refused.NoSuchSegment) job)
      ∙ sym (ap (λ (b : Bool). first_of (refused_if (not b) refused.NoSuchSegment ∷ overlaps_job (named []) r w ∷ [])) e ∙ ap (λ (o : Option Refused). first_of (refused_if (not one) refused.NoSuchSegment ∷ o ∷ [])) g)

  -- ---- a REFRESH
  pub refresh_by : (names : List (List ℕ)) (one : Bool) (job : Option Refused) → not_loaded (named names) w ≡ None → is_ready r w.ready ≡ one → overlaps_job (named names) r w ≡ job
      → option_or (refused_if (not one) refused.NoSuchSegment) job ≡ verdict (named names) w (Submit Refresh r)
  refresh_by names one job n e g =
      sym (first_of_two (refused_if (not one) refused.NoSuchSegment) job)
      ∙ sym (ap (λ (o : Option Refused). first_of (o ∷ no_such_segment (named names) r w ∷ overlaps_job (named names) r w ∷ [])) n
      ∙ (ap (λ (b : Bool). first_of (refused_if (not b) refused.NoSuchSegment ∷ overlaps_job (named names) r w ∷ [])) e
      ∙ ap (λ (o : Option Refused). first_of (refused_if (not one) refused.NoSuchSegment ∷ o ∷ [])) g))

  pub refresh_by_table : (names : List (List ℕ)) (x : Refused) → not_loaded (named names) w ≡ Some x → Some x ≡ verdict (named names) w (Submit Refresh r)
  refresh_by_table names x n = sym (ap (λ (o : Option Refused). first_of (o ∷ no_such_segment (named names) r w ∷ overlaps_job (named names) r w ∷ [])) n)

  -- ---- a MERGE
  pub merge_by : (job : Option Refused) → overlaps_job (named []) r w ≡ job
      → option_or (of_cover (is_on_bounds r w.ready) (is_ready r w.ready) (first_free_day r w.ready)) job ≡ verdict (named []) w (Submit Merge r)
  merge_by job g =
      ap (option_or (of_cover (is_on_bounds r w.ready) (is_ready r w.ready) (first_free_day r w.ready))) (sym g)
      ∙ sym (first_of_four (refused_if (not (is_on_bounds r w.ready)) refused.NotOnBounds) (refused_if (is_ready r w.ready) refused.OneSegment) (hole (named []) r w) (overlaps_job (named []) r w))

-- the lookups are compared last, by the cube
pub merge_lookups : {Query Answer : Type 0} (cube : CubeSemantics Query Answer) (w : World Query) (r : Interval) → verdict cube w (Submit Merge r) ≡ option_or (verdict (named []) w (Submit Merge r)) (lookups_differ cube r w)
merge_lookups cube w r =
    first_of_five (refused_if (not (is_on_bounds r w.ready)) refused.NotOnBounds) (refused_if (is_ready r w.ready) refused.OneSegment) (hole cube r w) (overlaps_job cube r w) (lookups_differ cube r w)

-- ---- what the calls put together

module _ {T P R Q : Type 0} (rows : T → Rows) (ready_set : R → NumberedSet) (w : World Q) (s : RunState T P R Q) (i : IsStateOf rows ready_set w s) (ranges : List Interval) (h : ranges ≡ ranges_of (ready_set s.ready).segments) (r : Interval) where
  abbrev one_kept : Bool
  one_kept = list_any (λ other. is_same_range r other) ranges

  abbrev job_kept : Option Refused
  job_kept = option_map refused.OverlapsJob (option_map (λ (e : JobEntry T P). e.job.id) (find (λ (e : JobEntry T P). is_live e.job.state && is_overlap e.range r) s.jobs.items))

  job_here : (names : List (List ℕ)) → overlaps_job (named names) r w ≡ job_kept
  job_here names = job_told rows ready_set w s i names r (option_map (λ (e : JobEntry T P). e.job.id) (find (λ (e : JobEntry T P). is_live e.job.state && is_overlap e.range r) s.jobs.items)) refl

  pub drop_told : (segment job both : Option Refused) → both ≡ option_or segment job → segment ≡ refused_if (not one_kept) refused.NoSuchSegment → job ≡ job_kept → both ≡ verdict (named []) w (Drop r)
  drop_told segment job both both_is a b =
      both_is ∙ (ap (λ (x : Option Refused). option_or x job) a ∙ (ap (option_or (refused_if (not one_kept) refused.NoSuchSegment)) b
      ∙ drop_by w r one_kept job_kept (ready_here w ranges (ranges_here rows ready_set w s i ranges h) r one_kept refl) (job_here [])))

  pub refresh_told : (names : List (List ℕ)) (segment job both : Option Refused) → not_loaded (named names) w ≡ None → both ≡ option_or segment job → segment ≡ refused_if (not one_kept) refused.NoSuchSegment
      → job ≡ job_kept → both ≡ verdict (named names) w (Submit Refresh r)
  refresh_told names segment job both n both_is a b =
      both_is ∙ (ap (λ (x : Option Refused). option_or x job) a ∙ (ap (option_or (refused_if (not one_kept) refused.NoSuchSegment)) b
      ∙ refresh_by w r names one_kept job_kept n (ready_here w ranges (ranges_here rows ready_set w s i ranges h) r one_kept refl) (job_here names)))

  pub merge_told : (range job both : Option Refused) → both ≡ option_or range job → range ≡ of_cover (is_on_bounds r w.ready) (is_ready r w.ready) (first_free_day r w.ready) → job ≡ job_kept
      → both ≡ verdict (named []) w (Submit Merge r)
  merge_told range job both both_is a b =
      both_is ∙ (ap (λ (x : Option Refused). option_or x job) a ∙ (ap (option_or (of_cover (is_on_bounds r w.ready) (is_ready r w.ready) (first_free_day r w.ready))) b ∙ merge_by w r job_kept (job_here [])))
