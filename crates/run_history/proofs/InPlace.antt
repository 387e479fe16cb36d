-- How the ranges of live jobs stand to the ready set, and what a swap, a drop and a submission do to that.
use Rattle.std.proofs.Common.{◌≡◌, ℕ, zero, suc, ◌+◌, ◌-◌, ◌≤◌, Bool, true, false, not, ◌&&◌, ◌==◌, if◌then◌else◌, Option, Some, None, List, [], ◌∷◌, length, map, set, refl, sym, ap, ◌∙◌, subst, inl, inr, arith}
use Rattle.std.specs.Prelude.{find, nat_le}
use Rattle.std.specs.List.{list_any}
use Rattle.std.proofs.lemmas.Bool.{cases_lt, and_parts, and_from, leb-false, eqb-true, le-leb}
use Rattle.job_machine.specs.declared.state.JobKind.{JobKind}
use Rattle.job_machine.specs.declared.state.JobKind.TheVariants.{Build, Refresh, Merge}
use Rattle.range_list.specs.Ranges.{Interval, IsRange, EndToEnd}
use Rattle.run_history.specs.Cubes.{CubeSemantics}
use Rattle.run_history.specs.Invariants.{ranges_of, CanMerge, IsInPlace}
use Rattle.run_history.specs.Sets.{Segment, ReadySet, is_same_range, is_inside, is_overlap, inside, outside, swapped, dropped}
use Rattle.run_history.specs.Verdicts.{first_of, refused_if, is_on_bounds, is_ready, is_held, days_from, first_free_day, submit_refusals, most_segments, not_loaded, too_many_segments, overlaps_segment, overlaps_job, no_such_segment, hole, lookups_differ}
use Rattle.run_history.specs.World.{Submitted, World, is_live, is_build, live_builds}
use Rattle.run_history.specs.declared.refused.Refused.{Refused}
use Rattle.run_history.specs.declared.refused.Refused.TheVariants as refused
use Rattle.run_history.proofs.Lists.{Every, or_right_true, both_false, not_false, false_or, every_map, filter_twice, any_none, any_kept, any_of_filter, find_none, map_none}
use Rattle.run_history.proofs.Ready.{AreApart, OnlyInside, HoldsDays, each_range, filter_apart, inside_bounds, inside_free, filled_by, several, filled_bounds, ready_bounds, apart_inside, inside_one, overlap_sym, any_placed, inside_placed, length_placed, length_outside}

same_inside : (r s : Interval) → is_same_range r s ≡ true → is_inside r s ≡ true
same_inside r s e =
    let parts = and_parts (r.start == s.start) (r.end == s.end) e in
    let start = eqb-true r.start s.start parts.0 in
    let end = eqb-true r.end s.end parts.1 in
    and_from (nat_le r.start s.start) (nat_le s.end r.end) (le-leb r.start s.start (omega arith)) (le-leb s.end r.end (omega arith))

-- what lies inside a range stays where another range, which doesn't overlap it, is cleared
kept_outside : (r x : Interval) (set : ReadySet) → is_overlap r x ≡ false → AreApart set → Every (λ s. is_inside r s.range ≡ true → not (is_inside x s.range) ≡ true) set
kept_outside r x set e h = every_map (λ s. IsRange s.range) (λ s. is_inside r s.range ≡ true → not (is_inside x s.range) ≡ true) set (λ s range i. ap not (inside_one r x s.range range e i)) (each_range set h)

kept_dropped : (r x : Interval) (set : ReadySet) → is_overlap r x ≡ false → AreApart set → Every (λ s. is_inside r s.range ≡ true → not (is_same_range x s.range) ≡ true) set
kept_dropped r x set e h = every_map (λ s. IsRange s.range) (λ s. is_inside r s.range ≡ true → not (is_same_range x s.range) ≡ true) set (λ s range i. ap not (false_or (is_same_range x s.range) (λ same. (
    let a = same_inside x s.range same in
    let b = inside_one r x s.range range e i in
    cc
    )))) (each_range set h)

every_same : (r : Interval) (keep : Segment → Bool) (set : ReadySet) → Every (λ s. is_inside r s.range ≡ true → keep s ≡ true) set → Every (λ s. is_same_range r s.range ≡ true → keep s ≡ true) set
every_same r keep set h = every_map (λ s. is_inside r s.range ≡ true → keep s ≡ true) (λ s. is_same_range r s.range ≡ true → keep s ≡ true) set (λ s k same. k (same_inside r s.range same)) h

-- the segments inside a range stay where a segment that it doesn't overlap is dropped
pub inside_dropped : (r x : Interval) (set : ReadySet) → is_overlap r x ≡ false → AreApart set → inside r (dropped x set) ≡ inside r set
inside_dropped r x set e h = filter_twice (λ s. is_inside r s.range) (λ s. not (is_same_range x s.range)) set (kept_dropped r x set e h)

-- and where one is swapped in
pub inside_swapped : (r : Interval) (new : Segment) (set : ReadySet) → IsRange r → IsRange new.range → is_overlap r new.range ≡ false → AreApart set → inside r (swapped new set) ≡ inside r set
inside_swapped r new set hr hx e h =
    inside_placed r new (outside new.range set) (filter_apart (λ s. not (is_inside new.range s.range)) set h) (apart_inside new.range r hx hr (overlap_sym new.range r ∙ e))
    ∙ filter_twice (λ s. is_inside r s.range) (λ s. not (is_inside new.range s.range)) set (kept_outside r new.range set e h)

module _ {Query Answer : Type 0} (cube : CubeSemantics Query Answer) where
  merge_same : (r : Interval) (set set2 : ReadySet) → inside r set2 ≡ inside r set → CanMerge cube r set → CanMerge cube r set2
  merge_same r set set2 e h = record {
    filled = subst (λ (l : ReadySet). EndToEnd r.start r.end (ranges_of l)) (sym e) h.filled;
    several = subst (λ (l : ReadySet). 2 ≤ length l) (sym e) h.several;
    lookups = subst (λ (l : ReadySet). cube.lookup_that_differs (map (λ s. s.origin) l) ≡ None) (sym e) h.lookups;
  }

  -- a job's place stays where a segment that it doesn't overlap is dropped
  pub place_dropped : (kind : JobKind) (r x : Interval) (set : ReadySet) → is_overlap r x ≡ false → AreApart set → IsInPlace cube kind r set → IsInPlace cube kind r (dropped x set)
  place_dropped Build r x set e h p = any_of_filter (λ s. is_overlap s.range r) (λ s. not (is_same_range x s.range)) set p
  place_dropped Refresh r x set e h p = any_kept (λ s. is_same_range r s.range) (λ s. not (is_same_range x s.range)) set (every_same r (λ s. not (is_same_range x s.range)) set (kept_dropped r x set e h)) p
  place_dropped Merge r x set e h p = merge_same r set (dropped x set) (inside_dropped r x set e h) p

  -- and where one is swapped in
  pub place_swapped : (kind : JobKind) (r : Interval) (new : Segment) (set : ReadySet) → IsRange r → IsRange new.range → is_overlap r new.range ≡ false → AreApart set → IsInPlace cube kind r set
      → IsInPlace cube kind r (swapped new set)
  place_swapped Build r new set hr hx e h p =
      any_placed (λ s. is_overlap s.range r) new (outside new.range set) (filter_apart (λ s. not (is_inside new.range s.range)) set h)
      ∙ both_false (is_overlap new.range r) (list_any (λ s. is_overlap s.range r) (outside new.range set)) (overlap_sym new.range r ∙ e) (any_of_filter (λ s. is_overlap s.range r) (λ s. not (is_inside new.range s.range)) set p)
  place_swapped Refresh r new set hr hx e h p =
      any_placed (λ s. is_same_range r s.range) new (outside new.range set) (filter_apart (λ s. not (is_inside new.range s.range)) set h)
      ∙ or_right_true (is_same_range r new.range) (list_any (λ s. is_same_range r s.range) (outside new.range set))
      (any_kept (λ s. is_same_range r s.range) (λ s. not (is_inside new.range s.range)) set (every_same r (λ s. not (is_inside new.range s.range)) set (kept_outside r new.range set e h)) p)
  place_swapped Merge r new set hr hx e h p = merge_same r set (swapped new set) (inside_swapped r new set hr hx e h) p

  -- each segment that the job's range overlaps lies inside it
  pub place_inside : (kind : JobKind) (r : Interval) (set : ReadySet) → IsRange r → AreApart set → IsInPlace cube kind r set → OnlyInside r set
  place_inside Build r set hr h p = inside_free r set p
  place_inside Refresh r set hr h p = inside_bounds r set h (ready_bounds r set p)
  place_inside Merge r set hr h p = inside_bounds r set h (filled_bounds r set hr p.filled)

  -- a swap of a job that isn't a BUILD replaces a segment at least
  some_inside : (r : Interval) (set : ReadySet) → is_ready r set ≡ true → 1 ≤ length (inside r set)
  some_inside r set e = found (inside r set) (any_kept (λ s. is_same_range r s.range) (λ s. is_inside r s.range) set (all_same set) e)
    where
      found : (l : ReadySet) → list_any (λ s. is_same_range r s.range) l ≡ true → 1 ≤ length l
      found [] f = cc
      found (s ∷ l) f = omega arith

      all_same : (l : ReadySet) → Every (λ s. is_same_range r s.range ≡ true → is_inside r s.range ≡ true) l
      all_same [] = tt
      all_same (s ∷ l) = ((λ same. same_inside r s.range same), all_same l)

  pub place_replaces : (kind : JobKind) (r : Interval) (set : ReadySet) → is_build kind ≡ false → IsInPlace cube kind r set → 1 ≤ length (inside r set)
  place_replaces Build r set e p = cc
  place_replaces Refresh r set e p = some_inside r set p
  place_replaces Merge r set e p = omega (arith, p.several)

  -- the next set of a swap has one segment more than the segments that stay
  pub length_swapped : (new : Segment) (set : ReadySet) → length (swapped new set) + length (inside new.range set) ≡ length set + 1
  length_swapped new set = omega (arith, length_placed new (outside new.range set), length_outside new.range set)

-- ---- an accepted submission

pub first_none : (o : Option Refused) (rest : List (Option Refused)) → first_of (o ∷ rest) ≡ None → (o ≡ None) × (first_of rest ≡ None)
first_none None rest h = (refl, h)
first_none (Some r) rest h = cc

pub not_refused : (b : Bool) (r : Refused) → refused_if b r ≡ None → b ≡ false
not_refused true r h = cc
not_refused false r h = refl

held_from : (set : ReadySet) (count day : ℕ) → Every (λ d. not (is_held set d) ≡ false) (days_from day count) → HoldsDays day (day + count) set
held_from set zero day h d low high = absurd (omega arith)
held_from set (suc count) day h d low high =
    elim (cases_lt day d) [
      | inl lt ↦ held_from set count (day + 1) h.1 d (omega arith) (omega arith)
      | inr le ↦ let same : day ≡ d = omega arith in subst (λ (n : ℕ). is_held set n ≡ true) same (not_false (is_held set day) h.0)
    ]

no_free_day : (r : Interval) (set : ReadySet) → IsRange r → first_free_day r set ≡ None → HoldsDays r.start r.end set
no_free_day r set range h d low high = held_from set (r.end - r.start) r.start (find_none (λ day. not (is_held set day)) (days_from r.start (r.end - r.start)) h) d low (omega arith)

module _ {Query Answer : Type 0} (cube : CubeSemantics Query Answer) where
  -- what an accepted submission finds
  pub record Found (kind : JobKind) (r : Interval) (w : World Query) : Type 0 where
    pub place : IsInPlace cube kind r w.ready
    pub jobs : find (λ s. is_live s.job.state && is_overlap s.range r) w.jobs ≡ None
    pub room : length w.ready + live_builds w.jobs + (if is_build kind then 1 else 0) ≤ most_segments

  found_build : (r : Interval) (w : World Query) → first_of (submit_refusals cube Build r w) ≡ None → Found Build r w
  found_build r w h =
      let a = first_none (not_loaded cube w) (too_many_segments cube w ∷ overlaps_segment cube r w ∷ overlaps_job cube r w ∷ []) h in
      let b = first_none (too_many_segments cube w) (overlaps_segment cube r w ∷ overlaps_job cube r w ∷ []) a.1 in
      let c = first_none (overlaps_segment cube r w) (overlaps_job cube r w ∷ []) b.1 in
      let d = first_none (overlaps_job cube r w) [] c.1 in
      let few = leb-false most_segments (length w.ready + live_builds w.jobs) (not_refused (nat_le most_segments (length w.ready + live_builds w.jobs)) refused.TooManySegments b.0) in
      record {
        place = any_none (λ s. is_overlap s.range r) w.ready (find_none (λ s. is_overlap s.range r) w.ready (map_none (λ (s : Segment). refused.OverlapsSegment s.range) (find (λ s. is_overlap s.range r) w.ready) c.0));
        jobs = map_none (λ (s : Submitted). refused.OverlapsJob s.job.id) (find (λ s. is_live s.job.state && is_overlap s.range r) w.jobs) d.0;
        room = omega (arith, few);
      }

  found_refresh : (r : Interval) (w : World Query) → length w.ready + live_builds w.jobs ≤ most_segments → first_of (submit_refusals cube Refresh r w) ≡ None → Found Refresh r w
  found_refresh r w few h =
      let a = first_none (not_loaded cube w) (no_such_segment cube r w ∷ overlaps_job cube r w ∷ []) h in
      let b = first_none (no_such_segment cube r w) (overlaps_job cube r w ∷ []) a.1 in
      let c = first_none (overlaps_job cube r w) [] b.1 in
      record {
        place = not_false (is_ready r w.ready) (not_refused (not (is_ready r w.ready)) refused.NoSuchSegment b.0);
        jobs = map_none (λ (s : Submitted). refused.OverlapsJob s.job.id) (find (λ s. is_live s.job.state && is_overlap s.range r) w.jobs) c.0;
        room = omega (arith, few);
      }

  found_merge : (r : Interval) (w : World Query) → IsRange r → AreApart w.ready → length w.ready + live_builds w.jobs ≤ most_segments → first_of (submit_refusals cube Merge r w) ≡ None → Found Merge r w
  found_merge r w range apart few h =
      let a = first_none (refused_if (not (is_on_bounds r w.ready)) refused.NotOnBounds) (refused_if (is_ready r w.ready) refused.OneSegment ∷ hole cube r w ∷ overlaps_job cube r w ∷ lookups_differ cube r w ∷ []) h in
      let b = first_none (refused_if (is_ready r w.ready) refused.OneSegment) (hole cube r w ∷ overlaps_job cube r w ∷ lookups_differ cube r w ∷ []) a.1 in
      let c = first_none (hole cube r w) (overlaps_job cube r w ∷ lookups_differ cube r w ∷ []) b.1 in
      let d = first_none (overlaps_job cube r w) (lookups_differ cube r w ∷ []) c.1 in
      let e = first_none (lookups_differ cube r w) [] d.1 in
      let bounds = and_parts (list_any (λ s. s.range.start == r.start) w.ready) (list_any (λ s. s.range.end == r.end) w.ready) (not_false (is_on_bounds r w.ready) (not_refused (not (is_on_bounds r w.ready)) refused.NotOnBounds a.0)) in
      let days = no_free_day r w.ready range (map_none refused.Hole (first_free_day r w.ready) c.0) in
      let filled = filled_by r.end w.ready r.start apart range days bounds.0 bounds.1 in
      let other = not_refused (is_ready r w.ready) refused.OneSegment b.0 in
      record {
        place = record {
          filled = filled;
          several = several r.start r.end (inside r w.ready) range filled (any_of_filter (λ s. is_same_range r s.range) (λ s. is_inside r s.range) w.ready other);
          lookups = map_none refused.LookupsDiffer (cube.lookup_that_differs (map (λ s. s.origin) (inside r w.ready))) e.0;
        };
        jobs = map_none (λ (s : Submitted). refused.OverlapsJob s.job.id) (find (λ s. is_live s.job.state && is_overlap s.range r) w.jobs) d.0;
        room = omega (arith, few);
      }

  pub found : (kind : JobKind) (r : Interval) (w : World Query) → IsRange r → AreApart w.ready → length w.ready + live_builds w.jobs ≤ most_segments → first_of (submit_refusals cube kind r w) ≡ None → Found kind r w
  found Build r w range apart few h = found_build r w h
  found Refresh r w range apart few h = found_refresh r w few h
  found Merge r w range apart few h = found_merge r w range apart few h
