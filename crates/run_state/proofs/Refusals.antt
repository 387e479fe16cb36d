-- What refuses a BUILD, read off a state.
use Rattle.std.proofs.Common.{◌≡◌, ℕ, zero, suc, ◌+◌, ◌<◌, ◌≤◌, Bool, true, false, cond, ◌&&◌, ◌==◌, Option, Some, None, List, [], ◌∷◌, length, map, drop, get_or, slice_get, refl, sym, ap, ◌∙◌, arith}
use Rattle.std.specs.Prelude.{count_by, find, nat_le, option_map, is_none}
use Rattle.std.specs.List.{position_or_len}
use Rattle.std.proofs.lemmas.Bool.{ne_eqb}
use Rattle.std.proofs.lemmas.List.{length-map}
use Rattle.std.proofs.lemmas.List.Sums.{sum_by-cons}
use Rattle.job_machine.specs.declared.state.JobKind.TheVariants.{Build}
use Rattle.range_list.specs.Ranges.{Interval}
use Rattle.run_history.specs.Commands.Command.{Submit}
use Rattle.run_history.specs.Cubes.{Rows}
use Rattle.run_history.specs.Histories.{is_empty}
use Rattle.run_history.specs.Invariants.{ranges_of}
use Rattle.run_history.specs.Sets.{Segment, is_overlap}
use Rattle.run_history.specs.Verdicts.{first_not_loaded, first_of, most_segments, not_loaded, overlaps_job, overlaps_segment, refused_if, too_many_segments, verdict}
use Rattle.run_history.specs.World.{Submitted, World, is_build, is_live, live_builds}
use Rattle.run_history.specs.declared.refused.Refused.{Refused}
use Rattle.run_history.specs.declared.refused.Refused.TheVariants.{OverlapsJob, OverlapsSegment, TooManySegments}
use Rattle.run_state.specs.Answers.{named}
use Rattle.run_state.specs.Numbered.{NumberedSet}
use Rattle.run_state.specs.States.{IsStateOf, submitted_of}
use Rattle.run_state.specs.declared.parts.JobEntry.{JobEntry}
use Rattle.run_state.specs.declared.parts.RunState.{RunState}
use Rattle.run_state.proofs.Lists.{find_map, some_eq}

-- ---- lists

find_next : {A : Type 0} (test : A → Bool) (xs : List A) (i : ℕ) (x : A) → slice_get xs i ≡ Some x → find test (drop i xs) ≡ cond (test x) (Some x) (find test (drop (suc i) xs))
find_next test [] i x e = cc
find_next test (y ∷ xs) zero x e = ap (λ (z : _). cond (test z) (Some z) (find test xs)) (some_eq y x e)
find_next test (y ∷ xs) (suc i) x e = find_next test xs i x e

pub find_from : {A : Type 0} (test : A → Bool) (xs : List A) (i : ℕ) (x : A) → slice_get xs i ≡ Some x → find test (drop i xs) ≡ cond (test x) (Some x) (find test (drop (i + 1) xs))
find_from test xs i x e = let next : i + 1 ≡ suc i = omega arith in find_next test xs i x e ∙ ap (λ (n : ℕ). cond (test x) (Some x) (find test (drop n xs))) (sym next)

pub find_end : {A : Type 0} (test : A → Bool) (xs : List A) → find test (drop (length xs) xs) ≡ None
find_end test [] = refl
find_end test (x ∷ xs) = find_end test xs

pub count_map : {A B : Type 0} (f : A → B) (test : B → Bool) (xs : List A) → count_by test (map f xs) ≡ count_by (λ x. test (f x)) xs
count_map f test [] = refl
count_map f test (x ∷ xs) =
    sum_by-cons (λ y. cond (test y) 1 0) (f x) (map f xs) ∙ (ap (λ (n : ℕ). cond (test (f x)) 1 0 + n) (count_map f test xs) ∙ sym (sum_by-cons (λ y. cond (test (f y)) 1 0) x xs))

pub empty_is : {A : Type 0} (xs : List A) → (length xs == 0) ≡ is_empty xs
empty_is [] = refl
empty_is (x ∷ xs) = ne_eqb (suc (length xs)) 0 (λ h. absurd (omega arith))

pub empty_map : {A B : Type 0} (f : A → B) (xs : List A) → is_empty (map f xs) ≡ is_empty xs
empty_map f [] = refl
empty_map f (x ∷ xs) = refl

-- ---- tables

pub first_absent : {T : Type 0} (rows : T → Rows) (names : List (List ℕ)) (loaded : List (Option T)) (i : ℕ) (d : Option T) (e : List ℕ) → length names ≡ length loaded → i < length loaded
    → is_none (get_or loaded i d) ≡ true → ((k : ℕ) → k < i → is_none (get_or loaded k d) ≡ false) → first_not_loaded names (map (option_map rows) loaded) ≡ Some (get_or names i e)
first_absent rows names [] i d e same lt here before = absurd (omega arith)
first_absent rows [] (x ∷ loaded) i d e same lt here before = absurd (omega arith)
first_absent rows (name ∷ names) (None ∷ loaded) zero d e same lt here before = refl
first_absent rows (name ∷ names) (Some t ∷ loaded) zero d e same lt here before = cc
first_absent rows (name ∷ names) (None ∷ loaded) (suc i) d e same lt here before = let first : true ≡ false = before 0 (omega arith) in cc
first_absent rows (name ∷ names) (Some t ∷ loaded) (suc i) d e same lt here before = first_absent rows names loaded i d e (omega arith) (omega arith) here (λ k h. before (suc k) (omega arith))

pub none_absent : {T : Type 0} (rows : T → Rows) (names : List (List ℕ)) (loaded : List (Option T)) → length names ≡ length loaded → length loaded ≤ position_or_len is_none loaded
    → first_not_loaded names (map (option_map rows) loaded) ≡ None
none_absent rows [] [] same h = refl
none_absent rows (name ∷ names) [] same h = absurd (omega arith)
none_absent rows [] (x ∷ loaded) same h = absurd (omega arith)
none_absent rows (name ∷ names) (None ∷ loaded) same h = absurd (omega arith)
none_absent rows (name ∷ names) (Some t ∷ loaded) same h = none_absent rows names loaded (omega arith) (omega arith)

-- ---- the refusals in their order

module _ {Q : Type 0} (names : List (List ℕ)) (w : World Q) (r : Interval) where
  pub by_table : (refused : Refused) → not_loaded (named names) w ≡ Some refused → Some refused ≡ verdict (named names) w (Submit Build r)
  by_table refused h = sym (ap (λ (o : Option Refused). first_of (o ∷ too_many_segments (named names) w ∷ overlaps_segment (named names) r w ∷ overlaps_job (named names) r w ∷ [])) h)

  by_rest : not_loaded (named names) w ≡ None → verdict (named names) w (Submit Build r) ≡ first_of (too_many_segments (named names) w ∷ overlaps_segment (named names) r w ∷ overlaps_job (named names) r w ∷ [])
  by_rest h = ap (λ (o : Option Refused). first_of (o ∷ too_many_segments (named names) w ∷ overlaps_segment (named names) r w ∷ overlaps_job (named names) r w ∷ [])) h

  pub by_number : not_loaded (named names) w ≡ None → nat_le most_segments (length w.ready + live_builds w.jobs) ≡ true → Some TooManySegments ≡ verdict (named names) w (Submit Build r)
  by_number h full = sym (by_rest h ∙ ap (λ (b : Bool). first_of (refused_if b TooManySegments ∷ overlaps_segment (named names) r w ∷ overlaps_job (named names) r w ∷ [])) full)

  by_segments : not_loaded (named names) w ≡ None → nat_le most_segments (length w.ready + live_builds w.jobs) ≡ false → verdict (named names) w (Submit Build r) ≡ first_of (overlaps_segment (named names) r w ∷ overlaps_job (named names) r w ∷ [])
  by_segments h full = by_rest h ∙ ap (λ (b : Bool). first_of (refused_if b TooManySegments ∷ overlaps_segment (named names) r w ∷ overlaps_job (named names) r w ∷ [])) full

  pub by_segment : (refused : Refused) → not_loaded (named names) w ≡ None → nat_le most_segments (length w.ready + live_builds w.jobs) ≡ false → overlaps_segment (named names) r w ≡ Some refused
      → Some refused ≡ verdict (named names) w (Submit Build r)
  by_segment refused h full s = sym (by_segments h full ∙ ap (λ (o : Option Refused). first_of (o ∷ overlaps_job (named names) r w ∷ [])) s)

  pub by_job : (o : Option Refused) → not_loaded (named names) w ≡ None → nat_le most_segments (length w.ready + live_builds w.jobs) ≡ false → overlaps_segment (named names) r w ≡ None
      → overlaps_job (named names) r w ≡ o → o ≡ verdict (named names) w (Submit Build r)
  by_job o h full s j = sym (by_segments h full ∙ (ap (λ (p : Option Refused). first_of (p ∷ overlaps_job (named names) r w ∷ [])) s ∙ (ap (λ (p : Option Refused). first_of (p ∷ [])) j ∙ last o)))
    where
      last : (p : Option Refused) → first_of (p ∷ []) ≡ p
      last None = refl
      last (Some x) = refl

-- ---- what stands in a state

module _ {T P R Q : Type 0} (rows : T → Rows) (ready_set : R → NumberedSet) (w : World Q) (s : RunState T P R Q) (i : IsStateOf rows ready_set w s) where
  pub builds_count : live_builds w.jobs ≡ count_by (λ (e : JobEntry T P). is_live e.job.state && is_build e.job.kind) s.jobs.items
  builds_count = ap live_builds i.jobs ∙ count_map (submitted_of rows) (λ (x : Submitted). is_live x.job.state && is_build x.job.kind) s.jobs.items

  told_job : (o : Option (JobEntry T P)) → option_map (λ (x : Submitted). OverlapsJob x.job.id) (option_map (submitted_of rows) o) ≡ option_map OverlapsJob (option_map (λ (e : JobEntry T P). e.job.id) o)
  told_job None = refl
  told_job (Some x) = refl

  pub job_found : (r : Interval) → option_map (λ (x : Submitted). OverlapsJob x.job.id) (find (λ (x : Submitted). is_live x.job.state && is_overlap x.range r) w.jobs)
      ≡ option_map OverlapsJob (option_map (λ (e : JobEntry T P). e.job.id) (find (λ (e : JobEntry T P). is_live e.job.state && is_overlap e.range r) s.jobs.items))
  job_found r =
      ap (λ (jobs : List Submitted). option_map (λ (x : Submitted). OverlapsJob x.job.id) (find (λ (x : Submitted). is_live x.job.state && is_overlap x.range r) jobs)) i.jobs
      ∙ (ap (option_map (λ (x : Submitted). OverlapsJob x.job.id)) (sym (find_map (submitted_of rows) (λ (x : Submitted). is_live x.job.state && is_overlap x.range r) s.jobs.items))
      ∙ told_job (find (λ (e : JobEntry T P). is_live e.job.state && is_overlap e.range r) s.jobs.items))

  -- the ranges of the ready segments
  module _ (ranges : List Interval) (h : ranges ≡ ranges_of (ready_set s.ready).segments) where
    pub ranges_here : ranges_of w.ready ≡ ranges
    ranges_here = ap ranges_of i.ready ∙ sym h

    pub ready_count : length w.ready ≡ length ranges
    ready_count = sym (length-map w.ready (λ (x : Segment). x.range)) ∙ ap length ranges_here

    told_range : (o : Option Segment) → option_map (λ (x : Segment). OverlapsSegment x.range) o ≡ option_map OverlapsSegment (option_map (λ (x : Segment). x.range) o)
    told_range None = refl
    told_range (Some x) = refl

    pub segment_found : (r : Interval) → option_map (λ (x : Segment). OverlapsSegment x.range) (find (λ (x : Segment). is_overlap x.range r) w.ready)
        ≡ option_map OverlapsSegment (find (λ (x : Interval). is_overlap x r) ranges)
    segment_found r =
        told_range (find (λ (x : Segment). is_overlap x.range r) w.ready)
        ∙ ap (option_map OverlapsSegment) (find_map (λ (x : Segment). x.range) (λ (x : Interval). is_overlap x r) w.ready ∙ ap (find (λ (x : Interval). is_overlap x r)) ranges_here)
