-- What a MERGE's swap does to the rows of the ready set: nothing.
use Rattle.std.proofs.Common.{◌≡◌, ℕ, ◌≤◌, Bool, true, false, cond, not, ◌&&◌, Option, Some, None, List, [], ◌∷◌, ◌++◌, map, refl, sym, ap, ◌∙◌, subst, arith}
use Rattle.std.specs.Prelude.{filter, nat_le, nat_lt}
use Rattle.std.specs.List.{flat_map}
use Rattle.std.proofs.lemmas.Bool.{and_parts, le-ltb, lt-leb, leb-true, ltb-false}
use Rattle.std.proofs.lemmas.Grind.{flat_map-append}
use Rattle.job_machine.specs.declared.state.Ended.{Ended}
use Rattle.job_machine.specs.declared.state.Ended.TheVariants as ended
use Rattle.job_machine.specs.declared.state.JobKind.{JobKind}
use Rattle.job_machine.specs.declared.state.JobKind.TheVariants.{Merge}
use Rattle.range_list.specs.Ranges.{Interval, IsRange}
use Rattle.run_history.specs.Cubes.{CubeSemantics, Rows, Snapshot}
use Rattle.run_history.specs.Commands.Turn.{StepEnds}
use Rattle.run_history.specs.Invariants.{IsSound}
use Rattle.run_history.specs.Sets.{ReadySet, Segment, inside, is_inside, is_overlap, outside, rows_of, swapped}
use Rattle.run_history.specs.Steps.{end_by, ended_as, step, step_ended, without_claim}
use Rattle.run_history.specs.World.{Submitted, World, job_of, origin_of, parts_by}
use Rattle.run_history.specs.declared.event.Outcome.{Outcome}
use Rattle.run_history.proofs.Lists.{Every, every_filter, every_map, every_zip, filter_none, false_or}
use Rattle.run_history.proofs.Ready.{AreApart, OnlyInside, each_range, from_apart, starts_after}
use Rattle.run_history.proofs.Jobs.{by_finished, current_counts, running_live}
use Rattle.run_history.proofs.InPlace.{place_inside}

abbrev is_front : Interval → Segment → Bool
is_front r s = nat_lt s.range.start r.start

abbrev is_back : Interval → Segment → Bool
is_back r s = not (nat_lt s.range.start r.start)

abbrev is_out : Interval → Segment → Bool
is_out r s = not (is_inside r s.range)

-- the segments before a range, inside it and after it
abbrev parted : Interval → ReadySet → ReadySet
parted r set = filter (is_front r) (outside r set) ++ (inside r set ++ filter (is_back r) (outside r set))

not_front : (r : Interval) (s : Segment) (day : ℕ) → r.start ≤ day → day ≤ s.range.start → is_front r s ≡ false
not_front r s day a b = le-ltb s.range.start r.start (omega arith)

-- where each segment of a set starts from a day on, which the range starts before, none stands before the range
none_front : (r : Interval) (set : ReadySet) (day : ℕ) → r.start ≤ day → Every (λ t. day ≤ t.range.start) set → filter (is_front r) (outside r set) ≡ []
none_front r set day le h =
    filter_none (is_front r) (outside r set) (every_map (λ t. (day ≤ t.range.start) × (is_out r t ≡ true)) (λ t. is_front r t ≡ false) (outside r set) (λ t k. not_front r t day le k.0) (every_filter (λ t. day ≤ t.range.start) (is_out r) set h))

-- a segment that starts where the range ends, or later, doesn't lie inside it
past_out : (r : Interval) (t : Segment) → IsRange t.range → r.end ≤ t.range.start → is_inside r t.range ≡ false
past_out r t range e = right (nat_le r.start t.range.start) (nat_le t.range.end r.end) (lt-leb t.range.end r.end (omega (arith, range)))
  where
    right : (a b : Bool) → b ≡ false → a && b ≡ false
    right true b h = h
    right false b h = refl

-- a set that is apart is its segments before, inside and after a range that cuts none
pub parted_is : (r : Interval) (set : ReadySet) → IsRange r → AreApart set → OnlyInside r set → parted r set ≡ set
parted_is r [] hr h only = refl
parted_is r (s ∷ set) hr h only = by (parted_is r set hr h.2 only.1) (is_inside r s.range) (is_front r s) refl refl
  where
    by : parted r set ≡ set → (i f : Bool) → is_inside r s.range ≡ i → is_front r s ≡ f
        → filter (is_front r) (cond (not i) (s ∷ outside r set) (outside r set)) ++ (cond i (s ∷ inside r set) (inside r set) ++ filter (is_back r) (cond (not i) (s ∷ outside r set) (outside r set))) ≡ s ∷ set
    by rest true f e g =
        let parts = and_parts (nat_le r.start s.range.start) (nat_le s.range.end r.end) e in
        let first : r.start ≤ s.range.start = leb-true r.start s.range.start parts.0 in
        let none = none_front r set s.range.end (omega (arith, first, h.0)) h.1 in
        ap (λ (l : ReadySet). l ++ (s ∷ inside r set ++ filter (is_back r) (outside r set))) none
        ∙ ap (λ (l : ReadySet). s ∷ l) (sym (ap (λ (l : ReadySet). l ++ (inside r set ++ filter (is_back r) (outside r set))) none) ∙ rest)
    by rest false true e g =
        ap (λ (b : Bool). cond b (s ∷ filter (is_front r) (outside r set)) (filter (is_front r) (outside r set)) ++ (inside r set ++ cond (not b) (s ∷ filter (is_back r) (outside r set)) (filter (is_back r) (outside r set)))) g
        ∙ ap (λ (l : ReadySet). s ∷ l) rest
    by rest false false e g =
        let later : r.start ≤ s.range.start = ltb-false s.range.start r.start g in
        let apart : is_overlap s.range r ≡ false = false_or (is_overlap s.range r) (λ o. let i = only.0 o in cc) in
        let after : r.end ≤ s.range.start = starts_after s.range r h.0 hr apart later in
        let out : Every (λ t. is_inside r t.range ≡ false) set = every_zip (λ t. IsRange t.range) (λ t. s.range.end ≤ t.range.start) (λ t. is_inside r t.range ≡ false) set (λ t range le. past_out r t range (omega (arith, after, h.0, le))) (each_range set h.2) h.1 in
        let none = none_front r set s.range.end (omega (arith, later, h.0)) h.1 in
        let empty : inside r set ≡ [] = filter_none (λ t. is_inside r t.range) set out in
        let back : filter (is_back r) (outside r set) ≡ set =
        sym (ap (λ (l : ReadySet). l ++ (inside r set ++ filter (is_back r) (outside r set))) none ∙ ap (λ (l : ReadySet). l ++ filter (is_back r) (outside r set)) empty) ∙ rest in
        ap (λ (b : Bool). cond b (s ∷ filter (is_front r) (outside r set)) (filter (is_front r) (outside r set)) ++ (inside r set ++ cond (not b) (s ∷ filter (is_back r) (outside r set)) (filter (is_back r) (outside r set)))) g
        ∙ (ap (λ (l : ReadySet). l ++ (inside r set ++ s ∷ filter (is_back r) (outside r set))) none
        ∙ (ap (λ (l : ReadySet). l ++ s ∷ filter (is_back r) (outside r set)) empty ∙ ap (λ (l : ReadySet). s ∷ l) back))

module _ {Query Answer : Type 0} (cube : CubeSemantics Query Answer) where
  abbrev segment_rows : Segment → Rows
  segment_rows s = flat_map cube.rows s.origin

  -- the rows of snapshots that lie in parts
  joined_rows : (set : ReadySet) → flat_map cube.rows (flat_map (λ (part : List Snapshot). part) (map (λ (s : Segment). s.origin) set)) ≡ rows_of cube set
  joined_rows [] = refl
  joined_rows (s ∷ set) =
      flat_map-append cube.rows s.origin (flat_map (λ (part : List Snapshot). part) (map (λ (t : Segment). t.origin) set)) ∙ ap (λ (l : Rows). segment_rows s ++ l) (joined_rows set)

  -- a segment that has the rows of what it replaces leaves those of the set
  swap_rows : (new : Segment) (set : ReadySet) → IsRange new.range → AreApart set → OnlyInside new.range set → segment_rows new ≡ rows_of cube (inside new.range set)
      → rows_of cube (swapped new set) ≡ rows_of cube set
  swap_rows new set hr h only e =
      let front : ReadySet = filter (is_front new.range) (outside new.range set) in
      let back : ReadySet = filter (is_back new.range) (outside new.range set) in
      let middle : ReadySet = inside new.range set in
      flat_map-append segment_rows front (new ∷ back)
      ∙ (ap (λ (l : Rows). flat_map segment_rows front ++ (l ++ flat_map segment_rows back)) e
      ∙ (ap (λ (l : Rows). flat_map segment_rows front ++ l) (sym (flat_map-append segment_rows middle back))
      ∙ (sym (flat_map-append segment_rows front (middle ++ back)) ∙ ap (λ (l : ReadySet). flat_map segment_rows l) (parted_is new.range set hr h only))))

  merge_origin : (w : World Query) (s : Submitted) → s.job.kind ≡ Merge → flat_map cube.rows (origin_of w s) ≡ rows_of cube (inside s.range w.ready)
  merge_origin w s e = ap (λ (k : JobKind). flat_map cube.rows (flat_map (λ (part : List Snapshot). part) (parts_by k w s))) e ∙ joined_rows (inside s.range w.ready)

  rows_ended : (w : World Query) (claims : List (ℕ × ℕ)) (n attempt : ℕ) (out : Outcome) (s : Submitted) (how : Ended) → job_of w n ≡ Some s → end_by out s.job attempt ≡ how → IsSound cube w → s.job.kind ≡ Merge
      → rows_of cube (ended_as how (record w { steps = claims }) n s).ready ≡ rows_of cube w.ready
  rows_ended w claims n attempt out s ended.Stale at e i merge = refl
  rows_ended w claims n attempt out s ended.Advanced at e i merge = refl
  rows_ended w claims n attempt out s ended.Failed at e i merge = refl
  rows_ended w claims n attempt out s ended.Finished at e i merge =
      let live = running_live s.job.state (current_counts s.job attempt (by_finished out s.job attempt e).0).running in
      let range = (i.numbered n s at).is_range in
      let apart = from_apart w.ready i.ready_apart in
      swap_rows (record { range = s.range; job = n; origin = origin_of (record w { steps = claims }) s }) w.ready range apart (place_inside cube s.job.kind s.range w.ready range apart (i.in_place n s at live))
      (merge_origin (record w { steps = claims }) s merge)

  rows_step : (w : World Query) (claims : List (ℕ × ℕ)) (n attempt : ℕ) (out : Outcome) (o : Option Submitted) (s : Submitted) → job_of w n ≡ o → o ≡ Some s → IsSound cube w → s.job.kind ≡ Merge
      → rows_of cube (step_ended (record w { steps = claims }) n attempt out o).ready ≡ rows_of cube w.ready
  rows_step w claims n attempt out None s at is i merge = cc
  rows_step w claims n attempt out (Some t) s at is i merge =
      let same : s ≡ t = some_same s t (sym is) in
      rows_ended w claims n attempt out t (end_by out t.job attempt) at refl i (subst (λ (x : Submitted). x.job.kind ≡ Merge) same merge)
    where
      some_same : (a b : Submitted) → Some a ≡ Some b → a ≡ b
      some_same a b h = cc

  -- every end of a step of a MERGE leaves the rows of the ready set
  pub merge_rows : (w : World Query) → IsSound cube w → (n attempt : ℕ) (out : Outcome) (s : Submitted) → job_of w n ≡ Some s → s.job.kind ≡ Merge
      → rows_of cube (step cube w (StepEnds n attempt out)).ready ≡ rows_of cube w.ready
  merge_rows w i n attempt out s at merge = rows_step w (without_claim n attempt w.steps) n attempt out (job_of w n) s refl at i merge
