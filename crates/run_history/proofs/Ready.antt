-- Ready sets that are apart: what a swap and a drop leave, and what fills a range.
use Rattle.std.proofs.Common.{◌≡◌, ℕ, zero, suc, ◌+◌, ◌≤◌, ◌<◌, Bool, true, false, cond, not, ◌&&◌, ◌||◌, ◌==◌, List, [], ◌∷◌, ◌++◌, length, set, All, refl, sym, ap, ◌∙◌, subst, inl, inr, arith, length-append}
use Rattle.std.specs.Prelude.{AllPairs, filter, nat_le, nat_lt, ⊤}
use Rattle.std.specs.List.{list_any}
use Rattle.std.proofs.lemmas.Bool.{cases_Bool, cases_lt, and_parts, and_from, ltb-true, ltb-false, leb-true, eqb-true, lt-ltb, le-ltb, le-leb, lt-leb, eq-eqb, ne_eqb}
use Rattle.std.proofs.lemmas.List.Elements.{filter-append}
use Rattle.std.proofs.lemmas.List.Filters.{length-filter_both}
use Rattle.range_list.specs.Ranges.{Interval, IsRange, IsBefore, IsApart, EndToEnd}
use Rattle.run_history.specs.Sets.{Segment, ReadySet, is_same_range, is_inside, is_overlap, inside, outside, placed, swapped}
use Rattle.run_history.specs.Verdicts.{is_on_bounds, is_ready, is_held}
use Rattle.run_history.specs.Invariants.{ranges_of}
use Rattle.run_history.proofs.Lists.{Every, cond_at_true, cond_at_false, or_false_left, or_split, or_none, or_right_true, not_true, false_or, every_map, every_zip, every_filter, filter_all, filter_none, filter_agree, any_false, any_some, any_more, any_of_filter}

-- a set is apart, by recursion
abbrev pub AreApart : ReadySet → Type 0
AreApart [] = ⊤
AreApart (s ∷ set) = IsRange s.range × Every (λ t. s.range.end ≤ t.range.start) set × AreApart set

-- ---- the two forms

all_cons : {X : Type 0} (P : X → Type 0) (x : X) (xs : List X) → P x → All P xs → All P (x ∷ xs)
all_cons P x xs p h zero d lt = p
all_cons P x xs p h (suc k) d lt = h k d (omega arith)

pairs_cons : {X : Type 0} (R : X → X → Type 0) (x : X) (xs : List X) → All (R x) xs → AllPairs R xs → AllPairs R (x ∷ xs)
pairs_cons R x xs h ps i zero d lt within = absurd (omega arith)
pairs_cons R x xs h ps zero (suc j) d lt within = h j d (omega arith)
pairs_cons R x xs h ps (suc i) (suc j) d lt within = ps i j d (omega arith) (omega arith)

all_ranges : (P : Interval → Type 0) (set : ReadySet) → Every (λ s. P s.range) set → All P (ranges_of set)
all_ranges P [] h k d lt = absurd (omega arith)
all_ranges P (s ∷ set) h k d lt = all_cons P s.range (ranges_of set) h.0 (all_ranges P set h.1) k d lt

every_range : (P : Interval → Type 0) (set : ReadySet) → All P (ranges_of set) → Every (λ s. P s.range) set
every_range P [] h = tt
every_range P (s ∷ set) h = (h 0 s.range (omega arith), every_range P set (λ k d lt. h (suc k) d (omega arith)))

pub to_apart : (set : ReadySet) → AreApart set → IsApart (ranges_of set)
to_apart [] h = ((λ k d lt. absurd (omega arith)), (λ i j d lt within. absurd (omega arith)))
to_apart (s ∷ set) h =
    let rest = to_apart set h.2 in
    (all_cons IsRange s.range (ranges_of set) h.0 rest.0, pairs_cons IsBefore s.range (ranges_of set) (all_ranges (IsBefore s.range) set h.1) rest.1)

pub from_apart : (set : ReadySet) → IsApart (ranges_of set) → AreApart set
from_apart [] h = tt
from_apart (s ∷ set) h = (
  h.0 0 s.range (omega arith),
  every_range (IsBefore s.range) set (λ k d lt. h.1 0 (suc k) d (omega arith) (omega arith)),
  from_apart set ((λ k d lt. h.0 (suc k) d (omega arith)), (λ i j d lt within. h.1 (suc i) (suc j) d (omega arith) (omega arith))),
)

pub each_range : (set : ReadySet) → AreApart set → Every (λ s. IsRange s.range) set
each_range [] h = tt
each_range (s ∷ set) h = (h.0, each_range set h.2)

-- ---- parts of a set

apart_cond : (b : Bool) (s : Segment) (l : ReadySet) → IsRange s.range → Every (λ t. s.range.end ≤ t.range.start) l → AreApart l → AreApart (cond b (s ∷ l) l)
apart_cond true s l r e h = (r, e, h)
apart_cond false s l r e h = h

pub filter_apart : (test : Segment → Bool) (set : ReadySet) → AreApart set → AreApart (filter test set)
filter_apart test [] h = tt
filter_apart test (s ∷ set) h =
    apart_cond (test s) s (filter test set) h.0 (every_map (λ t. (s.range.end ≤ t.range.start) × (test t ≡ true)) (λ t. s.range.end ≤ t.range.start) (filter test set) (λ t k. k.0) (every_filter (λ t. s.range.end ≤ t.range.start) test set h.1)) (filter_apart test set h.2)

pub insert_apart : (front back : ReadySet) (new : Segment) → AreApart (front ++ back) → IsRange new.range → Every (λ s. s.range.end ≤ new.range.start) front
    → Every (λ s. new.range.end ≤ s.range.start) back → AreApart (front ++ new ∷ back)
insert_apart [] back new h r f b = (r, b, h)
insert_apart (s ∷ front) back new h r f b = (h.0, between front h.1, insert_apart front back new h.2 r f.1 b)
  where
    between : (rest : ReadySet) → Every (λ t. s.range.end ≤ t.range.start) (rest ++ back) → Every (λ t. s.range.end ≤ t.range.start) (rest ++ new ∷ back)
    between [] k = (omega (arith, f.0, r), k)
    between (t ∷ rest) k = (k.0, between rest k.1)

-- the segments before a day and those from it on are the set
pub split_apart : (day : ℕ) (set : ReadySet) → AreApart set → filter (λ s. nat_lt s.range.start day) set ++ filter (λ s. not (nat_lt s.range.start day)) set ≡ set
split_apart day [] h = refl
split_apart day (s ∷ set) h = by (split_apart day set h.2) (nat_lt s.range.start day) refl
  where
    by : filter (λ t. nat_lt t.range.start day) set ++ filter (λ t. not (nat_lt t.range.start day)) set ≡ set → (b : Bool) → nat_lt s.range.start day ≡ b → cond b (s ∷ filter (λ t. nat_lt t.range.start day) set) (filter (λ t. nat_lt t.range.start day) set) ++ cond (not b) (s ∷ filter (λ t. not (nat_lt t.range.start day)) set) (filter (λ t. not (nat_lt t.range.start day)) set) ≡ s ∷ set
    by rest true e = ap (λ l. s ∷ l) rest
    by rest false e =
        let later : Every (λ t. nat_lt t.range.start day ≡ false) set = every_map (λ t. s.range.end ≤ t.range.start) (λ t. nat_lt t.range.start day ≡ false) set (λ t le. le-ltb t.range.start day (omega (arith, le, h.0, ltb-false s.range.start day e))) h.1 in
        rw (filter_none (λ t. nat_lt t.range.start day) set later) (ap (λ l. s ∷ l) (filter_all (λ t. not (nat_lt t.range.start day)) set (every_map (λ t. nat_lt t.range.start day ≡ false) (λ t. not (nat_lt t.range.start day) ≡ true) set (λ t e2. ap not e2) later)))

-- ---- bounds

-- from the day on which a segment starts on, each one that ends later starts there or later
starts_there : (day : ℕ) (set : ReadySet) → AreApart set → list_any (λ s. s.range.start == day) set ≡ true → Every (λ s. day < s.range.end → day ≤ s.range.start) set
starts_there day [] h e = tt
starts_there day (s ∷ set) h e = by (starts_there day set h.2) (s.range.start == day) refl e
  where
    by : (list_any (λ t. t.range.start == day) set ≡ true → Every (λ t. day < t.range.end → day ≤ t.range.start) set) → (b : Bool) → (s.range.start == day) ≡ b → b || list_any (λ t. t.range.start == day) set ≡ true → Every (λ t. day < t.range.end → day ≤ t.range.start) (s ∷ set)
    by later true here f =
        let at = eqb-true s.range.start day here in
        ((λ lt. omega arith), every_map (λ t. s.range.end ≤ t.range.start) (λ t. day < t.range.end → day ≤ t.range.start) set (λ t le lt. omega (arith, h.0)) h.1)
    by later false here f =
        let found = any_some (λ t. s.range.end ≤ t.range.start) (λ t. t.range.start == day) set h.1 f in
        let at = eqb-true found.0.range.start day found.1.1 in
        ((λ lt. absurd (omega (arith, found.1.0, at))), later f)

-- up to the day on which a segment ends, each one that starts earlier ends there or earlier
ends_there : (day : ℕ) (set : ReadySet) → AreApart set → list_any (λ s. s.range.end == day) set ≡ true → Every (λ s. s.range.start < day → s.range.end ≤ day) set
ends_there day [] h e = tt
ends_there day (s ∷ set) h e = by (ends_there day set h.2) (s.range.end == day) refl e
  where
    by : (list_any (λ t. t.range.end == day) set ≡ true → Every (λ t. t.range.start < day → t.range.end ≤ day) set) → (b : Bool) → (s.range.end == day) ≡ b → b || list_any (λ t. t.range.end == day) set ≡ true → Every (λ t. t.range.start < day → t.range.end ≤ day) (s ∷ set)
    by later true here f =
        let at = eqb-true s.range.end day here in
        ((λ lt. omega arith), every_map (λ t. s.range.end ≤ t.range.start) (λ t. t.range.start < day → t.range.end ≤ day) set (λ t le lt. absurd (omega arith)) h.1)
    by later false here f =
        let found = any_some (λ t. (s.range.end ≤ t.range.start) × IsRange t.range) (λ t. t.range.end == day) set (every_zip (λ t. s.range.end ≤ t.range.start) (λ t. IsRange t.range) (λ t. (s.range.end ≤ t.range.start) × IsRange t.range) set (λ t a b. (a, b)) h.1 (each_range set h.2)) f in
        let at = eqb-true found.0.range.end day found.1.1 in
        ((λ lt. omega (arith, found.1.0.0, found.1.0.1, at)), later f)

-- each segment that overlaps the range lies inside it
abbrev pub OnlyInside : Interval → ReadySet → Type 0
OnlyInside r set = Every (λ s. is_overlap s.range r ≡ true → is_inside r s.range ≡ true) set

pub inside_bounds : (r : Interval) (set : ReadySet) → AreApart set → is_on_bounds r set ≡ true → OnlyInside r set
inside_bounds r set h e =
    let parts = and_parts (list_any (λ s. s.range.start == r.start) set) (list_any (λ s. s.range.end == r.end) set) e in
    every_zip (λ s. r.start < s.range.end → r.start ≤ s.range.start) (λ s. s.range.start < r.end → s.range.end ≤ r.end) (λ s. is_overlap s.range r ≡ true → is_inside r s.range ≡ true) set (λ s a b o. (
    let both = and_parts (nat_lt s.range.start r.end) (nat_lt r.start s.range.end) o in
    let early = ltb-true s.range.start r.end both.0 in
    let late = ltb-true r.start s.range.end both.1 in
    and_from (nat_le r.start s.range.start) (nat_le s.range.end r.end) (le-leb r.start s.range.start (a late)) (le-leb s.range.end r.end (b early))
    )) (starts_there r.start set h parts.0) (ends_there r.end set h parts.1)

pub inside_free : (r : Interval) (set : ReadySet) → list_any (λ s. is_overlap s.range r) set ≡ false → OnlyInside r set
inside_free r set h = every_map (λ s. is_overlap s.range r ≡ false) (λ s. is_overlap s.range r ≡ true → is_inside r s.range ≡ true) set (λ s e o. cc) (any_false (λ s. is_overlap s.range r) set h)

-- ---- what fills a range

abbrev pub span : ℕ → ℕ → Interval
span from to = record { start = from; end = to }

not_inside_before : (from to : ℕ) (r : Interval) → r.start < from → is_inside (span from to) r ≡ false
not_inside_before from to r lt = rw (lt-leb from r.start lt) refl

not_inside_after : (from to : ℕ) (r : Interval) → to < r.end → is_inside (span from to) r ≡ false
not_inside_after from to r lt = false_or (is_inside (span from to) r) (λ e. absurd (omega (arith, leb-true r.end to (and_parts (nat_le from r.start) (nat_le r.end to) e).1)))

is_within : (from to : ℕ) (r : Interval) → from ≤ r.start → r.end ≤ to → is_inside (span from to) r ≡ true
is_within from to r a b = and_from (nat_le from r.start) (nat_le r.end to) (le-leb from r.start a) (le-leb r.end to b)

abbrev holds_day : ℕ → Segment → Bool
holds_day day s = nat_le s.range.start day && nat_le (day + 1) s.range.end

not_held_after : (day : ℕ) (s : Segment) → s.range.end ≤ day → holds_day day s ≡ false
not_held_after day s le = false_or (holds_day day s) (λ e. absurd (omega (arith, leb-true (day + 1) s.range.end (and_parts (nat_le s.range.start day) (nat_le (day + 1) s.range.end) e).1)))

abbrev pub HoldsDays : ℕ → ℕ → ReadySet → Type 0
HoldsDays from to set = (day : ℕ) → from ≤ day → day < to → is_held set day ≡ true

module _ (to : ℕ) (s : Segment) (set : ReadySet) (h : AreApart (s ∷ set)) where
  ranges_after : Every (λ t. (s.range.end ≤ t.range.start) × IsRange t.range) set
  ranges_after = every_zip (λ t. s.range.end ≤ t.range.start) (λ t. IsRange t.range) (λ t. (s.range.end ≤ t.range.start) × IsRange t.range) set (λ t a b. (a, b)) h.1 (each_range set h.2)

  -- days that the first segment doesn't hold
  rest_days : (from later : ℕ) → from ≤ later → s.range.end ≤ later → HoldsDays from to (s ∷ set) → HoldsDays later to set
  rest_days from later le past days day low high = or_false_left (holds_day day s) (list_any (holds_day day) set) (not_held_after day s (omega arith)) (days day (omega arith) high)

  first_at : (from : ℕ) → from < s.range.end → list_any (λ t. t.range.start == from) (s ∷ set) ≡ true → s.range.start ≡ from
  first_at from lt e =
      elim (or_split (s.range.start == from) (list_any (λ t. t.range.start == from) set) e) [
        | inl here ↦ eqb-true s.range.start from here
        | inr later ↦
            let found = any_some (λ t. s.range.end ≤ t.range.start) (λ t. t.range.start == from) set h.1 later in
            absurd (omega (arith, found.1.0, eqb-true found.0.range.start from found.1.1))
      ]

  last_at : to ≤ s.range.end → list_any (λ t. t.range.end == to) (s ∷ set) ≡ true → s.range.end ≡ to
  last_at le e =
      elim (or_split (s.range.end == to) (list_any (λ t. t.range.end == to) set) e) [
        | inl here ↦ eqb-true s.range.end to here
        | inr later ↦
            let found = any_some (λ t. (s.range.end ≤ t.range.start) × IsRange t.range) (λ t. t.range.end == to) set ranges_after later in
            absurd (omega (arith, found.1.0.0, found.1.0.1, eqb-true found.0.range.end to found.1.1))
      ]

  none_after : (from : ℕ) → to ≤ s.range.end → Every (λ t. is_inside (span from to) t.range ≡ false) set
  none_after from le = every_map (λ t. (s.range.end ≤ t.range.start) × IsRange t.range) (λ t. is_inside (span from to) t.range ≡ false) set (λ t k. not_inside_after from to t.range (omega (arith, k.0, k.1))) ranges_after

  same_after : (from : ℕ) → from ≤ s.range.end → Every (λ t. is_inside (span from to) t.range ≡ is_inside (span s.range.end to) t.range) set
  same_after from le = every_map (λ t. s.range.end ≤ t.range.start) (λ t. is_inside (span from to) t.range ≡ is_inside (span s.range.end to) t.range) set (λ t k. ap (λ b. b && nat_le t.range.end to) (le-leb from t.range.start (omega arith) ∙ sym (le-leb s.range.end t.range.start k))) h.1

  next_at : (from : ℕ) → from < s.range.end → s.range.end < to → HoldsDays from to (s ∷ set) → list_any (λ t. t.range.start == s.range.end) set ≡ true
  next_at from lt lt2 days =
      any_more (holds_day s.range.end) (λ t. t.range.start == s.range.end) set (every_map (λ t. s.range.end ≤ t.range.start) (λ t. holds_day s.range.end t ≡ true → (t.range.start == s.range.end) ≡ true) set (λ t le e. (
      eq-eqb t.range.start s.range.end (omega (arith, le, leb-true t.range.start s.range.end (and_parts (nat_le t.range.start s.range.end) (nat_le (s.range.end + 1) t.range.end) e).0))
      )) h.1) (rest_days from s.range.end (omega arith) (omega arith) days s.range.end (omega arith) lt2)

-- a set that holds each day of a range, with a segment that starts at its start and one that ends at its end, fills it end to end
pub filled_by : (to : ℕ) (set : ReadySet) (from : ℕ) → AreApart set → from < to → HoldsDays from to set
    → list_any (λ s. s.range.start == from) set ≡ true → list_any (λ s. s.range.end == to) set ≡ true → EndToEnd from to (ranges_of (inside (span from to) set))
filled_by to [] from h lt days starts ends = cc
filled_by to (s ∷ set) from h lt days starts ends =
    elim (cases_lt from s.range.end) [
      | inr le ↦
          let test : is_inside (span from to) s.range ≡ false = not_inside_before from to s.range (omega (arith, h.0)) in
          let rest = filled_by to set from h.2 lt (rest_days to s set h from from (omega arith) le days) (or_false_left (s.range.start == from) (list_any (λ t. t.range.start == from) set) (ne_eqb s.range.start from (λ e. omega (arith, h.0))) starts)
          (or_false_left (s.range.end == to) (list_any (λ t. t.range.end == to) set) (ne_eqb s.range.end to (λ e. omega arith)) ends) in
          subst (λ (l : ReadySet). EndToEnd from to (ranges_of l)) (sym (cond_at_false (is_inside (span from to) s.range) (s ∷ inside (span from to) set) (inside (span from to) set) test)) rest
      | inl gt ↦
          let at = first_at to s set h from gt starts in
          elim (cases_lt s.range.end to) [
            | inr le ↦
                let last = last_at to s set h le ends in
                let test : is_inside (span from to) s.range ≡ true = is_within from to s.range (omega arith) (omega arith) in
                let alone : inside (span from to) set ≡ [] = filter_none (λ t. is_inside (span from to) t.range) set (none_after to s set h from le) in
                subst (λ (l : ReadySet). EndToEnd from to (ranges_of l)) (sym (cond_at_true (is_inside (span from to) s.range) (s ∷ inside (span from to) set) (inside (span from to) set) test ∙ ap (λ (l : ReadySet). s ∷ l) alone)) (at, last)
            | inl lt2 ↦
                let test : is_inside (span from to) s.range ≡ true = is_within from to s.range (omega arith) (omega arith) in
                let same : inside (span from to) set ≡ inside (span s.range.end to) set = filter_agree (λ t. is_inside (span from to) t.range) (λ t. is_inside (span s.range.end to) t.range) set (same_after to s set h from (omega arith)) in
                let rest = filled_by to set s.range.end h.2 lt2 (rest_days to s set h from s.range.end (omega arith) (omega arith) days) (next_at to s set h from gt lt2 days) (or_false_left (s.range.end == to) (list_any (λ t. t.range.end == to) set) (ne_eqb s.range.end to (λ e. omega arith)) ends) in
                subst (λ (l : ReadySet). EndToEnd from to (ranges_of l)) (sym (cond_at_true (is_inside (span from to) s.range) (s ∷ inside (span from to) set) (inside (span from to) set) test ∙ ap (λ (l : ReadySet). s ∷ l) same)) (at, rest)
          ]
    ]

-- a range that is filled by one segment is that segment's
pub several : (from to : ℕ) (set : ReadySet) → from < to → EndToEnd from to (ranges_of set) → list_any (λ s. is_same_range (span from to) s.range) set ≡ false → 2 ≤ length set
several from to [] lt h e = absurd (omega arith)
several from to (s ∷ []) lt h e =
    let same : is_same_range (span from to) s.range ≡ true = and_from (from == s.range.start) (to == s.range.end) (eq-eqb from s.range.start (sym h.0)) (eq-eqb to s.range.end (sym h.1)) in
    let other = (or_none (is_same_range (span from to) s.range) false e).0 in
    cc
several from to (s ∷ t ∷ set) lt h e = omega arith

-- a range that is filled has a first and a last segment
pub filled_starts : (from to : ℕ) (set : ReadySet) → from < to → EndToEnd from to (ranges_of set) → list_any (λ s. s.range.start == from) set ≡ true
filled_starts from to [] lt h = absurd (omega arith)
filled_starts from to (s ∷ set) lt h = ap (λ b. b || list_any (λ t. t.range.start == from) set) (eq-eqb s.range.start from h.0)

filled_last : (from to : ℕ) (s : Segment) (set : ReadySet) → EndToEnd from to (ranges_of (s ∷ set)) → list_any (λ t. t.range.end == to) (s ∷ set) ≡ true
filled_last from to s [] h = ap (λ b. b || false) (eq-eqb s.range.end to h.1)
filled_last from to s (t ∷ set) h = or_right_true (s.range.end == to) (list_any (λ u. u.range.end == to) (t ∷ set)) (filled_last s.range.end to t set h.1)

pub filled_ends : (from to : ℕ) (set : ReadySet) → from < to → EndToEnd from to (ranges_of set) → list_any (λ s. s.range.end == to) set ≡ true
filled_ends from to [] lt h = absurd (omega arith)
filled_ends from to (s ∷ set) lt h = filled_last from to s set h

-- what is found in a part is found in the set
pub any_of_part : (p test : Segment → Bool) (set : ReadySet) → list_any p (filter test set) ≡ true → list_any p set ≡ true
any_of_part p test set e = elim (cases_Bool (list_any p set)) [
  | inl found ↦ found
  | inr missing ↦ let never = any_of_filter p test set missing in cc
]

-- a range that is filled from inside is on bounds
pub filled_bounds : (r : Interval) (set : ReadySet) → IsRange r → EndToEnd r.start r.end (ranges_of (inside r set)) → is_on_bounds r set ≡ true
filled_bounds r set lt h =
    and_from (list_any (λ s. s.range.start == r.start) set) (list_any (λ s. s.range.end == r.end) set)
    (any_of_part (λ s. s.range.start == r.start) (λ s. is_inside r s.range) set (filled_starts r.start r.end (inside r set) lt h))
    (any_of_part (λ s. s.range.end == r.end) (λ s. is_inside r s.range) set (filled_ends r.start r.end (inside r set) lt h))

-- and so is a segment's own range
pub ready_bounds : (r : Interval) (set : ReadySet) → is_ready r set ≡ true → is_on_bounds r set ≡ true
ready_bounds r set e =
    and_from (list_any (λ s. s.range.start == r.start) set) (list_any (λ s. s.range.end == r.end) set)
    (any_more (λ s. is_same_range r s.range) (λ s. s.range.start == r.start) set (starts set) e)
    (any_more (λ s. is_same_range r s.range) (λ s. s.range.end == r.end) set (ends set) e)
  where
    starts : (l : ReadySet) → Every (λ s. is_same_range r s.range ≡ true → (s.range.start == r.start) ≡ true) l
    starts [] = tt
    starts (s ∷ l) = ((λ same. eq-eqb s.range.start r.start (sym (eqb-true r.start s.range.start (and_parts (r.start == s.range.start) (r.end == s.range.end) same).0))), starts l)

    ends : (l : ReadySet) → Every (λ s. is_same_range r s.range ≡ true → (s.range.end == r.end) ≡ true) l
    ends [] = tt
    ends (s ∷ l) = ((λ same. eq-eqb s.range.end r.end (sym (eqb-true r.end s.range.end (and_parts (r.start == s.range.start) (r.end == s.range.end) same).1))), ends l)

-- ---- ranges that don't overlap

-- of two ranges that don't overlap neither is inside the other
pub apart_inside : (r x : Interval) → IsRange r → IsRange x → is_overlap r x ≡ false → is_inside x r ≡ false
apart_inside r x hr hx e =
    false_or (is_inside x r) (λ i. (
    let parts = and_parts (nat_le x.start r.start) (nat_le r.end x.end) i in
    let low = leb-true x.start r.start parts.0 in
    let high = leb-true r.end x.end parts.1 in
    let over : is_overlap r x ≡ true = and_from (nat_lt r.start x.end) (nat_lt x.start r.end) (lt-ltb r.start x.end (omega arith)) (lt-ltb x.start r.end (omega arith)) in
    cc
    ))

-- what lies inside one of them doesn't lie inside the other
pub inside_one : (r x s : Interval) → IsRange s → is_overlap r x ≡ false → is_inside r s ≡ true → is_inside x s ≡ false
inside_one r x s hs e i =
    false_or (is_inside x s) (λ j. (
    let a = and_parts (nat_le r.start s.start) (nat_le s.end r.end) i in
    let b = and_parts (nat_le x.start s.start) (nat_le s.end x.end) j in
    let al = leb-true r.start s.start a.0 in
    let ah = leb-true s.end r.end a.1 in
    let bl = leb-true x.start s.start b.0 in
    let bh = leb-true s.end x.end b.1 in
    let over : is_overlap r x ≡ true = and_from (nat_lt r.start x.end) (nat_lt x.start r.end) (lt-ltb r.start x.end (omega arith)) (lt-ltb x.start r.end (omega arith)) in
    cc
    ))

pub overlap_sym : (r x : Interval) → is_overlap r x ≡ is_overlap x r
overlap_sym r x = both_ways (nat_lt r.start x.end) (nat_lt x.start r.end)
  where
    both_ways : (b c : Bool) → (b && c) ≡ (c && b)
    both_ways true true = refl
    both_ways true false = refl
    both_ways false true = refl
    both_ways false false = refl

-- ---- a swap

any_around : (p : Segment → Bool) (front back : ReadySet) (new : Segment) → list_any p (front ++ new ∷ back) ≡ (p new || list_any p (front ++ back))
any_around p [] back new = refl
any_around p (s ∷ front) back new = ap (λ b. p s || b) (any_around p front back new) ∙ turned (p s) (p new) (list_any p (front ++ back))
  where
    turned : (a b c : Bool) → a || (b || c) ≡ b || (a || c)
    turned true true c = refl
    turned true false c = refl
    turned false b c = refl

pub any_placed : (p : Segment → Bool) (new : Segment) (set : ReadySet) → AreApart set → list_any p (placed new set) ≡ (p new || list_any p set)
any_placed p new set h =
    any_around p (filter (λ s. nat_lt s.range.start new.range.start) set) (filter (λ s. not (nat_lt s.range.start new.range.start)) set) new
    ∙ ap (λ (l : ReadySet). p new || list_any p l) (split_apart new.range.start set h)

pub inside_placed : (r : Interval) (new : Segment) (set : ReadySet) → AreApart set → is_inside r new.range ≡ false → inside r (placed new set) ≡ inside r set
inside_placed r new set h e =
    let test : Segment → Bool = λ s. is_inside r s.range in
    let front : ReadySet = filter (λ s. nat_lt s.range.start new.range.start) set in
    let back : ReadySet = filter (λ s. not (nat_lt s.range.start new.range.start)) set in
    filter-append test front (new ∷ back)
    ∙ ap (λ (l : ReadySet). filter test front ++ l) (cond_at_false (test new) (new ∷ filter test back) (filter test back) e)
    ∙ sym (filter-append test front back) ∙ ap (filter test) (split_apart new.range.start set h)

pub length_placed : (new : Segment) (set : ReadySet) → length (placed new set) ≡ length set + 1
length_placed new set =
    omega (
      arith,
      length-append (filter (λ s. nat_lt s.range.start new.range.start) set) (new ∷ filter (λ s. not (nat_lt s.range.start new.range.start)) set),
      length-filter_both (λ s. nat_lt s.range.start new.range.start) (λ s. not (nat_lt s.range.start new.range.start)) (λ s. refl) set,
    )

pub length_outside : (r : Interval) (set : ReadySet) → length (inside r set) + length (outside r set) ≡ length set
length_outside r set = length-filter_both (λ s. is_inside r s.range) (λ s. not (is_inside r s.range)) (λ s. refl) set

-- the segments outside a range that only overlaps segments inside it don't overlap it
outside_free : (r : Interval) (set : ReadySet) → OnlyInside r set → Every (λ s. is_overlap s.range r ≡ false) (outside r set)
outside_free r set h =
    every_map (λ s. (is_overlap s.range r ≡ true → is_inside r s.range ≡ true) × (not (is_inside r s.range) ≡ true)) (λ s. is_overlap s.range r ≡ false) (outside r set) (λ s k. (
    false_or (is_overlap s.range r) (λ o. let a = k.0 o in let b = not_true (is_inside r s.range) k.1 in cc)
    )) (every_filter (λ s. is_overlap s.range r ≡ true → is_inside r s.range ≡ true) (λ s. not (is_inside r s.range)) set h)

-- of two ranges that don't overlap the one that starts later starts where the other ends, or later
pub starts_after : (a b : Interval) → IsRange a → IsRange b → is_overlap a b ≡ false → b.start ≤ a.start → b.end ≤ a.start
starts_after a b ra rb e le =
    elim (cases_lt a.start b.end) [
      | inl over ↦ let yes : is_overlap a b ≡ true = and_from (nat_lt a.start b.end) (nat_lt b.start a.end) (lt-ltb a.start b.end over) (lt-ltb b.start a.end (omega arith)) in cc
      | inr ge ↦ ge
    ]

pub swapped_apart : (new : Segment) (set : ReadySet) → AreApart set → IsRange new.range → OnlyInside new.range set → AreApart (swapped new set)
swapped_apart new set h r only =
    let rest : ReadySet = outside new.range set in
    let apart : AreApart rest = filter_apart (λ s. not (is_inside new.range s.range)) set h in
    let facts : Every (λ s. IsRange s.range × (is_overlap s.range new.range ≡ false)) rest = every_zip (λ s. IsRange s.range) (λ s. is_overlap s.range new.range ≡ false) (λ s. IsRange s.range × (is_overlap s.range new.range ≡ false)) rest (λ s a b. (a, b)) (each_range rest apart) (outside_free new.range set only) in
    insert_apart (filter (λ s. nat_lt s.range.start new.range.start) rest) (filter (λ s. not (nat_lt s.range.start new.range.start)) rest) new
    (subst AreApart (sym (split_apart new.range.start rest apart)) apart) r
    (every_map (λ s. (IsRange s.range × (is_overlap s.range new.range ≡ false)) × (nat_lt s.range.start new.range.start ≡ true)) (λ s. s.range.end ≤ new.range.start) (filter (λ s. nat_lt s.range.start new.range.start) rest)
    (λ s k. ends_before s.range new.range k.0.0 r k.0.1 (ltb-true s.range.start new.range.start k.1))
    (every_filter (λ s. IsRange s.range × (is_overlap s.range new.range ≡ false)) (λ s. nat_lt s.range.start new.range.start) rest facts))
    (every_map (λ s. (IsRange s.range × (is_overlap s.range new.range ≡ false)) × (not (nat_lt s.range.start new.range.start) ≡ true)) (λ s. new.range.end ≤ s.range.start) (filter (λ s. not (nat_lt s.range.start new.range.start)) rest)
    (λ s k. starts_after s.range new.range k.0.0 r k.0.1 (ltb-false s.range.start new.range.start (not_true (nat_lt s.range.start new.range.start) k.1)))
    (every_filter (λ s. IsRange s.range × (is_overlap s.range new.range ≡ false)) (λ s. not (nat_lt s.range.start new.range.start)) rest facts))
  where
    ends_before : (a b : Interval) → IsRange a → IsRange b → is_overlap a b ≡ false → a.start < b.start → a.end ≤ b.start
    ends_before a b ra rb e lt =
        elim (cases_lt b.start a.end) [
          | inl over ↦ let yes : is_overlap a b ≡ true = and_from (nat_lt a.start b.end) (nat_lt b.start a.end) (lt-ltb a.start b.end (omega arith)) (lt-ltb b.start a.end over) in cc
          | inr le ↦ le
        ]
