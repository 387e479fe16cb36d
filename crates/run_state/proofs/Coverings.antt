-- How the ranges of the ready segments cover another range, as the tests on the ready set say it.
use Rattle.std.proofs.Common.{◌≡◌, ◌≢◌, ℕ, zero, suc, ◌+◌, ◌-◌, ◌≤◌, ◌<◌, ◌⊎◌, Bool, true, false, cond, not, ◌&&◌, ◌||◌, ◌==◌, drop, slice_get, Option, Some, None, List, [], ◌∷◌, length, map, All, refl, sym, ap, ◌∙◌, subst, inl, inr, arith}
use Rattle.std.specs.Prelude.{Any, ◌↔◌, find, nat_le, option_map}
use Rattle.std.specs.List.{list_any}
use Rattle.std.specs.Option.{option_or}
use Rattle.std.proofs.lemmas.Bool.{and_parts, and_from, eqb-true, eqb-false, eq-eqb, le-leb, leb-true}
use Rattle.range_list.specs.Ranges.{Holds, Interval, IsFirstFreeDay, IsOffBounds, IsOnBounds}
use Rattle.range_list.specs.declared.cover.Cover.{Cover}
use Rattle.range_list.specs.declared.cover.Cover.TheVariants as cover
use Rattle.run_history.specs.Invariants.{ranges_of}
use Rattle.run_history.specs.Sets.{ReadySet, Segment, is_same_range}
use Rattle.run_history.specs.Verdicts.{days_from, first_free_day, first_of, is_held, is_on_bounds, is_ready, refused_if}
use Rattle.run_history.specs.declared.refused.Refused.{Refused}
use Rattle.run_history.specs.declared.refused.Refused.TheVariants as refused
use Rattle.run_state.specs.Answers.{of_cover}
use Rattle.run_history.proofs.Lists.{Every, any_false, any_none, every_map, false_or, find_none, from_all, not_false, or_split, to_all}
use Rattle.run_state.proofs.Lists.{any_map, some_eq}

-- ---- tests on lists

all_not : {X : Type 0} (P : X → Type 0) (test : X → Bool) → ((x : X) → P x → test x ≡ true) → (xs : List X) → list_any test xs ≡ false → All (λ x. ¬ (P x)) xs
all_not P test f xs h = to_all (λ x. ¬ (P x)) xs (every_map (λ x. test x ≡ false) (λ x. ¬ (P x)) xs (λ x e p. (let t = f x p in cc)) (any_false test xs h))

any_is : {X : Type 0} (P : X → Type 0) (test : X → Bool) → ((x : X) → test x ≡ true → P x) → (xs : List X) → list_any test xs ≡ true → Any P xs
any_is P test f [] h = cc
any_is P test f (x ∷ xs) h =
    elim (or_split (test x) (list_any test xs) h) [
      | inl here ↦ (0, x, omega arith, refl, f x here)
      | inr later ↦ let rest = any_is P test f xs later in (suc rest.0, rest.1, omega (arith, rest.2), rest.3, rest.4)
    ]

none_is : {X : Type 0} (P : X → Type 0) (test : X → Bool) → ((x : X) → test x ≡ true → P x) → (xs : List X) → All (λ x. ¬ (P x)) xs → list_any test xs ≡ false
none_is P test f xs h = any_none test xs (every_map (λ x. ¬ (P x)) (λ x. test x ≡ false) xs (λ x n. false_or (test x) (λ t. n (f x t))) (from_all (λ x. ¬ (P x)) xs h))

any_next : {X : Type 0} (test : X → Bool) (xs : List X) (i : ℕ) (x : X) → slice_get xs i ≡ Some x → list_any test (drop i xs) ≡ (test x || list_any test (drop (suc i) xs))
any_next test [] i x e = cc
any_next test (y ∷ xs) zero x e = ap (λ (z : _). test z || list_any test xs) (some_eq y x e)
any_next test (y ∷ xs) (suc i) x e = any_next test xs i x e

pub any_at : {X : Type 0} (test : X → Bool) (xs : List X) (i : ℕ) (x : X) → slice_get xs i ≡ Some x → list_any test (drop i xs) ≡ (test x || list_any test (drop (i + 1) xs))
any_at test xs i x e = let next : i + 1 ≡ suc i = omega arith in any_next test xs i x e ∙ ap (λ (n : ℕ). test x || list_any test (drop n xs)) (sym next)

left_false : (a b : Bool) → a ≡ false → a && b ≡ false
left_false true b h = cc
left_false false b h = refl

right_false : (a b : Bool) → b ≡ false → a && b ≡ false
right_false true b h = h
right_false false b h = refl

-- ---- bounds

abbrev starts : Interval → Interval → Bool
starts r x = x.start == r.start

abbrev ends : Interval → Interval → Bool
ends r x = x.end == r.end

start_tested : (r : Interval) (set : ReadySet) → list_any (starts r) (ranges_of set) ≡ list_any (λ s. s.range.start == r.start) set
start_tested r set = any_map (λ (s : Segment). s.range) (starts r) set

end_tested : (r : Interval) (set : ReadySet) → list_any (ends r) (ranges_of set) ≡ list_any (λ s. s.range.end == r.end) set
end_tested r set = any_map (λ (s : Segment). s.range) (ends r) set

pub off_bounds : (r : Interval) (set : ReadySet) → IsOffBounds (ranges_of set) r → is_on_bounds r set ≡ false
off_bounds r set h =
    elim h [
      | inl a ↦
          left_false (list_any (λ s. s.range.start == r.start) set) (list_any (λ s. s.range.end == r.end) set)
          (sym (start_tested r set) ∙ none_is (λ (x : Interval). x.start ≡ r.start) (starts r) (λ x t. eqb-true x.start r.start t) (ranges_of set) a)
      | inr b ↦
          right_false (list_any (λ s. s.range.start == r.start) set) (list_any (λ s. s.range.end == r.end) set)
          (sym (end_tested r set) ∙ none_is (λ (x : Interval). x.end ≡ r.end) (ends r) (λ x t. eqb-true x.end r.end t) (ranges_of set) b)
    ]

pub on_bounds : (r : Interval) (set : ReadySet) → ¬ (IsOffBounds (ranges_of set) r) → is_on_bounds r set ≡ true
on_bounds r set h = by (list_any (starts r) (ranges_of set)) (list_any (ends r) (ranges_of set)) refl refl
  where
    by : (a b : Bool) → list_any (starts r) (ranges_of set) ≡ a → list_any (ends r) (ranges_of set) ≡ b → is_on_bounds r set ≡ true
    by true true e g = and_from (list_any (λ s. s.range.start == r.start) set) (list_any (λ s. s.range.end == r.end) set) (sym (start_tested r set) ∙ e) (sym (end_tested r set) ∙ g)
    by false b e g = absurd (h (inl (all_not (λ (x : Interval). x.start ≡ r.start) (starts r) (λ x t. eq-eqb x.start r.start t) (ranges_of set) e)))
    by true false e g = absurd (h (inr (all_not (λ (x : Interval). x.end ≡ r.end) (ends r) (λ x t. eq-eqb x.end r.end t) (ranges_of set) g)))

bounds_there : (r : Interval) (set : ReadySet) → is_on_bounds r set ≡ true → IsOnBounds (ranges_of set) r
bounds_there r set h =
    let parts = and_parts (list_any (λ s. s.range.start == r.start) set) (list_any (λ s. s.range.end == r.end) set) h in (
      any_is (λ (x : Interval). x.start ≡ r.start) (starts r) (λ x t. eqb-true x.start r.start t) (ranges_of set) (start_tested r set ∙ parts.0),
      any_is (λ (x : Interval). x.end ≡ r.end) (ends r) (λ x t. eqb-true x.end r.end t) (ranges_of set) (end_tested r set ∙ parts.1),
    )

-- ---- days

abbrev holds : ℕ → Interval → Bool
holds day x = nat_le x.start day && nat_le (day + 1) x.end

held_tested : (day : ℕ) (set : ReadySet) → list_any (holds day) (ranges_of set) ≡ is_held set day
held_tested day set = any_map (λ (s : Segment). s.range) (holds day) set

holds_is : (day : ℕ) (x : Interval) → holds day x ≡ true → Holds x day
holds_is day x t = let parts = and_parts (nat_le x.start day) (nat_le (day + 1) x.end) t in (leb-true x.start day parts.0, omega (arith, leb-true (day + 1) x.end parts.1))

is_holds : (day : ℕ) (x : Interval) → Holds x day → holds day x ≡ true
is_holds day x h = and_from (nat_le x.start day) (nat_le (day + 1) x.end) (le-leb x.start day h.0) (le-leb (day + 1) x.end (omega (arith, h.1)))

-- the first of some days in a row that no segment holds
record IsFirst (set : ReadySet) (from count day : ℕ) : Type 0 where
  low : from ≤ day
  high : day < from + count
  free : is_held set day ≡ false
  before : (d : ℕ) → from ≤ d → d < day → is_held set d ≡ true

first_there : (set : ReadySet) (count from day : ℕ) → find (λ d. not (is_held set d)) (days_from from count) ≡ Some day → IsFirst set from count day
first_there set zero from day h = cc
first_there set (suc count) from day h = by (is_held set from) refl h (λ e. first_there set count (from + 1) day e)
  where
    same : Some from ≡ Some day → from ≡ day
    same e = cc

    by : (b : Bool) → is_held set from ≡ b → cond (not b) (Some from) (find (λ d. not (is_held set d)) (days_from (from + 1) count)) ≡ Some day
        → (find (λ d. not (is_held set d)) (days_from (from + 1) count) ≡ Some day → IsFirst set (from + 1) count day) → IsFirst set from (suc count) day
    by false e g later =
        let is = same g in
        record { low = omega arith; high = omega arith; free = subst (λ (d : ℕ). is_held set d ≡ false) is e; before = λ d low high. absurd (omega (arith, is)) }
    by true e g later =
        let rest = later g in
        record {
          low = omega (arith, rest.low);
          high = omega (arith, rest.high);
          free = rest.free;
          before = λ d low high. start_or d low high rest (d == from) refl;
        }
      where
        start_or : (d : ℕ) → from ≤ d → d < day → IsFirst set (from + 1) count day → (b : Bool) → (d == from) ≡ b → is_held set d ≡ true
        start_or d low high rest true f = subst (λ (n : ℕ). is_held set n ≡ true) (sym (eqb-true d from f)) e
        start_or d low high rest false f = rest.before d (omega (arith, low, eqb-false d from f)) high

free_day : (r : Interval) (set : ReadySet) (day : ℕ) → first_free_day r set ≡ Some day → IsFirstFreeDay (ranges_of set) r day
free_day r set day h =
    let first = first_there set (r.end - r.start) r.start day h in
    record {
      inside = (first.low, omega (arith, first.low, first.high));
      free = all_not (λ (x : Interval). Holds x day) (holds day) (is_holds day) (ranges_of set) (held_tested day set ∙ first.free);
      before = λ d low high. any_is (λ (x : Interval). Holds x d) (holds d) (holds_is d) (ranges_of set) (held_tested d set ∙ first.before d low high);
    }

held_there : (set : ReadySet) (count from day : ℕ) → Every (λ d. not (is_held set d) ≡ false) (days_from from count) → from ≤ day → day < from + count → is_held set day ≡ true
held_there set zero from day h low high = absurd (omega arith)
held_there set (suc count) from day h low high = by (day == from) refl (λ lt. held_there set count (from + 1) day h.1 lt (omega arith))
  where
    by : (b : Bool) → (day == from) ≡ b → (from + 1 ≤ day → is_held set day ≡ true) → is_held set day ≡ true
    by true e later = subst (λ (n : ℕ). is_held set n ≡ true) (sym (eqb-true day from e)) (not_false (is_held set from) h.0)
    by false e later = later (omega (arith, low, eqb-false day from e))

no_day : (r : Interval) (set : ReadySet) (day : ℕ) → first_free_day r set ≡ None → Holds r day → is_held set day ≡ true
no_day r set day h inside =
    held_there set (r.end - r.start) r.start day (find_none (λ d. not (is_held set d)) (days_from r.start (r.end - r.start)) h) inside.0 (omega (arith, inside.0, inside.1))

-- ---- coverings

module _ (r : Interval) (set : ReadySet) (c : Cover) (off : (c ≡ cover.NotOnBounds) ↔ IsOffBounds (ranges_of set) r)
    (hole : (day : ℕ) → (c ≡ cover.Hole day) ↔ (IsOnBounds (ranges_of set) r × IsFirstFreeDay (ranges_of set) r day)) where
  pub cover_off : c ≡ cover.NotOnBounds → is_on_bounds r set ≡ false
  cover_off e = off_bounds r set (off.0 e)

  pub cover_on : c ≢ cover.NotOnBounds → is_on_bounds r set ≡ true
  cover_on n = on_bounds r set (λ h. n (off.1 h))

  same_day : (a b : ℕ) → c ≡ cover.Hole a → c ≡ cover.Hole b → a ≡ b
  same_day a b e g = cc

  pub cover_hole : (day : ℕ) → c ≡ cover.Hole day → first_free_day r set ≡ Some day
  cover_hole day e = by (first_free_day r set) refl
    where
      facts : IsOnBounds (ranges_of set) r × IsFirstFreeDay (ranges_of set) r day
      facts = (hole day).0 e

      by : (o : Option ℕ) → first_free_day r set ≡ o → o ≡ Some day
      by None h =
          let held = no_day r set day h facts.1.inside in
          let free = sym (held_tested day set) ∙ none_is (λ (x : Interval). Holds x day) (holds day) (holds_is day) (ranges_of set) facts.1.free in
          let never : true ≡ false = sym held ∙ free in
          cc
      by (Some d) h = ap (λ (n : ℕ). Some n) (same_day d day ((hole d).1 (facts.0, free_day r set d h)) e)

  pub cover_parts : c ≢ cover.NotOnBounds → ((day : ℕ) → c ≢ cover.Hole day) → first_free_day r set ≡ None
  cover_parts n m = by (first_free_day r set) refl
    where
      by : (o : Option ℕ) → first_free_day r set ≡ o → o ≡ None
      by None h = refl
      by (Some d) h = absurd (m d ((hole d).1 (bounds_there r set (cover_on n), free_day r set d h)))

-- ---- refusals in their order

pub first_of_two : (a b : Option Refused) → first_of (a ∷ b ∷ []) ≡ option_or a b
first_of_two None None = refl
first_of_two None (Some x) = refl
first_of_two (Some x) b = refl

pub first_of_four : (a b c d : Option Refused) → first_of (a ∷ b ∷ c ∷ d ∷ None ∷ []) ≡ option_or (first_of (a ∷ b ∷ c ∷ [])) d
first_of_four (Some x) b c d = refl
first_of_four None (Some x) c d = refl
first_of_four None None (Some x) d = refl
first_of_four None None None (Some x) = refl
first_of_four None None None None = refl

pub first_of_five : (a b c d e : Option Refused) → first_of (a ∷ b ∷ c ∷ d ∷ e ∷ []) ≡ option_or (first_of (a ∷ b ∷ c ∷ d ∷ None ∷ [])) e
first_of_five (Some x) b c d e = refl
first_of_five None (Some x) c d e = refl
first_of_five None None (Some x) d e = refl
first_of_five None None None (Some x) e = refl
first_of_five None None None None None = refl
first_of_five None None None None (Some x) = refl

-- ---- a covering's refusal

module _ (r : Interval) (rs : List Interval) (set : ReadySet) (same : ranges_of set ≡ rs) (c : Cover) (off : (c ≡ cover.NotOnBounds) ↔ IsOffBounds rs r)
    (hole : (day : ℕ) → (c ≡ cover.Hole day) ↔ (IsOnBounds rs r × IsFirstFreeDay rs r day)) where
  off_here : (c ≡ cover.NotOnBounds) ↔ IsOffBounds (ranges_of set) r
  off_here = subst (λ (l : List Interval). (c ≡ cover.NotOnBounds) ↔ IsOffBounds l r) (sym same) off

  hole_here : (day : ℕ) → (c ≡ cover.Hole day) ↔ (IsOnBounds (ranges_of set) r × IsFirstFreeDay (ranges_of set) r day)
  hole_here = subst (λ (l : List Interval). (day : ℕ) → (c ≡ cover.Hole day) ↔ (IsOnBounds l r × IsFirstFreeDay l r day)) (sym same) hole

  one_here : list_any (λ other. is_same_range r other) rs ≡ is_ready r set
  one_here = ap (list_any (is_same_range r)) (sym same) ∙ any_map (λ (s : Segment). s.range) (is_same_range r) set

  pub told_off : c ≡ cover.NotOnBounds → Some refused.NotOnBounds ≡ of_cover (is_on_bounds r set) (is_ready r set) (first_free_day r set)
  told_off e = sym (ap (λ (b : Bool). of_cover b (is_ready r set) (first_free_day r set)) (cover_off r set c off_here hole_here e))

  -- on bounds, by whether one segment has the range, and by the first free day
  told_on : c ≢ cover.NotOnBounds → (day : Option ℕ) → first_free_day r set ≡ day → (x : Option Refused) → x ≡ option_or (refused_if (list_any (λ other. is_same_range r other) rs) refused.OneSegment) (option_map refused.Hole day)
      → x ≡ of_cover (is_on_bounds r set) (is_ready r set) (first_free_day r set)
  told_on n day e x h =
      h
      ∙ (ap (λ (b : Bool). option_or (refused_if b refused.OneSegment) (option_map refused.Hole day)) one_here
      ∙ (sym (first_of_two (refused_if (is_ready r set) refused.OneSegment) (option_map refused.Hole day))
      ∙ sym (ap (λ (b : Bool). of_cover b (is_ready r set) (first_free_day r set)) (cover_on r set c off_here hole_here n) ∙ ap (of_cover true (is_ready r set)) e)))

  pub told_hole : (day : ℕ) → c ≡ cover.Hole day → (x : Option Refused) → x ≡ option_or (refused_if (list_any (λ other. is_same_range r other) rs) refused.OneSegment) (Some (refused.Hole day))
      → x ≡ of_cover (is_on_bounds r set) (is_ready r set) (first_free_day r set)
  told_hole day e x h = told_on (λ n. cc) (Some day) (cover_hole r set c off_here hole_here day e) x h

  pub told_parts : (first count : ℕ) → c ≡ cover.Parts first count → (x : Option Refused) → x ≡ option_or (refused_if (list_any (λ other. is_same_range r other) rs) refused.OneSegment) None
      → x ≡ of_cover (is_on_bounds r set) (is_ready r set) (first_free_day r set)
  told_parts first count e x h = told_on (λ n. cc) None (cover_parts r set c off_here hole_here (λ n. cc) (λ day n. cc)) x h
