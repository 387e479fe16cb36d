-- A segment that is put into its place.
use Rattle.std.proofs.Common.{◌≡◌, ℕ, zero, suc, ◌<◌, ◌≤◌, Bool, true, false, cond, not, ◌&&◌, List, [], ◌∷◌, ◌++◌, length, map, refl, sym, ap, ◌∙◌, subst, arith}
use Rattle.std.specs.Prelude.{filter, nat_le, nat_lt}
use Rattle.std.specs.List.{insert}
use Rattle.std.proofs.lemmas.Bool.{lt-ltb, le-ltb, lt-leb}
use Rattle.range_list.specs.Ranges.{IsRange, IsApart}
use Rattle.run_history.specs.Invariants.{ranges_of}
use Rattle.run_history.specs.Sets.{ReadySet, Segment, is_inside, placed, swapped}
use Rattle.run_history.proofs.Lists.{Every, every_map, every_zip, filter_all, filter_none}
use Rattle.run_history.proofs.Ready.{AreApart, each_range, from_apart}

pub map_insert : {A B : Type 0} (f : A → B) (xs : List A) (i : ℕ) (y : A) → map f (insert xs i y) ≡ insert (map f xs) i (f y)
map_insert f xs zero y = refl
map_insert f [] (suc i) y = refl
map_insert f (x ∷ xs) (suc i) y = ap (λ l. f x ∷ l) (map_insert f xs i y)

right_false : (a b : Bool) → b ≡ false → a && b ≡ false
right_false true b h = h
right_false false b h = refl

left_false : (a b : Bool) → a ≡ false → a && b ≡ false
left_false true b h = cc
left_false false b h = refl

-- segments before and after the new one
record IsEarlier (new s : Segment) : Type 0 where
  is_range : IsRange s.range
  ends : s.range.end ≤ new.range.start

record IsLater (new s : Segment) : Type 0 where
  is_range : IsRange s.range
  starts : new.range.end ≤ s.range.start

earlier_outside : (new s : Segment) → IsEarlier new s → not (is_inside new.range s.range) ≡ true
earlier_outside new s e = let lt : s.range.start < new.range.start = omega (arith, e.is_range, e.ends) in ap not (left_false (nat_le new.range.start s.range.start) (nat_le s.range.end new.range.end) (lt-leb new.range.start s.range.start lt))

later_outside : (new s : Segment) → IsLater new s → not (is_inside new.range s.range) ≡ true
later_outside new s e = let lt : new.range.end < s.range.end = omega (arith, e.is_range, e.starts) in ap not (right_false (nat_le new.range.start s.range.start) (nat_le s.range.end new.range.end) (lt-leb s.range.end new.range.end lt))

later_start : (new s : Segment) → IsRange new.range → IsLater new s → nat_lt s.range.start new.range.start ≡ false
later_start new s r e = le-ltb s.range.start new.range.start (omega (arith, r, e.starts))

earlier_start : (new s : Segment) → IsEarlier new s → nat_lt s.range.start new.range.start ≡ true
earlier_start new s e = lt-ltb s.range.start new.range.start (omega (arith, e.is_range, e.ends))

are_later : (new : Segment) (set : ReadySet) → AreApart (new ∷ set) → Every (IsLater new) set
are_later new set h = every_zip (λ s. IsRange s.range) (λ s. new.range.end ≤ s.range.start) (IsLater new) set (λ s r e. record { is_range = r; starts = e }) (each_range set h.2) h.1

placed_first : (new : Segment) (set : ReadySet) → IsRange new.range → Every (IsLater new) set → placed new set ≡ new ∷ set
placed_first new set r h =
    ap (λ (l : ReadySet). l ++ new ∷ filter (λ s. not (nat_lt s.range.start new.range.start)) set) (filter_none (λ s. nat_lt s.range.start new.range.start) set (every_map (IsLater new) (λ s. nat_lt s.range.start new.range.start ≡ false) set (λ s e. later_start new s r e) h))
    ∙ ap (λ (l : ReadySet). new ∷ l) (filter_all (λ s. not (nat_lt s.range.start new.range.start)) set (every_map (IsLater new) (λ s. not (nat_lt s.range.start new.range.start) ≡ true) set (λ s e. ap not (later_start new s r e)) h))

-- what stands in its place between others
is_between : (set : ReadySet) (i : ℕ) (new s : Segment) → i ≤ length set → Every (λ t. s.range.end ≤ t.range.start) (insert set i new) → s.range.end ≤ new.range.start
is_between set zero new s le h = h.0
is_between [] (suc i) new s le h = absurd (omega arith)
is_between (t ∷ set) (suc i) new s le h = is_between set i new s (omega arith) h.1

cons_placed : (s new : Segment) (set : ReadySet) → nat_lt s.range.start new.range.start ≡ true → placed new (s ∷ set) ≡ s ∷ placed new set
cons_placed s new set h = by_test (nat_lt s.range.start new.range.start) h
  where
    front : ReadySet
    front = filter (λ t. nat_lt t.range.start new.range.start) set

    back : ReadySet
    back = filter (λ t. not (nat_lt t.range.start new.range.start)) set

    by_test : (b : Bool) → b ≡ true → cond b (s ∷ filter (λ t. nat_lt t.range.start new.range.start) set) (filter (λ t. nat_lt t.range.start new.range.start) set) ++ new ∷ cond (not b) (s ∷ filter (λ t. not (nat_lt t.range.start new.range.start)) set) (filter (λ t. not (nat_lt t.range.start new.range.start)) set) ≡ s ∷ placed new set
    by_test true e = refl
    by_test false e = cc

pub placed_is : (set : ReadySet) (i : ℕ) (new : Segment) → i ≤ length set → AreApart (insert set i new) → placed new set ≡ insert set i new
placed_is set zero new le h = placed_first new set h.0 (are_later new set h)
placed_is [] (suc i) new le h = absurd (omega arith)
placed_is (s ∷ set) (suc i) new le h =
    cons_placed s new set (earlier_start new s (record { is_range = h.0; ends = is_between set i new s (omega arith) h.1 }))
    ∙ ap (λ (l : ReadySet). s ∷ l) (placed_is set i new (omega arith) h.2)

all_outside : (set : ReadySet) (i : ℕ) (new : Segment) → i ≤ length set → AreApart (insert set i new) → Every (λ s. not (is_inside new.range s.range) ≡ true) set
all_outside set zero new le h = every_map (IsLater new) (λ s. not (is_inside new.range s.range) ≡ true) set (λ s e. later_outside new s e) (are_later new set h)
all_outside [] (suc i) new le h = absurd (omega arith)
all_outside (s ∷ set) (suc i) new le h = (earlier_outside new s (record { is_range = h.0; ends = is_between set i new s (omega arith) h.1 }), all_outside set i new (omega arith) h.2)

-- the next set is the set with the new segment at a place where the ranges stay apart
pub swapped_is : (set : ReadySet) (i : ℕ) (new : Segment) → i ≤ length set → IsApart (insert (ranges_of set) i new.range) → swapped new set ≡ insert set i new
swapped_is set i new le apart =
    let h = from_apart (insert set i new) (subst IsApart (sym (map_insert (λ (s : Segment). s.range) set i new)) apart) in
    ap (placed new) (filter_all (λ s. not (is_inside new.range s.range)) set (all_outside set i new le h)) ∙ placed_is set i new le h
