-- What refusals say of a sound world, and what a swap finds there.
use Rattle.std.proofs.Common.{◌≡◌, ℕ, zero, suc, ◌+◌, ◌<◌, ◌↔◌, Bool, true, false, cond, ◌&&◌, Option, Some, None, List, [], ◌∷◌, length, slice_get, All, refl, sym, ap, ◌∙◌, subst, arith}
use Rattle.std.specs.Prelude.{find, nat_le, option_map}
use Rattle.std.proofs.lemmas.Bool.{and_parts, and_from, leb-true, le-leb}
use Rattle.range_list.specs.Ranges.{Interval}
use Rattle.run_history.specs.Cubes.{CubeSemantics}
use Rattle.run_history.specs.Invariants.{IsSound, IsLeastOverlap}
use Rattle.run_history.specs.Sets.{is_inside, is_overlap}
use Rattle.run_history.specs.Verdicts.{refused_if, most_segments, too_many_segments, overlaps_job}
use Rattle.run_history.specs.World.{Submitted, World, is_live, job_at, job_of, live_builds}
use Rattle.run_history.specs.declared.refused.Refused.{Refused}
use Rattle.run_history.specs.declared.refused.Refused.TheVariants as refused
use Rattle.run_history.proofs.Lists.{false_or, to_all}
use Rattle.run_history.proofs.Ready.{from_apart}
use Rattle.run_history.proofs.InPlace.{place_inside}

if_true : (b : Bool) (r s : Refused) → refused_if b r ≡ Some s → b ≡ true
if_true true r s h = refl
if_true false r s h = cc

-- the place of what is found first
record First {X : Type 0} (test : X → Bool) (xs : List X) (x : X) : Type 0 where
  place : ℕ
  at : slice_get xs place ≡ Some x
  passes : test x ≡ true
  before : (k : ℕ) (y : X) → k < place → slice_get xs k ≡ Some y → test y ≡ false

some_inj : {X : Type 0} (x y : X) → Some x ≡ Some y → x ≡ y
some_inj x y h = cc

first_cons : {X : Type 0} (test : X → Bool) (y : X) (xs : List X) (x : X) → test y ≡ false → First test xs x → First test (y ∷ xs) x
first_cons test y xs x e f = record { place = suc f.place; at = f.at; passes = f.passes; before = before }
  where
    before : (k : ℕ) (z : _) → k < suc f.place → slice_get (y ∷ xs) k ≡ Some z → test z ≡ false
    before zero z lt g = subst (λ t. test t ≡ false) (some_inj y z g) e
    before (suc k) z lt g = f.before k z (omega arith) g

first_by : {X : Type 0} (test : X → Bool) (y : X) (xs : List X) (x : X) (b : Bool) → test y ≡ b → (find test xs ≡ Some x → First test xs x) → cond b (Some y) (find test xs) ≡ Some x → First test (y ∷ xs) x
first_by test y xs x true e rest h = record { place = 0; at = h; passes = subst (λ t. test t ≡ true) (some_inj y x h) e; before = λ k z lt g. absurd (omega arith) }
first_by test y xs x false e rest h = first_cons test y xs x e (rest h)

first_found : {X : Type 0} (test : X → Bool) (xs : List X) (x : X) → find test xs ≡ Some x → First test xs x
first_found test [] x e = cc
first_found test (y ∷ xs) x e = first_by test y xs x (test y) refl (first_found test xs x) e

module _ {Query Answer : Type 0} (cube : CubeSemantics Query Answer) where
  pub full_exactly : (w : World Query) → IsSound cube w → (too_many_segments cube w ≡ Some refused.TooManySegments) ↔ (length w.ready + live_builds w.jobs ≡ most_segments)
  full_exactly w i = (
    (λ h. (let le = leb-true most_segments (length w.ready + live_builds w.jobs) (if_true (nat_le most_segments (length w.ready + live_builds w.jobs)) refused.TooManySegments refused.TooManySegments h) in omega (arith, i.room))),
    (λ same. ap (λ b. refused_if b refused.TooManySegments) (le-leb most_segments (length w.ready + live_builds w.jobs) (omega arith))),
  )

  least : (w : World Query) (r : Interval) (n : ℕ) → IsSound cube w → (o : Option Submitted) → find (λ s. is_live s.job.state && is_overlap s.range r) w.jobs ≡ o → option_map (λ (s : Submitted). refused.OverlapsJob s.job.id) o ≡ Some (refused.OverlapsJob n)
      → IsLeastOverlap w r n
  least w r n i None e h = cc
  least w r n i (Some s) e h =
      let f = first_found (λ t. is_live t.job.state && is_overlap t.range r) w.jobs s e in
      let id : s.job.id ≡ n = same_number h in
      let number : suc f.place ≡ n = sym (i.numbered (suc f.place) s f.at).id ∙ id in
      let both = and_parts (is_live s.job.state) (is_overlap s.range r) f.passes in
      record {
        there = s;
        at = subst (λ (k : ℕ). job_at w.jobs k ≡ Some s) number f.at;
        live = both.0;
        overlaps = both.1;
        before = λ m t lt g live. earlier f.place (λ k y. f.before k y) m t (omega arith) g live;
      }
    where
      same_number : ◌≡◌ {A = Option Refused} (Some (refused.OverlapsJob s.job.id)) (Some (refused.OverlapsJob n)) → s.job.id ≡ n
      same_number k = cc

      earlier : (place : ℕ) → ((k : ℕ) (y : Submitted) → k < place → slice_get w.jobs k ≡ Some y → (is_live y.job.state && is_overlap y.range r) ≡ false)
          → (m : ℕ) (t : Submitted) → m < suc place → job_at w.jobs m ≡ Some t → is_live t.job.state ≡ true → is_overlap t.range r ≡ false
      earlier place before zero t lt g live = cc
      earlier place before (suc m) t lt g live = false_or (is_overlap t.range r) (λ o. let over = and_from (is_live t.job.state) (is_overlap t.range r) live o in let none = before m t (omega arith) g in cc)

  pub least_overlap : (w : World Query) → IsSound cube w → (r : Interval) (n : ℕ) → overlaps_job cube r w ≡ Some (refused.OverlapsJob n) → IsLeastOverlap w r n
  least_overlap w i r n h = least w r n i (find (λ s. is_live s.job.state && is_overlap s.range r) w.jobs) refl h

  pub swap_fits : (w : World Query) → IsSound cube w → (n : ℕ) (s : Submitted) → job_of w n ≡ Some s → is_live s.job.state ≡ true → All (λ t. is_overlap t.range s.range ≡ true → is_inside s.range t.range ≡ true) w.ready
  swap_fits w i n s at live =
      to_all (λ t. is_overlap t.range s.range ≡ true → is_inside s.range t.range ≡ true) w.ready (place_inside cube s.job.kind s.range w.ready (i.numbered n s at).is_range (from_apart w.ready i.ready_apart) (i.in_place n s at live))
