-- Lemmas on sets of dimensions.
use Rattle.std.proofs.Common.{◌≡◌, ℕ, zero, suc, ◌+◌, ◌<◌, ◌≤◌, ◌≢◌, Bool, true, false, not, ◌&&◌, ◌||◌, eqb, List, [], ◌∷◌, ◌++◌, refl, sym, ap, ap₂, ◌∙◌, inl, inr, arith, Decides, IsTrue}
use Rattle.std.specs.List.{list_all, range_with_len}
use Rattle.std.proofs.lemmas.Bool.{cases_eq, cases_lt, and_parts, and_from, or_right, eq-eqb, ne_eqb, false≢true}
use Rattle.agg_group.specs.Sets.{dimensions, is_among, is_subset}

-- a test of every number of a range
pub all_in_range : (p : ℕ → Bool) (a n : ℕ) → list_all p (range_with_len a n) ≡ true → (d : ℕ) → a ≤ d → d < a + n → p d ≡ true
all_in_range p a zero h d low high = absurd (omega arith)
all_in_range p a (suc n) h d low high =
    elim (cases_eq d a) [
      | inl e ↦ rw e (and_parts _ _ h).0
      | inr ne ↦ all_in_range p (a + 1) n (and_parts _ _ h).1 d (omega arith) (omega arith)
    ]

pub all_from_range : (p : ℕ → Bool) (a n : ℕ) → ((d : ℕ) → a ≤ d → d < a + n → p d ≡ true) → list_all p (range_with_len a n) ≡ true
all_from_range p a zero h = refl
all_from_range p a (suc n) h =
    and_from _ _ (h a (omega arith) (omega arith)) (all_from_range p (a + 1) n (λ d low high. h d (omega arith) (omega arith)))

-- what a test of `not (s d) || t d` says
implied : (x y : Bool) → (not x || y) ≡ true → x ≡ true → y ≡ true
implied true y h e = h
implied false y h e = absurd (false≢true e)

implies : (x y : Bool) → (x ≡ true → y ≡ true) → (not x || y) ≡ true
implies true y h = h refl
implies false y h = refl

-- the test of a subset, where s has no dimension above 63
pub subset_decides : (s t : ℕ → Bool) → ((d : ℕ) → 64 ≤ d → s d ≡ false) → Decides (is_subset s t) ((d : ℕ) → IsTrue (s d) → IsTrue (t d))
unfolding is_subset
subset_decides s t short = (
  λ h d has.
      elim (cases_lt d 64) [
        | inl low ↦ implied (s d) (t d) (all_in_range (λ x. not (s x) || t x) 0 64 h d (omega arith) (omega arith)) has
        | inr high ↦ absurd (false≢true (sym (short d high) ∙ has))
      ],
  λ h. all_from_range (λ x. not (s x) || t x) 0 64 (λ d low high. implies (s d) (t d) (h d)),
)

-- a set that is within another passes the test, whatever its dimensions
pub subset_from : (s t : ℕ → Bool) → ((d : ℕ) → IsTrue (s d) → IsTrue (t d)) → is_subset s t ≡ true
unfolding is_subset
subset_from s t h = all_from_range (λ x. not (s x) || t x) 0 64 (λ d low high. implies (s d) (t d) (h d))

pub all_same : {X : Type 0} (p q : X → Bool) → ((x : X) → p x ≡ q x) → (xs : List X) → list_all p xs ≡ list_all q xs
all_same p q h [] = refl
all_same p q h (x ∷ xs) = ap₂ (λ a b. a && b) (h x) (all_same p q h xs)

-- only the tests of the dimensions below 64 count
pub is_subset-same : (s t u : ℕ → Bool) → ((d : ℕ) → t d ≡ u d) → is_subset s t ≡ is_subset s u
unfolding is_subset
is_subset-same s t u h = all_same (λ d. not (s d) || t d) (λ d. not (s d) || u d) (λ d. ap (λ x. not (s d) || x) (h d)) (dimensions 64)

or_false : (x y : Bool) → y ≡ false → (x || y) ≡ x
or_false true y h = refl
or_false false y h = h

or_assoc : (x y z : Bool) → (x || (y || z)) ≡ ((x || y) || z)
or_assoc true y z = refl
or_assoc false y z = refl

-- one dimension more at a list's end
pub is_among-push : (e : ℕ) (ds : List ℕ) (d : ℕ) → is_among e (ds ++ d ∷ []) ≡ (is_among e ds || eqb d e)
is_among-push e [] d = or_false (eqb d e) false refl
is_among-push e (x ∷ ds) d = ap (λ y. eqb x e || y) (is_among-push e ds d) ∙ or_assoc (eqb x e) (is_among e ds) (eqb d e)

-- a set that has one dimension more is that of one dimension more in the list
pub set_more : (old new : ℕ → Bool) (ds : List ℕ) (d : ℕ) → ((e : ℕ) → old e ≡ is_among e ds) → new d ≡ true → ((e : ℕ) → e ≢ d → new e ≡ old e) → (e : ℕ) → new e ≡ is_among e (ds ++ d ∷ [])
set_more old new ds d was here others e =
    elim (cases_eq e d) [
      | inl same ↦ rw same (here ∙ sym (is_among-push d ds d ∙ or_right (is_among d ds) (eqb d d) (eq-eqb d d refl)))
      | inr ne ↦ others e ne ∙ was e ∙ sym (is_among-push e ds d ∙ or_false (is_among e ds) (eqb d e) (ne_eqb d e (λ q. ne (sym q))))
    ]
