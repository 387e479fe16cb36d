-- Lanes of tests, and the places of those that are set.
use Rattle.std.proofs.Common.{◌≡◌, ◌≤◌, ◌<◌, ◌+◌, ◌-◌, ◌^◌, ◌∙◌, ℕ, zero, suc, min, max, List, ◌++◌, ◌∷◌, [], map, length, get_or, Bool, true, false, not, cond, ◌&&◌, ◌||◌, ltb, leb, nat_eq, nat_lt, bit_and, bit_or, append-nil, refl, sym, ap, arith, w64}
use Rattle.std.specs.Int.{bit_at, bit_not}
use Rattle.std.specs.List.{filter, range_with_len}
use Rattle.std.proofs.lemmas.Bool.Decides.{nat_tests}
use Rattle.std.proofs.lemmas.List.{get_or-map}
use Rattle.std.proofs.lemmas.Nat.Bits.{bit_at-zero, bit_at_and, bit_at_not, bit_at_or}
use Rattle.std.proofs.lemmas.Simd.{bit_mask_l, get_or-chunk, length-chunk}
use lib.Lanes.{chunk, mask_l}
use Rattle.cell_store.specs.Lanes.{AreLanes}
use Rattle.cell_store.specs.Selects.{is_in}
use Rattle.cell_store.specs.declared.select.IdSpan.{IdSpan}
use Rattle.cell_store.proofs.SelectLemmas.{filter-range_more}

-- the mask of a comparison of eight numbers
pub mask_lanes : (xs : List ℕ) (at limit : ℕ) → at + 8 ≤ length xs → AreLanes (λ place. nat_lt (get_or xs place 0) limit) at (mask_l (map (λ x. ltb x limit) (chunk at 8 xs)))
mask_lanes xs at limit room = λ k h.
    bit_mask_l (map (λ x. ltb x limit) (chunk at 8 xs)) k
    ∙ ap (λ b. cond b 1 0) (get_or-map (λ x. ltb x limit) (chunk at 8 xs) k 0 false (omega (arith, length-chunk at 8 xs room)) ∙ ap (λ x. ltb x limit) (get_or-chunk at 8 xs k 0 h))

and_lane : (a b : Bool) → min (cond a 1 0) (cond b 1 0) ≡ cond (a && b) 1 0
and_lane true true = refl
and_lane true false = refl
and_lane false true = refl
and_lane false false = refl

or_lane : (a b : Bool) → max (cond a 1 0) (cond b 1 0) ≡ cond (a || b) 1 0
or_lane true true = refl
or_lane true false = refl
or_lane false true = refl
or_lane false false = refl

span_lane : (low below : Bool) → min (cond below 1 0) (1 - cond low 1 0) ≡ cond (not low && below) 1 0
span_lane true true = refl
span_lane true false = refl
span_lane false true = refl
span_lane false false = refl

not-below : (x from : ℕ) → not (ltb x from) ≡ leb from x
not-below x from = grind (arith, nat_tests)

pub and_lanes : (p q : ℕ → Bool) (at a b : ℕ) → AreLanes p at a → AreLanes q at b → AreLanes (λ place. p place && q place) at (bit_and a b)
and_lanes p q at a b l m = λ k h. bit_at_and a b k ∙ (λ i. min (l k h i) (m k h i)) ∙ and_lane (p (at + k)) (q (at + k))

pub or_lanes : (p q : ℕ → Bool) (at a b : ℕ) → AreLanes p at a → AreLanes q at b → AreLanes (λ place. p place || q place) at (bit_or a b)
or_lanes p q at a b l m = λ k h. bit_at_or a b k ∙ (λ i. max (l k h i) (m k h i)) ∙ or_lane (p (at + k)) (q (at + k))

-- in a span are those below its end that are not below its start
pub span_lanes : (xs : List ℕ) (span : IdSpan) (at a b : ℕ) → b < 2 ^ 64 → AreLanes (λ place. nat_lt (get_or xs place 0) span.to) at a → AreLanes (λ place. nat_lt (get_or xs place 0) span.from) at b
    → AreLanes (λ place. is_in (get_or xs place 0) span) at (bit_and a (bit_not w64 b))
span_lanes xs span at a b fits below low = λ k h.
    let x = get_or xs (at + k) 0 in
    bit_at_and a (bit_not w64 b) k
    ∙ (λ i. min (below k h i) (bit_at_not w64 b k fits (omega arith) i))
    ∙ ap (λ n. min (cond (nat_lt x span.to) 1 0) (1 - n)) (low k h)
    ∙ span_lane (ltb x span.from) (ltb x span.to)
    ∙ ap (λ b. cond (b && ltb x span.to) 1 0) (not-below x span.from)

-- lanes of a test are those of a test that agrees with it
pub same_lanes : (p q : ℕ → Bool) (at lanes : ℕ) → ((place : ℕ) → p place ≡ q place) → AreLanes p at lanes → AreLanes q at lanes
same_lanes p q at lanes same l = λ k h. l k h ∙ ap (λ b. cond b 1 0) (same (at + k))

is_one : (b : Bool) → nat_eq (cond b 1 0) 1 ≡ b
is_one true = refl
is_one false = refl

-- a lane tells whether its place passes
pub lane_tells : (p : ℕ → Bool) (at lanes k : ℕ) → AreLanes p at lanes → k < 8 → nat_eq (bit_at lanes k) 1 ≡ p (at + k)
lane_tells p at lanes k l h = ap (λ n. nat_eq n 1) (l k h) ∙ is_one (p (at + k))

-- where no place from at on passes, those below the end are those below at
none_pass : (p : ℕ → Bool) (at n : ℕ) → ((k : ℕ) → k < n → p (at + k) ≡ false) → filter p (range_with_len 0 (at + n)) ≡ filter p (range_with_len 0 at)
none_pass p at zero none = let e : at + 0 ≡ at = omega arith in ap (λ m. filter p (range_with_len 0 m)) e
none_pass p at (suc n) none =
    let e : at + suc n ≡ (at + n) + 1 = omega arith in
    ap (λ m. filter p (range_with_len 0 m)) e ∙ filter-range_more p (at + n)
    ∙ ap (λ b. filter p (range_with_len 0 (at + n)) ++ cond b ((at + n) ∷ []) []) (none n (omega arith)) ∙ append-nil (filter p (range_with_len 0 (at + n)))
    ∙ none_pass p at n (λ k h. none k (omega arith))

-- with no lane set no place passes
pub none_set : (p : ℕ → Bool) (at lanes : ℕ) → AreLanes p at lanes → lanes ≡ 0 → filter p (range_with_len 0 (at + 8)) ≡ filter p (range_with_len 0 at)
none_set p at lanes l e =
    none_pass p at 8
    (λ k h. sym (lane_tells p at lanes k l h) ∙ ap (λ m. nat_eq (bit_at m k) 1) e ∙ ap (λ n. nat_eq n 1) (bit_at-zero k))
