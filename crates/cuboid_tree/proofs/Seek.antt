-- What the first place from a place on says, and how it is sought.
use Rattle.std.proofs.Common.{◌≡◌, ℕ, zero, suc, ◌+◌, ◌-◌, ◌<◌, ◌≤◌, Bool, true, false, filter, Some, None, sym, ap, ◌∙◌, inl, inr, arith}
use Rattle.std.specs.Prelude.{slice_get}
use Rattle.std.specs.List.{range_with_len}
use Rattle.std.proofs.lemmas.Bool.{cases_Bool, cases_eq}
use Rattle.cuboid_tree.specs.Links.{first_from}
use Rattle.cuboid_tree.proofs.Kept.{drops, first_later, keeps, none_kept}

-- p is the first place that passes of those from i on, below n
pub record IsFirst (q : ℕ → Bool) (i n p : ℕ) : Type 0 where
  pub from : i ≤ p
  pub below : p < n
  pub passes : q p ≡ true
  pub before : (m : ℕ) → i ≤ m → m < p → q m ≡ false

head_says : (q : ℕ → Bool) (a n p : ℕ) → slice_get (filter q (range_with_len a n)) 0 ≡ Some p → IsFirst q a (a + n) p
head_says q a zero p e = absurd cc
head_says q a (suc n) p e =
    let rest = range_with_len (a + 1) n in
    elim (cases_Bool (q a)) [
      | inl passes ↦
          (let own : Some a ≡ Some p = sym (ap (λ xs. slice_get xs 0) (keeps q a rest passes)) ∙ e in
          let same : a ≡ p = cc in
          record { from = omega arith; below = omega arith; passes = ap q (sym same) ∙ passes; before = λ m low high. absurd (omega arith) })
      | inr fails ↦
          (let later = head_says q (a + 1) n p (sym (ap (λ xs. slice_get xs 0) (drops q a rest fails)) ∙ e) in
          record {
            from = omega (arith, later.from);
            below = omega (arith, later.below);
            passes = later.passes;
            before = λ m low high. elim (cases_eq a m) [ inl here ↦ ap q (sym here) ∙ fails | inr ne ↦ later.before m (omega arith) high ];
          })
    ]

pub first_says : (q : ℕ → Bool) (i n p : ℕ) → first_from q i n ≡ Some p → IsFirst q i n p
unfolding first_from
first_says q i n p e =
    let w = head_says q i (n - i) p e in
    record { from = w.from; below = omega (arith, w.from, w.below); passes = w.passes; before = w.before }

no_head : (q : ℕ → Bool) (a n : ℕ) → slice_get (filter q (range_with_len a n)) 0 ≡ None → (m : ℕ) → a ≤ m → m < a + n → q m ≡ false
no_head q a zero e m low high = absurd (omega arith)
no_head q a (suc n) e m low high =
    let rest = range_with_len (a + 1) n in
    elim (cases_Bool (q a)) [
      | inl passes ↦ absurd (let own : Some a ≡ None = sym (ap (λ xs. slice_get xs 0) (keeps q a rest passes)) ∙ e in cc)
      | inr fails ↦ elim (cases_eq a m) [
        | inl here ↦ ap q (sym here) ∙ fails
        | inr ne ↦ no_head q (a + 1) n (sym (ap (λ xs. slice_get xs 0) (drops q a rest fails)) ∙ e) m (omega arith) (omega arith)
      ]
    ]

pub none_says : (q : ℕ → Bool) (i n : ℕ) → first_from q i n ≡ None → (m : ℕ) → i ≤ m → m < n → q m ≡ false
unfolding first_from
none_says q i n e m low high = no_head q i (n - i) e m low (omega arith)

pub first_none : (q : ℕ → Bool) (i n : ℕ) → ((m : ℕ) → i ≤ m → m < n → q m ≡ false) → first_from q i n ≡ None
unfolding first_from
first_none q i n h = none_kept q i (n - i) (λ m low high. h m low (omega arith))

-- the search may begin later, past places that don't pass
skipped : (q : ℕ → Bool) (i k n : ℕ) → i + k ≤ n → ((m : ℕ) → i ≤ m → m < i + k → q m ≡ false) → first_from q i n ≡ first_from q (i + k) n
skipped q i zero n le h = let same : i ≡ i + 0 = omega arith in ap (λ x. first_from q x n) same
skipped q i (suc k) n le h =
    let next : i + 1 + k ≡ i + suc k = omega arith in
    first_later q i n (omega arith) (h i (omega arith) (omega arith))
    ∙ skipped q (i + 1) k n (omega arith) (λ m low high. h m (omega arith) (omega arith))
    ∙ ap (λ x. first_from q x n) next

pub first_skip : (q : ℕ → Bool) (i p n : ℕ) → i ≤ p → p ≤ n → ((m : ℕ) → i ≤ m → m < p → q m ≡ false) → first_from q i n ≡ first_from q p n
first_skip q i p n low high h =
    let end : i + (p - i) ≡ p = omega arith in
    skipped q i (p - i) n (omega arith) (λ m from to. h m from (omega arith)) ∙ ap (λ x. first_from q x n) end
