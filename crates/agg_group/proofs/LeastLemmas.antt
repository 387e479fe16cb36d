-- What the least place is.
use Rattle.std.proofs.Common.{◌≡◌, ℕ, zero, suc, ◌+◌, ◌<◌, ◌≤◌, Bool, true, false, cond, ltb, Option, Some, None, MatchOption, refl, sym, ap, ◌∙◌, subst, inl, inr, arith}
use Rattle.std.proofs.Math.Numerals.{add-one}
use Rattle.std.proofs.lemmas.Bool.{cases_eq, ltb-true, ltb-false, false≢true}
use Rattle.agg_group.specs.Least.{better, least_place, IsLeastPlace}

-- what an answer for the places below n says
abbrev Says : (ℕ → Bool) → (ℕ → ℕ) → ℕ → Option ℕ → Type 0
Says passes size n o = MatchOption o ((k : ℕ) → k < n → passes k ≡ false) (λ b. IsLeastPlace passes size n b)

module _ (passes : ℕ → Bool) (size : ℕ → ℕ) (n : ℕ) where
  first_found : ((k : ℕ) → k < n → passes k ≡ false) → passes n ≡ true → IsLeastPlace passes size (suc n) n
  first_found none h = record {
    inside = omega arith;
    passing = h;
    least = λ k low at. elim (cases_eq k n) [ inl e ↦ omega (arith, ap size e) | inr ne ↦ absurd (false≢true (sym (none k (omega arith)) ∙ at)) ];
    first = λ k low at. absurd (false≢true (sym (none k low) ∙ at));
  }

  later_wins : (b : ℕ) → IsLeastPlace passes size n b → passes n ≡ true → size n < size b → IsLeastPlace passes size (suc n) n
  later_wins b w h less = record {
    inside = omega arith;
    passing = h;
    least = λ k low at. elim (cases_eq k n) [ inl e ↦ omega (arith, ap size e) | inr ne ↦ omega (arith, w.least k (omega arith) at) ];
    first = λ k low at. omega (arith, w.least k low at);
  }

  earlier_stays : (b : ℕ) → IsLeastPlace passes size n b → (passes n ≡ true → size b ≤ size n) → IsLeastPlace passes size (suc n) b
  earlier_stays b w h = record {
    inside = omega (arith, w.inside);
    passing = w.passing;
    least = λ k low at. elim (cases_eq k n) [ inl e ↦ omega (arith, ap size e, h (ap passes (sym e) ∙ at)) | inr ne ↦ w.least k (omega arith) at ];
    first = w.first;
  }

  step_some : (b : ℕ) (t : Bool) → IsLeastPlace passes size n b → passes n ≡ true → ltb (size n) (size b) ≡ t → Says passes size (suc n) (cond t (Some n) (Some b))
  step_some b true w h e = later_wins b w h (ltb-true (size n) (size b) e)
  step_some b false w h e = earlier_stays b w (λ _. ltb-false (size n) (size b) e)

  step : (o : Option ℕ) (p : Bool) → Says passes size n o → passes n ≡ p → Says passes size (suc n) (better size n p o)
  step None true h e = first_found h e
  step None false h e = λ k low. elim (cases_eq k n) [ inl q ↦ ap passes q ∙ e | inr ne ↦ h k (omega arith) ]
  step (Some b) true h e = step_some b (ltb (size n) (size b)) h e refl
  step (Some b) false h e = earlier_stays b h (λ at. absurd (false≢true (sym e ∙ at)))

pub least_says : (passes : ℕ → Bool) (size : ℕ → ℕ) (n : ℕ) → MatchOption (least_place passes size n) ((k : ℕ) → k < n → passes k ≡ false) (λ b. IsLeastPlace passes size n b)
least_says passes size zero = λ k low. absurd (omega arith)
least_says passes size (suc n) = step passes size n (least_place passes size n) (passes n) (least_says passes size n) refl

-- one place more
pub least_more : (passes : ℕ → Bool) (size : ℕ → ℕ) (n : ℕ) → least_place passes size (n + 1) ≡ better size n (passes n) (least_place passes size n)
least_more passes size n = ap (least_place passes size) (add-one n)

pub least_is : (passes : ℕ → Bool) (size : ℕ → ℕ) (n b : ℕ) → least_place passes size n ≡ Some b → IsLeastPlace passes size n b
least_is passes size n b e = subst (λ o. Says passes size n o) e (least_says passes size n)

pub none_passes : (passes : ℕ → Bool) (size : ℕ → ℕ) (n : ℕ) → least_place passes size n ≡ None → (k : ℕ) → k < n → passes k ≡ false
none_passes passes size n e = subst (λ o. Says passes size n o) e (least_says passes size n)
