-- A chain that is followed from its first place to its end gives the whole list.
use Rattle.std.proofs.Common.{◌≡◌, ◌∙◌, ℕ, List, [], ◌∷◌, ◌++◌, length, take, Some, None, sym, ap, inl, inr}
use Rattle.std.specs.Prelude.{slice_get}
use Rattle.std.proofs.lemmas.Bool.{cases_lt}
use Rattle.std.proofs.lemmas.List.{length_push, take_all, take_more}
use Rattle.std.proofs.lemmas.Option.{get_or_from_slice_get, slice_get-get_or, slice_get_within}

pub front_more : (xs ys : List ℕ) (p : ℕ) → ys ≡ take (length ys) xs → slice_get xs (length ys) ≡ Some p → ys ++ p ∷ [] ≡ take (length (ys ++ p ∷ [])) xs
front_more xs ys p e at =
    ap (λ l. l ++ p ∷ []) e
    ∙ ap (λ x. take (length ys) xs ++ x ∷ []) (sym (get_or_from_slice_get xs (length ys) p p at))
    ∙ sym (take_more xs (length ys) p (slice_get_within xs (length ys) p at))
    ∙ ap (λ k. take k xs) (sym (length_push ys p))

pub front_all : (xs ys : List ℕ) → ys ≡ take (length ys) xs → slice_get xs (length ys) ≡ None → ys ≡ xs
front_all xs ys e at =
    elim (cases_lt (length ys) (length xs)) [
      | inl low ↦ absurd (let more = sym (slice_get-get_or xs (length ys) 0 low) ∙ at in cc)
      | inr high ↦ e ∙ take_all (length ys) xs high
    ]
