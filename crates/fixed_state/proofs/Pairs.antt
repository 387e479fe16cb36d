-- Two lists, of which each item of the one belongs to one of the other.
use Rattle.std.proofs.Common.{◌≡◌, ℕ, zero, suc, ◌-◌, Some, List, [], ◌∷◌, ◌++◌, set, slice_get, unwrap_or, subst, arith}
use Rattle.std.specs.List.{insert}
use Rattle.byte_frame.specs.Spelling.{EachFits}
use Rattle.run_history.specs.World.{Submitted, job_at}
use Rattle.run_state.proofs.Lists.{some_eq}

module _ {C A : Type 0} (F : C → A → Type 0) where
  pub fits_push : (cs : List C) (xs : List A) (c : C) (x : A) → EachFits F cs xs → F c x → EachFits F (cs ++ c ∷ []) (xs ++ x ∷ [])
  fits_push [] [] c x h k = (k, tt)
  fits_push [] (y ∷ xs) c x h k = absurd h
  fits_push (d ∷ cs) [] c x h k = absurd h
  fits_push (d ∷ cs) (y ∷ xs) c x h k = (h.0, fits_push cs xs c x h.1 k)

  -- the one of a place is another, and so may be its item
  pub fits_set : (cs : List C) (xs : List A) (i : ℕ) (c d : C) (x other : A) → EachFits F cs xs → slice_get cs i ≡ Some c
      → (F c (unwrap_or (slice_get xs i) other) → F d x) → EachFits F (set cs i d) (set xs i x)
  fits_set [] [] i c d x other h e k = cc
  fits_set [] (y ∷ xs) i c d x other h e k = absurd h
  fits_set (b ∷ cs) [] i c d x other h e k = absurd h
  fits_set (b ∷ cs) (y ∷ xs) zero c d x other h e k = (k (subst (λ (z : C). F z y) (some_eq b c e) h.0), h.1)
  fits_set (b ∷ cs) (y ∷ xs) (suc i) c d x other h e k = (h.0, fits_set cs xs i c d x other h.1 e k)

  pub fits_set_left : (cs : List C) (xs : List A) (i : ℕ) (c d : C) → EachFits F cs xs → slice_get cs i ≡ Some c
      → ((x : A) → F c x → F d x) → EachFits F (set cs i d) xs
  fits_set_left [] [] i c d h e k = cc
  fits_set_left [] (y ∷ xs) i c d h e k = absurd h
  fits_set_left (b ∷ cs) [] i c d h e k = absurd h
  fits_set_left (b ∷ cs) (y ∷ xs) zero c d h e k = (k y (subst (λ (z : C). F z y) (some_eq b c e) h.0), h.1)
  fits_set_left (b ∷ cs) (y ∷ xs) (suc i) c d h e k = (h.0, fits_set_left cs xs i c d h.1 e k)

  pub fits_at : (cs : List C) (xs : List A) (i : ℕ) (c : C) (other : A) → EachFits F cs xs → slice_get cs i ≡ Some c → F c (unwrap_or (slice_get xs i) other)
  fits_at [] [] i c other h e = cc
  fits_at [] (y ∷ xs) i c other h e = absurd h
  fits_at (b ∷ cs) [] i c other h e = absurd h
  fits_at (b ∷ cs) (y ∷ xs) zero c other h e = subst (λ (z : C). F z y) (some_eq b c e) h.0
  fits_at (b ∷ cs) (y ∷ xs) (suc i) c other h e = fits_at cs xs i c other h.1 e

  pub fits_insert : (cs : List C) (xs : List A) (i : ℕ) (c : C) (x : A) → EachFits F cs xs → F c x → EachFits F (insert cs i c) (insert xs i x)
  fits_insert [] [] zero c x h k = (k, tt)
  fits_insert [] [] (suc i) c x h k = (k, tt)
  fits_insert [] (y ∷ xs) i c x h k = absurd h
  fits_insert (d ∷ cs) [] i c x h k = absurd h
  fits_insert (d ∷ cs) (y ∷ xs) zero c x h k = (k, h)
  fits_insert (d ∷ cs) (y ∷ xs) (suc i) c x h k = (h.0, fits_insert cs xs i c x h.1 k)

-- the job of a number stands a place before it
pub job_place : (jobs : List Submitted) (n : ℕ) (s : Submitted) → job_at jobs n ≡ Some s → slice_get jobs (n - 1) ≡ Some s
job_place jobs zero s e = cc
job_place jobs (suc place) s e = let there : place ≡ suc place - 1 = omega arith in subst (λ (i : ℕ). slice_get jobs i ≡ Some s) there e
