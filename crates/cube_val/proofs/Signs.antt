-- A sign and what stands after it.
use Rattle.std.proofs.Common.{◌≡◌, ◌<◌, ◌++◌, ◌==◌, ◌||◌, ℕ, Bool, true, false, cond, List, [], ◌∷◌, drop, get_or, arith, refl, sym, ◌∙◌}
use Rattle.std.specs.Prelude.{eqb, slice_index, if◌then◌else◌}
use Rattle.std.specs.Int.{IsInRange}
use Rattle.std.proofs.lemmas.Bool.Decides.{eqb_tells}
use Rattle.std.proofs.Common.{inl, inr}
use borrow.Author.Tests.{eqb-true}
use Rattle.cube_val.specs.Numbers.{Sign, none, plus, minus, sign_text, signed}
use Rattle.cube_val.specs.Splits.{signed_by, IsSplit}

-- the bytes are a sign and the rest, and the flag is the sign's
pub record Spelled (bytes : List ℕ) (negative : Bool) (rest : List ℕ) : Type 0 where
  pub sign : Sign
  pub spelling : bytes ≡ sign_text sign ++ rest
  pub same : (size : ℕ) → signed sign size ≡ signed_by negative size

spelled_first : (c : ℕ) (cs : List ℕ) (is_minus is_plus : Bool) → eqb c 45 ≡ is_minus → eqb c 43 ≡ is_plus
    → (rest : List ℕ) → rest ≡ drop (cond (is_minus || is_plus) 1 0) (c ∷ cs) → Spelled (c ∷ cs) is_minus rest
spelled_first c cs true is_plus m p rest h = record { sign = minus; spelling = rw (h, eqb-true c 45 m) refl; same = λ size. refl }
spelled_first c cs false true m p rest h = record { sign = plus; spelling = rw (h, eqb-true c 43 p) refl; same = λ size. refl }
spelled_first c cs false false m p rest h = record { sign = none; spelling = sym h; same = λ size. refl }

pub spelled : (bytes : List ℕ) (negative : Bool) (rest : List ℕ) → IsSplit bytes negative rest → Spelled bytes negative rest
spelled [] negative rest h = record { sign = none; spelling = sym h.after; same = λ size. rw h.minus_first refl }
spelled (c ∷ cs) negative rest h = rw h.minus_first (spelled_first c cs (eqb c 45) (eqb c 43) refl refl rest h.after)

digit_is_no_sign : (c s : ℕ) → IsInRange 48 57 c → s < 48 → eqb c s ≡ false
digit_is_no_sign c s digit low = elim (eqb_tells c s) [ inl e ↦ absurd (omega (arith, e.1)) | inr e ↦ e.0 ]

-- the split of a sign and a text that begins with a digit is these two
pub record SplitAs (negative : Bool) (rest : List ℕ) (sign : Sign) (digits : List ℕ) : Type 0 where
  pub rest_is : rest ≡ digits
  pub same : (size : ℕ) → signed sign size ≡ signed_by negative size

split_as : (sign : Sign) (digits : List ℕ) → IsInRange 48 57 (get_or digits 0 0)
    → (negative : Bool) (rest : List ℕ) → IsSplit (sign_text sign ++ digits) negative rest → SplitAs negative rest sign digits
split_as none digits digit negative rest h =
    let no_minus : eqb (get_or digits 0 0) 45 ≡ false = digit_is_no_sign _ 45 digit (omega arith) in
    let no_plus : eqb (get_or digits 0 0) 43 ≡ false = digit_is_no_sign _ 43 digit (omega arith) in
    record { rest_is = h.after ∙ rw (no_minus, no_plus) refl; same = λ size. rw (h.minus_first, no_minus) refl }
split_as plus digits digit negative rest h = record { rest_is = h.after; same = λ size. rw h.minus_first refl }
split_as minus digits digit negative rest h = record { rest_is = h.after; same = λ size. rw h.minus_first refl }

pub split_is : (bytes : List ℕ) (negative : Bool) (rest : List ℕ) → IsSplit bytes negative rest
    → (sign : Sign) (digits : List ℕ) → bytes ≡ sign_text sign ++ digits → IsInRange 48 57 (get_or digits 0 0)
    → SplitAs negative rest sign digits
split_is bytes negative rest h sign digits spelling digit = split_as sign digits digit negative rest (rw spelling at h)

-- every list of bytes has its split
pub the_split : (bytes : List ℕ) → IsSplit bytes (slice_index bytes 0 == 45) (drop (if slice_index bytes 0 == 45 || slice_index bytes 0 == 43 then 1 else 0) bytes)
the_split bytes = record { minus_first = refl; after = refl }
