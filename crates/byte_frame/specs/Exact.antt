-- When a reader reads the values that fit from the bytes that they are written as, and nothing else.
use Rattle.std.specs.Prelude.{◌≡◌, ℕ, ◌<◌, List, ◌∷◌, ◌++◌, Option, Some, slice_index}

-- each of them is a byte
abbrev pub IsBytes : List ℕ → Type 0
IsBytes bytes = (i : ℕ) → slice_index bytes i < 256

-- the text stands in front, and the rest after it
pub record Takes (bytes text rest : List ℕ) : Type 0 where
  pub parts : bytes ≡ text ++ rest
  pub rest_fits : IsBytes rest

-- what is read is written so and fits, and what fits is read again, whatever follows
pub record Exact {A : Type 0} (spell : A → List ℕ) (Fit : A → Type 0) (read : List ℕ → Option (A × List ℕ)) : Type 0 where
  pub takes : (bytes : List ℕ) (x : A × List ℕ) → IsBytes bytes → read bytes ≡ Some x → Takes bytes (spell x.0) x.1 × Fit x.0
  pub again : (x : A) (rest : List ℕ) → Fit x → read (spell x ++ rest) ≡ Some (x, rest)

-- what is read behind a tag is written so with the tag, and fits
abbrev pub AreCases : {B : Type 0} → (B → List ℕ) → (B → Type 0) → (ℕ → List ℕ → Option (B × List ℕ)) → Type 0
AreCases {B = B} spell Fit cases = (b : ℕ) (bytes : List ℕ) (z : B × List ℕ) → IsBytes bytes → cases b bytes ≡ Some z → Takes (b ∷ bytes) (spell z.0) z.1 × Fit z.0
