-- What is told of one file agrees.
use Rattle.std.proofs.Common.{◌≡◌, ℕ, List, sym, ap, subst, ◌∙◌, length, Option, Some, None, arith}
use Rattle.outside.specs.Contents.{IsLongerAt, Paths}
use Rattle.fault_lines.specs.Files.{IsFileAt, TellsFileAt, TellsLongerAt, TellsNothingAt, most_bytes}

module _ (paths : Paths) (path : List ℕ) where
  -- what stands at a path is one list of bytes
  same_bytes : (P Q : List ℕ → Type 0) (f : IsFileAt (Some paths) path P) (g : IsFileAt (Some paths) path Q) → g.bytes ≡ f.bytes
  same_bytes P Q f g =
      let both : Some g.bytes ≡ Some f.bytes = sym g.stands ∙ f.stands in
      cc

  pub long_is_no_file : (P : List ℕ → Type 0) → IsFileAt (Some paths) path P → IsLongerAt (Some paths) path most_bytes → ⊥
  long_is_no_file P f (bytes, there, long) =
      let both : Some bytes ≡ Some f.bytes = sym there ∙ f.stands in
      let same : bytes ≡ f.bytes = cc in
      let l : length bytes ≡ length f.bytes = ap length same in
      let s = f.short in
      omega arith

  pub absent_is_no_file : (P : List ℕ → Type 0) → IsFileAt (Some paths) path P → paths path ≡ None → ⊥
  absent_is_no_file P f none =
      let both : Some f.bytes ≡ None = sym f.stands ∙ none in
      cc

  pub absent_is_not_long : IsLongerAt (Some paths) path most_bytes → paths path ≡ None → ⊥
  absent_is_not_long (bytes, there, long) none =
      let both : Some bytes ≡ None = sym there ∙ none in
      cc

  -- two facts of one file's bytes
  pub of_one_file : (P Q : List ℕ → Type 0) (R : Type 0) → ((bytes : List ℕ) → P bytes → Q bytes → R) → IsFileAt (Some paths) path P → IsFileAt (Some paths) path Q → R
  of_one_file P Q R h f g = h f.bytes f.holds (subst Q (same_bytes P Q f g) g.holds)

-- what was read is not what is told otherwise
pub not_told : (contents : Option Paths) (path : List ℕ) (P Q : List ℕ → Type 0) → ((bytes : List ℕ) → P bytes → Q bytes → ⊥) → IsFileAt contents path P → TellsFileAt contents path Q → ⊥
not_told None path P Q h f t = t
not_told (Some paths) path P Q h f t = of_one_file paths path P Q ⊥ h f t

pub not_nothing : (contents : Option Paths) (path : List ℕ) (P : List ℕ → Type 0) → IsFileAt contents path P → TellsNothingAt contents path → ⊥
not_nothing None path P f t = t
not_nothing (Some paths) path P f t = absent_is_no_file paths path P f t

pub not_longer : (contents : Option Paths) (path : List ℕ) (P : List ℕ → Type 0) → IsFileAt contents path P → TellsLongerAt contents path → ⊥
not_longer None path P f t = t
not_longer (Some paths) path P f t = long_is_no_file paths path P f t
