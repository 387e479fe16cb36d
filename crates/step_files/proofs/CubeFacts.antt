-- What the loops over a cube's measures and columns need.
use Rattle.std.proofs.Common.{◌≡◌, ◌∙◌, ◌+◌, ◌++◌, ◌∷◌, [], ℕ, Bool, List, ap, arith, length, refl}
use Rattle.std.specs.List.{flat_map, range_with_len}
use Rattle.std.proofs.lemmas.List.{append-nil}
use Rattle.std.proofs.lemmas.Grind.{flat_map-append}
use Rattle.cube_val.specs.declared.form.ColDesc.{ColDesc}
use Rattle.cube_desc.proofs.FlatRowFacts.{range_more}
use Rattle.step_files.specs.Cubes.{columns_in}

-- ---- tables

pub columns_length : (cols : List ColDesc) (no_nulls : List Bool) → length no_nulls ≡ length cols → length (columns_in cols no_nulls) ≡ length cols
columns_length [] no_nulls h = refl
columns_length (col ∷ cols) [] h = absurd (omega (arith, h))
columns_length (col ∷ cols) (n ∷ no_nulls) h = omega (arith, columns_length cols no_nulls (omega (arith, h)))

-- ---- one more item

pub flat_range_more : {X : Type 0} (f : ℕ → List X) (n : ℕ) → flat_map f (range_with_len 0 (n + 1)) ≡ flat_map f (range_with_len 0 n) ++ f n
flat_range_more {X = X} f n =
    ap (flat_map f) (range_more n) ∙ flat_map-append f (range_with_len 0 n) (n ∷ [])
    ∙ ap (λ (xs : List X). flat_map f (range_with_len 0 n) ++ xs) (append-nil (f n))
