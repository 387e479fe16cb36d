-- The bytes that values are written as, and tests of lists.
use Rattle.std.specs.Prelude.{ℕ, ℤ, List, [], ◌∷◌, ◌++◌, length, Bool, true, false, if◌then◌else◌}
use Rattle.std.specs.List.{flat_map}
use Rattle.std.specs.Int.{Width, w32, to_be_bytes, cast_unsigned}

-- a signed number of this width, two's complement and big endian
abbrev pub signed_text : Width → ℤ → List ℕ
signed_text w z = to_be_bytes w (cast_unsigned w z)

-- a u32 count and the items
abbrev pub list_text : {A : Type 0} → (A → List ℕ) → List A → List ℕ
list_text item xs = to_be_bytes w32 (length xs) ++ flat_map item xs

-- a length of this width and the bytes
abbrev pub sized_text : Width → List ℕ → List ℕ
sized_text w bytes = to_be_bytes w (length bytes) ++ bytes

-- one item for each context, each of which fits its own
abbrev pub EachFits : {C A : Type 0} → (C → A → Type 0) → List C → List A → Type 0
EachFits F [] [] = Unit {0}
EachFits F [] (x ∷ xs) = ⊥
EachFits F (c ∷ cs) [] = ⊥
EachFits F (c ∷ cs) (x ∷ xs) = F c x × EachFits F cs xs

-- ---- lists that rise strictly

-- x comes before the first of the list, if there is one
abbrev pub is_below : {A : Type 0} → (A → A → Bool) → A → List A → Bool
is_below below x [] = true
is_below below x (y ∷ ys) = below x y

-- each comes before the one after it
abbrev pub rises : {A : Type 0} → (A → A → Bool) → List A → Bool
rises below [] = true
rises below (x ∷ xs) = if is_below below x xs then rises below xs else false
