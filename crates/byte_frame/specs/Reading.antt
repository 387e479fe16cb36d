-- Readers of fields: what stands at the front of bytes, with the bytes after it, or nothing. A name that
-- ends in `_at` is a reader, or puts readers together.
use Rattle.std.specs.Prelude.{ℕ, zero, suc, ℤ, List, [], ◌∷◌, length, take, drop, Bool, Option, Some, None, nat_lt, nat_le, ◌==◌, if◌then◌else◌}
use Rattle.std.specs.Int.{Width, w32, byte_len, from_be_bytes, cast_signed}

-- goes on where there is a value
infixl 10 ◌>>=◌
abbrev pub ◌>>=◌ : {A B : Type 0} → Option A → (A → Option B) → Option B
(Some x) >>= f = f x
None >>= f = None

-- ---- fields

-- one byte
abbrev pub byte_at : List ℕ → Option (ℕ × List ℕ)
byte_at [] = None
byte_at (b ∷ bytes) = Some (b, bytes)

-- so many bytes, where so many are left
abbrev pub bytes_at : ℕ → List ℕ → Option (List ℕ × List ℕ)
bytes_at n bytes = if nat_lt (length bytes) n then None else Some (take n bytes, drop n bytes)

-- a number of this width, big endian
abbrev pub number_at : Width → List ℕ → Option (ℕ × List ℕ)
number_at w bytes =
    if nat_lt (length bytes) (byte_len w) then None
    else Some (from_be_bytes w (take (byte_len w) bytes), drop (byte_len w) bytes)

-- ---- readers put together

-- one after the other: the second may depend on what the first gave
abbrev pub then_at : {A B : Type 0} → (List ℕ → Option (A × List ℕ)) → (A → List ℕ → Option (B × List ℕ)) → List ℕ → Option ((A × B) × List ℕ)
then_at first second bytes = first bytes >>= λ x. second x.0 x.1 >>= λ y. Some ((x.0, y.0), y.1)

-- what was read, as another value
abbrev pub as_at : {A B : Type 0} → (A → B) → (List ℕ → Option (A × List ℕ)) → List ℕ → Option (B × List ℕ)
as_at to read bytes = read bytes >>= λ x. Some (to x.0, x.1)

-- what was read, where it passes a test
abbrev pub if_at : {A : Type 0} → (A → Bool) → (List ℕ → Option (A × List ℕ)) → List ℕ → Option (A × List ℕ)
if_at test read bytes = read bytes >>= λ x. if test x.0 then Some x else None

-- so many items
unfoldable pub items_at : {A : Type 0} → (List ℕ → Option (A × List ℕ)) → ℕ → List ℕ → Option (List A × List ℕ)
items_at read zero bytes = Some ([], bytes)
items_at read (suc n) bytes = read bytes >>= λ x. items_at read n x.1 >>= λ xs. Some (x.0 ∷ xs.0, xs.1)

-- one item for each context, as a value for each column by its type
unfoldable pub each_at : {C A : Type 0} → (C → List ℕ → Option (A × List ℕ)) → List C → List ℕ → Option (List A × List ℕ)
each_at read [] bytes = Some ([], bytes)
each_at read (c ∷ cs) bytes = read c bytes >>= λ x. each_at read cs x.1 >>= λ xs. Some (x.0 ∷ xs.0, xs.1)

-- a u32 count up to the limit, and so many items
abbrev pub list_at : {A : Type 0} → ℕ → (List ℕ → Option (A × List ℕ)) → List ℕ → Option (List A × List ℕ)
list_at limit read = as_at (λ p. p.1) (then_at (if_at (λ n. nat_le n limit) (number_at w32)) (λ n. items_at read n))

-- a u32 count, which is that of the contexts, and one item for each of them
abbrev pub counted_at : {C A : Type 0} → (C → List ℕ → Option (A × List ℕ)) → List C → List ℕ → Option (List A × List ℕ)
counted_at read cs = as_at (λ p. p.1) (then_at (if_at (λ n. n == length cs) (number_at w32)) (λ _. each_at read cs))

-- a length of this width that passes a test, and so many bytes
abbrev pub sized_at : Width → (ℕ → Bool) → List ℕ → Option (List ℕ × List ℕ)
sized_at w may = as_at (λ p. p.1) (then_at (if_at may (number_at w)) bytes_at)

-- a byte that is the tag, and what stands behind it
abbrev pub tagged_at : {A : Type 0} → ℕ → (List ℕ → Option (A × List ℕ)) → List ℕ → Option (A × List ℕ)
tagged_at tag read = as_at (λ p. p.1) (then_at (if_at (λ b. b == tag) byte_at) (λ _. read))

-- of several kinds behind a tag: one more, and none
abbrev pub case_at : {A B : Type 0} → ℕ → (A → B) → (List ℕ → Option (A × List ℕ)) → (ℕ → List ℕ → Option (B × List ℕ)) → ℕ → List ℕ → Option (B × List ℕ)
case_at tag kind read others b bytes = if b == tag then as_at kind read bytes else others b bytes

abbrev pub no_case : {B : Type 0} → ℕ → List ℕ → Option (B × List ℕ)
no_case b bytes = None

-- a signed number of this width, two's complement
abbrev pub signed_at : Width → List ℕ → Option (ℤ × List ℕ)
signed_at w = as_at (cast_signed w) (number_at w)

-- the value that all of the bytes are
abbrev pub all_of : {A : Type 0} → (List ℕ → Option (A × List ℕ)) → List ℕ → Option A
all_of read bytes = read bytes >>= λ x. if length x.1 == 0 then Some x.0 else None
