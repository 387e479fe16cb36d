-- Facts about lists that match item by item.
use Rattle.std.proofs.Common.{◌≡◌, ◌<◌, ℕ, zero, suc, List, [], ◌∷◌, ◌++◌, refl, ap, subst, length, get_or, take, Some, arith}
use Rattle.std.specs.Prelude.{slice_get}
use Rattle.std.specs.List.{AllZip}

-- one more item on each side
pub zip_push : {A B : Type 0} (R : A → B → Type 0) (xs : List A) (ys : List B) (x : A) (y : B) → AllZip R xs ys → R x y → AllZip R (xs ++ x ∷ []) (ys ++ y ∷ [])
zip_push R [] [] x y h r = (r, tt)
zip_push R [] (b ∷ ys) x y h r = absurd h
zip_push R (a ∷ xs) [] x y h r = absurd h
zip_push R (a ∷ xs) (b ∷ ys) x y h r = (h.0, zip_push R xs ys x y h.1 r)

pub zip_length : {A B : Type 0} (R : A → B → Type 0) (xs : List A) (ys : List B) → AllZip R xs ys → length ys ≡ length xs
zip_length R [] [] h = refl
zip_length R [] (y ∷ ys) h = absurd h
zip_length R (x ∷ xs) [] h = absurd h
zip_length R (x ∷ xs) (y ∷ ys) h = ap suc (zip_length R xs ys h.1)

-- the item at a place that is there
pub slice_get-there : {A : Type 0} (xs : List A) (i : ℕ) (d : A) → i < length xs → slice_get xs i ≡ Some (get_or xs i d)
slice_get-there [] i d h = absurd (omega arith)
slice_get-there (x ∷ xs) zero d h = refl
slice_get-there (x ∷ xs) (suc i) d h = slice_get-there xs i d (omega arith)

-- the front parts match
pub zip_take : {A B : Type 0} (R : A → B → Type 0) (n : ℕ) (xs : List A) (ys : List B) → AllZip R xs ys → AllZip R (take n xs) (take n ys)
zip_take R zero xs ys h = tt
zip_take R (suc n) [] [] h = tt
zip_take R (suc n) [] (y ∷ ys) h = absurd h
zip_take R (suc n) (x ∷ xs) [] h = absurd h
zip_take R (suc n) (x ∷ xs) (y ∷ ys) h = (h.0, zip_take R n xs ys h.1)

-- the items at a place match
pub zip_at : {A B : Type 0} (R : A → B → Type 0) (xs : List A) (ys : List B) (i : ℕ) (d : A) (e : B) → AllZip R xs ys → i < length ys → R (get_or xs i d) (get_or ys i e)
zip_at R [] [] i d e h k = absurd (omega arith)
zip_at R [] (y ∷ ys) i d e h k = absurd h
zip_at R (x ∷ xs) [] i d e h k = absurd h
zip_at R (x ∷ xs) (y ∷ ys) zero d e h k = h.0
zip_at R (x ∷ xs) (y ∷ ys) (suc i) d e h k = zip_at R xs ys i d e h.1 (omega arith)

-- a match of two lists is split where the first one is
pub zip_split : {A B : Type 0} (R : A → B → Type 0) (front : List A) (x : A) (rest : List A) (ys : List B) → AllZip R (front ++ x ∷ rest) ys
    → (before : List B) × (y : B) × (after : List B) × (ys ≡ before ++ y ∷ after) × AllZip R front before × R x y
zip_split R [] x rest [] h = absurd h
zip_split R [] x rest (y ∷ ys) h = ([], y, ys, refl, tt, h.0)
zip_split R (a ∷ front) x rest [] h = absurd h
zip_split R (a ∷ front) x rest (y ∷ ys) h =
    let more = zip_split R front x rest ys h.1 in
    (y ∷ more.0, more.1, more.2, ap (λ zs. y ∷ zs) more.3, (h.0, more.4), more.5)

-- where each item has one match, a list has one
pub zip_one : {A B : Type 0} (R : A → B → Type 0) → ((x : A) (y z : B) → R x y → R x z → y ≡ z) → (xs : List A) (ys zs : List B) → AllZip R xs ys → AllZip R xs zs → ys ≡ zs
zip_one R one [] [] [] g h = refl
zip_one R one [] [] (z ∷ zs) g h = absurd h
zip_one R one [] (y ∷ ys) zs g h = absurd g
zip_one R one (x ∷ xs) [] zs g h = absurd g
zip_one R one (x ∷ xs) (y ∷ ys) [] g h = absurd h
zip_one R one (x ∷ xs) (y ∷ ys) (z ∷ zs) g h = let head = one x y z g.0 h.0 in let rest = zip_one R one xs ys zs g.1 h.1 in λ i. head i ∷ rest i

-- an item at a place has its match
pub zip_there : {A B : Type 0} (R : A → B → Type 0) (xs : List A) (ys : List B) (i : ℕ) (x : A) → AllZip R xs ys → slice_get xs i ≡ Some x → (y : B) × R x y
zip_there R [] [] i x h e = cc e
zip_there R [] (y ∷ ys) i x h e = absurd h
zip_there R (a ∷ xs) [] i x h e = absurd h
zip_there {B = B} R (a ∷ xs) (y ∷ ys) zero x h e = let same : a ≡ x = cc e in (y, subst (λ z. R z y) same h.0)
zip_there R (a ∷ xs) (y ∷ ys) (suc i) x h e = zip_there R xs ys i x h.1 e

-- an item before the end of a front part stands there in it
pub slice_get-take : {A : Type 0} (xs : List A) (i n : ℕ) → i < n → slice_get (take n xs) i ≡ slice_get xs i
slice_get-take [] i zero h = absurd (omega arith)
slice_get-take [] i (suc n) h = refl
slice_get-take (x ∷ xs) i zero h = absurd (omega arith)
slice_get-take (x ∷ xs) zero (suc n) h = refl
slice_get-take (x ∷ xs) (suc i) (suc n) h = slice_get-take xs i n (omega arith)

-- what stands before an item of a list, and the item
pub take_before : {A : Type 0} (xs : List A) (y : A) (ys : List A) → take (length xs) (xs ++ y ∷ ys) ≡ xs
take_before [] y ys = refl
take_before (x ∷ xs) y ys = ap (λ zs. x ∷ zs) (take_before xs y ys)

pub item_after : {A : Type 0} (xs : List A) (y : A) (ys : List A) (d : A) → get_or (xs ++ y ∷ ys) (length xs) d ≡ y
item_after [] y ys d = refl
item_after (x ∷ xs) y ys d = item_after xs y ys d
