-- A list that is copied one item after another.
use Rattle.std.proofs.Common.{◌≡◌, ◌<◌, ◌+◌, ◌++◌, ◌∙◌, ℕ, List, [], ◌∷◌, length, map, take, get_or, refl, ap}
use Rattle.std.proofs.lemmas.List.{map-append, take-map, take_more}

-- one more item, seen as the item that it is a copy of
pub shared_more : {X Y : Type 0} (f : X → Y) (xs ys : List X) (i : ℕ) (x y : X) → map f ys ≡ take i (map f xs) → i < length xs → x ≡ get_or xs i x → f y ≡ f x → map f (ys ++ y ∷ []) ≡ take (i + 1) (map f xs)
shared_more f xs ys i x y before within at same =
    let front : map f ys ≡ map f (take i xs) = before ∙ take-map f i xs in
    let last : f y ≡ f (get_or xs i x) = same ∙ ap f at in
    rw (take-map, take_more xs i x within, map-append, map-append, front, last) refl
