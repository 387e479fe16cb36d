-- Bits gathered in turn.
use Rattle.std.proofs.Common.{◌≡◌, ℕ, ◌<◌, ◌+◌, List, [], ◌∷◌, ◌++◌, length, get_or, map, take, refl, sym, ap, ◌∙◌, append_assoc}
use Rattle.std.proofs.lemmas.List.{map-append, take_more}
use Rattle.std.specs.List.{flat_map}
use Rattle.std.proofs.lemmas.List.Concat as concats

pub flat_map_append : {X A : Type 0} (f : X → List A) (xs ys : List X) → flat_map f (xs ++ ys) ≡ flat_map f xs ++ flat_map f ys
flat_map_append f xs ys = concats.flat_map-append f xs ys

-- one more item
pub pushed_more : {X A : Type 0} (f : X → A) (xs : List X) (i : ℕ) (x d : X) (start now next : List A) (y : A) → i < length xs → x ≡ get_or xs i d → now ≡ start ++ map f (take i xs) → y ≡ f x
    → next ≡ now ++ y ∷ [] → next ≡ start ++ map f (take (i + 1) xs)
pushed_more f xs i x d start now next y h e before is step =
    let cut : take (i + 1) xs ≡ take i xs ++ x ∷ [] = rw (take_more xs i d h) (ap (λ z. take i xs ++ z ∷ []) (sym e)) in
    step ∙ rw (before, is, cut, map-append f (take i xs) (x ∷ []), append_assoc start (map f (take i xs)) (f x ∷ [])) refl
