-- Items put one after the other.
use Rattle.std.proofs.Common.{◌≡◌, ◌<◌, ◌+◌, ◌++◌, ℕ, List, [], ◌∷◌, length, take, Some, sym, ap, ◌∙◌, append_assoc, subst, get_or, refl}
use Rattle.std.specs.Prelude.{All, slice_get}
use Rattle.std.specs.List.{flat_map}
use Rattle.std.proofs.lemmas.Grind.{flat_map-append}
use Rattle.std.proofs.lemmas.List.{append-nil, take_more}
use Rattle.std.proofs.lemmas.List.Concat.{flat_map-cons}
use Rattle.std.proofs.lemmas.Option.{get_or_from_slice_get, slice_get_read, slice_get_within}

pub put_at : {X : Type 0} (f : X → List ℕ) (xs : List X) (i : ℕ) (x : X) (front : List ℕ) → slice_get xs i ≡ Some x → (front ++ flat_map f (take i xs)) ++ f x ≡ front ++ flat_map f (take (i + 1) xs)
put_at {X = X} f xs i x front at =
    let more : take (i + 1) xs ≡ take i xs ++ x ∷ [] = take_more xs i x (slice_get_within xs i x at) ∙ ap (λ (y : X). take i xs ++ y ∷ []) (get_or_from_slice_get xs i x x at) in
    let one : flat_map f (x ∷ []) ≡ f x = flat_map-cons f x [] ∙ append-nil (f x) in
    append_assoc front (flat_map f (take i xs)) (f x)
    ∙ ap (λ t. front ++ t) (sym (ap (flat_map f) more ∙ flat_map-append f (take i xs) (x ∷ []) ∙ ap (λ t. flat_map f (take i xs) ++ t) one))

pub all_at : {X : Type 0} (P : X → Type 0) (xs : List X) (i : ℕ) (x : X) → All P xs → slice_get xs i ≡ Some x → P x
all_at P xs i x h at = subst P (get_or_from_slice_get xs i x x at) (h i x (slice_get_within xs i x at))

pub put_more : {X : Type 0} (f : X → List ℕ) (xs : List X) (i : ℕ) (x : X) (front : List ℕ) → i < length xs → x ≡ get_or xs i x → (front ++ flat_map f (take i xs)) ++ f x ≡ front ++ flat_map f (take (i + 1) xs)
put_more f xs i x front lt is = put_at f xs i x front (slice_get_read xs (length xs) i x refl lt is)
