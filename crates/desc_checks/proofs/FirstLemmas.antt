-- The first of two lists, and of a list of lists.
use Rattle.std.proofs.Common.{◌≡◌, ℕ, suc, ◌<◌, ◌+◌, List, [], ◌∷◌, ◌++◌, length, get_or, drop, Option, Some, None, refl, sym, ◌∙◌, drop-cons, add-one}
use Rattle.std.specs.Option.{option_or}
use Rattle.std.specs.List.{flat_map}
use Rattle.desc_checks.specs.Firsts.{first}

pub first_append : {A : Type 0} (xs ys : List A) → first (xs ++ ys) ≡ option_or (first xs) (first ys)
first_append [] ys = refl
first_append (x ∷ xs) ys = refl

next : {A X : Type 0} (f : X → List A) (xs : List X) (i : ℕ) (x : X) (whole : Option A) → i < length xs → x ≡ get_or xs i x → whole ≡ first (flat_map f (drop i xs))
    → whole ≡ option_or (first (f x)) (first (flat_map f (drop (i + 1) xs)))
next f xs i x whole h e w = w ∙ (rw (drop-cons xs i x h, add-one) (rw (← e) (first_append (f x) (flat_map f (drop (suc i) xs)))))

pub first_here : {A X : Type 0} (f : X → List A) (xs : List X) (i : ℕ) (x : X) (whole : Option A) (a : A) → i < length xs → x ≡ get_or xs i x → whole ≡ first (flat_map f (drop i xs))
    → Some a ≡ first (f x) → Some a ≡ whole
first_here f xs i x whole a h e w is = sym (next f xs i x whole h e w ∙ rw (← is) refl)

pub first_later : {A X : Type 0} (f : X → List A) (xs : List X) (i : ℕ) (x : X) (whole : Option A) → i < length xs → x ≡ get_or xs i x → whole ≡ first (flat_map f (drop i xs))
    → None ≡ first (f x) → whole ≡ first (flat_map f (drop (i + 1) xs))
first_later f xs i x whole h e w is = next f xs i x whole h e w ∙ rw (← is) refl
