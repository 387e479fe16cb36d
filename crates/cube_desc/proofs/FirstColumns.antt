-- Numbers where they come first.
use Rattle.std.proofs.Common.{◌≡◌, ℕ, ◌<◌, ◌+◌, suc, List, [], ◌∷◌, ◌++◌, length, get_or, drop, Option, Some, None, Bool, true, false, refl, sym, ◌∙◌, append_assoc, drop-cons, add-one}
use Rattle.std.specs.Prelude.{◌==◌, option_to_list, if◌then◌else◌}
use Rattle.std.specs.List.{flat_map, list_any}
use Rattle.std.proofs.lemmas.List.{append-nil}
use Rattle.cube_desc.specs.Resolve.{firsts}

-- one number more, by whether it came before
one_more : (b : Bool) (cols : List ℕ) (n : ℕ) (rest : List ℕ)
    → cols ++ (if b then firsts cols rest else n ∷ firsts (cols ++ n ∷ []) rest) ≡ (cols ++ (if b then [] else n ∷ [])) ++ firsts (cols ++ (if b then [] else n ∷ [])) rest
one_more true cols n rest = rw (append-nil cols) refl
one_more false cols n rest = sym (append_assoc cols (n ∷ []) (firsts (cols ++ n ∷ []) rest))

more : (o : Option ℕ) (cols rest : List ℕ) → cols ++ firsts cols (option_to_list o ++ rest) ≡ (cols ++ firsts cols (option_to_list o)) ++ firsts (cols ++ firsts cols (option_to_list o)) rest
more None cols rest = rw (append-nil cols) refl
more (Some n) cols rest = one_more (list_any (λ b. b == n) cols) cols n rest

-- the columns so far, with those that come first in what is left
pub next_first : {X : Type 0} (f : X → Option ℕ) (xs : List X) (i : ℕ) (x : X) (cols new whole : List ℕ) → i < length xs → x ≡ get_or xs i x → new ≡ cols ++ firsts cols (option_to_list (f x))
    → cols ++ firsts cols (flat_map (λ m. option_to_list (f m)) (drop i xs)) ≡ whole
    → new ++ firsts new (flat_map (λ m. option_to_list (f m)) (drop (i + 1) xs)) ≡ whole
next_first f xs i x cols new whole h e n w =
    rw (n, add-one, e) (sym (more (f (get_or xs i x)) cols (flat_map (λ m. option_to_list (f m)) (drop (suc i) xs))) ∙ (rw (drop-cons xs i x h) at w))
