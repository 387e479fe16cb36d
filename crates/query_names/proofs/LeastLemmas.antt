-- The least of two lists, and of a list of lists.
use Rattle.std.proofs.Common.{◌≡◌, ℕ, ◌<◌, ◌+◌, List, [], ◌∷◌, ◌++◌, length, get_or, take, Option, Some, None, refl, ap, sym, ◌∙◌, arith}
use Rattle.std.specs.List.{flat_map}
use Rattle.std.proofs.lemmas.List.{append-nil, take_more}
use Rattle.std.proofs.lemmas.List.Concat.{flat_map-append}
use Rattle.query_names.specs.Least.{lesser, least}

lesser_assoc : (p : ℕ) (a b : Option ℕ) → lesser (Some p) (lesser a b) ≡ lesser (lesser (Some p) a) b
lesser_assoc p None b = refl
lesser_assoc p (Some q) None = refl
lesser_assoc p (Some q) (Some r) = ap Some (omega arith)

pub least_append : (xs ys : List ℕ) → least (xs ++ ys) ≡ lesser (least xs) (least ys)
least_append [] ys = refl
least_append (x ∷ xs) ys = ap (lesser (Some x)) (least_append xs ys) ∙ lesser_assoc x (least xs) (least ys)

pub least_flat : {X : Type 0} (f : X → List ℕ) (xs ys : List X) → least (flat_map f (xs ++ ys)) ≡ lesser (least (flat_map f xs)) (least (flat_map f ys))
least_flat f xs ys = ap least (flat_map-append f xs ys) ∙ least_append (flat_map f xs) (flat_map f ys)

lesser_none : (p : Option ℕ) → lesser p None ≡ p
lesser_none None = refl
lesser_none (Some p) = refl

-- one more item
pub least_more : {X : Type 0} (f : X → List ℕ) (xs : List X) (i : ℕ) (x : X) (p q : Option ℕ) → i < length xs → x ≡ get_or xs i x → p ≡ least (flat_map f (take i xs)) → q ≡ least (f x)
    → lesser p q ≡ least (flat_map f (take (i + 1) xs))
least_more f xs i x p q h e pe qe =
    let cut : take (i + 1) xs ≡ take i xs ++ x ∷ [] = rw (take_more xs i x h) (ap (λ y. take i xs ++ y ∷ []) (sym e)) in
    rw (pe, qe, cut, least_flat f (take i xs) (x ∷ []), append-nil (f x)) refl

pub least_of_three : (a b c : List ℕ) (p q r x y : Option ℕ) → p ≡ least a → q ≡ least b → r ≡ least c → x ≡ lesser p q → y ≡ lesser x r → y ≡ least (a ++ b ++ c)
least_of_three a b c p q r x y pe qe re xe ye = ye ∙ rw (xe, pe, qe, re, least_append (a ++ b) c, least_append a b) refl

pub least_of_four : (a b c d : List ℕ) (p q r s x y z : Option ℕ) → p ≡ least a → q ≡ least b → r ≡ least c → s ≡ least d → x ≡ lesser p q → y ≡ lesser x r → z ≡ lesser y s
    → z ≡ least (a ++ b ++ c ++ d)
least_of_four a b c d p q r s x y z pe qe re se xe ye ze = ze ∙ rw (least_of_three a b c p q r x y pe qe re xe ye, se, least_append (a ++ b ++ c) d) refl
