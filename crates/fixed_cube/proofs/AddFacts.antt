-- Cells that are filled one after another.
use Rattle.std.proofs.Common.{◌≡◌, ◌<◌, ◌+◌, ◌∷◌, ◌++◌, [], ℕ, List, length, take, drop, drop-cons, add-one, suc, get_or, cond, OnOk, refl, sym, ap, subst, ◌∙◌, Ok, Err, Some, append_assoc}
use Rattle.std.specs.List.{flat_map}
use Rattle.std.proofs.lemmas.List.{append-nil, take-append-drop, take_more}
use Rattle.std.proofs.lemmas.List.Concat.{flat_map-append, flat_map-cons}
use Rattle.std.specs.declared.option.Option.{Option}
use Rattle.std.specs.declared.result.Result.{Result}
use Rattle.std.specs.declared.cmp.Ordering.{Ordering}
use Rattle.std.specs.Cmp.{IsTotalOrder, eq_by_cmp_equiv}
use Rattle.std.specs.BTreeMap.{BTreeMap, get, is_at}
use Rattle.std.specs.Ordering.{eq_by_cmp}
use Rattle.aggregation.specs.Cells.{Adds, plus}

-- a part is added where its key has the merge with the part, and the others keep what they had
pub adds_at : {K M : Type 0} {cmp : K → K → Ordering} → IsTotalOrder cmp → (merge : M → M → M) (old new : BTreeMap K M) (key : K) (part cell : M) (was : Option M)
    → get cmp old key ≡ was → cell ≡ plus merge was part → ((q : K) → get cmp new q ≡ cond (is_at (cmp key) q) (Some cell) (get cmp old q)) → Adds cmp merge old new key part
adds_at {cmp = cmp} o merge old new key part cell was had grown updates = λ q.
    updates q ∙ ap (λ b. cond b (Some cell) (get cmp old q)) ((eq_by_cmp_equiv o).symm key q)
    ∙ ap (λ c. cond (eq_by_cmp cmp q key) (Some c) (get cmp old q)) (grown ∙ ap (λ x. plus merge x part) (sym had))

-- what always holds holds after an Ok
pub on_any : {T E : Type 0} {P : Type 0} (r : Result T E) → P → OnOk r P
on_any (Ok x) h = h
on_any (Err e) h = tt

-- a list of texts grows by the text of one more
pub put_more : {X : Type 0} (f : X → List ℕ) (xs : List X) (i : ℕ) (x : X) (front : List ℕ) → i < length xs → x ≡ get_or xs i x → (front ++ flat_map f (take i xs)) ++ f x ≡ front ++ flat_map f (take (i + 1) xs)
put_more {X = X} f xs i x front lt is =
    let more : take (i + 1) xs ≡ take i xs ++ x ∷ [] = take_more xs i x lt ∙ ap (λ (y : X). take i xs ++ y ∷ []) (sym is) in
    let one : flat_map f (x ∷ []) ≡ f x = flat_map-cons f x [] ∙ append-nil (f x) in
    append_assoc front (flat_map f (take i xs)) (f x)
    ∙ ap (λ t. front ++ t) (sym (ap (flat_map f) more ∙ flat_map-append f (take i xs) (x ∷ []) ∙ ap (λ t. flat_map f (take i xs) ++ t) one))

pub four_parts : (a b c d : List ℕ) → ((a ++ b) ++ c) ++ d ≡ a ++ (b ++ (c ++ d))
four_parts a b c d = simp append_assoc

-- what stands around an item
pub around : {X : Type 0} (xs : List X) (i : ℕ) (x : X) → i < length xs → x ≡ get_or xs i x → xs ≡ take i xs ++ x ∷ drop (i + 1) xs
around {X = X} xs i x lt is =
    let rest : drop i xs ≡ x ∷ drop (i + 1) xs = rw (add-one i) (drop-cons xs i x lt ∙ ap (λ (y : X). y ∷ drop (suc i) xs) (sym is)) in
    sym (take-append-drop i xs) ∙ ap (λ (ys : List X). take i xs ++ ys) rest
