-- Lists and one of their members.
use Rattle.std.proofs.Common.{◌≡◌, ◌+◌, ◌++◌, ◌<◌, ℕ, List, [], ◌∷◌, length, map, take, drop, get_or, append_assoc, append-nil, length-append, subst, sym, refl, arith}
use Rattle.std.specs.List.Sorted.{IsPermutation}
use Rattle.std.proofs.lemmas.List.{drop_more, map-append, take-append-drop}
use Rattle.std.proofs.lemmas.List.Sorted.{IsPermutation-append_comm, IsPermutation-append_left}
use Rattle.worker_pool.specs.Lists.{IsWithout}

-- a member that is taken out at a place
pub taken-out : {A : Type 0} (xs rest : List A) (i : ℕ) (x : A) → i < length xs → x ≡ get_or xs i x → rest ≡ take i xs ++ drop (i + 1) xs → IsWithout x xs rest
taken-out {A = A} xs rest i x inside is e =
    let whole : xs ≡ take i xs ++ get_or xs i x ∷ drop (i + 1) xs = sym (rw (sym (drop_more xs i x inside)) (take-append-drop i xs)) in
    record { front = take i xs; back = drop (i + 1) xs; before = subst (λ (y : A). xs ≡ take i xs ++ y ∷ drop (i + 1) xs) (sym is) whole; after = e }

-- a member that is put last
pub put-last : {A : Type 0} (x : A) (xs whole : List A) → whole ≡ xs ++ x ∷ [] → IsWithout x whole xs
put-last x xs whole e = record { front = xs; back = []; before = e; after = sym (append-nil xs) }

-- a member of the second of two lists
pub without-behind : {A : Type 0} (x : A) (front whole rest : List A) → IsWithout x whole rest → IsWithout x (front ++ whole) (front ++ rest)
without-behind x front whole rest w = record {
  front = front ++ w.front;
  back = w.back;
  before = rw (w.before, append_assoc) refl;
  after = rw (w.after, append_assoc) refl;
}

-- a member of the first of two lists
pub without-before : {A : Type 0} (x : A) (whole rest back : List A) → IsWithout x whole rest → IsWithout x (whole ++ back) (rest ++ back)
without-before x whole rest back w = record {
  front = w.front;
  back = w.back ++ back;
  before = rw (w.before, append_assoc) refl;
  after = rw (w.after, append_assoc) refl;
}

-- the images of the members
pub without-map : {A B : Type 0} (f : A → B) (x : A) (whole rest : List A) → IsWithout x whole rest → IsWithout (f x) (map f whole) (map f rest)
without-map f x whole rest w = record {
  front = map f w.front;
  back = map f w.back;
  before = rw w.before (map-append f w.front (x ∷ w.back));
  after = rw w.after (map-append f w.front w.back);
}

pub without-length : {A : Type 0} (x : A) (whole rest : List A) → IsWithout x whole rest → length whole ≡ length rest + 1
without-length x whole rest w = rw (w.before, w.after) (omega (arith, length-append w.front (x ∷ w.back), length-append w.front w.back))

-- the member first and the others are the whole, up to order
pub without-first : {A : Type 0} (x : A) (whole rest : List A) → IsWithout x whole rest → IsPermutation (x ∷ rest) whole
without-first x whole rest w =
    let turned : IsPermutation (((x ∷ []) ++ w.front) ++ w.back) ((w.front ++ x ∷ []) ++ w.back) = IsPermutation-append_left w.back _ _ (IsPermutation-append_comm (x ∷ []) w.front) in
    rw (w.before, w.after) (rw (append_assoc w.front (x ∷ []) w.back) at turned)
