-- Reading items one after the other, as a loop does.
use Rattle.std.proofs.Common.{◌≡◌, ℕ, suc, ◌-◌, ◌+◌, ◌≤◌, ◌<◌, List, [], ◌∷◌, ◌++◌, length, drop, Option, Some, None, refl, sym, ap, ◌∙◌, append_assoc, arith, get_or, drop-cons, add-one}
use Rattle.std.proofs.lemmas.List.{append-nil}
use Rattle.byte_frame.specs.declared.fault.ReadError.{ReadError}
use Rattle.byte_frame.specs.declared.fault.ReadError.TheVariants as errors
use Rattle.byte_frame.specs.Reading.{◌>>=◌, items_at, each_at}
use Rattle.byte_frame.specs.Outcomes.{Fails}

-- what was read before, and what is still read
abbrev pub with_front : {A : Type 0} → List A → Option (List A × List ℕ) → Option (List A × List ℕ)
with_front front read = read >>= λ x. Some (front ++ x.0, x.1)

regroup : {A : Type 0} (front : List A) (n : A) (read : Option (List A × List ℕ)) → with_front front (read >>= λ x. Some (n ∷ x.0, x.1)) ≡ with_front (front ++ n ∷ []) read
regroup {A = A} front n (Some x) = ap (λ (ns : List A). Some (ns, x.1)) (simp append_assoc)
regroup front n None = refl

one_more : {A : Type 0} (r : List ℕ → Option (A × List ℕ)) (front : List A) (k : ℕ) (bytes : List ℕ) (n : A) (after : List ℕ) → r bytes ≡ Some (n, after)
    → with_front front (items_at r (suc k) bytes) ≡ with_front (front ++ n ∷ []) (items_at r k after)
unfolding items_at
one_more r front k bytes n after h = rw h (regroup front n (items_at r k after))

pub items_more : {A : Type 0} (r : List ℕ → Option (A × List ℕ)) (front : List A) (count i : ℕ) (bytes : List ℕ) (n : A) (after : List ℕ) (total : Option (List A × List ℕ)) → i < count → r bytes ≡ Some (n, after)
    → with_front front (items_at r (count - i) bytes) ≡ total → with_front (front ++ n ∷ []) (items_at r (count - (i + 1)) after) ≡ total
items_more r front count i bytes n after total lt h so_far =
    let k : count - i ≡ suc (count - (i + 1)) = omega arith in
    sym (ap (λ (m : ℕ). with_front front (items_at r m bytes)) k ∙ one_more r front (count - (i + 1)) bytes n after h) ∙ so_far

pub items_fail : {A : Type 0} (r : List ℕ → Option (A × List ℕ)) (e : ReadError) (front : List A) (count i : ℕ) (bytes : List ℕ) (total : Option (List A × List ℕ)) → i < count → Fails e (r bytes)
    → with_front front (items_at r (count - i) bytes) ≡ total → Fails e total
unfolding items_at
items_fail r errors.Memory front count i bytes total lt h so_far = tt
items_fail {A = A} r errors.Malformed front count i bytes total lt h so_far =
    let k : count - i ≡ suc (count - (i + 1)) = omega arith in
    let none : Option (List A × List ℕ) = None in
    let one : with_front front (items_at r (count - i) bytes) ≡ none = rw (k, h) refl in
    sym so_far ∙ one

pub items_done : {A : Type 0} (r : List ℕ → Option (A × List ℕ)) (front : List A) (count i : ℕ) (bytes : List ℕ) (total : Option (List A × List ℕ)) → count ≤ i → with_front front (items_at r (count - i) bytes) ≡ total → total ≡ Some (front, bytes)
unfolding items_at
items_done {A = A} r front count i bytes total le so_far =
    let k : count - i ≡ 0 = omega arith in
    let one : with_front front (items_at r (count - i) bytes) ≡ Some (front, bytes) = rw k (ap (λ (ns : List A). Some (ns, bytes)) (append-nil front)) in
    sym so_far ∙ one

pub each_more : {C A : Type 0} (r : C → List ℕ → Option (A × List ℕ)) (front : List A) (rest : List C) (c : C) (cs : List C) (bytes : List ℕ) (n : A) (after : List ℕ) (total : Option (List A × List ℕ)) → rest ≡ c ∷ cs → r c bytes ≡ Some (n, after)
    → with_front front (each_at r rest bytes) ≡ total → with_front (front ++ n ∷ []) (each_at r cs after) ≡ total
unfolding each_at
each_more r front rest c cs bytes n after total is h so_far =
    let one : with_front front (each_at r rest bytes) ≡ with_front (front ++ n ∷ []) (each_at r cs after) = rw (is, h) (regroup front n (each_at r cs after)) in
    sym one ∙ so_far

pub each_fail : {C A : Type 0} (r : C → List ℕ → Option (A × List ℕ)) (e : ReadError) (front : List A) (rest : List C) (c : C) (cs : List C) (bytes : List ℕ) (total : Option (List A × List ℕ)) → rest ≡ c ∷ cs → Fails e (r c bytes)
    → with_front front (each_at r rest bytes) ≡ total → Fails e total
unfolding each_at
each_fail r errors.Memory front rest c cs bytes total is h so_far = tt
each_fail {A = A} r errors.Malformed front rest c cs bytes total is h so_far =
    let none : Option (List A × List ℕ) = None in
    let one : with_front front (each_at r rest bytes) ≡ none = rw (is, h) refl in
    sym so_far ∙ one

pub each_done : {C A : Type 0} (r : C → List ℕ → Option (A × List ℕ)) (front : List A) (rest : List C) (bytes : List ℕ) (total : Option (List A × List ℕ)) → rest ≡ [] → with_front front (each_at r rest bytes) ≡ total → total ≡ Some (front, bytes)
unfolding each_at
each_done {A = A} r front rest bytes total is so_far =
    let one : with_front front (each_at r rest bytes) ≡ Some (front, bytes) = rw is (ap (λ (ns : List A). Some (ns, bytes)) (append-nil front)) in
    sym so_far ∙ one

-- what is left, with its first
pub left_is : {C : Type 0} (cs : List C) (i : ℕ) (c : C) → i < length cs → c ≡ get_or cs i c → drop i cs ≡ c ∷ drop (i + 1) cs
left_is {C = C} cs i c lt is = rw (add-one i) (drop-cons cs i c lt ∙ ap (λ (x : C). x ∷ drop (suc i) cs) (sym is))
