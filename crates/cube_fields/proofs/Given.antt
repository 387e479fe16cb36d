-- What holds of every value that a reader gives, whatever the bytes.
use Rattle.std.proofs.Common.{◌≡◌, ◌≤◌, ℕ, zero, suc, Bool, true, cond, List, [], ◌∷◌, length, Option, Some, None, refl, sym, ap, subst}
use Rattle.std.specs.Prelude.{nat_le}
use Rattle.std.specs.List.{AllByRecursion}
use Rattle.std.specs.Int.{w32}
use Rattle.byte_frame.specs.Reading.{◌>>=◌, as_at, each_at, if_at, items_at, list_at, number_at, then_at}
use Rattle.byte_frame.specs.Spelling.{EachFits}
use Rattle.byte_frame.proofs.Exact.{bind_some, guard_some, not_over, some_is}

abbrev pub Gets : {A : Type 0} → (A → Type 0) → (List ℕ → Option (A × List ℕ)) → Type 0
Gets {A} F read = (bytes : List ℕ) (z : A × List ℕ) → read bytes ≡ Some z → F z.0

pub gets_any : {A : Type 0} (read : List ℕ → Option (A × List ℕ)) → Gets (λ (x : A). Unit {0}) read
gets_any read bytes z e = tt

pub gets_if : {A : Type 0} (F : A → Type 0) (test : A → Bool) (read : List ℕ → Option (A × List ℕ)) → Gets F read → Gets (λ (x : A). F x × (test x ≡ true)) (if_at test read)
gets_if F test read given bytes z e =
    let a = bind_some (read bytes) (λ x. cond (test x.0) (Some x) None) z e in
    let t = guard_some (test a.0.0) a.0 z a.2 in
    subst (λ (y : _ × List ℕ). F y.0 × (test y.0 ≡ true)) t.1 (given bytes a.0 a.1, t.0)

pub gets_as : {A B : Type 0} (F : A → Type 0) (G : B → Type 0) (to : A → B) (read : List ℕ → Option (A × List ℕ)) → ((x : A) → F x → G (to x)) → Gets F read → Gets G (as_at to read)
gets_as {B = B} F G to read fit given bytes z e =
    let a = bind_some (read bytes) (λ x. Some (to x.0, x.1)) z e in
    let made : B × List ℕ = (to a.0.0, a.0.1) in
    subst (λ (y : B × List ℕ). G y.0) (some_is made z a.2) (fit a.0.0 (given bytes a.0 a.1))

pub gets_then : {A B : Type 0} (F : A → Type 0) (G : A → B → Type 0) (first : List ℕ → Option (A × List ℕ)) (second : A → List ℕ → Option (B × List ℕ))
    → Gets F first → ((x : A) → F x → Gets (G x) (second x)) → Gets (λ (p : A × B). F p.0 × G p.0 p.1) (then_at first second)
gets_then {A = A} {B = B} F G first second given after bytes z e =
    let a = bind_some (first bytes) (λ x. second x.0 x.1 >>= λ y. Some ((x.0, y.0), y.1)) z e in
    let b = bind_some (second a.0.0 a.0.1) (λ y. Some ((a.0.0, y.0), y.1)) z a.2 in
    let made : (A × B) × List ℕ = ((a.0.0, b.0.0), b.0.1) in
    let one = given bytes a.0 a.1 in
    subst (λ (y : (A × B) × List ℕ). F y.0.0 × G y.0.0 y.0.1) (some_is made z b.2) (one, after a.0.0 one a.0.1 b.0 b.1)

gets_items : {A : Type 0} (F : A → Type 0) (read : List ℕ → Option (A × List ℕ)) → Gets F read → (n : ℕ) → Gets (λ (xs : List A). (length xs ≡ n) × AllByRecursion F xs) (items_at read n)
unfolding items_at
gets_items {A = A} F read given zero bytes z e = subst (λ (y : List A × List ℕ). (length y.0 ≡ 0) × AllByRecursion F y.0) (some_is ([], bytes) z e) (refl, tt)
gets_items {A = A} F read given (suc n) bytes z e =
    let a = bind_some (read bytes) (λ x. items_at read n x.1 >>= λ xs. Some (x.0 ∷ xs.0, xs.1)) z e in
    let b = bind_some (items_at read n a.0.1) (λ xs. Some (a.0.0 ∷ xs.0, xs.1)) z a.2 in
    let more = gets_items F read given n a.0.1 b.0 b.1 in
    let made : List A × List ℕ = (a.0.0 ∷ b.0.0, b.0.1) in
    subst (λ (y : List A × List ℕ). (length y.0 ≡ suc n) × AllByRecursion F y.0) (some_is made z b.2) (ap suc more.0, (given bytes a.0 a.1, more.1))

pub gets_each : {C A : Type 0} (F : C → A → Type 0) (read : C → List ℕ → Option (A × List ℕ)) → ((c : C) → Gets (F c) (read c)) → (cs : List C) → Gets (λ (xs : List A). EachFits F cs xs) (each_at read cs)
unfolding each_at
gets_each {A = A} F read given [] bytes z e = subst (λ (y : List A × List ℕ). EachFits F [] y.0) (some_is ([], bytes) z e) tt
gets_each {A = A} F read given (c ∷ cs) bytes z e =
    let a = bind_some (read c bytes) (λ x. each_at read cs x.1 >>= λ xs. Some (x.0 ∷ xs.0, xs.1)) z e in
    let b = bind_some (each_at read cs a.0.1) (λ xs. Some (a.0.0 ∷ xs.0, xs.1)) z a.2 in
    let made : List A × List ℕ = (a.0.0 ∷ b.0.0, b.0.1) in
    subst (λ (y : List A × List ℕ). EachFits F (c ∷ cs) y.0) (some_is made z b.2) (given c bytes a.0 a.1, gets_each F read given cs a.0.1 b.0 b.1)

pub gets_list : {A : Type 0} (F : A → Type 0) (limit : ℕ) (read : List ℕ → Option (A × List ℕ)) → Gets F read → Gets (λ (xs : List A). (length xs ≤ limit) × AllByRecursion F xs) (list_at limit read)
gets_list {A = A} F limit read given =
    gets_as (λ (p : ℕ × List A). (Unit {0} × (nat_le p.0 limit ≡ true)) × ((length p.1 ≡ p.0) × AllByRecursion F p.1)) (λ (xs : List A). (length xs ≤ limit) × AllByRecursion F xs) (λ p. p.1) _
    (λ p h. (subst (λ (n : ℕ). n ≤ limit) (sym h.1.0) (not_over limit p.0 h.0.1), h.1.1))
    (gets_then (λ (n : ℕ). Unit {0} × (nat_le n limit ≡ true)) (λ n (xs : List A). (length xs ≡ n) × AllByRecursion F xs) _ (λ n. items_at read n)
    (gets_if (λ (n : ℕ). Unit {0}) (λ n. nat_le n limit) (number_at w32) (gets_any (number_at w32)))
    (λ n h. gets_items F read given n))
