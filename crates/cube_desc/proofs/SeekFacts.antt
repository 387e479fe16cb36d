-- What is found in a list by a test, and lists of failing places that are empty.
use Rattle.std.proofs.Common.{◌≡◌, ◌<◌, ◌+◌, ◌⊎◌, inl, inr, ℕ, suc, List, [], ◌∷◌, ◌++◌, length, map, Some, None, Bool, true, false, cond, refl, sym, ap, subst, ◌∙◌, arith}
use Rattle.std.specs.Prelude.{◌||◌, not, nat_lt, unwrap_or, slice_get, bytes_eq}
use Rattle.std.specs.List.{AllByRecursion, flat_map, find, list_any, position, position_or_len}
use Rattle.std.proofs.lemmas.Bool.{ltb-false}
use Rattle.std.proofs.lemmas.Option.{slice_get_within}
use Rattle.std.proofs.lemmas.Slice.Eq.{bytes_eq-Decides}
use Rattle.desc_checks.specs.Firsts.{first}
use Rattle.cube_desc.proofs.Passed.{none_both}

pub none_all : {A X : Type 0} (f : X → List A) (xs : List X) → first (flat_map f xs) ≡ None → AllByRecursion (λ x. first (f x) ≡ None) xs
none_all f [] e = tt
none_all f (x ∷ xs) e = let b = none_both (f x) (flat_map f xs) e in (b.0, none_all f xs b.1)

pub of_three : {A : Type 0} (a b c : List A) → first (a ++ b ++ c) ≡ None → (first a ≡ None) × (first b ≡ None) × (first c ≡ None)
of_three a b c e = let s = none_both (a ++ b) c e in let t = none_both a b s.0 in (t.0, t.1, s.1)

pub of_five : {A : Type 0} (a b c d x : List A) → first (a ++ b ++ c ++ d ++ x) ≡ None
    → (first a ≡ None) × (first b ≡ None) × (first c ≡ None) × (first d ≡ None) × (first x ≡ None)
of_five a b c d x e =
    let s = none_both (a ++ b ++ c ++ d) x e in
    let t = none_both (a ++ b ++ c) d s.0 in
    let u = of_three a b c t.0 in
    (u.0, u.1, u.2, t.1, s.1)

-- ---- tests

pub either : (b c : Bool) → (b || c) ≡ true → (b ≡ true) ⊎ (c ≡ true)
either true c e = inl refl
either false c e = inr e

pub not_true : (b : Bool) → not b ≡ true → b ≡ false
not_true true e = sym e
not_true false e = refl

pub same_text : (xs ys : List ℕ) → bytes_eq xs ys ≡ true → xs ≡ ys
same_text xs ys e = (bytes_eq-Decides xs ys).0 e

pub is_itself : (xs : List ℕ) → bytes_eq xs xs ≡ true
is_itself xs = (bytes_eq-Decides xs xs).1 refl

turned : (b : Bool) (xs ys : List ℕ) → b ≡ bytes_eq ys xs → bytes_eq xs ys ≡ false → b ≡ false
turned true xs ys same e =
    let back : bytes_eq xs ys ≡ true = (bytes_eq-Decides xs ys).1 (sym (same_text ys xs (sym same))) in
    cc (e, back)
turned false xs ys same e = refl

pub other_text : (xs ys : List ℕ) → bytes_eq xs ys ≡ false → bytes_eq ys xs ≡ false
other_text xs ys e = turned (bytes_eq ys xs) xs ys refl e

-- ---- what is found

one_plus : (n : ℕ) → 1 + n ≡ suc n
one_plus n = omega arith

-- the first item that passes, and its place
abbrev pub Found : {X : Type 0} → (X → Bool) → List X → ℕ → Type 0
Found {X} p xs place = (x : X) × (find p xs ≡ Some x) × (slice_get xs place ≡ Some x) × (p x ≡ true)

at_head : {X : Type 0} (p : X → Bool) (b : Bool) (x : X) (xs : List X) → p x ≡ b → (list_any p xs ≡ true → Found p xs (position_or_len p xs)) → (b || list_any p xs) ≡ true
    → (y : X) × (cond b (Some x) (find p xs) ≡ Some y) × (slice_get (x ∷ xs) (cond (not b) (1 + position_or_len p xs) 0) ≡ Some y) × (p y ≡ true)
at_head p true x xs same rest e = (x, refl, refl, same)
at_head p false x xs same rest e = let r = rest e in (r.0, r.1, rw (one_plus (position_or_len p xs)) r.2, r.3)

found_first : {X : Type 0} (p : X → Bool) (xs : List X) → list_any p xs ≡ true → Found p xs (position_or_len p xs)
found_first p [] e = cc e
found_first p (x ∷ xs) e = at_head p (p x) x xs refl (found_first p xs) e

placed : (b : Bool) (m n : ℕ) → nat_lt m n ≡ b → m < n → unwrap_or (cond b (Some m) None) 0 ≡ m
placed true m n e h = refl
placed false m n e h = absurd (omega (arith, ltb-false m n e))

-- what `position` gives of a list with an item that passes
pub found : {X : Type 0} (p : X → Bool) (xs : List X) → list_any p xs ≡ true → Found p xs (unwrap_or (position p xs) 0)
found {X = X} p xs e =
    let s = found_first p xs e in
    let h = slice_get_within xs (position_or_len p xs) s.0 s.2 in
    let at : unwrap_or (position p xs) 0 ≡ position_or_len p xs = placed (nat_lt (position_or_len p xs) (length xs)) (position_or_len p xs) (length xs) refl h in
    subst (λ (n : ℕ). Found {X = X} p xs n) (sym at) s

-- ---- lists

pub all_append : {X : Type 0} (P : X → Type 0) (xs ys : List X) → AllByRecursion P xs → AllByRecursion P ys → AllByRecursion P (xs ++ ys)
all_append P [] ys a b = b
all_append P (x ∷ xs) ys a b = (a.0, all_append P xs ys a.1 b)

pub all_flat_map : {X Y : Type 0} (P : Y → Type 0) (f : X → List Y) (xs : List X) → AllByRecursion (λ x. AllByRecursion P (f x)) xs → AllByRecursion P (flat_map f xs)
all_flat_map P f [] a = tt
all_flat_map P f (x ∷ xs) a = all_append P (f x) (flat_map f xs) a.0 (all_flat_map P f xs a.1)

pub all_map : {X Y : Type 0} (P : Y → Type 0) (f : X → Y) (xs : List X) → AllByRecursion (λ x. P (f x)) xs → AllByRecursion P (map f xs)
all_map P f [] a = tt
all_map P f (x ∷ xs) a = (a.0, all_map P f xs a.1)

pub all_both : {X : Type 0} (P Q R : X → Type 0) → ((x : X) → P x → Q x → R x) → (xs : List X) → AllByRecursion P xs → AllByRecursion Q xs → AllByRecursion R xs
all_both P Q R h [] a b = tt
all_both P Q R h (x ∷ xs) a b = (h x a.0 b.0, all_both P Q R h xs a.1 b.1)

pub map-append : {X Y : Type 0} (f : X → Y) (xs ys : List X) → map f (xs ++ ys) ≡ map f xs ++ map f ys
map-append f [] ys = refl
map-append f (x ∷ xs) ys = ap (λ zs. f x ∷ zs) (map-append f xs ys)

pub flat_map-inside : {X Y Z : Type 0} (g : Y → Z) (f : X → List Y) (xs : List X) → flat_map (λ x. map g (f x)) xs ≡ map g (flat_map f xs)
flat_map-inside g f [] = refl
flat_map-inside g f (x ∷ xs) = ap (λ zs. map g (f x) ++ zs) (flat_map-inside g f xs) ∙ sym (map-append g (f x) (flat_map f xs))
