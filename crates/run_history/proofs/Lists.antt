-- Lists under tests: what is kept, what is found, and what holds of each element.
use Rattle.std.proofs.Common.{◌≡◌, ℕ, ◌+◌, ◌≤◌, ◌⊎◌, Bool, true, false, cond, not, ◌||◌, Option, Some, None, List, [], ◌∷◌, ◌++◌, length, refl, sym, ap, ◌∙◌, inl, inr, arith, All, zero, suc}
use Rattle.std.specs.Prelude.{find, filter, option_map, ⊤}
use Rattle.std.specs.List.{list_any}

-- P holds of each element, by recursion
abbrev pub Every : {X : Type 0} → (X → Type 0) → List X → Type 0
Every P [] = ⊤
Every P (x ∷ xs) = P x × Every P xs

-- ---- truth values

pub cond_at_true : {A : Type 0} (b : Bool) (x y : A) → b ≡ true → cond b x y ≡ x
cond_at_true b x y e = ap (λ (t : Bool). cond t x y) e

pub cond_at_false : {A : Type 0} (b : Bool) (x y : A) → b ≡ false → cond b x y ≡ y
cond_at_false b x y e = ap (λ (t : Bool). cond t x y) e

pub or_false_left : (b c : Bool) → b ≡ false → b || c ≡ true → c ≡ true
or_false_left true c e h = cc
or_false_left false c e h = h

pub or_split : (b c : Bool) → b || c ≡ true → (b ≡ true) ⊎ (c ≡ true)
or_split true c h = inl refl
or_split false c h = inr h

pub or_none : (b c : Bool) → b || c ≡ false → (b ≡ false) × (c ≡ false)
or_none true c h = cc
or_none false c h = (refl, h)

pub or_right_true : (b c : Bool) → c ≡ true → b || c ≡ true
or_right_true true c h = refl
or_right_true false c h = h

pub both_false : (b c : Bool) → b ≡ false → c ≡ false → b || c ≡ false
both_false b c p q = rw (p, q) refl

pub not_true : (b : Bool) → not b ≡ true → b ≡ false
not_true true h = cc
not_true false h = refl

pub not_false : (b : Bool) → not b ≡ false → b ≡ true
not_false true h = refl
not_false false h = cc

pub false_or : (b : Bool) → (b ≡ true → ⊥) → b ≡ false
false_or true h = absurd (h refl)
false_or false h = refl

-- ---- each element

pub every_map : {X : Type 0} (P Q : X → Type 0) (xs : List X) → ((x : X) → P x → Q x) → Every P xs → Every Q xs
every_map P Q [] f h = tt
every_map P Q (x ∷ xs) f h = (f x h.0, every_map P Q xs f h.1)

pub every_zip : {X : Type 0} (P Q R : X → Type 0) (xs : List X) → ((x : X) → P x → Q x → R x) → Every P xs → Every Q xs → Every R xs
every_zip P Q R [] f h k = tt
every_zip P Q R (x ∷ xs) f h k = (f x h.0 k.0, every_zip P Q R xs f h.1 k.1)

every_cond : {X : Type 0} (P : X → Type 0) (b : Bool) (x : X) (l : List X) → (b ≡ true → P x) → Every P l → Every P (cond b (x ∷ l) l)
every_cond P true x l h r = (h refl, r)
every_cond P false x l h r = r

pub every_filter : {X : Type 0} (P : X → Type 0) (test : X → Bool) (xs : List X) → Every P xs → Every (λ x. P x × (test x ≡ true)) (filter test xs)
every_filter P test [] h = tt
every_filter P test (x ∷ xs) h = every_cond (λ y. P y × (test y ≡ true)) (test x) x (filter test xs) (λ e. (h.0, e)) (every_filter P test xs h.1)

pub every_append : {X : Type 0} (P : X → Type 0) (xs ys : List X) → Every P xs → Every P ys → Every P (xs ++ ys)
every_append P [] ys h k = k
every_append P (x ∷ xs) ys h k = (h.0, every_append P xs ys h.1 k)

-- the two forms of "each element"
pub to_all : {X : Type 0} (P : X → Type 0) (xs : List X) → Every P xs → All P xs
to_all P [] h k d lt = absurd (omega arith)
to_all P (x ∷ xs) h zero d lt = h.0
to_all P (x ∷ xs) h (suc k) d lt = to_all P xs h.1 k d (omega arith)

pub from_all : {X : Type 0} (P : X → Type 0) (xs : List X) → All P xs → Every P xs
from_all P [] h = tt
from_all P (x ∷ xs) h = (h 0 x (omega arith), from_all P xs (λ k d lt. h (suc k) d (omega arith)))

-- ---- what is kept

pub filter_all : {X : Type 0} (test : X → Bool) (xs : List X) → Every (λ x. test x ≡ true) xs → filter test xs ≡ xs
filter_all test [] h = refl
filter_all test (x ∷ xs) h = cond_at_true (test x) _ _ h.0 ∙ ap (λ l. x ∷ l) (filter_all test xs h.1)

pub filter_none : {X : Type 0} (test : X → Bool) (xs : List X) → Every (λ x. test x ≡ false) xs → filter test xs ≡ []
filter_none test [] h = refl
filter_none test (x ∷ xs) h = cond_at_false (test x) _ _ h.0 ∙ filter_none test xs h.1

pub filter_agree : {X : Type 0} (test other : X → Bool) (xs : List X) → Every (λ x. test x ≡ other x) xs → filter test xs ≡ filter other xs
filter_agree test other [] h = refl
filter_agree test other (x ∷ xs) h = ap (λ b. cond b (x ∷ filter test xs) (filter test xs)) h.0 ∙ ap (λ l. cond (other x) (x ∷ l) l) (filter_agree test other xs h.1)

twice_cond : {X : Type 0} (test : X → Bool) (t b : Bool) (x : X) (l m : List X) → t ≡ test x → (t ≡ true → b ≡ true) → filter test l ≡ m → filter test (cond b (x ∷ l) l) ≡ cond t (x ∷ m) m
twice_cond test true true x l m e h r = cond_at_true (test x) _ _ (sym e) ∙ ap (λ k. x ∷ k) r
twice_cond test true false x l m e h r = let never : false ≡ true = h refl in cc
twice_cond test false true x l m e h r = cond_at_false (test x) _ _ (sym e) ∙ r
twice_cond test false false x l m e h r = r

-- a filter that keeps what the test passes
pub filter_twice : {X : Type 0} (test keep : X → Bool) (xs : List X) → Every (λ x. test x ≡ true → keep x ≡ true) xs → filter test (filter keep xs) ≡ filter test xs
filter_twice test keep [] h = refl
filter_twice test keep (x ∷ xs) h = twice_cond test (test x) (keep x) x (filter keep xs) (filter test xs) refl h.0 (filter_twice test keep xs h.1)

length_cond : {X : Type 0} (b : Bool) (x : X) (l : List X) (n : ℕ) → length l ≤ n → length (cond b (x ∷ l) l) ≤ n + 1
length_cond true x l n h = omega arith
length_cond false x l n h = omega arith

pub length_filter_le : {X : Type 0} (test : X → Bool) (xs : List X) → length (filter test xs) ≤ length xs
length_filter_le test [] = omega arith
length_filter_le test (x ∷ xs) = omega (arith, length_cond (test x) x (filter test xs) (length xs) (length_filter_le test xs))

-- ---- what is found

pub any_false : {X : Type 0} (p : X → Bool) (xs : List X) → list_any p xs ≡ false → Every (λ x. p x ≡ false) xs
any_false p [] h = tt
any_false p (x ∷ xs) h = let parts = or_none (p x) (list_any p xs) h in (parts.0, any_false p xs parts.1)

pub any_none : {X : Type 0} (p : X → Bool) (xs : List X) → Every (λ x. p x ≡ false) xs → list_any p xs ≡ false
any_none p [] h = refl
any_none p (x ∷ xs) h = both_false (p x) (list_any p xs) h.0 (any_none p xs h.1)

pub any_some : {X : Type 0} (P : X → Type 0) (p : X → Bool) (xs : List X) → Every P xs → list_any p xs ≡ true → (x : X) × (P x × (p x ≡ true))
any_some P p [] h e = cc
any_some P p (x ∷ xs) h e =
    elim (or_split (p x) (list_any p xs) e) [
      | inl here ↦ (x, (h.0, here))
      | inr later ↦ any_some P p xs h.1 later
    ]

-- each element that p finds is found by q
pub any_more : {X : Type 0} (p q : X → Bool) (xs : List X) → Every (λ x. p x ≡ true → q x ≡ true) xs → list_any p xs ≡ true → list_any q xs ≡ true
any_more p q [] h e = e
any_more p q (x ∷ xs) h e =
    elim (or_split (p x) (list_any p xs) e) [
      | inl here ↦ ap (λ b. b || list_any q xs) (h.0 here)
      | inr later ↦ or_right_true (q x) (list_any q xs) (any_more p q xs h.1 later)
    ]

any_cond : {X : Type 0} (p : X → Bool) (b : Bool) (x : X) (l : List X) → (p x ≡ true → b ≡ true) → p x || list_any p l ≡ true → list_any p (cond b (x ∷ l) l) ≡ true
any_cond p true x l h e = e
any_cond p false x l h e = or_false_left (p x) (list_any p l) (false_or (p x) (λ t. let never : false ≡ true = h t in cc)) e

-- and still found where a filter keeps it
pub any_kept : {X : Type 0} (p keep : X → Bool) (xs : List X) → Every (λ x. p x ≡ true → keep x ≡ true) xs → list_any p xs ≡ true → list_any p (filter keep xs) ≡ true
any_kept p keep [] h e = e
any_kept p keep (x ∷ xs) h e =
    any_cond p (keep x) x (filter keep xs) h.0 (elim (or_split (p x) (list_any p xs) e) [
      | inl here ↦ ap (λ b. b || list_any p (filter keep xs)) here
      | inr later ↦ or_right_true (p x) (list_any p (filter keep xs)) (any_kept p keep xs h.1 later)
    ])

pub any_of_filter : {X : Type 0} (p test : X → Bool) (xs : List X) → list_any p xs ≡ false → list_any p (filter test xs) ≡ false
any_of_filter p test xs h = any_none p (filter test xs) (every_map (λ x. (p x ≡ false) × (test x ≡ true)) (λ x. p x ≡ false) (filter test xs) (λ x k. k.0) (every_filter (λ x. p x ≡ false) test xs (any_false p xs h)))

pub any_append : {X : Type 0} (p : X → Bool) (xs ys : List X) → list_any p (xs ++ ys) ≡ (list_any p xs || list_any p ys)
any_append p [] ys = refl
any_append p (x ∷ xs) ys = ap (λ b. p x || b) (any_append p xs ys) ∙ or_join (p x) (list_any p xs) (list_any p ys)
  where
    or_join : (a b c : Bool) → a || (b || c) ≡ (a || b) || c
    or_join true b c = refl
    or_join false b c = refl

find_cond : {X : Type 0} (b : Bool) (x : X) (o : Option X) → cond b (Some x) o ≡ None → (b ≡ false) × (o ≡ None)
find_cond true x o h = cc
find_cond false x o h = (refl, h)

pub find_none : {X : Type 0} (p : X → Bool) (xs : List X) → find p xs ≡ None → Every (λ x. p x ≡ false) xs
find_none p [] h = tt
find_none p (x ∷ xs) h = let parts = find_cond (p x) x (find p xs) h in (parts.0, find_none p xs parts.1)

pub map_none : {X Y : Type 0} (f : X → Y) (o : Option X) → option_map f o ≡ None → o ≡ None
map_none f None h = refl
map_none f (Some x) h = cc
