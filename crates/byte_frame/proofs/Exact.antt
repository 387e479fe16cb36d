-- What is read is spelled so, and what is spelled so is read: the laws, once for each way to put readers together.
use Rattle.std.proofs.Common.{eq-eqb, ◌≡◌, ℕ, zero, suc, ◌+◌, ◌^◌, ◌<◌, ◌≤◌, Bool, true, false, cond, ltb, eqb, List, [], ◌∷◌, ◌++◌, length, take, drop, Option, Some, None, refl, sym, ap, subst, ◌∙◌, append_assoc, arith, inl, inr}
use Rattle.std.specs.Prelude.{nat_le}
use Rattle.std.proofs.lemmas.Bool.Decides.{nat_tests}
use Rattle.std.specs.List.{flat_map, AllByRecursion}
use Rattle.byte_frame.specs.Spelling.{EachFits}
use Rattle.byte_frame.specs.Exact.{IsBytes, Takes, Exact, AreCases}
use Rattle.std.specs.Int.{Width, w16, w32, w64, byte_len, from_be_bytes, to_be_bytes}
use Rattle.std.proofs.lemmas.Bool.{cases_lt, ltb-false, le-ltb, eqb-true}
use Rattle.std.proofs.lemmas.List.{take_at, drop_at, take-append-drop, length-append, length-take, get_or-drop, get_or-take, get_or_past, append-nil, nil_from_length}
use Rattle.std.proofs.lemmas.List.Concat.{flat_map-cons}
use Rattle.std.proofs.lemmas.Nat.{be_bytes_2, from_be_bytes-to_be_bytes_2, be_bytes_4, be_bytes_8, from_be_bytes-to_be_bytes_4, from_be_bytes-to_be_bytes_8}
use Rattle.byte_frame.specs.Reading.{case_at, no_case, ◌>>=◌, then_at, as_at, if_at, items_at, each_at, all_of, number_at, bytes_at, byte_at, list_at, sized_at, tagged_at, counted_at}

pub IsBytes-drop : (n : ℕ) (bytes : List ℕ) → IsBytes bytes → IsBytes (drop n bytes)
IsBytes-drop n bytes h i = rw get_or-drop (h (n + i))

pub IsBytes-take : (n : ℕ) (bytes : List ℕ) → IsBytes bytes → IsBytes (take n bytes)
IsBytes-take n bytes h i =
    elim (cases_lt i n) [
      | inl lt ↦ rw (get_or-take n bytes i 0 lt) (h i)
      | inr le ↦ rw (get_or_past (take n bytes) i 0 (omega (arith, length-take n bytes))) (omega arith)
    ]

abbrev some : {A : Type 0} → A → Option A
some x = Some x

pub some_is : {A : Type 0} (x y : A) → some x ≡ some y → x ≡ y
some_is x y e = cc

-- the value of a step that did not fail
pub bind_some : {A B : Type 0} (r : Option A) (f : A → Option B) (y : B) → (r >>= f) ≡ Some y → (x : A) × (r ≡ Some x) × (f x ≡ Some y)
bind_some (Some x) f y e = (x, refl, e)
bind_some None f y e = absurd cc

-- a test that did not fail
pub guard_some : {A : Type 0} (b : Bool) (x y : A) → cond b (Some x) None ≡ Some y → (b ≡ true) × (x ≡ y)
guard_some true x y e = (refl, cc)
guard_some false x y e = absurd cc

pub guard_not : {A : Type 0} (b : Bool) (x y : A) → cond b None (Some x) ≡ Some y → (b ≡ false) × (x ≡ y)
guard_not true x y e = absurd cc
guard_not false x y e = (refl, cc)

pub Takes-then : (a x b y c : List ℕ) → Takes a x b → Takes b y c → Takes a (x ++ y) c
Takes-then a x b y c p q = record { parts = p.parts ∙ ap (λ (t : List ℕ). x ++ t) q.parts ∙ sym (append_assoc x y c); rest_fits = q.rest_fits }

-- ---- one after the other

pub exact_then : {A B : Type 0} (s : A → List ℕ) (F : A → Type 0) (r : List ℕ → Option (A × List ℕ)) (t : A → B → List ℕ) (G : A → B → Type 0) (q : A → List ℕ → Option (B × List ℕ))
    → Exact s F r → ((x : A) → F x → Exact (t x) (G x) (q x))
    → Exact (λ (p : A × B). s p.0 ++ t p.0 p.1) (λ (p : A × B). F p.0 × G p.0 p.1) (then_at r q)
exact_then {A = A} {B = B} s F r t G q first second = record {
  takes = λ bytes z fits e.
      let a = bind_some (r bytes) (λ x. q x.0 x.1 >>= λ y. Some ((x.0, y.0), y.1)) z e in
      let b = bind_some (q a.0.0 a.0.1) (λ y. Some ((a.0.0, y.0), y.1)) z a.2 in
      let l = first.takes bytes a.0 fits a.1 in
      let m = (second a.0.0 l.1).takes a.0.1 b.0 l.0.rest_fits b.1 in
      let made : (A × B) × List ℕ = ((a.0.0, b.0.0), b.0.1) in
      subst (λ (y : (A × B) × List ℕ). Takes bytes (s y.0.0 ++ t y.0.0 y.0.1) y.1 × (F y.0.0 × G y.0.0 y.0.1)) (some_is made z b.2)
      (Takes-then bytes (s a.0.0) a.0.1 (t a.0.0 b.0.0) b.0.1 l.0 m.0, (l.1, m.1));
  again = λ p rest h.
      ap (then_at r q) (append_assoc (s p.0) (t p.0 p.1) rest) ∙ rw (first.again p.0 (t p.0 p.1 ++ rest) h.0, (second p.0 h.0).again p.1 rest h.1) refl;
}

-- ---- as another value

pub exact_as : {A B : Type 0} (to : A → B) (back : B → A) (s : A → List ℕ) (F : A → Type 0) (G : B → Type 0) (r : List ℕ → Option (A × List ℕ))
    → ((x : A) → F x → (back (to x) ≡ x) × G (to x)) → ((y : B) → G y → (to (back y) ≡ y) × F (back y)) → Exact s F r
    → Exact (λ (y : B). s (back y)) G (as_at to r)
exact_as {A = A} {B = B} to back s F G r one two read = record {
  takes = λ bytes z fits e.
      let a = bind_some (r bytes) (λ x. Some (to x.0, x.1)) z e in
      let l = read.takes bytes a.0 fits a.1 in
      let same = one a.0.0 l.1 in
      let made : B × List ℕ = (to a.0.0, a.0.1) in
      subst (λ (y : B × List ℕ). Takes bytes (s (back y.0)) y.1 × G y.0) (some_is made z a.2)
      (subst (λ (x : A). Takes bytes (s x) a.0.1) (sym same.0) l.0, same.1);
  again = λ y rest h. rw (read.again (back y) rest (two y h).1) (ap (λ (v : B). Some (v, rest)) (two y h).0);
}

-- ---- where a test passes

pub exact_if : {A : Type 0} (test : A → Bool) (s : A → List ℕ) (F : A → Type 0) (r : List ℕ → Option (A × List ℕ))
    → Exact s F r → Exact s (λ (x : A). F x × (test x ≡ true)) (if_at test r)
exact_if {A = A} test s F r read = record {
  takes = λ bytes z fits e.
      let a = bind_some (r bytes) (λ x. cond (test x.0) (Some x) None) z e in
      let g = guard_some (test a.0.0) a.0 z a.2 in
      let l = read.takes bytes a.0 fits a.1 in
      subst (λ (y : A × List ℕ). Takes bytes (s y.0) y.1 × (F y.0 × (test y.0 ≡ true))) g.1 (l.0, (l.1, g.0));
  again = λ x rest h. rw (read.again x rest h.0, h.1) refl;
}

-- ---- so many items

items_take : {A : Type 0} (s : A → List ℕ) (F : A → Type 0) (r : List ℕ → Option (A × List ℕ)) → Exact s F r → (n : ℕ) (bytes : List ℕ) (z : List A × List ℕ) → IsBytes bytes → items_at r n bytes ≡ Some z
    → Takes bytes (flat_map s z.0) z.1 × ((length z.0 ≡ n) × AllByRecursion F z.0)
unfolding items_at
items_take {A = A} s F r read zero bytes z fits e = subst (λ (y : List A × List ℕ). Takes bytes (flat_map s y.0) y.1 × ((length y.0 ≡ 0) × AllByRecursion F y.0)) (some_is ([], bytes) z e) (record { parts = refl; rest_fits = fits }, (refl, tt))
items_take {A = A} s F r read (suc n) bytes z fits e =
    let a = bind_some (r bytes) (λ x. items_at r n x.1 >>= λ xs. Some (x.0 ∷ xs.0, xs.1)) z e in
    let b = bind_some (items_at r n a.0.1) (λ xs. Some (a.0.0 ∷ xs.0, xs.1)) z a.2 in
    let l = read.takes bytes a.0 fits a.1 in
    let m = items_take s F r read n a.0.1 b.0 l.0.rest_fits b.1 in
    let made : List A × List ℕ = (a.0.0 ∷ b.0.0, b.0.1) in
    let both = Takes-then bytes (s a.0.0) a.0.1 (flat_map s b.0.0) b.0.1 l.0 m.0 in
    subst (λ (y : List A × List ℕ). Takes bytes (flat_map s y.0) y.1 × ((length y.0 ≡ suc n) × AllByRecursion F y.0)) (some_is made z b.2) (rw flat_map-cons both, (ap suc m.1.0, (l.1, m.1.1)))

items_again : {A : Type 0} (s : A → List ℕ) (F : A → Type 0) (r : List ℕ → Option (A × List ℕ)) → Exact s F r → (xs : List A) (rest : List ℕ) → AllByRecursion F xs → items_at r (length xs) (flat_map s xs ++ rest) ≡ Some (xs, rest)
unfolding items_at
items_again s F r read [] rest h = refl
items_again s F r read (x ∷ xs) rest h =
    let regrouped : flat_map s (x ∷ xs) ++ rest ≡ s x ++ (flat_map s xs ++ rest) = ap (λ (t : List ℕ). t ++ rest) (flat_map-cons s x xs) ∙ append_assoc (s x) (flat_map s xs) rest in
    ap (items_at r (suc (length xs))) regrouped ∙ rw (read.again x (flat_map s xs ++ rest) h.0, items_again s F r read xs rest h.1) refl

pub exact_items : {A : Type 0} (s : A → List ℕ) (F : A → Type 0) (r : List ℕ → Option (A × List ℕ)) → Exact s F r → (n : ℕ)
    → Exact (λ (xs : List A). flat_map s xs) (λ (xs : List A). (length xs ≡ n) × AllByRecursion F xs) (items_at r n)
exact_items {A = A} s F r read n = record {
  takes = λ bytes z fits e. items_take s F r read n bytes z fits e;
  again = λ xs rest h. subst (λ (k : ℕ). items_at r k (flat_map s xs ++ rest) ≡ Some (xs, rest)) h.0 (items_again s F r read xs rest h.1);
}

-- ---- one item for each context

each_take : {C A : Type 0} (s : A → List ℕ) (F : C → A → Type 0) (r : C → List ℕ → Option (A × List ℕ)) → (cs : List C) → AllByRecursion (λ (c : C). Exact s (F c) (r c)) cs → (bytes : List ℕ) (z : List A × List ℕ) → IsBytes bytes → each_at r cs bytes ≡ Some z
    → Takes bytes (flat_map s z.0) z.1 × EachFits F cs z.0
unfolding each_at
each_take {A = A} s F r [] read bytes z fits e = subst (λ (y : List A × List ℕ). Takes bytes (flat_map s y.0) y.1 × EachFits F [] y.0) (some_is ([], bytes) z e) (record { parts = refl; rest_fits = fits }, tt)
each_take {A = A} s F r (c ∷ cs) read bytes z fits e =
    let a = bind_some (r c bytes) (λ x. each_at r cs x.1 >>= λ xs. Some (x.0 ∷ xs.0, xs.1)) z e in
    let b = bind_some (each_at r cs a.0.1) (λ xs. Some (a.0.0 ∷ xs.0, xs.1)) z a.2 in
    let l = read.0.takes bytes a.0 fits a.1 in
    let m = each_take s F r cs read.1 a.0.1 b.0 l.0.rest_fits b.1 in
    let made : List A × List ℕ = (a.0.0 ∷ b.0.0, b.0.1) in
    let both = Takes-then bytes (s a.0.0) a.0.1 (flat_map s b.0.0) b.0.1 l.0 m.0 in
    subst (λ (y : List A × List ℕ). Takes bytes (flat_map s y.0) y.1 × EachFits F (c ∷ cs) y.0) (some_is made z b.2) (rw flat_map-cons both, (l.1, m.1))

each_again : {C A : Type 0} (s : A → List ℕ) (F : C → A → Type 0) (r : C → List ℕ → Option (A × List ℕ)) → (cs : List C) → AllByRecursion (λ (c : C). Exact s (F c) (r c)) cs → (xs : List A) (rest : List ℕ) → EachFits F cs xs → each_at r cs (flat_map s xs ++ rest) ≡ Some (xs, rest)
unfolding each_at
each_again s F r [] read [] rest h = refl
each_again s F r [] read (x ∷ xs) rest h = absurd h
each_again s F r (c ∷ cs) read [] rest h = absurd h
each_again s F r (c ∷ cs) read (x ∷ xs) rest h =
    let regrouped : flat_map s (x ∷ xs) ++ rest ≡ s x ++ (flat_map s xs ++ rest) = ap (λ (t : List ℕ). t ++ rest) (flat_map-cons s x xs) ∙ append_assoc (s x) (flat_map s xs) rest in
    ap (each_at r (c ∷ cs)) regrouped ∙ rw (read.0.again x (flat_map s xs ++ rest) h.0, each_again s F r cs read.1 xs rest h.1) refl

pub each_exact : {C A : Type 0} (s : A → List ℕ) (F : C → A → Type 0) (r : C → List ℕ → Option (A × List ℕ)) → ((c : C) → Exact s (F c) (r c)) → (cs : List C) → AllByRecursion (λ (c : C). Exact s (F c) (r c)) cs
each_exact s F r read [] = tt
each_exact s F r read (c ∷ cs) = (read c, each_exact s F r read cs)

-- where each context's reader is exact
pub exact_each_of : {C A : Type 0} (s : A → List ℕ) (F : C → A → Type 0) (r : C → List ℕ → Option (A × List ℕ)) → (cs : List C) → AllByRecursion (λ (c : C). Exact s (F c) (r c)) cs
    → Exact (λ (xs : List A). flat_map s xs) (λ (xs : List A). EachFits F cs xs) (each_at r cs)
exact_each_of s F r cs read = record { takes = λ bytes z fits e. each_take s F r cs read bytes z fits e; again = λ xs rest h. each_again s F r cs read xs rest h }

pub exact_each : {C A : Type 0} (s : A → List ℕ) (F : C → A → Type 0) (r : C → List ℕ → Option (A × List ℕ)) → ((c : C) → Exact s (F c) (r c)) → (cs : List C)
    → Exact (λ (xs : List A). flat_map s xs) (λ (xs : List A). EachFits F cs xs) (each_at r cs)
exact_each s F r read cs = exact_each_of s F r cs (each_exact s F r read cs)

-- ---- numbers and bytes

pub record IsWide (w : Width) (limit : ℕ) : Type 0 where
  pub len : (n : ℕ) → length (to_be_bytes w n) ≡ byte_len w
  pub back : (bytes : List ℕ) → length bytes ≡ byte_len w → IsBytes bytes → to_be_bytes w (from_be_bytes w bytes) ≡ bytes
  pub again : (n : ℕ) → n < limit → from_be_bytes w (to_be_bytes w n) ≡ n
  pub below : (bytes : List ℕ) → IsBytes bytes → from_be_bytes w bytes < limit

pub wide16 : IsWide w16 (2 ^ 16)
wide16 = record {
  len = λ n. refl;
  back = λ bytes len fits. be_bytes_2 bytes _ len fits refl;
  again = λ n lt. from_be_bytes-to_be_bytes_2 n lt;
  below = λ bytes fits. omega (arith, fits 0, fits 1);
}

pub wide32 : IsWide w32 (2 ^ 32)
wide32 = record {
  len = λ n. refl;
  back = λ bytes len fits. be_bytes_4 bytes _ len fits refl;
  again = λ n lt. from_be_bytes-to_be_bytes_4 n lt;
  below = λ bytes fits. omega (arith, fits 0, fits 1, fits 2, fits 3);
}

pub wide64 : IsWide w64 (2 ^ 64)
wide64 = record {
  len = λ n. refl;
  back = λ bytes len fits. be_bytes_8 bytes _ len fits refl;
  again = λ n lt. from_be_bytes-to_be_bytes_8 n lt;
  below = λ bytes fits. omega (arith, fits 0, fits 1, fits 2, fits 3, fits 4, fits 5, fits 6, fits 7);
}

pub exact_bytes : (n : ℕ) → Exact (λ (t : List ℕ). t) (λ (t : List ℕ). length t ≡ n) (bytes_at n)
exact_bytes n = record {
  takes = λ bytes z fits e.
      let g = guard_not (ltb (length bytes) n) (take n bytes, drop n bytes) z e in
      let long : n ≤ length bytes = ltb-false _ _ g.0 in
      subst (λ (y : List ℕ × List ℕ). Takes bytes y.0 y.1 × (length y.0 ≡ n)) g.1
      (record { parts = sym (take-append-drop n bytes); rest_fits = IsBytes-drop n bytes fits }, omega (arith, length-take n bytes));
  again = λ t rest h.
      let long : ltb (length (t ++ rest)) n ≡ false = le-ltb _ _ (omega (arith, h, length-append t rest)) in
      rw (long, take_at t rest n h, drop_at t rest n h) refl;
}

-- a number is so many bytes, as a number
pub exact_number : (w : Width) (limit : ℕ) → IsWide w limit → Exact (λ (n : ℕ). to_be_bytes w n) (λ (n : ℕ). n < limit) (number_at w)
exact_number w limit wide = record {
  takes = λ bytes z fits e.
      let g = guard_not (ltb (length bytes) (byte_len w)) (from_be_bytes w (take (byte_len w) bytes), drop (byte_len w) bytes) z e in
      let long : byte_len w ≤ length bytes = ltb-false _ _ g.0 in
      let front = wide.back (take (byte_len w) bytes) (omega (arith, length-take (byte_len w) bytes)) (IsBytes-take (byte_len w) bytes fits) in
      subst (λ (y : ℕ × List ℕ). Takes bytes (to_be_bytes w y.0) y.1 × (y.0 < limit)) g.1
      (record { parts = rw front (sym (take-append-drop (byte_len w) bytes)); rest_fits = IsBytes-drop (byte_len w) bytes fits }, wide.below (take (byte_len w) bytes) (IsBytes-take (byte_len w) bytes fits));
  again = λ n rest lt.
      let len = wide.len n in
      let long : ltb (length (to_be_bytes w n ++ rest)) (byte_len w) ≡ false = le-ltb _ _ (omega (arith, length-append (to_be_bytes w n) rest)) in
      rw (long, take_at (to_be_bytes w n) rest (byte_len w) len, drop_at (to_be_bytes w n) rest (byte_len w) len, wide.again n lt) refl;
}

-- ---- at most so many items behind their number

-- at most so many
pub not_over : (limit n : ℕ) → nat_le n limit ≡ true → n ≤ limit
not_over limit n e = grind (arith, nat_tests)

pub within : (limit n : ℕ) → n ≤ limit → nat_le n limit ≡ true
within limit n le = grind (arith, nat_tests)

pub exact_list : {A : Type 0} (limit : ℕ) (s : A → List ℕ) (F : A → Type 0) (r : List ℕ → Option (A × List ℕ)) → limit < 2 ^ 32 → Exact s F r
    → Exact (λ (xs : List A). to_be_bytes w32 (length xs) ++ flat_map s xs) (λ (xs : List A). (length xs ≤ limit) × AllByRecursion F xs) (list_at limit r)
exact_list {A = A} limit s F r small read =
    exact_as (λ (p : ℕ × List A). p.1) (λ (xs : List A). (length xs, xs)) _ _ (λ (xs : List A). (length xs ≤ limit) × AllByRecursion F xs) _
    (λ x h. (ap (λ (k : ℕ). (k, x.1)) h.1.0, (omega (arith, not_over limit x.0 h.0.1, h.1.0), h.1.1)))
    (λ xs h. (refl, ((omega (arith, h.0), within limit (length xs) h.0), (refl, h.1))))
    (exact_then _ _ _ (λ n xs. flat_map s xs) _ _ (exact_if (λ n. nat_le n limit) _ _ _ (exact_number w32 (2 ^ 32) wide32)) (λ n h. exact_items s F r read n))

-- ---- all of the bytes

pub all_found : {A : Type 0} (s : A → List ℕ) (F : A → Type 0) (r : List ℕ → Option (A × List ℕ)) → Exact s F r → (bytes : List ℕ) (x : A) → IsBytes bytes → all_of r bytes ≡ Some x → F x × (bytes ≡ s x)
all_found {A = A} s F r read bytes x fits e =
    let a = bind_some (r bytes) (λ y. cond (eqb (length y.1) 0) (Some y.0) None) x e in
    let g = guard_some (eqb (length a.0.1) 0) a.0.0 x a.2 in
    let t = read.takes bytes a.0 fits a.1 in
    let nothing : a.0.1 ≡ [] = nil_from_length a.0.1 (eqb-true _ _ g.0) in
    subst (λ (v : A). F v × (bytes ≡ s v)) g.1 (t.1, t.0.parts ∙ ap (λ (k : List ℕ). s a.0.0 ++ k) nothing ∙ append-nil (s a.0.0))

pub all_again : {A : Type 0} (s : A → List ℕ) (F : A → Type 0) (r : List ℕ → Option (A × List ℕ)) → Exact s F r → (x : A) → F x → all_of r (s x) ≡ Some x
all_again s F r read x h = rw (ap r (sym (append-nil (s x))) ∙ read.again x [] h) refl

pub exact_byte : Exact (λ (b : ℕ). b ∷ []) (λ (b : ℕ). b < 256) byte_at
exact_byte = record { takes = byte_take; again = λ b rest h. refl } where
  byte_take : (bytes : List ℕ) (z : ℕ × List ℕ) → IsBytes bytes → byte_at bytes ≡ Some z → Takes bytes (z.0 ∷ []) z.1 × (z.0 < 256)
  byte_take [] z fits e = absurd cc
  byte_take (b ∷ bytes) z fits e = subst (λ (y : ℕ × List ℕ). Takes (b ∷ bytes) (y.0 ∷ []) y.1 × (y.0 < 256)) (some_is (b, bytes) z e) (record { parts = refl; rest_fits = λ i. fits (suc i) }, fits 0)

-- bytes with one more in front
pub Takes-cons : (b : ℕ) (bytes text rest : List ℕ) → Takes bytes text rest → Takes (b ∷ bytes) (b ∷ text) rest
Takes-cons b bytes text rest t = record { parts = ap (λ (w : List ℕ). b ∷ w) t.parts; rest_fits = t.rest_fits }

-- a value fits in other words
pub exact_fit : {A : Type 0} (s : A → List ℕ) (F G : A → Type 0) (r : List ℕ → Option (A × List ℕ)) → ((x : A) → F x → G x) → ((x : A) → G x → F x) → Exact s F r → Exact s G r
exact_fit s F G r one two read = record {
  takes = λ bytes z fits e. let t = read.takes bytes z fits e in (t.0, one z.0 t.1);
  again = λ x rest h. read.again x rest (two x h);
}

pub exact_sized : (w : Width) (limit : ℕ) (may : ℕ → Bool) → IsWide w limit
    → Exact (λ (t : List ℕ). to_be_bytes w (length t) ++ t) (λ (t : List ℕ). (length t < limit) × (may (length t) ≡ true)) (sized_at w may)
exact_sized w limit may wide =
    exact_as (λ (p : ℕ × List ℕ). p.1) (λ (t : List ℕ). (length t, t)) _ _ (λ (t : List ℕ). (length t < limit) × (may (length t) ≡ true)) _
    (λ x h. (ap (λ (k : ℕ). (k, x.1)) h.1, subst (λ (k : ℕ). (k < limit) × (may k ≡ true)) (sym h.1) h.0))
    (λ t h. (refl, (h, refl)))
    (exact_then _ _ _ (λ n (t : List ℕ). t) _ _ (exact_if may _ _ _ (exact_number w limit wide)) (λ n h. exact_bytes n))

eqb_same : (n : ℕ) → eqb n n ≡ true
eqb_same n = eq-eqb n n refl

pub exact_tagged : {A : Type 0} (tag : ℕ) (s : A → List ℕ) (F : A → Type 0) (r : List ℕ → Option (A × List ℕ)) → tag < 256 → Exact s F r → Exact (λ (x : A). tag ∷ s x) F (tagged_at tag r)
exact_tagged {A = A} tag s F r small read =
    exact_as (λ (p : ℕ × A). p.1) (λ (x : A). (tag, x)) _ _ F _
    (λ x h. (ap (λ (k : ℕ). (k, x.1)) (sym (eqb-true _ _ h.0.1)), h.1))
    (λ x h. (refl, ((small, eqb_same tag), h)))
    (exact_then _ _ _ (λ n x. s x) _ _ (exact_if (λ b. eqb b tag) _ _ _ exact_byte) (λ n h. read))

each_length : {C A : Type 0} (F : C → A → Type 0) (cs : List C) (xs : List A) → EachFits F cs xs → length xs ≡ length cs
each_length F [] [] h = refl
each_length F [] (x ∷ xs) h = absurd h
each_length F (c ∷ cs) [] h = absurd h
each_length F (c ∷ cs) (x ∷ xs) h = ap suc (each_length F cs xs h.1)

pub exact_counted : {C A : Type 0} (s : A → List ℕ) (F : C → A → Type 0) (r : C → List ℕ → Option (A × List ℕ)) → (cs : List C) → AllByRecursion (λ (c : C). Exact s (F c) (r c)) cs → length cs < 2 ^ 32
    → Exact (λ (xs : List A). to_be_bytes w32 (length xs) ++ flat_map s xs) (λ (xs : List A). EachFits F cs xs) (counted_at r cs)
exact_counted {C = C} {A = A} s F r cs read small =
    exact_as (λ (p : ℕ × List A). p.1) (λ (xs : List A). (length xs, xs)) _ _ (λ (xs : List A). EachFits F cs xs) _
    (λ x h. (ap (λ (k : ℕ). (k, x.1)) (each_length F cs x.1 h.1 ∙ sym (eqb-true _ _ h.0.1)), h.1))
    (λ xs h. (refl, ((subst (λ (k : ℕ). k < 2 ^ 32) (sym (each_length F cs xs h)) small, eq-eqb _ _ (each_length F cs xs h)), h)))
    (exact_then _ _ _ (λ n xs. flat_map s xs) _ _ (exact_if (λ n. eqb n (length cs)) _ _ _ (exact_number w32 (2 ^ 32) wide32)) (λ n h. exact_each_of s F r cs read))

-- ---- kinds behind a tag

pub no_cases : {B : Type 0} (spell : B → List ℕ) (Fit : B → Type 0) → AreCases spell Fit no_case
no_cases spell Fit b bytes z fits e = absurd cc

pub one_case : {A B : Type 0} (spell : B → List ℕ) (Fit : B → Type 0) (tag : ℕ) (inj : A → B) (s : A → List ℕ) (F : A → Type 0) (r : List ℕ → Option (A × List ℕ)) (others : ℕ → List ℕ → Option (B × List ℕ))
    → Exact s F r → ((x : A) → spell (inj x) ≡ tag ∷ s x) → ((x : A) → F x → Fit (inj x)) → AreCases spell Fit others → AreCases spell Fit (case_at tag inj r others)
one_case {A = A} {B = B} spell Fit tag inj s F r others read spelled fit rest b bytes z fits e = by (eqb b tag) refl e where
  by : (t : Bool) → eqb b tag ≡ t → cond t (as_at inj r bytes) (others b bytes) ≡ Some z → Takes (b ∷ bytes) (spell z.0) z.1 × Fit z.0
  by false eq e = rest b bytes z fits e
  by true eq e =
      let a = bind_some (r bytes) (λ x. Some (inj x.0, x.1)) z e in
      let l = read.takes bytes a.0 fits a.1 in
      let made : B × List ℕ = (inj a.0.0, a.0.1) in
      let here : Takes (b ∷ bytes) (tag ∷ s a.0.0) a.0.1 = subst (λ (k : ℕ). Takes (k ∷ bytes) (tag ∷ s a.0.0) a.0.1) (sym (eqb-true _ _ eq)) (Takes-cons tag bytes (s a.0.0) a.0.1 l.0) in
      subst (λ (y : B × List ℕ). Takes (b ∷ bytes) (spell y.0) y.1 × Fit y.0) (some_is made z a.2) (subst (λ (w : List ℕ). Takes (b ∷ bytes) w a.0.1) (sym (spelled a.0.0)) here, fit a.0.0 l.1)
