-- A reader that is exact for its rule, beside the reader and the rule with one more level: the second goes on where
-- the first gives up for depth, and does the same everywhere else.
use Rattle.std.proofs.Common.{◌≡◌, ℕ, zero, suc, Bool, true, false, ◌&&◌, List, [], ◌∷◌, ◌++◌, length, Option, Some, None, Ok, Err, refl, sym, ap, subst, ◌∙◌, append_assoc, inl, inr, cond}
use Rattle.sql_tokens.specs.declared.kind.Kind.{Kind}
use Rattle.sql_tokens.specs.declared.token.Token.{Token}
use Rattle.sql_reader.specs.declared.stop.Stop.TheVariants.{Unexpected, Barred}
use Rattle.sql_reader.specs.declared.stop.Bar.{Bar}
use Rattle.sql_reader.specs.Kinds.{bar_of, same, among, heads, apart, within}
use Rattle.sql_reader.specs.Rules.{Rule, token, pair, choice, optional, many, IsMany, seen}
use Rattle.sql_reader.specs.Readers.{◌>>=◌, Reader, stuck, read_token, read_pair, read_seen, read_choice, read_optional, read_times, read_many}
use Rattle.sql_reader.specs.Grammar.{second, front, ◌▹◌, ◌◃◌, folded, chain}
use Rattle.sql_reader.specs.Parsers.{read_after, read_before, read_chain, read_barred}
use Rattle.sql_reader.proofs.Sets.{bind_ok, bind_err}
use Rattle.sql_reader.proofs.Exact.{Exact, found, both, some_of, none_found, many_more, many_times, choice_is, exact_token, of_seen, of_pair, of_choice, of_optional, of_many, of_weaker, of_barred}

-- the token that is too deep, behind what stands before it
pub record Deep {A : Type 0} (R : Rule A) (ts : List Token) (w : Bar) (n : ℕ) : Type 0 where
  pub before : List Token
  pub next : Token
  pub rest : List Token
  pub parts : ts ≡ before ++ next ∷ rest
  pub count : n ≡ length (next ∷ rest)
  pub kind : among (bar_of w) next.kind ≡ true
  pub begun : R.begins (before ++ next ∷ [])

pub record Deeper {A : Type 0} (first more : List Kind) (empty : Bool) (R : Rule A) (p : Reader A) (R' : Rule A) (p' : Reader A) : Type 0 where
  pub exact : Exact first more empty R p
  pub spells : (x : A) (a : List Token) → R.spells x a → R'.spells x a
  pub begins : (a : List Token) → R.begins a → R'.begins a
  pub same_ok : (ts : List Token) (x : A × List Token) → p ts ≡ Ok x → p' ts ≡ Ok x
  pub same_err : (ts : List Token) (n : ℕ) → p ts ≡ Err (Unexpected n) → p' ts ≡ Err (Unexpected n)
  pub deep : (ts : List Token) (w : Bar) (n : ℕ) → p ts ≡ Err (Barred w n) → Deep R' ts w n

-- ---- a token

token_deep : (k : Kind) (ts : List Token) (w : Bar) (n : ℕ) → read_token k ts ≡ Err (Barred w n) → ⊥
token_deep k [] w n e = cc
token_deep k (t ∷ ts) w n e = go (same t.kind k) e
  where
    go : (b : Bool) → cond b (found t ts) (stuck (t ∷ ts)) ≡ Err (Barred w n) → ⊥
    go true e = cc
    go false e = cc

pub d_token : (k : Kind) → Deeper (k ∷ []) [] false (token k) (read_token k) (token k) (read_token k)
d_token k = record {
  exact = exact_token k;
  spells = λ x a h. h;
  begins = λ a h. h;
  same_ok = λ ts x e. e;
  same_err = λ ts n e. e;
  deep = λ ts w n e. absurd (token_deep k ts w n e);
}

-- ---- a value seen otherwise

pub d_seen : {A B : Type 0} {first more : List Kind} {empty : Bool} {R : Rule A} {p : Reader A} {R' : Rule A} {p' : Reader A} (f : A → B) → Deeper first more empty R p R' p' → Deeper first more empty (seen f R) (read_seen f p) (seen f R') (read_seen f p')
d_seen {p = p} f D = record {
  exact = of_seen f D.exact;
  spells = λ y a h. (h.0, h.1, D.spells h.0 a h.2);
  begins = D.begins;
  same_ok = λ ts y e. (let b = bind_ok (p ts) (λ x. found (f x.0) x.1) y e in rw (D.same_ok ts b.0 b.1) b.2);
  same_err = λ ts n e. elim (bind_err (p ts) (λ x. found (f x.0) x.1) (Unexpected n) e) [
    | inl b ↦ rw (D.same_err ts n b) refl
    | inr b ↦ absurd (let v = b.2 in cc)
  ];
  deep = λ ts w n e. elim (bind_err (p ts) (λ x. found (f x.0) x.1) (Barred w n) e) [
    | inl b ↦ (let d = D.deep ts w n b in record { before = d.before; next = d.next; rest = d.rest; parts = d.parts; count = d.count; kind = d.kind; begun = d.begun })
    | inr b ↦ absurd (let v = b.2 in cc)
  ];
}

-- ---- a sequence

pair_begins : {A B : Type 0} {first1 more1 : List Kind} {e1 : Bool} {R : Rule A} {p : Reader A} {R' : Rule A} {p' : Reader A} {first2 more2 : List Kind} {e2 : Bool} {S : Rule B} {q : Reader B} {S' : Rule B} {q' : Reader B} → Deeper first1 more1 e1 R p R' p' → Deeper first2 more2 e2 S q S' q' → (a : List Token) → (pair R S).begins a → (pair R' S').begins a
pair_begins D E a (inl h) = inl (D.begins a h)
pair_begins D E a (inr h) = inr (h.0, h.1, h.2, h.3, D.spells h.0 h.1 h.4, E.begins h.2 h.5)

pair_deep : {A B : Type 0} {first1 more1 : List Kind} {e1 : Bool} {R : Rule A} {p : Reader A} {R' : Rule A} {p' : Reader A} {first2 more2 : List Kind} {e2 : Bool} {S : Rule B} {q : Reader B} {S' : Rule B} {q' : Reader B} → Deeper first1 more1 e1 R p R' p' → Deeper first2 more2 e2 S q S' q' → (ts : List Token) (w : Bar) (n : ℕ) → read_pair p q ts ≡ Err (Barred w n) → Deep (pair R' S') ts w n
pair_deep {p = p} {q = q} D E ts w n e =
    elim (bind_err (p ts) (λ x. q x.1 >>= λ y. found (both x.0 y.0) y.1) (Barred w n) e) [
      | inl b ↦ (let d = D.deep ts w n b in record { before = d.before; next = d.next; rest = d.rest; parts = d.parts; count = d.count; kind = d.kind; begun = inl d.begun })
      | inr b ↦ elim (bind_err (q b.0.1) (λ y. found (both b.0.0 y.0) y.1) (Barred w n) b.2) [
        | inl c ↦ (
            let s = D.exact.sound ts b.0.0 b.0.1 b.1 in
            let d = E.deep b.0.1 w n c in
            let parts : ts ≡ (s.front ++ d.before) ++ d.next ∷ d.rest = s.parts ∙ ap (λ (w : List Token). s.front ++ w) d.parts ∙ sym (append_assoc s.front d.before (d.next ∷ d.rest)) in
            record { before = s.front ++ d.before; next = d.next; rest = d.rest; parts = parts; count = d.count; kind = d.kind; begun = inr (b.0.0, s.front, d.before ++ d.next ∷ [], append_assoc s.front d.before (d.next ∷ []), D.spells b.0.0 s.front s.spelled, d.begun) })
        | inr c ↦ absurd (let v = c.2 in cc)
      ]
    ]

pub d_pair : {A B : Type 0} {first1 more1 : List Kind} {e1 : Bool} {R : Rule A} {p : Reader A} {R' : Rule A} {p' : Reader A} {first2 more2 : List Kind} {e2 : Bool} {S : Rule B} {q : Reader B} {S' : Rule B} {q' : Reader B} → Deeper first1 more1 e1 R p R' p' → Deeper first2 more2 e2 S q S' q' → apart more1 first2 ≡ true → Deeper (cond e1 (first1 ++ first2) first1) (cond e2 (more1 ++ more2) more2) (e1 && e2) (pair R S) (read_pair p q) (pair R' S') (read_pair p' q')
d_pair {p = p} {q = q} D E a12 = record {
  exact = of_pair D.exact E.exact a12;
  spells = λ x a h. (h.0, h.1, h.2, D.spells x.0 h.0 h.3, E.spells x.1 h.1 h.4);
  begins = pair_begins D E;
  same_ok = λ ts x e. (
      let b = bind_ok (p ts) (λ x. q x.1 >>= λ y. found (both x.0 y.0) y.1) x e in
      let c = bind_ok (q b.0.1) (λ y. found (both b.0.0 y.0) y.1) x b.2 in
      rw (D.same_ok ts b.0 b.1, E.same_ok b.0.1 c.0 c.1) c.2);
  same_err = λ ts n e. elim (bind_err (p ts) (λ x. q x.1 >>= λ y. found (both x.0 y.0) y.1) (Unexpected n) e) [
    | inl b ↦ rw (D.same_err ts n b) refl
    | inr b ↦ elim (bind_err (q b.0.1) (λ y. found (both b.0.0 y.0) y.1) (Unexpected n) b.2) [
      | inl c ↦ rw (D.same_ok ts b.0 b.1, E.same_err b.0.1 n c) refl
      | inr c ↦ absurd (let v = c.2 in cc)
    ]
  ];
  deep = pair_deep D E;
}

-- ---- a choice

choice_map : {A : Type 0} (R S R' S' : Rule A) (a : List Token) → (R.begins a → R'.begins a) → (S.begins a → S'.begins a) → (choice R S).begins a → (choice R' S').begins a
choice_map R S R' S' a f g (inl h) = inl (f h)
choice_map R S R' S' a f g (inr h) = inr (g h)

choice_spells : {A : Type 0} (R S R' S' : Rule A) (x : A) (a : List Token) → (R.spells x a → R'.spells x a) → (S.spells x a → S'.spells x a) → (choice R S).spells x a → (choice R' S').spells x a
choice_spells R S R' S' x a f g (inl h) = inl (f h)
choice_spells R S R' S' x a f g (inr h) = inr (g h)

pub d_choice : {A : Type 0} {first1 more1 : List Kind} {R : Rule A} {p : Reader A} {R' : Rule A} {p' : Reader A} {first2 more2 : List Kind} {S : Rule A} {q : Reader A} {S' : Rule A} {q' : Reader A} → Deeper first1 more1 false R p R' p' → Deeper first2 more2 false S q S' q' → apart first1 first2 ≡ true → Deeper (first1 ++ first2) (more1 ++ more2) false (choice R S) (read_choice first1 p q) (choice R' S') (read_choice first1 p' q')
d_choice {first1 = first1} {R = R} {p = p} {R' = R'} {S = S} {q = q} {S' = S'} D E a12 = record {
  exact = of_choice D.exact E.exact a12;
  spells = λ x a. choice_spells R S R' S' x a (D.spells x a) (E.spells x a);
  begins = λ a. choice_map R S R' S' a (D.begins a) (E.begins a);
  same_ok = λ ts x e. elim (choice_is (heads first1 ts) (p ts) (q ts) (Ok x) e) [
    | inl b ↦ rw b.0 (D.same_ok ts x b.1)
    | inr b ↦ rw b.0 (E.same_ok ts x b.1)
  ];
  same_err = λ ts n e. elim (choice_is (heads first1 ts) (p ts) (q ts) (Err (Unexpected n)) e) [
    | inl b ↦ rw b.0 (D.same_err ts n b.1)
    | inr b ↦ rw b.0 (E.same_err ts n b.1)
  ];
  deep = λ ts w n e. elim (choice_is (heads first1 ts) (p ts) (q ts) (Err (Barred w n)) e) [
    | inl b ↦ (let d = D.deep ts w n b.1 in record { before = d.before; next = d.next; rest = d.rest; parts = d.parts; count = d.count; kind = d.kind; begun = inl d.begun })
    | inr b ↦ (let d = E.deep ts w n b.1 in record { before = d.before; next = d.next; rest = d.rest; parts = d.parts; count = d.count; kind = d.kind; begun = inr d.begun })
  ];
}

-- ---- an option

optional_map : {A : Type 0} (R R' : Rule A) (a : List Token) → (R.begins a → R'.begins a) → (optional R).begins a → (optional R').begins a
optional_map R R' a f (inl h) = inl h
optional_map R R' a f (inr h) = inr (f h)

optional_spells : {A : Type 0} (R R' : Rule A) (x : Option A) (a : List Token) → ((y : A) → R.spells y a → R'.spells y a) → (optional R).spells x a → (optional R').spells x a
optional_spells R R' None a f h = h
optional_spells R R' (Some x) a f h = f x h

pub d_optional : {A : Type 0} {first more : List Kind} {R : Rule A} {p : Reader A} {R' : Rule A} {p' : Reader A} → Deeper first more false R p R' p' → Deeper first (first ++ more) true (optional R) (read_optional first p) (optional R') (read_optional first p')
d_optional {first = first} {R = R} {p = p} {R' = R'} D = record {
  exact = of_optional D.exact;
  spells = λ x a. optional_spells R R' x a (λ y. D.spells y a);
  begins = λ a. optional_map R R' a (D.begins a);
  same_ok = λ ts x e. elim (choice_is (heads first ts) (p ts >>= λ x. found (some_of x.0) x.1) (none_found ts) (Ok x) e) [
    | inl b ↦ (let c = bind_ok (p ts) (λ x. found (some_of x.0) x.1) x b.1 in rw (b.0, D.same_ok ts c.0 c.1) c.2)
    | inr b ↦ rw b.0 b.1
  ];
  same_err = λ ts n e. elim (choice_is (heads first ts) (p ts >>= λ x. found (some_of x.0) x.1) (none_found ts) (Err (Unexpected n)) e) [
    | inl b ↦ elim (bind_err (p ts) (λ x. found (some_of x.0) x.1) (Unexpected n) b.1) [
      | inl c ↦ rw (b.0, D.same_err ts n c) refl
      | inr c ↦ absurd (let v = c.2 in cc)
    ]
    | inr b ↦ absurd (let v = b.1 in cc)
  ];
  deep = λ ts w n e. elim (choice_is (heads first ts) (p ts >>= λ x. found (some_of x.0) x.1) (none_found ts) (Err (Barred w n)) e) [
    | inl b ↦ elim (bind_err (p ts) (λ x. found (some_of x.0) x.1) (Barred w n) b.1) [
      | inl c ↦ (let d = D.deep ts w n c in record { before = d.before; next = d.next; rest = d.rest; parts = d.parts; count = d.count; kind = d.kind; begun = inr d.begun })
      | inr c ↦ absurd (let v = c.2 in cc)
    ]
    | inr b ↦ absurd (let v = b.1 in cc)
  ];
}

-- ---- a repetition

many_spells : {A : Type 0} (R R' : Rule A) (xs : List A) (a : List Token) → ((y : A) (b : List Token) → R.spells y b → R'.spells y b) → IsMany R.spells xs a → IsMany R'.spells xs a
many_spells R R' [] a f h = h
many_spells R R' (x ∷ xs) a f h = (h.0, h.1, h.2, f x h.0 h.3, many_spells R R' xs h.1 f h.4)

many_ok : {A : Type 0} {first more : List Kind} {R : Rule A} {p : Reader A} {R' : Rule A} {p' : Reader A} → Deeper first more false R p R' p' → (n : ℕ) (ts : List Token) (x : List A × List Token) → read_times n first p ts ≡ Ok x → read_times n first p' ts ≡ Ok x
many_ok D zero ts x e = e
many_ok {first = first} {p = p} D (suc n) ts x e =
    elim (many_times n first p ts (Ok x) e) [
      | inl b ↦ (
          let c = bind_ok (p ts) (λ y. read_times n first p y.1 >>= λ ys. many_more y.0 ys) x b.1 in
          let d = bind_ok (read_times n first p c.0.1) (λ ys. many_more c.0.0 ys) x c.2 in
          rw (b.0, D.same_ok ts c.0 c.1, many_ok D n c.0.1 d.0 d.1) d.2)
      | inr b ↦ rw b.0 b.1
    ]

many_err : {A : Type 0} {first more : List Kind} {R : Rule A} {p : Reader A} {R' : Rule A} {p' : Reader A} → Deeper first more false R p R' p' → (n : ℕ) (ts : List Token) (m : ℕ) → read_times n first p ts ≡ Err (Unexpected m) → read_times n first p' ts ≡ Err (Unexpected m)
many_err D zero ts m e = absurd cc
many_err {first = first} {p = p} D (suc n) ts m e =
    elim (many_times n first p ts (Err (Unexpected m)) e) [
      | inl b ↦ elim (bind_err (p ts) (λ y. read_times n first p y.1 >>= λ ys. many_more y.0 ys) (Unexpected m) b.1) [
        | inl c ↦ rw (b.0, D.same_err ts m c) refl
        | inr c ↦ elim (bind_err (read_times n first p c.0.1) (λ ys. many_more c.0.0 ys) (Unexpected m) c.2) [
          | inl d ↦ rw (b.0, D.same_ok ts c.0 c.1, many_err D n c.0.1 m d) refl
          | inr d ↦ absurd (let v = d.2 in cc)
        ]
      ]
      | inr b ↦ absurd (let v = b.1 in cc)
    ]

many_deep : {A : Type 0} {first more : List Kind} {R : Rule A} {p : Reader A} {R' : Rule A} {p' : Reader A} → Deeper first more false R p R' p' → (n : ℕ) (ts : List Token) (w : Bar) (m : ℕ) → read_times n first p ts ≡ Err (Barred w m) → Deep (many R') ts w m
many_deep D zero ts w m e = absurd cc
many_deep {first = first} {p = p} D (suc n) ts w m e =
    elim (many_times n first p ts (Err (Barred w m)) e) [
      | inl b ↦ elim (bind_err (p ts) (λ y. read_times n first p y.1 >>= λ ys. many_more y.0 ys) (Barred w m) b.1) [
        | inl c ↦ (let d = D.deep ts w m c in record { before = d.before; next = d.next; rest = d.rest; parts = d.parts; count = d.count; kind = d.kind; begun = ([], [], d.before ++ d.next ∷ [], refl, refl, d.begun) })
        | inr c ↦ elim (bind_err (read_times n first p c.0.1) (λ ys. many_more c.0.0 ys) (Barred w m) c.2) [
          | inl d ↦ (
              let s = D.exact.sound ts c.0.0 c.0.1 c.1 in
              let t = many_deep D n c.0.1 w m d in
              let g = t.begun in
              let parts : ts ≡ (s.front ++ t.before) ++ t.next ∷ t.rest = s.parts ∙ ap (λ (w : List Token). s.front ++ w) t.parts ∙ sym (append_assoc s.front t.before (t.next ∷ t.rest)) in
              let whole : (s.front ++ t.before) ++ t.next ∷ [] ≡ (s.front ++ g.1) ++ g.2 = append_assoc s.front t.before (t.next ∷ []) ∙ ap (λ (w : List Token). s.front ++ w) g.3 ∙ sym (append_assoc s.front g.1 g.2) in
              record { before = s.front ++ t.before; next = t.next; rest = t.rest; parts = parts; count = t.count; kind = t.kind; begun = (c.0.0 ∷ g.0, s.front ++ g.1, g.2, whole, (s.front, g.1, refl, D.spells c.0.0 s.front s.spelled, g.4), g.5) })
          | inr d ↦ absurd (let v = d.2 in cc)
        ]
      ]
      | inr b ↦ absurd (let v = b.1 in cc)
    ]

pub d_many : {A : Type 0} {first more : List Kind} {R : Rule A} {p : Reader A} {R' : Rule A} {p' : Reader A} → Deeper first more false R p R' p' → apart more first ≡ true → Deeper first (first ++ more) true (many R) (read_many first p) (many R') (read_many first p')
d_many {R = R} {R' = R'} D a = record {
  exact = of_many D.exact a;
  spells = λ xs c h. many_spells R R' xs c D.spells h;
  begins = λ c h. (h.0, h.1, h.2, h.3, many_spells R R' h.0 h.1 D.spells h.4, D.begins h.2 h.5);
  same_ok = λ ts x e. many_ok D (length ts) ts x e;
  same_err = λ ts n e. many_err D (length ts) ts n e;
  deep = λ ts w n e. many_deep D (length ts) ts w n e;
}

-- ---- larger sets, and what is made of these

pub d_weaker : {A : Type 0} {first more : List Kind} {empty : Bool} {R : Rule A} {p : Reader A} {R' : Rule A} {p' : Reader A} (first' more' : List Kind) → Deeper first more empty R p R' p' → within first first' ≡ true → within more more' ≡ true → Deeper first' more' empty R p R' p'
d_weaker first' more' D v w = record {
  exact = of_weaker first' more' D.exact v w;
  spells = D.spells;
  begins = D.begins;
  same_ok = D.same_ok;
  same_err = D.same_err;
  deep = D.deep;
}

pub d_after : {A : Type 0} {first more : List Kind} {R : Rule A} {p : Reader A} {R' : Rule A} {p' : Reader A} (k : Kind) → Deeper first more false R p R' p' → Deeper (k ∷ []) more false (k ▹ R) (read_after k p) (k ▹ R') (read_after k p')
d_after k D = d_seen second (d_pair (d_token k) D refl)

pub d_before : {A : Type 0} {first more : List Kind} {R : Rule A} {p : Reader A} {R' : Rule A} {p' : Reader A} (k : Kind) → Deeper first more false R p R' p' → apart more (k ∷ []) ≡ true → Deeper first [] false (R ◃ k) (read_before p k) (R' ◃ k) (read_before p' k)
d_before k D a = d_seen front (d_pair D (d_token k) a)

pub d_chain : {A B C : Type 0} {first1 more1 : List Kind} {R : Rule A} {p : Reader A} {R' : Rule A} {p' : Reader A} {first2 more2 : List Kind} {S : Rule B} {q : Reader B} {S' : Rule B} {q' : Reader B} (g : A → C) (f : C → B → C) → Deeper first1 more1 false R p R' p' → Deeper first2 more2 false S q S' q' → apart more1 first2 ≡ true → apart more2 first2 ≡ true → Deeper first1 (more1 ++ (first2 ++ more2)) false (chain g f R S) (read_chain g f first2 p q) (chain g f R' S') (read_chain g f first2 p' q')
d_chain g f D E a b = d_seen (folded g f) (d_pair D (d_many E b) a)

-- ---- where the limit stands: the rule above takes what is barred here

barred_same : {A : Type 0} (w : Bar) (p p' : Reader A) (ts : List Token) → ((us : List Token) → heads (bar_of w) us ≡ false → p' us ≡ p us) → (x : A × List Token) → read_barred w p ts ≡ Ok x → p' ts ≡ Ok x
barred_same w p p' ts like x e =
    elim (choice_is (heads (bar_of w) ts) (Err (Barred w (length ts))) (p ts) (Ok x) e) [
      | inl b ↦ absurd (let v = b.1 in cc)
      | inr b ↦ like ts b.0 ∙ b.1
    ]

barred_err : {A : Type 0} (w : Bar) (p p' : Reader A) (ts : List Token) → ((us : List Token) → heads (bar_of w) us ≡ false → p' us ≡ p us) → (n : ℕ) → read_barred w p ts ≡ Err (Unexpected n) → p' ts ≡ Err (Unexpected n)
barred_err w p p' ts like n e =
    elim (choice_is (heads (bar_of w) ts) (Err (Barred w (length ts))) (p ts) (Err (Unexpected n)) e) [
      | inl b ↦ absurd (let v = b.1 in cc)
      | inr b ↦ like ts b.0 ∙ b.1
    ]

heads_none : (w : Bar) → heads (bar_of w) [] ≡ false
heads_none w = refl

barred_deep : {A : Type 0} (w : Bar) (p : Reader A) (R' : Rule A) (ts : List Token) (v : Bar) (n : ℕ) → ((t : Token) → heads (bar_of w) (t ∷ []) ≡ true → R'.begins (t ∷ [])) → (p ts ≡ Err (Barred v n) → Deep R' ts v n) → read_barred w p ts ≡ Err (Barred v n) → Deep R' ts v n
barred_deep w p R' [] v n opens inner e = inner e
barred_deep {A = A} w p R' (t ∷ ts) v n opens inner e =
    elim (choice_is (heads (bar_of w) (t ∷ ts)) (Err (Barred w (length (t ∷ ts)))) (p (t ∷ ts)) (Err (Barred v n)) e) [
      | inl b ↦ (let g = b.1 in let same : w ≡ v = cc in record { before = []; next = t; rest = ts; parts = refl; count = cc; kind = subst (λ (u : Bar). among (bar_of u) t.kind ≡ true) same b.0; begun = opens t b.0 })
      | inr b ↦ inner b.1
    ]

pub d_barred : {A : Type 0} {first more : List Kind} {R : Rule A} {p : Reader A} (w : Bar) (R' : Rule A) (p' : Reader A) → Deeper first more false R p R p → apart (bar_of w) first ≡ true → ((t : Token) → heads (bar_of w) (t ∷ []) ≡ true → R'.begins (t ∷ [])) → ((x : A) (a : List Token) → R.spells x a → R'.spells x a) → ((a : List Token) → R.begins a → R'.begins a) → ((ts : List Token) → heads (bar_of w) ts ≡ false → p' ts ≡ p ts) → Deeper first more false R (read_barred w p) R' p'
d_barred {p = p} w R' p' D a opens spells' begins' like = record {
  exact = of_barred w D.exact a;
  spells = spells';
  begins = begins';
  same_ok = λ ts. barred_same w p p' ts like;
  same_err = λ ts. barred_err w p p' ts like;
  deep = λ ts v n. barred_deep w p R' ts v n opens (λ e. (let d = D.deep ts v n e in record { before = d.before; next = d.next; rest = d.rest; parts = d.parts; count = d.count; kind = d.kind; begun = begins' (d.before ++ d.next ∷ []) d.begun }));
}
