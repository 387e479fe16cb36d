-- A reader that is exact for its rule.
use Rattle.std.proofs.Common.{◌≡◌, ℕ, zero, suc, ◌≤◌, Bool, true, false, ◌&&◌, List, [], ◌∷◌, ◌++◌, length, Option, Some, None, Result, Ok, Err, refl, sym, ap, subst, ◌∙◌, append_assoc, append-nil, arith, inl, inr, ◌⊎◌, cond}
use Rattle.std.proofs.lemmas.List.{length-append}
use Rattle.sql_tokens.specs.declared.kind.Kind.{Kind}
use Rattle.sql_tokens.specs.declared.token.Token.{Token}
use Rattle.sql_reader.specs.declared.stop.Stop.{Stop}
use Rattle.sql_reader.specs.declared.stop.Stop.TheVariants.{Unexpected, Barred}
use Rattle.sql_reader.specs.declared.stop.Bar.{Bar}
use Rattle.sql_reader.specs.Kinds.{bar_of, same, among, heads, apart, within}
use Rattle.sql_reader.specs.Rules.{Rule, token, IsToken, pair, choice, optional, many, seen}
use Rattle.sql_reader.specs.Readers.{◌>>=◌, Reader, stuck, read_token, read_pair, read_seen, read_choice, read_optional, read_times, read_many}
use Rattle.sql_reader.specs.Grammar.{second, front, ◌▹◌, ◌◃◌, folded, chain}
use Rattle.sql_reader.specs.Parsers.{read_after, read_before, read_chain, read_barred}
use Rattle.sql_reader.proofs.Sets.{or_true_left, or_true_right, apart_left, within_among, among-append, heads_left, heads_right, heads_within, split, empty_front, bind_ok, bind_err, ok_is, left_of, left, left_seen}

pub record Sound {A : Type 0} (R : Rule A) (ts : List Token) (x : A) (rest : List Token) : Type 0 where
  pub front : List Token
  pub parts : ts ≡ front ++ rest
  pub spelled : R.spells x front

pub record Stops {A : Type 0} (R : Rule A) (ts : List Token) (f : Stop) : Type 0 where
  pub front : List Token
  pub rest : List Token
  pub parts : ts ≡ front ++ rest
  pub count : left_of f ≡ length rest
  pub begun : R.begins front

-- first: what a spelling can begin with; more: what the reader would go on with behind a spelling; empty: whether
-- no token spells something.
pub record Exact {A : Type 0} (first more : List Kind) (empty : Bool) (R : Rule A) (p : Reader A) : Type 0 where
  pub void : R.begins []
  pub opens : (x : A) (a : List Token) → R.spells x a → R.begins a
  pub shrinks : (a b : List Token) → R.begins (a ++ b) → R.begins a
  pub starts : (t : Token) (u : List Token) → R.begins (t ∷ u) → among first t.kind ≡ true
  pub fills : (x : A) → R.spells x [] → empty ≡ true
  pub sound : (ts : List Token) (x : A) (rest : List Token) → p ts ≡ Ok (x, rest) → Sound R ts x rest
  pub stops : (ts : List Token) (f : Stop) → p ts ≡ Err f → Stops R ts f
  pub takes : (x : A) (a rest : List Token) → R.spells x a → heads more rest ≡ false → p (a ++ rest) ≡ Ok (x, rest)
  pub passes : (a rest : List Token) → R.begins a → left (p (a ++ rest)) ≤ length rest

-- a reader never leaves more than it got
pub suffix : {A : Type 0} (first more : List Kind) (empty : Bool) (R : Rule A) (p : Reader A) → Exact first more empty R p → (ts : List Token) → left (p ts) ≤ length ts
suffix first more empty R p P ts = P.passes [] ts P.void

-- ---- a token

abbrev pub found : {A : Type 0} → A → List Token → Result (A × List Token) Stop
found x ts = Ok (x, ts)

abbrev pub both : {A B : Type 0} → A → B → A × B
both x y = (x, y)

ends : (t : Token) (u : List Token) (s : Token) → t ∷ u ≡ s ∷ [] → (t ≡ s) × (u ≡ [])
ends t u s e = (cc, cc)

token_shrinks : (k : Kind) (a b : List Token) → (token k).begins (a ++ b) → (token k).begins a
token_shrinks k a b (inl e) = inl (empty_front a b e)
token_shrinks k [] b (inr h) = inl refl
token_shrinks k (t ∷ a) b (inr h) =
    let e = ends t (a ++ b) h.0 h.1.0 in
    let a-is : a ≡ [] = empty_front a b e.1 in
    inr (h.0, (rw (a-is, e.0) refl, h.1.1))

token_starts : (k : Kind) (t : Token) (u : List Token) → (token k).begins (t ∷ u) → among (k ∷ []) t.kind ≡ true
token_starts k t u (inl e) = absurd cc
token_starts k t u (inr h) =
    let e = ends t u h.0 h.1.0 in
    or_true_left (same t.kind k) false (rw e.0 h.1.1)

token_sound : (k : Kind) (ts : List Token) (x : Token) (rest : List Token) → read_token k ts ≡ Ok (x, rest) → Sound (token k) ts x rest
token_sound k [] x rest e = absurd cc
token_sound k (t ∷ ts) x rest e = go (same t.kind k) refl e
  where
    go : (b : Bool) → same t.kind k ≡ b → cond b (found t ts) (stuck (t ∷ ts)) ≡ Ok (x, rest) → Sound (token k) (t ∷ ts) x rest
    go true s e =
        let q = ok_is (t, ts) (x, rest) e in
        subst (λ (w : Token × List Token). Sound (token k) (t ∷ ts) w.0 w.1) q (record { front = t ∷ []; parts = refl; spelled = (refl, s) })
    go false s e = absurd cc

token_stops : (k : Kind) (ts : List Token) (f : Stop) → read_token k ts ≡ Err f → Stops (token k) ts f
token_stops k [] f e = let g : Unexpected 0 ≡ f = cc in record { front = []; rest = []; parts = refl; count = sym (ap left_of g); begun = inl refl }
token_stops k (t ∷ ts) f e = go (same t.kind k) e
  where
    go : (b : Bool) → cond b (found t ts) (stuck (t ∷ ts)) ≡ Err f → Stops (token k) (t ∷ ts) f
    go true e = absurd cc
    go false e = let g : Unexpected (length (t ∷ ts)) ≡ f = cc in record { front = []; rest = t ∷ ts; parts = refl; count = sym (ap left_of g); begun = inl refl }

token_takes : (k : Kind) (x : Token) (a rest : List Token) → IsToken k x a → read_token k (a ++ rest) ≡ Ok (x, rest)
token_takes k x a rest h = rw (h.0, h.1) refl

token_suffix : (k : Kind) (ts : List Token) → left (read_token k ts) ≤ length ts
token_suffix k [] = omega arith
token_suffix k (t ∷ ts) = go (same t.kind k)
  where
    go : (b : Bool) → left (cond b (found t ts) (stuck (t ∷ ts))) ≤ length (t ∷ ts)
    go true = omega arith
    go false = omega arith

token_passes : (k : Kind) (a rest : List Token) → (token k).begins a → left (read_token k (a ++ rest)) ≤ length rest
token_passes k a rest (inl e) = rw e (token_suffix k rest)
token_passes k a rest (inr h) = rw (token_takes k h.0 a rest h.1) (omega arith)

pub exact_token : (k : Kind) → Exact (k ∷ []) [] false (token k) (read_token k)
exact_token k = record {
  void = inl refl;
  opens = λ x a h. inr (x, h);
  shrinks = token_shrinks k;
  starts = token_starts k;
  fills = λ x h. absurd (let e = h.0 in cc);
  sound = token_sound k;
  stops = token_stops k;
  takes = λ x a rest h e. token_takes k x a rest h;
  passes = token_passes k;
}

-- ---- a sequence

pair_shrinks : {A B : Type 0} (first1 more1 : List Kind) (e1 : Bool) (R : Rule A) (p : Reader A) (first2 more2 : List Kind) (e2 : Bool) (S : Rule B) (q : Reader B) → Exact first1 more1 e1 R p → Exact first2 more2 e2 S q → (a b : List Token) → (pair R S).begins (a ++ b) → (pair R S).begins a
pair_shrinks first1 more1 e1 R p first2 more2 e2 S q P Q a b (inl h) = inl (P.shrinks a b h)
pair_shrinks first1 more1 e1 R p first2 more2 e2 S q P Q a b (inr h) =
    let x = h.0 in
    let c = h.1 in
    let d = h.2 in
    elim (split a b c d h.3) [
      | inl m ↦ inl (P.shrinks a m.0 (subst (λ (w : List Token). R.begins w) m.1 (P.opens x c h.4)))
      | inr m ↦ inr (x, c, m.0, m.1, h.4, Q.shrinks m.0 b (subst (λ (w : List Token). S.begins w) m.2 h.5))
    ]

pair_first : Bool → List Kind → List Kind → List Kind
pair_first true xs ys = xs ++ ys
pair_first false xs ys = xs

pair_starts : {A B : Type 0} (first1 more1 : List Kind) (e1 : Bool) (R : Rule A) (p : Reader A) (first2 more2 : List Kind) (e2 : Bool) (S : Rule B) (q : Reader B) → Exact first1 more1 e1 R p → Exact first2 more2 e2 S q → (t : Token) (u : List Token) → (pair R S).begins (t ∷ u) → among (cond e1 (first1 ++ first2) first1) t.kind ≡ true
pair_starts first1 more1 true R p first2 more2 e2 S q P Q t u (inl h) = among-append first1 first2 t.kind ∙ or_true_left (among first1 t.kind) (among first2 t.kind) (P.starts t u h)
pair_starts first1 more1 false R p first2 more2 e2 S q P Q t u (inl h) = P.starts t u h
pair_starts {A = A} first1 more1 e1 R p first2 more2 e2 S q P Q t u (inr h) = go e1 P.fills h.1 refl h.3 h.4
  where
    of_first : among first1 t.kind ≡ true → (e : Bool) → among (cond e (first1 ++ first2) first1) t.kind ≡ true
    of_first m true = among-append first1 first2 t.kind ∙ or_true_left (among first1 t.kind) (among first2 t.kind) m
    of_first m false = m

    go : (e : Bool) → ((x : A) → R.spells x [] → e ≡ true) → (a : List Token) → a ≡ h.1 → t ∷ u ≡ a ++ h.2 → R.spells h.0 a → among (cond e (first1 ++ first2) first1) t.kind ≡ true
    go e fills (s ∷ a) same_a parts r =
        let s-is : s ≡ t = cc in
        of_first (P.starts t a (subst (λ (w : Token). R.begins (w ∷ a)) s-is (P.opens h.0 (s ∷ a) r))) e
    go true fills [] same_a parts r = among-append first1 first2 t.kind ∙ or_true_right (among first1 t.kind) (among first2 t.kind) (Q.starts t u (subst (λ (w : List Token). S.begins w) (sym parts) h.5))
    go false fills [] same_a parts r = absurd (let f = fills h.0 r in cc)

pair_fills : {A B : Type 0} (first1 more1 : List Kind) (e1 : Bool) (R : Rule A) (p : Reader A) (first2 more2 : List Kind) (e2 : Bool) (S : Rule B) (q : Reader B) → Exact first1 more1 e1 R p → Exact first2 more2 e2 S q → (x : A × B) → (pair R S).spells x [] → (e1 && e2) ≡ true
pair_fills first1 more1 e1 R p first2 more2 e2 S q P Q x h =
    let a-is : h.0 ≡ [] = empty_front h.0 h.1 (sym h.2) in
    let b-is : h.1 ≡ [] = rw a-is at (sym h.2) in
    let f1 : e1 ≡ true = P.fills x.0 (subst (λ (w : List Token). R.spells x.0 w) a-is h.3) in
    let f2 : e2 ≡ true = Q.fills x.1 (subst (λ (w : List Token). S.spells x.1 w) b-is h.4) in
    rw (f1, f2) refl

pair_sound : {A B : Type 0} (first1 more1 : List Kind) (e1 : Bool) (R : Rule A) (p : Reader A) (first2 more2 : List Kind) (e2 : Bool) (S : Rule B) (q : Reader B) → Exact first1 more1 e1 R p → Exact first2 more2 e2 S q → (ts : List Token) (x : A × B) (rest : List Token) → read_pair p q ts ≡ Ok (x, rest) → Sound (pair R S) ts x rest
pair_sound {A = A} {B = B} first1 more1 e1 R p first2 more2 e2 S q P Q ts x rest e =
    let b = bind_ok (p ts) (λ x. q x.1 >>= λ y. found (both x.0 y.0) y.1) (x, rest) e in
    let c = bind_ok (q b.0.1) (λ y. found (both b.0.0 y.0) y.1) (x, rest) b.2 in
    let s = P.sound ts b.0.0 b.0.1 b.1 in
    let t = Q.sound b.0.1 c.0.0 c.0.1 c.1 in
    let parts : ts ≡ (s.front ++ t.front) ++ c.0.1 = s.parts ∙ ap (λ (w : List Token). s.front ++ w) t.parts ∙ sym (append_assoc s.front t.front c.0.1) in
    subst (λ (w : (A × B) × List Token). Sound (pair R S) ts w.0 w.1) (ok_is ((b.0.0, c.0.0), c.0.1) (x, rest) c.2) (record { front = s.front ++ t.front; parts = parts; spelled = (s.front, t.front, refl, s.spelled, t.spelled) })

pair_stops : {A B : Type 0} (first1 more1 : List Kind) (e1 : Bool) (R : Rule A) (p : Reader A) (first2 more2 : List Kind) (e2 : Bool) (S : Rule B) (q : Reader B) → Exact first1 more1 e1 R p → Exact first2 more2 e2 S q → (ts : List Token) (f : Stop) → read_pair p q ts ≡ Err f → Stops (pair R S) ts f
pair_stops first1 more1 e1 R p first2 more2 e2 S q P Q ts f e =
    elim (bind_err (p ts) (λ x. q x.1 >>= λ y. found (both x.0 y.0) y.1) f e) [
      | inl b ↦ (let s = P.stops ts f b in record { front = s.front; rest = s.rest; parts = s.parts; count = s.count; begun = inl s.begun })
      | inr b ↦ elim (bind_err (q b.0.1) (λ y. found (both b.0.0 y.0) y.1) f b.2) [
        | inl c ↦ (
            let s = P.sound ts b.0.0 b.0.1 b.1 in
            let t = Q.stops b.0.1 f c in
            let parts : ts ≡ (s.front ++ t.front) ++ t.rest = s.parts ∙ ap (λ (w : List Token). s.front ++ w) t.parts ∙ sym (append_assoc s.front t.front t.rest) in
            record { front = s.front ++ t.front; rest = t.rest; parts = parts; count = t.count; begun = inr (b.0.0, s.front, t.front, refl, s.spelled, t.begun) })
        | inr c ↦ absurd (let w = c.2 in cc)
      ]
    ]

-- what stands behind a spelling of the first part
pair_gap : {B : Type 0} (more1 first2 more2 : List Kind) (e2 : Bool) (S : Rule B) (q : Reader B) → Exact first2 more2 e2 S q → apart more1 first2 ≡ true → (y : B) (b rest : List Token) → S.spells y b → heads (cond e2 (more1 ++ more2) more2) rest ≡ false → heads more1 (b ++ rest) ≡ false
pair_gap more1 first2 more2 e2 S q Q apart12 y (t ∷ u) rest s h = apart_left more1 first2 t.kind apart12 (Q.starts t u (Q.opens y (t ∷ u) s))
pair_gap more1 first2 more2 e2 S q Q apart12 y [] rest s h =
    let f : e2 ≡ true = Q.fills y s in
    heads_left more1 more2 rest (rw f at h)

pair_after : (more1 more2 : List Kind) (e2 : Bool) (rest : List Token) → heads (cond e2 (more1 ++ more2) more2) rest ≡ false → heads more2 rest ≡ false
pair_after more1 more2 true rest h = heads_right more1 more2 rest h
pair_after more1 more2 false rest h = h

pair_takes : {A B : Type 0} (first1 more1 : List Kind) (e1 : Bool) (R : Rule A) (p : Reader A) (first2 more2 : List Kind) (e2 : Bool) (S : Rule B) (q : Reader B) → Exact first1 more1 e1 R p → Exact first2 more2 e2 S q → apart more1 first2 ≡ true → (x : A × B) (a rest : List Token) → (pair R S).spells x a → heads (cond e2 (more1 ++ more2) more2) rest ≡ false → read_pair p q (a ++ rest) ≡ Ok (x, rest)
pair_takes first1 more1 e1 R p first2 more2 e2 S q P Q apart12 x a rest h go_on =
    let one : p (h.0 ++ (h.1 ++ rest)) ≡ Ok (x.0, h.1 ++ rest) = P.takes x.0 h.0 (h.1 ++ rest) h.3 (pair_gap more1 first2 more2 e2 S q Q apart12 x.1 h.1 rest h.4 go_on) in
    let two : q (h.1 ++ rest) ≡ Ok (x.1, rest) = Q.takes x.1 h.1 rest h.4 (pair_after more1 more2 e2 rest go_on) in
    rw (h.2, append_assoc h.0 h.1 rest, one, two) refl

pair_suffix : {A B : Type 0} (p : Reader A) (q : Reader B) (ts : List Token) (n : ℕ) → left (p ts) ≤ n → ((us : List Token) → left (q us) ≤ length us) → left (read_pair p q ts) ≤ n
pair_suffix p q ts n le q-le = go (p ts) le
  where
    two : {A B : Type 0} (x : A) (r : Result (B × List Token) Stop) → left (r >>= λ y. found (both x y.0) y.1) ≡ left r
    two x (Ok y) = refl
    two x (Err f) = refl

    go : {A : Type 0} (r : Result (A × List Token) Stop) → left r ≤ n → left (r >>= λ x. q x.1 >>= λ y. found (both x.0 y.0) y.1) ≤ n
    go (Ok x) le = rw (two x.0 (q x.1)) (let h = q-le x.1 in omega arith)
    go (Err f) le = le

pair_passes : {A B : Type 0} (first1 more1 : List Kind) (e1 : Bool) (R : Rule A) (p : Reader A) (first2 more2 : List Kind) (e2 : Bool) (S : Rule B) (q : Reader B) → Exact first1 more1 e1 R p → Exact first2 more2 e2 S q → apart more1 first2 ≡ true → (a rest : List Token) → (pair R S).begins a → left (read_pair p q (a ++ rest)) ≤ length rest
pair_passes first1 more1 e1 R p first2 more2 e2 S q P Q apart12 a rest (inl h) = pair_suffix p q (a ++ rest) (length rest) (P.passes a rest h) (suffix first2 more2 e2 S q Q)
pair_passes first1 more1 e1 R p first2 more2 e2 S q P Q apart12 a rest (inr h) = go h.2 h.3 h.5
  where
    two : {A B : Type 0} (x : A) (r : Result (B × List Token) Stop) → left (r >>= λ y. found (both x y.0) y.1) ≡ left r
    two x (Ok y) = refl
    two x (Err f) = refl

    go : (b : List Token) → a ≡ h.1 ++ b → S.begins b → left (read_pair p q (a ++ rest)) ≤ length rest
    go [] parts begun =
        let a-is : a ≡ h.1 = parts ∙ append-nil h.1 in
        pair_suffix p q (a ++ rest) (length rest) (P.passes a rest (subst (λ (w : List Token). R.begins w) (sym a-is) (P.opens h.0 h.1 h.4))) (suffix first2 more2 e2 S q Q)
    go (t ∷ u) parts begun =
        let one : p (h.1 ++ ((t ∷ u) ++ rest)) ≡ Ok (h.0, (t ∷ u) ++ rest) = P.takes h.0 h.1 ((t ∷ u) ++ rest) h.4 (apart_left more1 first2 t.kind apart12 (Q.starts t u begun)) in
        rw (parts, append_assoc h.1 (t ∷ u) rest, one, two h.0 (q ((t ∷ u) ++ rest))) (Q.passes (t ∷ u) rest begun)

pub exact_pair : {A B : Type 0} (first1 more1 : List Kind) (e1 : Bool) (R : Rule A) (p : Reader A) (first2 more2 : List Kind) (e2 : Bool) (S : Rule B) (q : Reader B) → Exact first1 more1 e1 R p → Exact first2 more2 e2 S q → apart more1 first2 ≡ true → Exact (cond e1 (first1 ++ first2) first1) (cond e2 (more1 ++ more2) more2) (e1 && e2) (pair R S) (read_pair p q)
exact_pair first1 more1 e1 R p first2 more2 e2 S q P Q apart12 = record {
  void = inl P.void;
  opens = λ x a h. inr (x.0, h.0, h.1, h.2, h.3, Q.opens x.1 h.1 h.4);
  shrinks = pair_shrinks first1 more1 e1 R p first2 more2 e2 S q P Q;
  starts = pair_starts first1 more1 e1 R p first2 more2 e2 S q P Q;
  fills = pair_fills first1 more1 e1 R p first2 more2 e2 S q P Q;
  sound = pair_sound first1 more1 e1 R p first2 more2 e2 S q P Q;
  stops = pair_stops first1 more1 e1 R p first2 more2 e2 S q P Q;
  takes = pair_takes first1 more1 e1 R p first2 more2 e2 S q P Q apart12;
  passes = pair_passes first1 more1 e1 R p first2 more2 e2 S q P Q apart12;
}

-- ---- a choice

pub choice_is : {A : Type 0} (b : Bool) (r s : Result (A × List Token) Stop) (y : Result (A × List Token) Stop) → cond b r s ≡ y → ((b ≡ true) × (r ≡ y)) ⊎ ((b ≡ false) × (s ≡ y))
choice_is true r s y e = inl (refl, e)
choice_is false r s y e = inr (refl, e)

choice_sound : {A : Type 0} (first1 more1 : List Kind) (R : Rule A) (p : Reader A) (first2 more2 : List Kind) (S : Rule A) (q : Reader A) → Exact first1 more1 false R p → Exact first2 more2 false S q → (ts : List Token) (x : A) (rest : List Token) → read_choice first1 p q ts ≡ Ok (x, rest) → Sound (choice R S) ts x rest
choice_sound first1 more1 R p first2 more2 S q P Q ts x rest e =
    elim (choice_is (heads first1 ts) (p ts) (q ts) (found x rest) e) [
      | inl b ↦ (let s = P.sound ts x rest b.1 in record { front = s.front; parts = s.parts; spelled = inl s.spelled })
      | inr b ↦ (let s = Q.sound ts x rest b.1 in record { front = s.front; parts = s.parts; spelled = inr s.spelled })
    ]

choice_stops : {A : Type 0} (first1 more1 : List Kind) (R : Rule A) (p : Reader A) (first2 more2 : List Kind) (S : Rule A) (q : Reader A) → Exact first1 more1 false R p → Exact first2 more2 false S q → (ts : List Token) (f : Stop) → read_choice first1 p q ts ≡ Err f → Stops (choice R S) ts f
choice_stops first1 more1 R p first2 more2 S q P Q ts f e =
    elim (choice_is (heads first1 ts) (p ts) (q ts) (Err f) e) [
      | inl b ↦ (let s = P.stops ts f b.1 in record { front = s.front; rest = s.rest; parts = s.parts; count = s.count; begun = inl s.begun })
      | inr b ↦ (let s = Q.stops ts f b.1 in record { front = s.front; rest = s.rest; parts = s.parts; count = s.count; begun = inr s.begun })
    ]

choice_takes : {A : Type 0} (first1 more1 : List Kind) (R : Rule A) (p : Reader A) (first2 more2 : List Kind) (S : Rule A) (q : Reader A) → Exact first1 more1 false R p → Exact first2 more2 false S q → apart first1 first2 ≡ true → (x : A) (a rest : List Token) → (choice R S).spells x a → heads (more1 ++ more2) rest ≡ false → read_choice first1 p q (a ++ rest) ≡ Ok (x, rest)
choice_takes first1 more1 R p first2 more2 S q P Q apart12 x [] rest (inl h) e = absurd (let f = P.fills x h in cc)
choice_takes first1 more1 R p first2 more2 S q P Q apart12 x [] rest (inr h) e = absurd (let f = Q.fills x h in cc)
choice_takes first1 more1 R p first2 more2 S q P Q apart12 x (t ∷ u) rest (inl h) e =
    let yes : among first1 t.kind ≡ true = P.starts t u (P.opens x (t ∷ u) h) in
    rw yes (P.takes x (t ∷ u) rest h (heads_left more1 more2 rest e))
choice_takes first1 more1 R p first2 more2 S q P Q apart12 x (t ∷ u) rest (inr h) e =
    let no : among first1 t.kind ≡ false = apart_left first1 first2 t.kind apart12 (Q.starts t u (Q.opens x (t ∷ u) h)) in
    rw no (Q.takes x (t ∷ u) rest h (heads_right more1 more2 rest e))

choice_suffix : {A : Type 0} (b : Bool) (r s : Result (A × List Token) Stop) (n : ℕ) → left r ≤ n → left s ≤ n → left (cond b r s) ≤ n
choice_suffix true r s n h k = h
choice_suffix false r s n h k = k

choice_passes : {A : Type 0} (first1 more1 : List Kind) (R : Rule A) (p : Reader A) (first2 more2 : List Kind) (S : Rule A) (q : Reader A) → Exact first1 more1 false R p → Exact first2 more2 false S q → apart first1 first2 ≡ true → (a rest : List Token) → (choice R S).begins a → left (read_choice first1 p q (a ++ rest)) ≤ length rest
choice_passes first1 more1 R p first2 more2 S q P Q apart12 [] rest h = choice_suffix (heads first1 rest) (p rest) (q rest) (length rest) (suffix first1 more1 false R p P rest) (suffix first2 more2 false S q Q rest)
choice_passes first1 more1 R p first2 more2 S q P Q apart12 (t ∷ u) rest (inl h) =
    let yes : among first1 t.kind ≡ true = P.starts t u h in
    rw yes (P.passes (t ∷ u) rest h)
choice_passes first1 more1 R p first2 more2 S q P Q apart12 (t ∷ u) rest (inr h) =
    let no : among first1 t.kind ≡ false = apart_left first1 first2 t.kind apart12 (Q.starts t u h) in
    rw no (Q.passes (t ∷ u) rest h)

choice_opens : {A : Type 0} (R S : Rule A) (x : A) (a : List Token) → ((y : A) (b : List Token) → R.spells y b → R.begins b) → ((y : A) (b : List Token) → S.spells y b → S.begins b) → (choice R S).spells x a → (choice R S).begins a
choice_opens R S x a o1 o2 (inl h) = inl (o1 x a h)
choice_opens R S x a o1 o2 (inr h) = inr (o2 x a h)

choice_starts : {A : Type 0} (first1 first2 : List Kind) (R S : Rule A) (t : Token) (u : List Token) → (R.begins (t ∷ u) → among first1 t.kind ≡ true) → (S.begins (t ∷ u) → among first2 t.kind ≡ true) → (choice R S).begins (t ∷ u) → among (first1 ++ first2) t.kind ≡ true
choice_starts first1 first2 R S t u s1 s2 (inl h) = among-append first1 first2 t.kind ∙ or_true_left (among first1 t.kind) (among first2 t.kind) (s1 h)
choice_starts first1 first2 R S t u s1 s2 (inr h) = among-append first1 first2 t.kind ∙ or_true_right (among first1 t.kind) (among first2 t.kind) (s2 h)

choice_fills : {A : Type 0} (R S : Rule A) (x : A) → (R.spells x [] → false ≡ true) → (S.spells x [] → false ≡ true) → (choice R S).spells x [] → false ≡ true
choice_fills R S x f1 f2 (inl h) = f1 h
choice_fills R S x f1 f2 (inr h) = f2 h

choice_shrinks : {A : Type 0} (R S : Rule A) (a b : List Token) → (R.begins (a ++ b) → R.begins a) → (S.begins (a ++ b) → S.begins a) → (choice R S).begins (a ++ b) → (choice R S).begins a
choice_shrinks R S a b s1 s2 (inl h) = inl (s1 h)
choice_shrinks R S a b s1 s2 (inr h) = inr (s2 h)

pub exact_choice : {A : Type 0} (first1 more1 : List Kind) (R : Rule A) (p : Reader A) (first2 more2 : List Kind) (S : Rule A) (q : Reader A) → Exact first1 more1 false R p → Exact first2 more2 false S q → apart first1 first2 ≡ true → Exact (first1 ++ first2) (more1 ++ more2) false (choice R S) (read_choice first1 p q)
exact_choice first1 more1 R p first2 more2 S q P Q apart12 = record {
  void = inl P.void;
  opens = λ x a. choice_opens R S x a P.opens Q.opens;
  shrinks = λ a b. choice_shrinks R S a b (P.shrinks a b) (Q.shrinks a b);
  starts = λ t u. choice_starts first1 first2 R S t u (P.starts t u) (Q.starts t u);
  fills = λ x. choice_fills R S x (P.fills x) (Q.fills x);
  sound = choice_sound first1 more1 R p first2 more2 S q P Q;
  stops = choice_stops first1 more1 R p first2 more2 S q P Q;
  takes = choice_takes first1 more1 R p first2 more2 S q P Q apart12;
  passes = choice_passes first1 more1 R p first2 more2 S q P Q apart12;
}

-- ---- a value seen otherwise

pub exact_seen : {A B : Type 0} (f : A → B) (first more : List Kind) (empty : Bool) (R : Rule A) (p : Reader A) → Exact first more empty R p → Exact first more empty (seen f R) (read_seen f p)
exact_seen {A = A} {B = B} f first more empty R p P = record {
  void = P.void;
  opens = λ y a h. P.opens h.0 a h.2;
  shrinks = P.shrinks;
  starts = P.starts;
  fills = λ y h. P.fills h.0 h.2;
  sound = λ ts y rest e. (
      let b = bind_ok (p ts) (λ x. found (f x.0) x.1) (y, rest) e in
      let s = P.sound ts b.0.0 b.0.1 b.1 in
      subst (λ (w : B × List Token). Sound (seen f R) ts w.0 w.1) (ok_is (f b.0.0, b.0.1) (y, rest) b.2) (record { front = s.front; parts = s.parts; spelled = (b.0.0, refl, s.spelled) }));
  stops = λ ts d e. elim (bind_err (p ts) (λ x. found (f x.0) x.1) d e) [
    | inl b ↦ (let s = P.stops ts d b in record { front = s.front; rest = s.rest; parts = s.parts; count = s.count; begun = s.begun })
    | inr b ↦ absurd (let w = b.2 in cc)
  ];
  takes = λ y a rest h e. (let one = P.takes h.0 a rest h.2 e in rw (one, h.1) refl);
  passes = λ a rest h. rw (left_seen (p (a ++ rest)) f) (P.passes a rest h);
}

-- ---- larger sets

pub exact_weaker : {A : Type 0} (first more : List Kind) (empty : Bool) (R : Rule A) (p : Reader A) (first' more' : List Kind) → Exact first more empty R p → within first first' ≡ true → within more more' ≡ true → Exact first' more' empty R p
exact_weaker first more empty R p first' more' P w1 w2 = record {
  void = P.void;
  opens = P.opens;
  shrinks = P.shrinks;
  starts = λ t u h. within_among first first' t.kind w1 (P.starts t u h);
  fills = P.fills;
  sound = P.sound;
  stops = P.stops;
  takes = λ x a rest h e. P.takes x a rest h (heads_within more more' rest w2 e);
  passes = P.passes;
}

-- ---- an option

optional_opens : {A : Type 0} (R : Rule A) (x : Option A) (a : List Token) → ((y : A) (b : List Token) → R.spells y b → R.begins b) → (optional R).spells x a → (optional R).begins a
optional_opens R None a o h = inl h
optional_opens R (Some x) a o h = inr (o x a h)

optional_shrinks : {A : Type 0} (R : Rule A) (a b : List Token) → (R.begins (a ++ b) → R.begins a) → (optional R).begins (a ++ b) → (optional R).begins a
optional_shrinks R a b s (inl h) = inl (empty_front a b h)
optional_shrinks R a b s (inr h) = inr (s h)

optional_starts : {A : Type 0} (first : List Kind) (R : Rule A) (t : Token) (u : List Token) → (R.begins (t ∷ u) → among first t.kind ≡ true) → (optional R).begins (t ∷ u) → among first t.kind ≡ true
optional_starts first R t u s (inl h) = absurd cc
optional_starts first R t u s (inr h) = s h

abbrev pub none_found : {A : Type 0} → List Token → Result (Option A × List Token) Stop
none_found ts = Ok (None, ts)

abbrev pub some_of : {A : Type 0} → A → Option A
some_of x = Some x

optional_sound : {A : Type 0} (first more : List Kind) (R : Rule A) (p : Reader A) → Exact first more false R p → (ts : List Token) (x : Option A) (rest : List Token) → read_optional first p ts ≡ Ok (x, rest) → Sound (optional R) ts x rest
optional_sound {A = A} first more R p P ts x rest e =
    elim (choice_is (heads first ts) (p ts >>= λ x. found (some_of x.0) x.1) (none_found ts) (found x rest) e) [
      | inl b ↦ (
          let c = bind_ok (p ts) (λ x. found (some_of x.0) x.1) (x, rest) b.1 in
          let s = P.sound ts c.0.0 c.0.1 c.1 in
          subst (λ (w : Option A × List Token). Sound (optional R) ts w.0 w.1) (ok_is (some_of c.0.0, c.0.1) (x, rest) c.2) (record { front = s.front; parts = s.parts; spelled = s.spelled }))
      | inr b ↦ subst (λ (w : Option A × List Token). Sound (optional R) ts w.0 w.1) (ok_is (None, ts) (x, rest) b.1) (record { front = []; parts = refl; spelled = refl })
    ]

optional_stops : {A : Type 0} (first more : List Kind) (R : Rule A) (p : Reader A) → Exact first more false R p → (ts : List Token) (f : Stop) → read_optional first p ts ≡ Err f → Stops (optional R) ts f
optional_stops first more R p P ts f e =
    elim (choice_is (heads first ts) (p ts >>= λ x. found (some_of x.0) x.1) (none_found ts) (Err f) e) [
      | inl b ↦ elim (bind_err (p ts) (λ x. found (some_of x.0) x.1) f b.1) [
        | inl c ↦ (let s = P.stops ts f c in record { front = s.front; rest = s.rest; parts = s.parts; count = s.count; begun = inr s.begun })
        | inr c ↦ absurd (let w = c.2 in cc)
      ]
      | inr b ↦ absurd (let w = b.1 in cc)
    ]

optional_takes : {A : Type 0} (first more : List Kind) (R : Rule A) (p : Reader A) → Exact first more false R p → (x : Option A) (a rest : List Token) → (optional R).spells x a → heads (first ++ more) rest ≡ false → read_optional first p (a ++ rest) ≡ Ok (x, rest)
optional_takes first more R p P None a rest h e =
    let no : heads first rest ≡ false = heads_left first more rest e in
    rw (h, no) refl
optional_takes first more R p P (Some x) [] rest h e = absurd (let f = P.fills x h in cc)
optional_takes first more R p P (Some x) (t ∷ u) rest h e =
    let yes : among first t.kind ≡ true = P.starts t u (P.opens x (t ∷ u) h) in
    let one : p (t ∷ (u ++ rest)) ≡ Ok (x, rest) = P.takes x (t ∷ u) rest h (heads_right first more rest e) in
    rw (yes, one) refl

optional_suffix : {A : Type 0} (first more : List Kind) (R : Rule A) (p : Reader A) → Exact first more false R p → (ts : List Token) → left (read_optional first p ts) ≤ length ts
optional_suffix {A = A} first more R p P ts = choice_suffix (heads first ts) (p ts >>= λ x. found (some_of x.0) x.1) (none_found ts) (length ts) (rw (left_seen {B = Option A} (p ts) some_of) (suffix first more false R p P ts)) (omega arith)

optional_passes : {A : Type 0} (first more : List Kind) (R : Rule A) (p : Reader A) → Exact first more false R p → (a rest : List Token) → (optional R).begins a → left (read_optional first p (a ++ rest)) ≤ length rest
optional_passes first more R p P [] rest h = optional_suffix first more R p P rest
optional_passes first more R p P (t ∷ u) rest (inl h) = absurd cc
optional_passes {A = A} first more R p P (t ∷ u) rest (inr h) =
    let yes : among first t.kind ≡ true = P.starts t u h in
    rw yes (rw (left_seen {B = Option A} (p (t ∷ (u ++ rest))) some_of) (P.passes (t ∷ u) rest h))

pub exact_optional : {A : Type 0} (first more : List Kind) (R : Rule A) (p : Reader A) → Exact first more false R p → Exact first (first ++ more) true (optional R) (read_optional first p)
exact_optional first more R p P = record {
  void = inl refl;
  opens = λ x a. optional_opens R x a P.opens;
  shrinks = λ a b. optional_shrinks R a b (P.shrinks a b);
  starts = λ t u. optional_starts first R t u (P.starts t u);
  fills = λ x h. refl;
  sound = optional_sound first more R p P;
  stops = optional_stops first more R p P;
  takes = optional_takes first more R p P;
  passes = optional_passes first more R p P;
}

-- ---- a repetition

abbrev pub many_none : {A : Type 0} → List Token → Result (List A × List Token) Stop
many_none ts = Ok ([], ts)

abbrev pub many_more : {A : Type 0} → A → List A × List Token → Result (List A × List Token) Stop
many_more x xs = Ok (x ∷ xs.0, xs.1)

pub many_times : {A : Type 0} (n : ℕ) (first : List Kind) (p : Reader A) (ts : List Token) (y : Result (List A × List Token) Stop) → read_times (suc n) first p ts ≡ y → ((heads first ts ≡ true) × ((p ts >>= λ x. read_times n first p x.1 >>= λ xs. many_more x.0 xs) ≡ y)) ⊎ ((heads first ts ≡ false) × (many_none ts ≡ y))
many_times n first p ts y e = choice_is (heads first ts) (p ts >>= λ x. read_times n first p x.1 >>= λ xs. many_more x.0 xs) (many_none ts) y e

many_opens : {A : Type 0} (R : Rule A) → R.begins [] → (xs : List A) (a : List Token) → (many R).spells xs a → (many R).begins a
many_opens R void xs a h = (xs, a, [], sym (append-nil a), h, void)

many_front : {A : Type 0} (R : Rule A) → R.begins [] → ((x : A) (a : List Token) → R.spells x a → R.begins a) → ((a b : List Token) → R.begins (a ++ b) → R.begins a) → (xs : List A) (a b c : List Token) → a ++ b ≡ c → (many R).spells xs c → (many R).begins a
many_front R void opens shrinks [] a b c e h = ([], [], [], empty_front a b (e ∙ h), refl, void)
many_front R void opens shrinks (x ∷ xs) a b c e h =
    elim (split a b h.0 h.1 (e ∙ h.2)) [
      | inl m ↦ ([], [], a, refl, refl, shrinks a m.0 (subst (λ (w : List Token). R.begins w) m.1 (opens x h.0 h.3)))
      | inr m ↦ (
          let ih = many_front R void opens shrinks xs m.0 b h.1 (sym m.2) h.4 in
          let parts : a ≡ (h.0 ++ ih.1) ++ ih.2 = m.1 ∙ ap (λ (w : List Token). h.0 ++ w) ih.3 ∙ sym (append_assoc h.0 ih.1 ih.2) in
          (x ∷ ih.0, h.0 ++ ih.1, ih.2, parts, (h.0, ih.1, refl, h.3, ih.4), ih.5))
    ]

many_shrinks : {A : Type 0} (R : Rule A) → R.begins [] → ((x : A) (a : List Token) → R.spells x a → R.begins a) → ((a b : List Token) → R.begins (a ++ b) → R.begins a) → (a b : List Token) → (many R).begins (a ++ b) → (many R).begins a
many_shrinks R void opens shrinks a b h =
    elim (split a b h.1 h.2 h.3) [
      | inl m ↦ many_front R void opens shrinks h.0 a m.0 h.1 (sym m.1) h.4
      | inr m ↦ (h.0, h.1, m.0, m.1, h.4, shrinks m.0 b (subst (λ (w : List Token). R.begins w) m.2 h.5))
    ]

-- a list that begins a repetition begins one item at its head
many_starts : {A : Type 0} (first more : List Kind) (R : Rule A) (p : Reader A) → Exact first more false R p → (xs : List A) (t : Token) (u a b : List Token) → t ∷ u ≡ a ++ b → (many R).spells xs a → R.begins b → among first t.kind ≡ true
many_starts first more R p P [] t u a b e h begun = P.starts t u (subst (λ (w : List Token). R.begins w) (sym (e ∙ ap (λ (w : List Token). w ++ b) h)) begun)
many_starts {A = A} first more R p P (x ∷ xs) t u a b e h begun = go h.0 h.2 h.3
  where
    go : (c : List Token) → a ≡ c ++ h.1 → R.spells x c → among first t.kind ≡ true
    go [] f s = absurd (let g = P.fills x s in cc)
    go (s ∷ c) f r =
        let whole : t ∷ u ≡ ((s ∷ c) ++ h.1) ++ b = e ∙ ap (λ (w : List Token). w ++ b) f in
        let s-is : s ≡ t = cc in
        P.starts t c (subst (λ (w : Token). R.begins (w ∷ c)) s-is (P.opens x (s ∷ c) r))

many_sound : {A : Type 0} (first more : List Kind) (R : Rule A) (p : Reader A) → Exact first more false R p → (n : ℕ) (ts : List Token) (xs : List A) (rest : List Token) → read_times n first p ts ≡ Ok (xs, rest) → Sound (many R) ts xs rest
many_sound {A = A} first more R p P zero ts xs rest e = subst (λ (w : List A × List Token). Sound (many R) ts w.0 w.1) (ok_is ([], ts) (xs, rest) e) (record { front = []; parts = refl; spelled = refl })
many_sound {A = A} first more R p P (suc n) ts xs rest e =
    elim (many_times n first p ts (found xs rest) e) [
      | inl b ↦ (
          let c = bind_ok (p ts) (λ x. read_times n first p x.1 >>= λ xs. many_more x.0 xs) (xs, rest) b.1 in
          let d = bind_ok (read_times n first p c.0.1) (λ xs. many_more c.0.0 xs) (xs, rest) c.2 in
          let s = P.sound ts c.0.0 c.0.1 c.1 in
          let t = many_sound first more R p P n c.0.1 d.0.0 d.0.1 d.1 in
          let parts : ts ≡ (s.front ++ t.front) ++ d.0.1 = s.parts ∙ ap (λ (w : List Token). s.front ++ w) t.parts ∙ sym (append_assoc s.front t.front d.0.1) in
          subst (λ (w : List A × List Token). Sound (many R) ts w.0 w.1) (ok_is (c.0.0 ∷ d.0.0, d.0.1) (xs, rest) d.2) (record { front = s.front ++ t.front; parts = parts; spelled = (s.front, t.front, refl, s.spelled, t.spelled) }))
      | inr b ↦ subst (λ (w : List A × List Token). Sound (many R) ts w.0 w.1) (ok_is ([], ts) (xs, rest) b.1) (record { front = []; parts = refl; spelled = refl })
    ]

many_stops : {A : Type 0} (first more : List Kind) (R : Rule A) (p : Reader A) → Exact first more false R p → (n : ℕ) (ts : List Token) (f : Stop) → read_times n first p ts ≡ Err f → Stops (many R) ts f
many_stops first more R p P zero ts f e = absurd cc
many_stops first more R p P (suc n) ts f e =
    elim (many_times n first p ts (Err f) e) [
      | inl b ↦ elim (bind_err (p ts) (λ x. read_times n first p x.1 >>= λ xs. many_more x.0 xs) f b.1) [
        | inl c ↦ (let s = P.stops ts f c in record { front = s.front; rest = s.rest; parts = s.parts; count = s.count; begun = ([], [], s.front, refl, refl, s.begun) })
        | inr c ↦ elim (bind_err (read_times n first p c.0.1) (λ xs. many_more c.0.0 xs) f c.2) [
          | inl d ↦ (
              let s = P.sound ts c.0.0 c.0.1 c.1 in
              let t = many_stops first more R p P n c.0.1 f d in
              let g = t.begun in
              let parts : ts ≡ (s.front ++ t.front) ++ t.rest = s.parts ∙ ap (λ (w : List Token). s.front ++ w) t.parts ∙ sym (append_assoc s.front t.front t.rest) in
              let whole : s.front ++ t.front ≡ (s.front ++ g.1) ++ g.2 = ap (λ (w : List Token). s.front ++ w) g.3 ∙ sym (append_assoc s.front g.1 g.2) in
              record { front = s.front ++ t.front; rest = t.rest; parts = parts; count = t.count; begun = (c.0.0 ∷ g.0, s.front ++ g.1, g.2, whole, (s.front, g.1, refl, s.spelled, g.4), g.5) })
          | inr d ↦ absurd (let w = d.2 in cc)
        ]
      ]
      | inr b ↦ absurd (let w = b.1 in cc)
    ]

-- what stands behind an item
many_gap : {A : Type 0} (first more : List Kind) (R : Rule A) (p : Reader A) → Exact first more false R p → apart more first ≡ true → (xs : List A) (b rest : List Token) → (many R).spells xs b → heads (first ++ more) rest ≡ false → heads more (b ++ rest) ≡ false
many_gap first more R p P apart' xs [] rest h e = heads_right first more rest e
many_gap first more R p P apart' xs (t ∷ u) rest h e = apart_left more first t.kind apart' (many_starts first more R p P xs t u (t ∷ u) [] (sym (append-nil (t ∷ u))) h P.void)

many_takes : {A : Type 0} (first more : List Kind) (R : Rule A) (p : Reader A) → Exact first more false R p → apart more first ≡ true → (n : ℕ) (xs : List A) (a rest : List Token) → length (a ++ rest) ≤ n → (many R).spells xs a → heads (first ++ more) rest ≡ false → read_times n first p (a ++ rest) ≡ Ok (xs, rest)
many_takes first more R p P apart' zero [] a rest le h e = rw h refl
many_takes first more R p P apart' (suc n) [] a rest le h e =
    let no : heads first rest ≡ false = heads_left first more rest e in
    rw (h, no) refl
many_takes {A = A} first more R p P apart' zero (x ∷ xs) a rest le h e = go h.0 h.2 h.3
  where
    go : (c : List Token) → a ≡ c ++ h.1 → R.spells x c → read_times 0 first p (a ++ rest) ≡ Ok (x ∷ xs, rest)
    go [] f s = absurd (let g = P.fills x s in cc)
    go (t ∷ c) f s = absurd (let long : length ((t ∷ (c ++ h.1)) ++ rest) ≤ 0 = subst (λ (w : List Token). length (w ++ rest) ≤ 0) f le in omega arith)
many_takes {A = A} first more R p P apart' (suc n) (x ∷ xs) a rest le h e =
    go h.0 h.2 h.3 (λ le'. many_takes first more R p P apart' n xs h.1 rest le' h.4 e)
  where
    go : (c : List Token) → a ≡ c ++ h.1 → R.spells x c → (length (h.1 ++ rest) ≤ n → read_times n first p (h.1 ++ rest) ≡ Ok (xs, rest)) → read_times (suc n) first p (a ++ rest) ≡ Ok (x ∷ xs, rest)
    go [] f s ih = absurd (let g = P.fills x s in cc)
    go (t ∷ c) f s ih =
        let regrouped : a ++ rest ≡ t ∷ (c ++ (h.1 ++ rest)) = ap (λ (w : List Token). w ++ rest) f ∙ append_assoc (t ∷ c) h.1 rest in
        let long : length (t ∷ (c ++ (h.1 ++ rest))) ≤ suc n = subst (λ (w : List Token). length w ≤ suc n) regrouped le in
        let yes : among first t.kind ≡ true = P.starts t c (P.opens x (t ∷ c) s) in
        let one : p (t ∷ (c ++ (h.1 ++ rest))) ≡ Ok (x, h.1 ++ rest) = P.takes x (t ∷ c) (h.1 ++ rest) s (many_gap first more R p P apart' xs h.1 rest h.4 e) in
        let two : read_times n first p (h.1 ++ rest) ≡ Ok (xs, rest) = ih (omega (arith, length-append c (h.1 ++ rest))) in
        rw (regrouped, yes, one, two) refl

many_left : {A : Type 0} (x : A) (r : Result (List A × List Token) Stop) → left (r >>= λ xs. many_more x xs) ≡ left r
many_left x (Ok y) = refl
many_left x (Err f) = refl

many_then : {A : Type 0} (n m : ℕ) (first : List Kind) (p : Reader A) (r : Result (A × List Token) Stop) → ((ts : List Token) → left (read_times n first p ts) ≤ length ts) → left r ≤ m → left (r >>= λ x. read_times n first p x.1 >>= λ xs. many_more x.0 xs) ≤ m
many_then n m first p (Ok x) less le = rw (many_left x.0 (read_times n first p x.1)) (let h = less x.1 in omega arith)
many_then n m first p (Err f) less le = le

many_suffix : {A : Type 0} (first more : List Kind) (R : Rule A) (p : Reader A) → Exact first more false R p → (n : ℕ) (ts : List Token) → left (read_times n first p ts) ≤ length ts
many_suffix first more R p P zero ts = omega arith
many_suffix first more R p P (suc n) ts = choice_suffix (heads first ts) (p ts >>= λ x. read_times n first p x.1 >>= λ xs. many_more x.0 xs) (many_none ts) (length ts) (many_then n (length ts) first p (p ts) (many_suffix first more R p P n) (suffix first more false R p P ts)) (omega arith)

-- an item is begun at the head
many_passes_one : {A : Type 0} (first more : List Kind) (R : Rule A) (p : Reader A) → Exact first more false R p → (n : ℕ) (b rest : List Token) → length (b ++ rest) ≤ n → R.begins b → left (read_times n first p (b ++ rest)) ≤ length rest
many_passes_one first more R p P n [] rest le h = many_suffix first more R p P n rest
many_passes_one first more R p P zero (t ∷ u) rest le h = absurd (omega arith)
many_passes_one first more R p P (suc n) (t ∷ u) rest le h =
    let yes : among first t.kind ≡ true = P.starts t u h in
    rw yes (many_then n (length rest) first p (p (t ∷ (u ++ rest))) (many_suffix first more R p P n) (P.passes (t ∷ u) rest h))

many_passes : {A : Type 0} (first more : List Kind) (R : Rule A) (p : Reader A) → Exact first more false R p → apart more first ≡ true → (n : ℕ) (xs : List A) (a b c rest : List Token) → a ≡ b ++ c → length (a ++ rest) ≤ n → (many R).spells xs b → R.begins c → left (read_times n first p (a ++ rest)) ≤ length rest
many_passes first more R p P apart' n [] a b c rest e le h begun = many_passes_one first more R p P n a rest le (subst (λ (w : List Token). R.begins w) (sym (e ∙ ap (λ (w : List Token). w ++ c) h)) begun)
many_passes {A = A} first more R p P apart' zero (x ∷ xs) a b c rest e le h begun = many_suffix_zero
  where
    many_suffix_zero : length (a ++ rest) ≤ length rest
    many_suffix_zero = omega arith
many_passes {A = A} first more R p P apart' (suc n) (x ∷ xs) a b c rest e le h begun =
    go h.0 h.2 h.3 (h.1 ++ c) refl (λ le'. many_passes first more R p P apart' n xs (h.1 ++ c) h.1 c rest refl le' h.4 begun)
  where
    go : (d : List Token) → b ≡ d ++ h.1 → R.spells x d → (f : List Token) → f ≡ h.1 ++ c → (length ((h.1 ++ c) ++ rest) ≤ n → left (read_times n first p ((h.1 ++ c) ++ rest)) ≤ length rest) → left (read_times (suc n) first p (a ++ rest)) ≤ length rest
    go [] g s f f-is ih = absurd (let w = P.fills x s in cc)
    go (t ∷ d) g s [] f-is ih =
        let a-is : a ≡ t ∷ d = e ∙ ap (λ (w : List Token). w ++ c) g ∙ append_assoc (t ∷ d) h.1 c ∙ ap (λ (w : List Token). (t ∷ d) ++ w) (sym f-is) ∙ append-nil (t ∷ d) in
        many_passes_one first more R p P (suc n) a rest le (subst (λ (w : List Token). R.begins w) (sym a-is) (P.opens x (t ∷ d) s))
    go (t ∷ d) g s (y ∷ f) f-is ih =
        let regrouped : a ++ rest ≡ t ∷ (d ++ ((h.1 ++ c) ++ rest)) = ap (λ (w : List Token). w ++ rest) (e ∙ ap (λ (w : List Token). w ++ c) g ∙ append_assoc (t ∷ d) h.1 c) ∙ append_assoc (t ∷ d) (h.1 ++ c) rest in
        let long : length (t ∷ (d ++ ((h.1 ++ c) ++ rest))) ≤ suc n = subst (λ (w : List Token). length w ≤ suc n) regrouped le in
        let yes : among first t.kind ≡ true = P.starts t d (P.opens x (t ∷ d) s) in
        let gap : heads more ((y ∷ f) ++ rest) ≡ false = apart_left more first y.kind apart' (many_starts first more R p P xs y f h.1 c f-is h.4 begun) in
        let one : p (t ∷ (d ++ ((h.1 ++ c) ++ rest))) ≡ Ok (x, (h.1 ++ c) ++ rest) = P.takes x (t ∷ d) ((h.1 ++ c) ++ rest) s (subst (λ (w : List Token). heads more (w ++ rest) ≡ false) f-is gap) in
        let two : left (read_times n first p ((h.1 ++ c) ++ rest)) ≤ length rest = ih (omega (arith, length-append d ((h.1 ++ c) ++ rest))) in
        rw (regrouped, yes, one, many_left x (read_times n first p ((h.1 ++ c) ++ rest))) two

pub exact_many : {A : Type 0} (first more : List Kind) (R : Rule A) (p : Reader A) → Exact first more false R p → apart more first ≡ true → Exact first (first ++ more) true (many R) (read_many first p)
exact_many first more R p P apart' = record {
  void = ([], [], [], refl, refl, P.void);
  opens = many_opens R P.void;
  shrinks = many_shrinks R P.void P.opens P.shrinks;
  starts = λ t u h. many_starts first more R p P h.0 t u h.1 h.2 h.3 h.4 h.5;
  fills = λ x h. refl;
  sound = λ ts xs rest e. many_sound first more R p P (length ts) ts xs rest e;
  stops = λ ts f e. many_stops first more R p P (length ts) ts f e;
  takes = λ xs a rest h e. many_takes first more R p P apart' (length (a ++ rest)) xs a rest (omega arith) h e;
  passes = λ a rest h. many_passes first more R p P apart' (length (a ++ rest)) h.0 a h.1 h.2 rest h.3 (omega arith) h.4 h.5;
}

-- ---- the same, with what the facts show left out

pub of_seen : {A B : Type 0} {first more : List Kind} {empty : Bool} {R : Rule A} {p : Reader A} (f : A → B) → Exact first more empty R p → Exact first more empty (seen f R) (read_seen f p)
of_seen {first = first} {more = more} {empty = empty} {R = R} {p = p} f P = exact_seen f first more empty R p P

pub of_pair : {A B : Type 0} {first1 more1 : List Kind} {e1 : Bool} {R : Rule A} {p : Reader A} {first2 more2 : List Kind} {e2 : Bool} {S : Rule B} {q : Reader B} → Exact first1 more1 e1 R p → Exact first2 more2 e2 S q → apart more1 first2 ≡ true → Exact (cond e1 (first1 ++ first2) first1) (cond e2 (more1 ++ more2) more2) (e1 && e2) (pair R S) (read_pair p q)
of_pair {first1 = first1} {more1 = more1} {e1 = e1} {R = R} {p = p} {first2 = first2} {more2 = more2} {e2 = e2} {S = S} {q = q} P Q a = exact_pair first1 more1 e1 R p first2 more2 e2 S q P Q a

pub of_choice : {A : Type 0} {first1 more1 : List Kind} {R : Rule A} {p : Reader A} {first2 more2 : List Kind} {S : Rule A} {q : Reader A} → Exact first1 more1 false R p → Exact first2 more2 false S q → apart first1 first2 ≡ true → Exact (first1 ++ first2) (more1 ++ more2) false (choice R S) (read_choice first1 p q)
of_choice {first1 = first1} {more1 = more1} {R = R} {p = p} {first2 = first2} {more2 = more2} {S = S} {q = q} P Q a = exact_choice first1 more1 R p first2 more2 S q P Q a

pub of_optional : {A : Type 0} {first more : List Kind} {R : Rule A} {p : Reader A} → Exact first more false R p → Exact first (first ++ more) true (optional R) (read_optional first p)
of_optional {first = first} {more = more} {R = R} {p = p} P = exact_optional first more R p P

pub of_many : {A : Type 0} {first more : List Kind} {R : Rule A} {p : Reader A} → Exact first more false R p → apart more first ≡ true → Exact first (first ++ more) true (many R) (read_many first p)
of_many {first = first} {more = more} {R = R} {p = p} P a = exact_many first more R p P a

pub of_weaker : {A : Type 0} {first more : List Kind} {empty : Bool} {R : Rule A} {p : Reader A} (first' more' : List Kind) → Exact first more empty R p → within first first' ≡ true → within more more' ≡ true → Exact first' more' empty R p
of_weaker {first = first} {more = more} {empty = empty} {R = R} {p = p} first' more' P v w = exact_weaker first more empty R p first' more' P v w

pub of_after : {A : Type 0} {first more : List Kind} {R : Rule A} {p : Reader A} (k : Kind) → Exact first more false R p → Exact (k ∷ []) more false (k ▹ R) (read_after k p)
of_after k P = of_seen second (of_pair (exact_token k) P refl)

pub of_before : {A : Type 0} {first more : List Kind} {R : Rule A} {p : Reader A} (k : Kind) → Exact first more false R p → apart more (k ∷ []) ≡ true → Exact first [] false (R ◃ k) (read_before p k)
of_before k P a = of_seen front (of_pair P (exact_token k) a)

pub of_chain : {A B C : Type 0} {first1 more1 : List Kind} {R : Rule A} {p : Reader A} {first2 more2 : List Kind} {S : Rule B} {q : Reader B} (g : A → C) (f : C → B → C) → Exact first1 more1 false R p → Exact first2 more2 false S q → apart more1 first2 ≡ true → apart more2 first2 ≡ true → Exact first1 (more1 ++ (first2 ++ more2)) false (chain g f R S) (read_chain g f first2 p q)
of_chain g f P Q a b = of_seen (folded g f) (of_pair P (of_many Q b) a)

-- a reader that answers otherwise where no list of the rule goes on
barred_sound : {A : Type 0} (w : Bar) (first more : List Kind) (R : Rule A) (p : Reader A) → Exact first more false R p → (ts : List Token) (x : A) (rest : List Token) → read_barred w p ts ≡ Ok (x, rest) → Sound R ts x rest
barred_sound w first more R p P ts x rest e =
    elim (choice_is (heads (bar_of w) ts) (Err (Barred w (length ts))) (p ts) (found x rest) e) [
      | inl b ↦ absurd (let v = b.1 in cc)
      | inr b ↦ P.sound ts x rest b.1
    ]

barred_stops : {A : Type 0} (w : Bar) (first more : List Kind) (R : Rule A) (p : Reader A) → Exact first more false R p → (ts : List Token) (f : Stop) → read_barred w p ts ≡ Err f → Stops R ts f
barred_stops w first more R p P ts f e =
    elim (choice_is (heads (bar_of w) ts) (Err (Barred w (length ts))) (p ts) (Err f) e) [
      | inl b ↦ (let v = b.1 in let g : Barred w (length ts) ≡ f = cc in record { front = []; rest = ts; parts = refl; count = sym (ap left_of g); begun = P.void })
      | inr b ↦ P.stops ts f b.1
    ]

barred_passes : {A : Type 0} (w : Bar) (first more : List Kind) (R : Rule A) (p : Reader A) → Exact first more false R p → apart (bar_of w) first ≡ true → (a rest : List Token) → R.begins a → left (read_barred w p (a ++ rest)) ≤ length rest
barred_passes w first more R p P ab [] rest h = choice_suffix (heads (bar_of w) rest) (Err (Barred w (length rest))) (p rest) (length rest) (omega arith) (P.passes [] rest h)
barred_passes w first more R p P ab (t ∷ u) rest h =
    let no : among (bar_of w) t.kind ≡ false = apart_left (bar_of w) first t.kind ab (P.starts t u h) in
    rw no (P.passes (t ∷ u) rest h)

barred_takes : {A : Type 0} (w : Bar) (first more : List Kind) (R : Rule A) (p : Reader A) → Exact first more false R p → apart (bar_of w) first ≡ true → (x : A) (a rest : List Token) → R.spells x a → heads more rest ≡ false → read_barred w p (a ++ rest) ≡ Ok (x, rest)
barred_takes w first more R p P ab x [] rest h e = absurd (let v = P.fills x h in cc)
barred_takes w first more R p P ab x (t ∷ u) rest h e =
    let no : among (bar_of w) t.kind ≡ false = apart_left (bar_of w) first t.kind ab (P.starts t u (P.opens x (t ∷ u) h)) in
    rw no (P.takes x (t ∷ u) rest h e)

pub of_barred : {A : Type 0} {first more : List Kind} {R : Rule A} {p : Reader A} (w : Bar) → Exact first more false R p → apart (bar_of w) first ≡ true → Exact first more false R (read_barred w p)
of_barred {first = first} {more = more} {R = R} {p = p} w P a = record {
  void = P.void;
  opens = P.opens;
  shrinks = P.shrinks;
  starts = P.starts;
  fills = P.fills;
  sound = barred_sound w first more R p P;
  stops = barred_stops w first more R p P;
  takes = barred_takes w first more R p P a;
  passes = barred_passes w first more R p P a;
}
