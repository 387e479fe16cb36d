-- All of the tokens: a query exactly where one is read, else the first fault.
use Rattle.std.proofs.Common.{◌≡◌, ℕ, zero, suc, ◌+◌, ◌≤◌, Bool, true, false, List, [], ◌∷◌, ◌++◌, length, Result, Ok, Err, refl, sym, ap, subst, ◌∙◌, append_assoc, append-nil, arith, inl, inr}
use Rattle.std.proofs.lemmas.List.{length-append}
use Rattle.sql_tokens.specs.declared.kind.Kind.{Kind}
use Rattle.sql_tokens.specs.declared.kind.Kind.TheVariants as k
use Rattle.sql_tokens.specs.declared.token.Token.{Token}
use Rattle.sql_reader.specs.declared.tree.Query.{Query}
use Rattle.sql_reader.specs.declared.stop.Stop.{Stop}
use Rattle.sql_reader.specs.declared.stop.Stop.TheVariants.{Unexpected, Barred}
use Rattle.sql_reader.specs.declared.stop.Bar.{Bar}
use Rattle.sql_reader.specs.declared.stop.ReadError.{ReadError}
use Rattle.sql_reader.specs.declared.stop.ReadError.TheVariants as errors
use Rattle.std.specs.Prelude.{IfOk}
use Rattle.sql_reader.specs.Kinds.{among, bar_of}
use Rattle.sql_reader.specs.Rules.{Rule}
use Rattle.sql_reader.specs.Readers.{Reader, Gives}
use Rattle.sql_reader.specs.Grammar.{query}
use Rattle.sql_reader.specs.Parsers.{read_query}
use Rattle.sql_reader.specs.Whole.{IsQuery, BeginsWithin, IsUnexpected, IsBarred, IsOfKind, IsFirstStop, ended, read_whole}
use Rattle.sql_reader.proofs.Sets.{bind_ok, bind_err, left, left_of}
use Rattle.sql_reader.proofs.Exact.{Exact}
use Rattle.sql_reader.proofs.Deeper.{Deep}
use Rattle.sql_reader.proofs.Levels.{d_query, after_query}

exact_query : (depth : ℕ) (loose : Bool) → Exact (k.Select ∷ []) after_query false (query depth loose) (read_query depth loose)
exact_query depth loose = (d_query depth loose).exact

abbrev Spells : ℕ → Bool → Query → List Token → Type 0
Spells depth loose q ts = (query depth loose).spells q ts

-- ---- a query is read

ended_ok : {A : Type 0} (x : A) (ts : List Token) (y : A) → ended x ts ≡ Ok y → (ts ≡ []) × (x ≡ y)
ended_ok x [] y e = (refl, cc)
ended_ok x (t ∷ ts) y e = absurd cc

pub whole_found : (depth : ℕ) (loose : Bool) (ts : List Token) (q : Query) → read_whole depth loose ts ≡ Ok q → Spells depth loose q ts
unfolding read_whole
whole_found depth loose ts q e =
    let b = bind_ok (read_query depth loose ts) (λ x. ended x.0 x.1) q e in
    let c = ended_ok b.0.0 b.0.1 q b.2 in
    let s = (exact_query depth loose).sound ts b.0.0 b.0.1 b.1 in
    let ts-is : s.front ≡ ts = sym (s.parts ∙ ap (λ (w : List Token). s.front ++ w) c.0 ∙ append-nil s.front) in
    subst (λ (w : Query × List Token). Spells depth loose w.0 w.1) (let p : (b.0.0, s.front) ≡ (q, ts) = cc in p) s.spelled

pub whole_only : (depth : ℕ) (loose : Bool) (ts : List Token) (q : Query) → Spells depth loose q ts → read_whole depth loose ts ≡ Ok q
unfolding read_whole
whole_only depth loose ts q h =
    let one : read_query depth loose (ts ++ []) ≡ Ok (q, []) = (exact_query depth loose).takes q ts [] h refl in
    let two : read_query depth loose ts ≡ Ok (q, []) = ap (λ (w : List Token). read_query depth loose w) (sym (append-nil ts)) ∙ one in
    rw two refl

-- ---- where nothing goes on

-- no list of the rule goes on with the token at which the reader stopped
pub no_more : {A : Type 0} {first more : List Kind} {empty : Bool} {R : Rule A} {p : Reader A} → Exact first more empty R p → (ts front : List Token) (t : Token) (rest : List Token) → ts ≡ front ++ t ∷ rest → left (p ts) ≡ length (t ∷ rest) → R.begins (front ++ t ∷ []) → ⊥
no_more {p = p} P ts front t rest parts count h =
    let le : left (p ((front ++ t ∷ []) ++ rest)) ≤ length rest = P.passes (front ++ t ∷ []) rest h in
    let same : (front ++ t ∷ []) ++ rest ≡ ts = append_assoc front (t ∷ []) rest ∙ sym parts in
    let le' : left (p ts) ≤ length rest = subst (λ (w : List Token). left (p w) ≤ length rest) same le in
    omega arith

-- where the whole reader stops
pub record Halts (depth : ℕ) (loose : Bool) (ts : List Token) (n : ℕ) : Type 0 where
  pub front : List Token
  pub rest : List Token
  pub parts : ts ≡ front ++ rest
  pub count : length rest ≡ n
  pub begun : (query depth loose).begins front
  pub no_query : (q : Query) → Spells depth loose q ts → ⊥
  pub no_next : (t : Token) (u : List Token) → rest ≡ t ∷ u → (query depth loose).begins (front ++ t ∷ []) → ⊥

ended_err : {A : Type 0} (x : A) (ts : List Token) (f : Stop) → ended x ts ≡ Err f → f ≡ Unexpected (length ts)
ended_err x [] f e = absurd cc
ended_err x (t ∷ ts) f e = cc

not_whole : (depth : ℕ) (loose : Bool) (ts : List Token) (f : Stop) → read_whole depth loose ts ≡ Err f → (q : Query) → Spells depth loose q ts → ⊥
not_whole depth loose ts f e q h = let o = whole_only depth loose ts q h in cc

pub whole_halts : (depth : ℕ) (loose : Bool) (ts : List Token) (f : Stop) → read_whole depth loose ts ≡ Err f → Halts depth loose ts (left_of f)
unfolding read_whole
whole_halts depth loose ts f e =
    elim (bind_err (read_query depth loose ts) (λ x. ended x.0 x.1) f e) [
      | inl b ↦ (
          let s = (exact_query depth loose).stops ts f b in
          record {
            front = s.front;
            rest = s.rest;
            parts = s.parts;
            count = sym s.count;
            begun = s.begun;
            no_query = not_whole depth loose ts f e;
            no_next = λ t u r h. no_more (exact_query depth loose) ts s.front t u (s.parts ∙ ap (λ (w : List Token). s.front ++ w) r) (ap left b ∙ s.count ∙ ap length r) h;
          })
      | inr b ↦ (
          let s = (exact_query depth loose).sound ts b.0.0 b.0.1 b.1 in
          let f-is = ended_err b.0.0 b.0.1 f b.2 in
          record {
            front = s.front;
            rest = b.0.1;
            parts = s.parts;
            count = sym (ap left_of f-is);
            begun = (exact_query depth loose).opens b.0.0 s.front s.spelled;
            no_query = not_whole depth loose ts f e;
            no_next = λ t u r h. no_more (exact_query depth loose) ts s.front t u (s.parts ∙ ap (λ (w : List Token). s.front ++ w) r) (ap left b.1 ∙ ap length r) h;
          })
    ]

-- ---- the kind of the fault

-- the reader of one more level stops at the same token, unless a limit was the reason
whole_err_more : (depth : ℕ) (loose : Bool) (ts : List Token) (n : ℕ) → read_whole depth loose ts ≡ Err (Unexpected n) → read_whole (suc depth) true ts ≡ Err (Unexpected n)
unfolding read_whole
whole_err_more depth loose ts n e =
    elim (bind_err (read_query depth loose ts) (λ x. ended x.0 x.1) (Unexpected n) e) [
      | inl b ↦ rw ((d_query depth loose).same_err ts n b) refl
      | inr b ↦ rw ((d_query depth loose).same_ok ts b.0 b.1) b.2
    ]

whole_err_plus : (k depth : ℕ) (ts : List Token) (n : ℕ) → read_whole depth false ts ≡ Err (Unexpected n) → read_whole (suc k + depth) true ts ≡ Err (Unexpected n)
whole_err_plus zero depth ts n e = let same : suc 0 + depth ≡ suc depth = omega arith in rw same (whole_err_more depth false ts n e)
whole_err_plus (suc k) depth ts n e =
    let same : suc (suc k) + depth ≡ suc (suc k + depth) = omega arith in
    rw same (whole_err_more (suc k + depth) true ts n (whole_err_plus k depth ts n e))

begins_plus : (k depth : ℕ) (a : List Token) → (query depth true).begins a → (query (k + depth) true).begins a
begins_plus zero depth a h = let same : 0 + depth ≡ depth = omega arith in subst (λ (d : ℕ). (query d true).begins a) (sym same) h
begins_plus (suc k) depth a h =
    let same : suc k + depth ≡ suc (k + depth) = omega arith in
    subst (λ (d : ℕ). (query d true).begins a) (sym same) ((d_query (k + depth) true).begins a (begins_plus k depth a h))

spells_plus : (k depth : ℕ) (q : Query) (a : List Token) → Spells depth true q a → Spells (k + depth) true q a
spells_plus zero depth q a h = let same : 0 + depth ≡ depth = omega arith in subst (λ (d : ℕ). Spells d true q a) (sym same) h
spells_plus (suc k) depth q a h =
    let same : suc k + depth ≡ suc (k + depth) = omega arith in
    subst (λ (d : ℕ). Spells d true q a) (sym same) ((d_query (k + depth) true).spells q a (spells_plus k depth q a h))

whole_left : (depth : ℕ) (loose : Bool) (ts : List Token) (f : Stop) → read_whole depth loose ts ≡ Err f → left (read_query depth loose ts) ≡ left_of f
unfolding read_whole
whole_left depth loose ts f e =
    elim (bind_err (read_query depth loose ts) (λ x. ended x.0 x.1) f e) [
      | inl b ↦ ap left b
      | inr b ↦ ap left b.1 ∙ sym (ap left_of (ended_err b.0.0 b.0.1 f b.2))
    ]

same_split : (a b c d : List Token) → a ++ b ≡ c ++ d → length b ≡ length d → (a ≡ c) × (b ≡ d)
same_split [] b [] d e len = (refl, e)
same_split [] b (y ∷ c) d e len = absurd (let l = ap length e in omega (arith, length-append c d))
same_split (x ∷ a) b [] d e len = absurd (let l = ap length e in omega (arith, length-append a b))
same_split (x ∷ a) b (y ∷ c) d e len =
    let tails : a ++ b ≡ c ++ d = cc in
    let ih = same_split a b c d tails len in
    let a-is : a ≡ c = ih.0 in
    (cc, ih.1)

is_unexpected : (depth : ℕ) (ts : List Token) (n : ℕ) → read_whole depth false ts ≡ Err (Unexpected n) → (front rest : List Token) → ts ≡ front ++ rest → length rest ≡ n → IsUnexpected front rest
is_unexpected depth ts n e front [] parts len = λ q w.
    let d = w.0 in
    let same : suc d + depth ≡ suc depth + d = omega arith in
    let ts-is : ts ≡ front = parts ∙ append-nil front in
    let wide : Spells (suc d + depth) true q ts = subst (λ (w : List Token). Spells (suc d + depth) true q w) (sym ts-is) (subst (λ (k : ℕ). Spells k true q front) (sym same) (spells_plus (suc depth) d q front w.1)) in
    let one = whole_only (suc d + depth) true ts q wide in
    let two = whole_err_plus d depth ts n e in
    cc
is_unexpected depth ts n e front (t ∷ rest) parts len = λ w.
    let d = w.0 in
    let same : suc d + depth ≡ suc depth + d = omega arith in
    let wide : (query (suc d + depth) true).begins (front ++ t ∷ []) = subst (λ (k : ℕ). (query k true).begins (front ++ t ∷ [])) (sym same) (begins_plus (suc depth) d (front ++ t ∷ []) w.1) in
    no_more (exact_query (suc d + depth) true) ts front t rest parts (whole_left (suc d + depth) true ts (Unexpected n) (whole_err_plus d depth ts n e) ∙ sym len) wide

whole_deep : (depth : ℕ) (ts : List Token) (w : Bar) (n : ℕ) → read_whole depth false ts ≡ Err (Barred w n) → Deep (query (suc depth) true) ts w n
unfolding read_whole
whole_deep depth ts w n e =
    elim (bind_err (read_query depth false ts) (λ x. ended x.0 x.1) (Barred w n) e) [
      | inl b ↦ (d_query depth false).deep ts w n b
      | inr b ↦ absurd (let v = ended_err b.0.0 b.0.1 (Barred w n) b.2 in cc)
    ]

is_barred : (depth : ℕ) (ts : List Token) (w : Bar) (n : ℕ) → read_whole depth false ts ≡ Err (Barred w n) → (front rest : List Token) → ts ≡ front ++ rest → length rest ≡ n → IsBarred w depth front rest
is_barred depth ts w n e front rest parts len = go rest parts len
  where
    d : Deep (query (suc depth) true) ts w n
    d = whole_deep depth ts w n e

    aligned : (rest' : List Token) → ts ≡ front ++ rest' → length rest' ≡ n → (d.before ≡ front) × (d.next ∷ d.rest ≡ rest')
    aligned rest' parts' len' = same_split d.before (d.next ∷ d.rest) front rest' (sym d.parts ∙ parts') (sym d.count ∙ sym len')

    go : (rest' : List Token) → ts ≡ front ++ rest' → length rest' ≡ n → IsBarred w depth front rest'
    go [] parts' len' = let v = (aligned [] parts' len').1 in cc
    go (t ∷ u) parts' len' =
        let a = aligned (t ∷ u) parts' len' in
        let heads_same = a.1 in
        let next-is : d.next ≡ t = cc in (
          subst (λ (v : Token). among (bar_of w) v.kind ≡ true) next-is d.kind,
          (suc depth, subst (λ (v : List Token × Token). (query (suc depth) true).begins (v.0 ++ v.1 ∷ [])) (let p : (d.before, d.next) ≡ (front, t) = (let q = a.0 in cc) in p) d.begun),
          no_more (exact_query depth false) ts front t u parts' (whole_left depth false ts (Barred w n) e ∙ sym len'),
        )

kind_of : (depth : ℕ) (ts : List Token) (f : Stop) → read_whole depth false ts ≡ Err f → (front rest : List Token) → ts ≡ front ++ rest → length rest ≡ left_of f → IsOfKind depth f front rest
kind_of depth ts (Unexpected n) e front rest parts len = (is_unexpected depth ts n e front rest parts len, len)
kind_of depth ts (Barred w n) e front rest parts len = (is_barred depth ts w n e front rest parts len, len)

pub whole_fault : (depth : ℕ) (ts : List Token) (f : Stop) → read_whole depth false ts ≡ Err f → IsFirstStop depth ts f
whole_fault depth ts f e =
    let h = whole_halts depth false ts f e in
    record {
      front = h.front;
      rest = h.rest;
      parts = h.parts;
      before = λ a b s. (exact_query depth false).shrinks a b (subst (λ (w : List Token). BeginsWithin depth w) (sym s) h.begun);
      fault = kind_of depth ts f e h.front h.rest h.parts h.count;
    }

-- ---- what is told of a reader that gives this

abbrev same_query : Query → Query
same_query q = q

pub told_found : (depth : ℕ) (ts : List Token) (r : Result Query ReadError) → Gives same_query r (read_whole depth false ts) → IfOk r (λ q. IsQuery depth q ts)
told_found depth ts (Ok q) h = whole_found depth false ts q h
told_found depth ts (Err e) h = tt

pub told_only : (depth : ℕ) (ts : List Token) (r : Result Query ReadError) → Gives same_query r (read_whole depth false ts) → (q : Query) → IsQuery depth q ts → Gives same_query r (Ok q)
told_only depth ts (Ok x) h q s = let w = whole_only depth false ts q s in cc
told_only depth ts (Err errors.Memory) h q s = tt
told_only depth ts (Err (errors.Stop f)) h q s = absurd (let w = whole_only depth false ts q s in cc)

pub told_fault : (depth : ℕ) (ts : List Token) (r : Result Query ReadError) → Gives same_query r (read_whole depth false ts) → (f : Stop) → r ≡ Err (errors.Stop f) → IsFirstStop depth ts f
told_fault depth ts (Ok x) h f e = absurd cc
told_fault depth ts (Err errors.Memory) h f e = absurd cc
told_fault depth ts (Err (errors.Stop g)) h f e = whole_fault depth ts f (let w : g ≡ f = cc in rw (← w) h)

-- ---- for those who cite a query

pub query_prefix : (depth : ℕ) (q : Query) (ts : List Token) → IsQuery depth q ts → (a b : List Token) → a ++ b ≡ ts → BeginsWithin depth a
query_prefix depth q ts h a b e = (exact_query depth false).shrinks a b (subst (λ (w : List Token). BeginsWithin depth w) (sym e) ((exact_query depth false).opens q ts h))
