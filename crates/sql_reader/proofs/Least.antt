-- The fault with the least place, from the tokens of the text and where their reader stopped; and that a text has one answer.
use Rattle.std.proofs.Common.{◌≡◌, ℕ, suc, ◌+◌, ◌-◌, ◌≤◌, false, List, [], ◌∷◌, ◌++◌, length, Option, Some, None, Result, Ok, Err, IfOk, refl, sym, ap, subst, ◌∙◌, append_assoc, append-nil, arith, inl, inr, ◌⊎◌, nat_lt, slice_get}
use Rattle.std.proofs.lemmas.Bool.{le-ltb}
use Rattle.std.proofs.lemmas.List.{length-append}
use Rattle.query_faults.specs.declared.sql.SqlFault.{SqlFault}
use Rattle.query_faults.specs.declared.sql.SqlKind.{SqlKind}
use Rattle.query_faults.specs.declared.sql.SqlKind.TheVariants as kinds
use Rattle.sql_tokens.specs.declared.token.Token.{Token}
use Rattle.sql_tokens.specs.Cuts.{AreTokens}
use Rattle.sql_tokens.proofs.Cutting.{tokens_are_unique}
use Rattle.sql_reader.specs.declared.tree.Query.{Query}
use Rattle.sql_reader.specs.declared.stop.Stop.{Stop}
use Rattle.sql_reader.specs.declared.stop.Stop.TheVariants.{Unexpected, Barred}
use Rattle.sql_reader.specs.declared.stop.ReadError.{ReadError}
use Rattle.sql_reader.specs.declared.stop.ReadError.TheVariants as errors
use Rattle.sql_reader.specs.declared.sql.SqlRefusal.TheVariants as refusals
use Rattle.sql_reader.specs.declared.stop.Bar.{Bar}
use Rattle.sql_reader.specs.declared.stop.Bar.TheVariants as bars
use Rattle.sql_reader.specs.Kinds.{bar_of}
use Rattle.sql_reader.specs.Readers.{Gives}
use Rattle.sql_reader.specs.Whole.{IsQuery, BeginsQuery, BeginsWithin, IsUnexpected, IsBarred, IsOfKind, IsFirstStop}
use Rattle.sql_reader.specs.Places.{answer_of, place_left, tokens_left, kind_of_stop, fault_from, fault_at}
use Rattle.sql_reader.specs.Sql.{most_open, most_bytes, GivesSql, IsSql, IsWhy, IsLeastFault}
use Rattle.sql_reader.specs.Laws.{OneQuery, OneFault, NotBoth}
use Rattle.sql_reader.proofs.Sets.{split, apart_right}
use Rattle.sql_reader.proofs.Levels.{d_query}
use Rattle.sql_reader.proofs.Whole.{query_prefix, whole_only}

-- ---- the answers of read_sql

pub is_sql : (text : List ℕ) (ts : List Token) (bad : Option SqlFault) (q : Query) → length text ≤ most_bytes → AreTokens text ts bad → bad ≡ None → IsQuery most_open q ts → IsSql text q
is_sql text ts bad q short cut e h = record { short = short; tokens = ts; cut = subst (λ (w : Option SqlFault). AreTokens text ts w) e cut; spelled = h }

-- the tokens of a text that is a query
pub spelled_by : (text : List ℕ) (ts : List Token) (bad : Option SqlFault) (q : Query) → AreTokens text ts bad → IsSql text q → IsQuery most_open q ts
spelled_by text ts bad q cut s = subst (λ (w : List Token). IsQuery most_open q w) (sym (tokens_are_unique text ts s.tokens bad None cut s.cut).0) s.spelled

pub not_bad : (text : List ℕ) (ts : List Token) (bad : Option SqlFault) (q : Query) → AreTokens text ts bad → IsSql text q → bad ≡ None
not_bad text ts bad q cut s = (tokens_are_unique text ts s.tokens bad None cut s.cut).1

-- a query, and then a byte at which no token starts
pub bad_behind : (text : List ℕ) (ts : List Token) (bad : Option SqlFault) (b : SqlFault) (q : Query) → AreTokens text ts bad → bad ≡ Some b → IsQuery most_open q ts → IsLeastFault text b
bad_behind text ts bad b q cut e h = record {
  tokens = ts;
  bad = Some b;
  cut = subst (λ (w : Option SqlFault). AreTokens text ts w) e cut;
  front = ts;
  rest = [];
  parts = sym (append-nil ts);
  before = query_prefix most_open q ts h;
  why = refl;
}

get_behind : (front : List Token) (t : Token) (rest : List Token) → slice_get (front ++ t ∷ rest) (length front) ≡ Some t
get_behind [] t rest = refl
get_behind (s ∷ front) t rest = get_behind front t rest

get_end : (ts : List Token) → slice_get ts (length ts) ≡ None
get_end [] = refl
get_end (t ∷ ts) = get_end ts

place_of_next : (ts front : List Token) (t : Token) (rest : List Token) (n : ℕ) → ts ≡ front ++ t ∷ rest → length (t ∷ rest) ≡ n → place_left ts n ≡ Some t.place
place_of_next ts front t rest n parts len =
    let total : length ts ≡ length front + length (t ∷ rest) = ap length parts ∙ length-append front (t ∷ rest) in
    let long : nat_lt (length ts) n ≡ false = le-ltb _ _ (omega arith) in
    let index : length ts - n ≡ length front = omega arith in
    rw (long, index, parts, get_behind front t rest) refl

place_of_end : (ts : List Token) → place_left ts 0 ≡ None
place_of_end ts =
    let long : nat_lt (length ts) 0 ≡ false = le-ltb _ _ (omega arith) in
    let index : length ts - 0 ≡ length ts = omega arith in
    rw (long, index, get_end ts) refl

why_next : (front : List Token) (t : Token) (rest : List Token) (bad : Option SqlFault) (end : ℕ) (f : Stop) → IsOfKind most_open f front (t ∷ rest) → IsWhy (record { place = t.place; kind = kind_of_stop f }) front (t ∷ rest) bad end
why_next front t rest bad end (Unexpected n) h = (refl, inl (refl, h.0))
why_next front t rest bad end (Barred bars.TooDeep n) h = (refl, inr (inl (refl, h.0)))
why_next front t rest bad end (Barred bars.BadNumber n) h = (refl, inr (inr (refl, h.0)))

why_end : (front : List Token) (bad : Option SqlFault) (end : ℕ) (f : Stop) → IsOfKind most_open f front [] → IsWhy (fault_from None bad end (kind_of_stop f)) front [] bad end
why_end front (Some b) end f h = refl
why_end front None end (Unexpected n) h = (refl, refl, h.0)
why_end front None end (Barred w n) h = absurd h.0

count_of : (f : Stop) (front rest : List Token) → IsOfKind most_open f front rest → length rest ≡ tokens_left f
count_of (Unexpected n) front rest h = h.1
count_of (Barred w n) front rest h = h.1

pub least_of : (text : List ℕ) (ts : List Token) (bad : Option SqlFault) (f : Stop) → AreTokens text ts bad → IsFirstStop most_open ts f → IsLeastFault text (fault_at ts bad (length text) f)
least_of text ts bad f cut h = go h.rest h.parts h.fault
  where
    go : (rest : List Token) → ts ≡ h.front ++ rest → IsOfKind most_open f h.front rest → IsLeastFault text (fault_at ts bad (length text) f)
    go [] parts fault =
        let none : tokens_left f ≡ 0 = sym (count_of f h.front [] fault) in
        let place : place_left ts (tokens_left f) ≡ None = ap (λ (n : ℕ). place_left ts n) none ∙ place_of_end ts in
        subst (λ (o : Option ℕ). IsLeastFault text (fault_from o bad (length text) (kind_of_stop f))) (sym place)
        (record { tokens = ts; bad = bad; cut = cut; front = h.front; rest = []; parts = parts; before = h.before; why = why_end h.front bad (length text) f fault })
    go (t ∷ rest) parts fault =
        let place : place_left ts (tokens_left f) ≡ Some t.place = place_of_next ts h.front t rest (tokens_left f) parts (count_of f h.front (t ∷ rest) fault) in
        subst (λ (o : Option ℕ). IsLeastFault text (fault_from o bad (length text) (kind_of_stop f))) (sym place)
        (record { tokens = ts; bad = bad; cut = cut; front = h.front; rest = t ∷ rest; parts = parts; before = h.before; why = why_next h.front t rest bad (length text) f fault })

-- ---- one answer

loosely : (a : List Token) → BeginsWithin most_open a → BeginsQuery a
loosely a h = (suc most_open, (d_query most_open false).begins a h)

-- with the token at which a fault is no query goes on within the limits
no_further : (f : SqlFault) (front : List Token) (t : Token) (rest : List Token) (bad : Option SqlFault) (end : ℕ) → IsWhy f front (t ∷ rest) bad end → BeginsWithin most_open (front ++ t ∷ []) → ⊥
no_further f front t rest bad end w h =
    elim w.1 [
      | inl a ↦ a.1 (loosely (front ++ t ∷ []) h)
      | inr b ↦ elim b [
        | inl a ↦ a.1.2 h
        | inr a ↦ a.1.2 h
      ]
    ]

abbrev fault_of : ℕ × SqlKind → SqlFault
fault_of w = record { place = w.0; kind = w.1 }

same_fault : (f g : SqlFault) → f.place ≡ g.place → f.kind ≡ g.kind → f ≡ g
same_fault f g p k = let parts : (f.place, f.kind) ≡ (g.place, g.kind) = cc in ap (λ (w : ℕ × SqlKind). fault_of w) parts

not_barred : (w : Bar) (front : List Token) (t : Token) (rest : List Token) → IsUnexpected front (t ∷ rest) → IsBarred w most_open front (t ∷ rest) → ⊥
not_barred w front t rest u b = u b.1

-- `(` and NOT are no numbers
not_two_bars : (front : List Token) (t : Token) (rest : List Token) → IsBarred bars.TooDeep most_open front (t ∷ rest) → IsBarred bars.BadNumber most_open front (t ∷ rest) → ⊥
not_two_bars front t rest a b =
    let no = apart_right (bar_of bars.TooDeep) (bar_of bars.BadNumber) t.kind refl a.0 in
    let yes = b.0 in
    cc

abbrev Why : SqlKind → List Token → Token → List Token → Type 0
Why kind front t rest =
    ((kind ≡ kinds.Unexpected) × IsUnexpected front (t ∷ rest))
    ⊎ (((kind ≡ kinds.TooDeep) × IsBarred bars.TooDeep most_open front (t ∷ rest))
    ⊎ ((kind ≡ kinds.BadNumber) × IsBarred bars.BadNumber most_open front (t ∷ rest)))

same_kind : (j k : SqlKind) (front : List Token) (t : Token) (rest : List Token) → Why j front t rest → Why k front t rest → j ≡ k
same_kind j k front t rest (inl a) (inl b) = a.0 ∙ sym b.0
same_kind j k front t rest (inl a) (inr (inl b)) = absurd (not_barred bars.TooDeep front t rest a.1 b.1)
same_kind j k front t rest (inl a) (inr (inr b)) = absurd (not_barred bars.BadNumber front t rest a.1 b.1)
same_kind j k front t rest (inr (inl a)) (inl b) = absurd (not_barred bars.TooDeep front t rest b.1 a.1)
same_kind j k front t rest (inr (inr a)) (inl b) = absurd (not_barred bars.BadNumber front t rest b.1 a.1)
same_kind j k front t rest (inr (inl a)) (inr (inl b)) = a.0 ∙ sym b.0
same_kind j k front t rest (inr (inl a)) (inr (inr b)) = absurd (not_two_bars front t rest a.1 b.1)
same_kind j k front t rest (inr (inr a)) (inr (inl b)) = absurd (not_two_bars front t rest b.1 a.1)
same_kind j k front t rest (inr (inr a)) (inr (inr b)) = a.0 ∙ sym b.0

same_why : (f g : SqlFault) (front rest : List Token) (bad : Option SqlFault) (end : ℕ) → IsWhy f front rest bad end → IsWhy g front rest bad end → f ≡ g
same_why f g front (t ∷ rest) bad end v w = same_fault f g (v.0 ∙ sym w.0) (same_kind f.kind g.kind front t rest v.1 w.1)
same_why f g front [] (Some b) end v w = v ∙ sym w
same_why f g front [] None end v w = same_fault f g (v.0 ∙ sym w.0) (v.1 ∙ sym w.1)

abbrev Goes : List Token → Type 0
Goes front = (a b : List Token) → a ++ b ≡ front → BeginsWithin most_open a

-- a fault stands where the longer front begins
not_longer : (f : SqlFault) (front rest : List Token) (bad : Option SqlFault) (end : ℕ) (m more : List Token) → IsWhy f front rest bad end → rest ≡ m ++ more → Goes (front ++ m) → m ≡ []
not_longer f front rest bad end [] more w e goes = refl
not_longer f front [] bad end (t ∷ m) more w e goes = absurd cc
not_longer f front (s ∷ rest) bad end (t ∷ m) more w e goes =
    let same : s ≡ t = cc in
    let begun : BeginsWithin most_open (front ++ t ∷ []) = goes (front ++ t ∷ []) m (append_assoc front (t ∷ []) m) in
    absurd (no_further f front s rest bad end w (subst (λ (u : Token). BeginsWithin most_open (front ++ u ∷ [])) (sym same) begun))

rests_are : (front rest rest' : List Token) → front ++ rest ≡ front ++ rest' → rest ≡ rest'
rests_are [] rest rest' e = e
rests_are (t ∷ front) rest rest' e = rests_are front rest rest' (cc)

one_place : (f g : SqlFault) (front rest front' rest' : List Token) (bad : Option SqlFault) (end : ℕ) → front ++ rest ≡ front' ++ rest' → IsWhy f front rest bad end → IsWhy g front' rest' bad end → Goes front → Goes front' → f ≡ g
one_place f g front rest front' rest' bad end e v w goes goes' =
    elim (split front rest front' rest' e) [
      | inl a ↦ (
          let parts : rest ≡ a.0 ++ rest' = rests_are front rest (a.0 ++ rest') (e ∙ ap (λ (u : List Token). u ++ rest') a.1 ∙ append_assoc front a.0 rest') in
          let none = not_longer f front rest bad end a.0 rest' v parts (subst Goes a.1 goes') in
          let front-is : front' ≡ front = a.1 ∙ ap (λ (u : List Token). front ++ u) none ∙ append-nil front in
          let rest-is : rest' ≡ rest = sym (parts ∙ ap (λ (u : List Token). u ++ rest') none) in
          same_why f g front rest bad end v (subst (λ (u : List Token × List Token). IsWhy g u.0 u.1 bad end) (let p : (front', rest') ≡ (front, rest) = cc in p) w))
      | inr a ↦ (
          let none = not_longer g front' rest' bad end a.0 rest w a.2 (subst Goes a.1 goes) in
          let front-is : front ≡ front' = a.1 ∙ ap (λ (u : List Token). front' ++ u) none ∙ append-nil front' in
          let rest-is : rest ≡ rest' = sym (a.2 ∙ ap (λ (u : List Token). u ++ rest) none) in
          same_why f g front' rest' bad end (subst (λ (u : List Token × List Token). IsWhy f u.0 u.1 bad end) (let p : (front, rest) ≡ (front', rest') = cc in p) v) w)
    ]

least_one : (text : List ℕ) (f g : SqlFault) → IsLeastFault text f → IsLeastFault text g → f ≡ g
least_one text f g h k =
    let same = tokens_are_unique text h.tokens k.tokens h.bad k.bad h.cut k.cut in
    let parts : h.front ++ h.rest ≡ k.front ++ k.rest = sym h.parts ∙ same.0 ∙ k.parts in
    one_place f g h.front h.rest k.front k.rest k.bad (length text) parts (subst (λ (w : Option SqlFault). IsWhy f h.front h.rest w (length text)) same.1 h.why) k.why h.before k.before

-- what is answered where the tokens were read
abbrev same_query : Query → Query
same_query q = q

pub answer_found : (text : List ℕ) (ts : List Token) (bad : Option SqlFault) (r : Result Query ReadError) → length text ≤ most_bytes → AreTokens text ts bad → IfOk r (λ q. IsQuery most_open q ts) → IfOk (answer_of r ts bad (length text)) (λ q. IsSql text q)
answer_found text ts None (Ok q) short cut h = is_sql text ts None q short cut refl h
answer_found text ts (Some b) (Ok q) short cut h = tt
answer_found text ts bad (Err errors.Memory) short cut h = tt
answer_found text ts bad (Err (errors.Stop s)) short cut h = tt

pub answer_only : (text : List ℕ) (ts : List Token) (bad : Option SqlFault) (r : Result Query ReadError) → AreTokens text ts bad → ((q : Query) → IsQuery most_open q ts → Gives same_query r (Ok q)) → (q : Query) → IsSql text q → GivesSql (answer_of r ts bad (length text)) q
answer_only text ts None (Ok x) cut only q s = let e = only q (spelled_by text ts None q cut s) in cc
answer_only text ts (Some b) (Ok x) cut only q s = absurd (let e = not_bad text ts (Some b) q cut s in cc)
answer_only text ts bad (Err errors.Memory) cut only q s = tt
answer_only text ts bad (Err (errors.Stop f)) cut only q s = absurd (let e = only q (spelled_by text ts bad q cut s) in cc)

pub answer_fault : (text : List ℕ) (ts : List Token) (bad : Option SqlFault) (r : Result Query ReadError) → AreTokens text ts bad → IfOk r (λ q. IsQuery most_open q ts) → ((s : Stop) → r ≡ Err (errors.Stop s) → IsFirstStop most_open ts s) → (f : SqlFault) → answer_of r ts bad (length text) ≡ Err (refusals.Fault f) → IsLeastFault text f
answer_fault text ts None (Ok q) cut h first f e = absurd cc
answer_fault text ts (Some b) (Ok q) cut h first f e =
    let same : b ≡ f = cc in
    subst (λ (w : SqlFault). IsLeastFault text w) same (bad_behind text ts (Some b) b q cut refl h)
answer_fault text ts bad (Err errors.Memory) cut h first f e = absurd cc
answer_fault text ts bad (Err (errors.Stop s)) cut h first f e =
    let same : fault_at ts bad (length text) s ≡ f = cc in
    subst (λ (w : SqlFault). IsLeastFault text w) same (least_of text ts bad s cut (first s refl))

pub one_fault : OneFault
one_fault text f g (inl a) (inl b) = a.1 ∙ sym b.1
one_fault text f g (inl a) (inr b) = absurd (omega (arith, a.0, b.0))
one_fault text f g (inr a) (inl b) = absurd (omega (arith, a.0, b.0))
one_fault text f g (inr a) (inr b) = least_one text f g a.1 b.1

read_as : (ts : List Token) (q r : Query) → IsQuery most_open q ts → IsQuery most_open r ts → q ≡ r
read_as ts q r h k =
    let one = whole_only most_open false ts q h in
    let two = whole_only most_open false ts r k in
    cc

pub one_query : OneQuery
one_query text q r h k = read_as h.tokens q r h.spelled (spelled_by text h.tokens None r h.cut k)

no_fault : (f : SqlFault) (q : Query) (ts front rest : List Token) (end : ℕ) → ts ≡ front ++ rest → IsQuery most_open q ts → IsWhy f front rest None end → ⊥
no_fault f q ts front [] end parts h w =
    w.2 q (suc most_open, (d_query most_open false).spells q front (subst (λ (u : List Token). IsQuery most_open q u) (parts ∙ append-nil front) h))
no_fault f q ts front (t ∷ rest) end parts h w =
    no_further f front t rest None end w (query_prefix most_open q ts h (front ++ t ∷ []) rest (append_assoc front (t ∷ []) rest ∙ sym parts))

pub not_both : NotBoth
not_both text q f h (inl a) = omega (arith, a.0, h.short)
not_both text q f h (inr a) =
    let k = a.1 in
    let same = tokens_are_unique text h.tokens k.tokens None k.bad h.cut k.cut in
    no_fault f q h.tokens k.front k.rest (length text) (same.0 ∙ k.parts) h.spelled (subst (λ (w : Option SqlFault). IsWhy f k.front k.rest w (length text)) (sym same.1) k.why)
