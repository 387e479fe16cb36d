-- What a loop over a repetition keeps.
use Rattle.std.proofs.Common.{◌≡◌, ℕ, zero, suc, ◌≤◌, ◌<◌, true, false, List, [], ◌∷◌, ◌++◌, length, Result, Ok, Err, refl, sym, ap, ◌∙◌, append_assoc, append-nil, arith, cond}
use Rattle.std.proofs.lemmas.List.{length-append}
use Rattle.sql_tokens.specs.declared.kind.Kind.{Kind}
use Rattle.sql_tokens.specs.declared.token.Token.{Token}
use Rattle.sql_reader.specs.declared.stop.Stop.{Stop}
use Rattle.sql_reader.specs.declared.stop.ReadError.{ReadError}
use Rattle.sql_reader.specs.Kinds.{heads}
use Rattle.sql_reader.specs.Rules.{Rule}
use Rattle.sql_reader.specs.Readers.{◌>>=◌, Gives, Reader, read_token, read_times, read_many}
use Rattle.sql_reader.specs.Grammar.{fold, folded, ◌▹◌}
use Rattle.sql_reader.specs.Parsers.{read_after, read_chain}
use Rattle.sql_reader.proofs.Exact.{Exact, of_after}

abbrev found : {A : Type 0} → A → List Token → Result (A × List Token) Stop
found x ts = Ok (x, ts)

abbrev both : {A B : Type 0} → A → B → A × B
both x y = (x, y)

abbrev more_of : {A : Type 0} → A → List A × List Token → Result (List A × List Token) Stop
more_of x xs = Ok (x ∷ xs.0, xs.1)

-- a reader of a rule that no empty list spells takes a token
pub shorter : {A : Type 0} {first more : List Kind} {R : Rule A} {p : Reader A} → Exact first more false R p → (ts : List Token) (x : A) (rest : List Token) → p ts ≡ Ok (x, rest) → length rest < length ts
shorter {R = R} P ts x rest e =
    let s = P.sound ts x rest e in
    go s.front s.parts s.spelled
  where
    go : (a : List Token) → ts ≡ a ++ rest → R.spells x a → length rest < length ts
    go [] parts h = absurd (let f = P.fills x h in cc)
    go (t ∷ a) parts h = omega (arith, ap length parts, length-append a rest)

times_enough : {A : Type 0} (first more : List Kind) (R : Rule A) (p : Reader A) → Exact first more false R p → (n m : ℕ) (ts : List Token) → length ts ≤ n → length ts ≤ m → read_times n first p ts ≡ read_times m first p ts
times_enough first more R p P zero zero ts h k = refl
times_enough first more R p P zero (suc m) [] h k = refl
times_enough first more R p P zero (suc m) (t ∷ ts) h k = absurd (omega arith)
times_enough first more R p P (suc n) zero [] h k = refl
times_enough first more R p P (suc n) zero (t ∷ ts) h k = absurd (omega arith)
times_enough {A = A} first more R p P (suc n) (suc m) ts h k = ap (λ (r : Result (List A × List Token) Stop). cond (heads first ts) r (Ok ([], ts))) (go (p ts) refl (times_enough first more R p P n m))
  where
    go : (r : Result (A × List Token) Stop) → p ts ≡ r → ((us : List Token) → length us ≤ n → length us ≤ m → read_times n first p us ≡ read_times m first p us) → (r >>= λ x. read_times n first p x.1 >>= λ xs. more_of x.0 xs) ≡ (r >>= λ x. read_times m first p x.1 >>= λ xs. more_of x.0 xs)
    go (Err f) e ih = refl
    go (Ok x) e ih =
        let less : length x.1 < length ts = shorter P ts x.0 x.1 e in
        rw (ih x.1 (omega arith) (omega arith)) refl

-- what the items so far and those that come make together
abbrev pub gathered : {B C : Type 0} → (C → B → C) → C → Result (List B × List Token) Stop → Result (C × List Token) Stop
gathered f acc r = r >>= λ xs. Ok (fold f acc xs.0, xs.1)

gathered_more : {B C : Type 0} (f : C → B → C) (acc : C) (x : B) (r : Result (List B × List Token) Stop) → gathered f acc (r >>= λ xs. more_of x xs) ≡ gathered f (f acc x) r
gathered_more f acc x (Ok y) = refl
gathered_more f acc x (Err e) = refl

many_step : {A : Type 0} (first more : List Kind) (R : Rule A) (p : Reader A) → Exact first more false R p → (ts : List Token) (x : A) (after : List Token) → heads first ts ≡ true → p ts ≡ Ok (x, after) → read_many first p ts ≡ (read_many first p after >>= λ xs. more_of x xs)
many_step first more R p P [] x after is_there e = absurd cc
many_step first more R p P (t ∷ ts) x after is_there e =
    let less : length after < length (t ∷ ts) = shorter P (t ∷ ts) x after e in
    let enough : read_times (length ts) first p after ≡ read_times (length after) first p after = times_enough first more R p P (length ts) (length after) after (omega arith) (omega arith) in
    rw (is_there, e, enough) refl

-- one more item, read with its mark
pub goes_on_after : {B C : Type 0} {first more : List Kind} {R : Rule B} {p : Reader B} → Exact first more false R p → (k : Kind) (f : C → B → C) (acc : C) (ts : List Token) (x : B) (after : List Token) (y : Result (C × List Token) Stop) → heads (k ∷ []) ts ≡ true → read_after k p ts ≡ Ok (x, after) → gathered f acc (read_many (k ∷ []) (read_after k p) ts) ≡ y → gathered f (f acc x) (read_many (k ∷ []) (read_after k p) after) ≡ y
goes_on_after {more = more} {R = R} {p = p} P k f acc ts x after y is_there e h =
    sym (gathered_more f acc x (read_many (k ∷ []) (read_after k p) after)) ∙ ap (λ w. gathered f acc w) (sym (many_step (k ∷ []) more (k ▹ R) (read_after k p) (of_after k P) ts x after is_there e)) ∙ h

-- one more item, behind its mark
pub goes_on : {B C : Type 0} {first more : List Kind} {R : Rule B} {p : Reader B} → Exact first more false R p → (k : Kind) (f : C → B → C) (acc : C) (ts : List Token) (t : Token) (u : List Token) (x : B) (after : List Token) (y : Result (C × List Token) Stop) → heads (k ∷ []) ts ≡ true → read_token k ts ≡ Ok (t, u) → p u ≡ Ok (x, after) → gathered f acc (read_many (k ∷ []) (read_after k p) ts) ≡ y → gathered f (f acc x) (read_many (k ∷ []) (read_after k p) after) ≡ y
goes_on {p = p} P k f acc ts t u x after y is_there one two h =
    let e : read_after k p ts ≡ Ok (x, after) = rw (one, two) refl in
    goes_on_after P k f acc ts x after y is_there e h

-- the item behind the mark isn't there
pub fails : {B C : Type 0} (p : Reader B) (k : Kind) (f : C → B → C) (acc : C) (ts : List Token) (t : Token) (u : List Token) (e : Stop) (y : Result (C × List Token) Stop) → heads (k ∷ []) ts ≡ true → read_token k ts ≡ Ok (t, u) → p u ≡ Err e → gathered f acc (read_many (k ∷ []) (read_after k p) ts) ≡ y → y ≡ Err e
fails p k f acc [] t u e y is_there one two h = absurd cc
fails p k f acc (s ∷ ts) t u e y is_there one two h =
    let step : read_after k p (s ∷ ts) ≡ Err e = rw (one, two) refl in
    sym h ∙ rw (is_there, step) refl

-- what was read is what reading gives
pub told : {X Y : Type 0} (view : X → Y) (read : Result X ReadError) (x : X) (y : Result Y Stop) → Gives view read y → read ≡ Ok x → y ≡ Ok (view x)
told view (Ok z) x y g e = cc
told view (Err d) x y g e = absurd cc

-- the mark is there, so it is taken
pub taken : (k : Kind) (ts : List Token) (e : Stop) → heads (k ∷ []) ts ≡ true → read_token k ts ≡ Err e → ⊥
taken k [] e is_there h = cc
taken k (t ∷ ts) e is_there h = grind arith

-- no mark
pub ends : {B C : Type 0} (p : Reader B) (k : Kind) (f : C → B → C) (acc : C) (ts : List Token) (y : Result (C × List Token) Stop) → heads (k ∷ []) ts ≡ false → gathered f acc (read_many (k ∷ []) (read_after k p) ts) ≡ y → y ≡ Ok (acc, ts)
ends p k f acc [] y not_there h = sym h
ends p k f acc (t ∷ ts) y not_there h = sym h ∙ rw not_there refl

-- before the loop
pub begun : {A B C : Type 0} (p : Reader A) (q : Reader B) (k : Kind) (g : A → C) (f : C → B → C) (ts : List Token) (x : A) (rest : List Token) → p ts ≡ Ok (x, rest) → gathered f (g x) (read_many (k ∷ []) q rest) ≡ read_chain g f (k ∷ []) p q ts
begun {A = A} {B = B} {C = C} p q k g f ts x rest e = rw e (go (read_many (k ∷ []) q rest))
  where
    go : (r : Result (List B × List Token) Stop) → gathered f (g x) r ≡ ((r >>= λ y. found (both x y.0) y.1) >>= λ z. found (folded g f z.0) z.1)
    go (Ok y) = refl
    go (Err d) = refl

-- an item behind its mark takes tokens
pub less : {B : Type 0} {first more : List Kind} {R : Rule B} {p : Reader B} → Exact first more false R p → (k : Kind) (ts : List Token) (t : Token) (u : List Token) (x : B) (after : List Token) → read_token k ts ≡ Ok (t, u) → p u ≡ Ok (x, after) → length after < length ts
less {p = p} P k ts t u x after one two =
    let e : read_after k p ts ≡ Ok (x, after) = rw (one, two) refl in
    shorter (of_after k P) ts x after e

-- ---- a repetition without a mark

abbrev pub appended : {B : Type 0} → List B → Result (List B × List Token) Stop → Result (List B × List Token) Stop
appended acc r = r >>= λ xs. found (acc ++ xs.0) xs.1

appended_more : {B : Type 0} (acc : List B) (x : B) (r : Result (List B × List Token) Stop) → appended acc (r >>= λ xs. more_of x xs) ≡ appended (acc ++ x ∷ []) r
appended_more acc x (Ok y) = ap (λ w. found w y.1) (sym (append_assoc acc (x ∷ []) y.0))
appended_more acc x (Err e) = refl

pub next_one : {B : Type 0} {first more : List Kind} {R : Rule B} {p : Reader B} → Exact first more false R p → (acc : List B) (ts : List Token) (x : B) (after : List Token) (y : Result (List B × List Token) Stop) → heads first ts ≡ true → p ts ≡ Ok (x, after) → appended acc (read_many first p ts) ≡ y → appended (acc ++ x ∷ []) (read_many first p after) ≡ y
next_one {first = first} {more = more} {R = R} {p = p} P acc ts x after y is_there e h =
    sym (appended_more acc x (read_many first p after)) ∙ ap (λ w. appended acc w) (sym (many_step first more R p P ts x after is_there e)) ∙ h

pub none_yet : {B : Type 0} (r : Result (List B × List Token) Stop) → appended [] r ≡ r
none_yet (Ok y) = refl
none_yet (Err e) = refl

pub no_more_of : {B : Type 0} (first : List Kind) (p : Reader B) (acc : List B) (ts : List Token) (y : Result (List B × List Token) Stop) → heads first ts ≡ false → appended acc (read_many first p ts) ≡ y → y ≡ Ok (acc, ts)
no_more_of first p acc [] y not_there h = sym h ∙ ap (λ w. found w []) (append-nil acc)
no_more_of first p acc (t ∷ ts) y not_there h = sym h ∙ rw not_there (ap (λ w. found w (t ∷ ts)) (append-nil acc))

pub one_fails : {B : Type 0} (first : List Kind) (p : Reader B) (acc : List B) (ts : List Token) (e : Stop) (y : Result (List B × List Token) Stop) → heads first ts ≡ true → p ts ≡ Err e → appended acc (read_many first p ts) ≡ y → y ≡ Err e
one_fails first p acc [] e y is_there one h = absurd cc
one_fails first p acc (t ∷ ts) e y is_there one h = sym h ∙ rw (is_there, one) refl
