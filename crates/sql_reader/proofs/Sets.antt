-- Short sets of kinds, and small facts on tests and lists.
use Rattle.std.proofs.Common.{◌≡◌, ℕ, Bool, true, false, not, ◌&&◌, ◌||◌, List, [], ◌∷◌, ◌++◌, length, Result, Ok, Err, refl, sym, ◌∙◌, inl, inr, ◌⊎◌}
use Rattle.sql_tokens.specs.declared.kind.Kind.{Kind}
use Rattle.sql_tokens.specs.declared.token.Token.{Token}
use Rattle.sql_reader.specs.declared.stop.Stop.{Stop}
use Rattle.sql_reader.specs.declared.stop.Stop.TheVariants.{Unexpected, Barred}
use Rattle.sql_reader.specs.Kinds.{number_of, same, among, heads, apart, within}
use Rattle.sql_reader.specs.Readers.{◌>>=◌}
use Rattle.std.proofs.lemmas.Bool.{eqb-true}

pub and_left : (a b : Bool) → (a && b) ≡ true → a ≡ true
and_left true b e = refl
and_left false b e = e

pub and_right : (a b : Bool) → (a && b) ≡ true → b ≡ true
and_right true b e = e
and_right false b e = absurd cc

pub or_cases : (a b : Bool) → (a || b) ≡ true → (a ≡ true) ⊎ (b ≡ true)
or_cases true b e = inl refl
or_cases false b e = inr e

pub or_left : (a b : Bool) → (a || b) ≡ false → a ≡ false
or_left true b e = e
or_left false b e = refl

pub or_right : (a b : Bool) → (a || b) ≡ false → b ≡ false
or_right true b e = absurd cc
or_right false b e = e

pub or_false : (a b : Bool) → a ≡ false → b ≡ false → (a || b) ≡ false
or_false true b e f = e
or_false false b e f = f

pub or_true_right : (a b : Bool) → b ≡ true → (a || b) ≡ true
or_true_right true b e = refl
or_true_right false b e = e

pub or_true_left : (a b : Bool) → a ≡ true → (a || b) ≡ true
or_true_left true b e = refl
or_true_left false b e = absurd cc

pub not_true : (a : Bool) → not a ≡ true → a ≡ false
not_true true e = absurd cc
not_true false e = refl

pub false_if : (a : Bool) → (a ≡ true → ⊥) → a ≡ false
false_if true h = absurd (h refl)
false_if false h = refl

pub both_ways : (a : Bool) → (a ≡ true) ⊎ (a ≡ false)
both_ways true = inl refl
both_ways false = inr refl

among_same : (xs : List Kind) (a b : Kind) → number_of a ≡ number_of b → among xs a ≡ among xs b
among_same [] a b e = refl
among_same (x ∷ xs) a b e = rw (e, among_same xs a b e) refl

-- what is in one of two sets that are apart is not in the other
pub apart_right : (xs ys : List Kind) (k : Kind) → apart xs ys ≡ true → among xs k ≡ true → among ys k ≡ false
apart_right [] ys k e h = absurd cc
apart_right (x ∷ xs) ys k e h =
    elim (or_cases (same k x) (among xs k) h) [
      | inl s ↦ among_same ys k x (eqb-true (number_of k) (number_of x) s) ∙ not_true (among ys x) (and_left (not (among ys x)) (apart xs ys) e)
      | inr m ↦ apart_right xs ys k (and_right (not (among ys x)) (apart xs ys) e) m
    ]

pub apart_left : (xs ys : List Kind) (k : Kind) → apart xs ys ≡ true → among ys k ≡ true → among xs k ≡ false
apart_left xs ys k e h = false_if (among xs k) (λ m. let f = apart_right xs ys k e m in cc)

pub within_among : (xs ys : List Kind) (k : Kind) → within xs ys ≡ true → among xs k ≡ true → among ys k ≡ true
within_among [] ys k e h = absurd cc
within_among (x ∷ xs) ys k e h =
    elim (or_cases (same k x) (among xs k) h) [
      | inl s ↦ among_same ys k x (eqb-true (number_of k) (number_of x) s) ∙ and_left (among ys x) (within xs ys) e
      | inr m ↦ within_among xs ys k (and_right (among ys x) (within xs ys) e) m
    ]

or_under : (a b c d : Bool) → b ≡ (c || d) → (a || b) ≡ ((a || c) || d)
or_under true b c d e = refl
or_under false b c d e = e

pub among-append : (xs ys : List Kind) (k : Kind) → among (xs ++ ys) k ≡ (among xs k || among ys k)
among-append [] ys k = refl
among-append (x ∷ xs) ys k = or_under (same k x) (among (xs ++ ys) k) (among xs k) (among ys k) (among-append xs ys k)

pub heads_left : (xs ys : List Kind) (ts : List Token) → heads (xs ++ ys) ts ≡ false → heads xs ts ≡ false
heads_left xs ys [] e = refl
heads_left xs ys (t ∷ ts) e = or_left (among xs t.kind) (among ys t.kind) (sym (among-append xs ys t.kind) ∙ e)

pub heads_right : (xs ys : List Kind) (ts : List Token) → heads (xs ++ ys) ts ≡ false → heads ys ts ≡ false
heads_right xs ys [] e = refl
heads_right xs ys (t ∷ ts) e = or_right (among xs t.kind) (among ys t.kind) (sym (among-append xs ys t.kind) ∙ e)

pub heads_within : (xs ys : List Kind) (ts : List Token) → within xs ys ≡ true → heads ys ts ≡ false → heads xs ts ≡ false
heads_within xs ys [] w e = refl
heads_within xs ys (t ∷ ts) w e = false_if (among xs t.kind) (λ m. let f = within_among xs ys t.kind w m in cc)

-- ---- lists

pub split : {A : Type 0} (a b c d : List A) → a ++ b ≡ c ++ d → ((m : List A) × (c ≡ a ++ m)) ⊎ ((m : List A) × (a ≡ c ++ m) × (d ≡ m ++ b))
split [] b c d e = inl (c, refl)
split (x ∷ a) b [] d e = inr (x ∷ a, refl, sym e)
split (x ∷ a) b (y ∷ c) d e =
    let tails : a ++ b ≡ c ++ d = cc in
    let same_head : x ≡ y = cc in
    elim (split a b c d tails) [
      | inl p ↦ inl (p.0, let q = p.1 in cc)
      | inr p ↦ inr (p.0, let q = p.1 in cc, p.2)
    ]

pub empty_front : {A : Type 0} (a b : List A) → a ++ b ≡ [] → a ≡ []
empty_front [] b e = refl
empty_front (x ∷ a) b e = absurd cc

-- ---- results

pub bind_ok : {A B : Type 0} (r : Result A Stop) (f : A → Result B Stop) (y : B) → (r >>= f) ≡ Ok y → (x : A) × (r ≡ Ok x) × (f x ≡ Ok y)
bind_ok (Ok x) f y e = (x, refl, e)
bind_ok (Err d) f y e = absurd cc

pub bind_err : {A B : Type 0} (r : Result A Stop) (f : A → Result B Stop) (d : Stop) → (r >>= f) ≡ Err d → (r ≡ Err d) ⊎ ((x : A) × (r ≡ Ok x) × (f x ≡ Err d))
bind_err (Ok x) f d e = inr (x, refl, e)
bind_err (Err g) f d e = inl (cc)

abbrev done : {A : Type 0} → A → Result A Stop
done x = Ok x

pub ok_is : {A : Type 0} (x y : A) → done x ≡ done y → x ≡ y
ok_is x y e = cc

abbrev pub left_of : Stop → ℕ
left_of (Unexpected n) = n
left_of (Barred w n) = n

-- how many tokens were left
abbrev pub left : {A : Type 0} → Result (A × List Token) Stop → ℕ
left (Ok x) = length x.1
left (Err f) = left_of f

pub left_seen : {A B : Type 0} (r : Result (A × List Token) Stop) (f : A → B) → left (r >>= λ x. Ok (f x.0, x.1)) ≡ left r
left_seen (Ok x) f = refl
left_seen (Err d) f = refl
