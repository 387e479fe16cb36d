-- Facts about joined rows.
use Rattle.std.proofs.Common.{◌≡◌, ◌<◌, ◌+◌, ◌∙◌, ℕ, List, [], ◌∷◌, ◌++◌, Bool, Option, true, false, refl, ap, sym, append_assoc, get_or, length, take}
use Rattle.std.specs.Prelude.{map, filter, if◌then◌else◌}
use Rattle.std.proofs.lemmas.List.{take_more}
use Rattle.cube_val.specs.declared.form.JoinPlan.{JoinPlan}
use Rattle.cube_val.specs.declared.form.WideCol.{WideCol}
use Rattle.cube_val.specs.declared.val.Val.{Val}
use Rattle.range_list.specs.Ranges.{Interval}
use Rattle.flat_join.specs.Joins.{is_joined, joined_by, wide_row}

-- what is kept of two lists is what is kept of the one and then of the other
pub kept-append : {X Y : Type 0} (f : X → Y) (p : X → Bool) (xs ys : List X) → map f (filter p (xs ++ ys)) ≡ map f (filter p xs) ++ map f (filter p ys)
kept-append f p [] ys = refl
kept-append f p (x ∷ xs) ys = after (p x) (kept-append f p xs ys)
  where
    after : (b : Bool) → map f (filter p (xs ++ ys)) ≡ map f (filter p xs) ++ map f (filter p ys)
        → map f (if b then x ∷ filter p (xs ++ ys) else filter p (xs ++ ys)) ≡ map f (if b then x ∷ filter p xs else filter p xs) ++ map f (filter p ys)
    after true e = ap (λ zs. f x ∷ zs) e
    after false e = e

-- one fact row gives its joined row, or none
kept_one : {X Y : Type 0} (f : X → Y) (b : Bool) (x : X) → map f (if b then x ∷ [] else []) ≡ (if b then f x ∷ [] else [])
kept_one f true x = refl
kept_one f false x = refl

-- one fact row more, at the end
pub joined_more : (matches : List Val → List (Option (List Val))) (plan : JoinPlan) (columns : List WideCol) (range : Interval) (facts : List (List Val)) (i : ℕ) (fact : List Val)
    (old flat new : List (List Val)) → i < length facts → fact ≡ get_or facts i fact → flat ≡ old ++ joined_by matches plan columns range (take i facts)
    → new ≡ flat ++ (if is_joined plan range fact (matches fact) then wide_row columns fact (matches fact) ∷ [] else [])
    → new ≡ old ++ joined_by matches plan columns range (take (i + 1) facts)
joined_more matches plan columns range facts i fact old flat new lt is before pushed =
    let row : List Val → List Val = λ f. wide_row columns f (matches f) in
    let test : List Val → Bool = λ f. is_joined plan range f (matches f) in
    let one : List (List Val) = if test fact then row fact ∷ [] else [] in
    let had = joined_by matches plan columns range (take i facts) in
    let more : take (i + 1) facts ≡ take i facts ++ fact ∷ [] = take_more facts i fact lt ∙ ap (λ (f : List Val). take i facts ++ f ∷ []) (sym is) in
    let all : joined_by matches plan columns range (take (i + 1) facts) ≡ had ++ one
    = ap (joined_by matches plan columns range) more ∙ kept-append row test (take i facts) (fact ∷ []) ∙ ap (λ l. had ++ l) (kept_one row (test fact) fact) in
    pushed ∙ ap (λ l. l ++ one) before ∙ append_assoc old had one ∙ ap (λ l. old ++ l) (sym all)
