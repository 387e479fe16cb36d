-- Aggregates gathered in turn.
use Rattle.std.proofs.Common.{◌≡◌, ℕ, ◌<◌, ◌+◌, List, [], ◌∷◌, ◌++◌, length, Bool, true, false, fold, refl, sym, ap, ◌∙◌, arith, cond, take, get_or}
use Rattle.std.specs.List.{flat_map, list_any}
use Rattle.std.proofs.lemmas.List.{length-append, append-nil, take_more}
use Rattle.std.proofs.lemmas.List.Concat as concats
use Rattle.std.proofs.lemmas.List.Sums as sums
use Rattle.plain_answer.specs.declared.ask.Agg.{Agg}
use Rattle.query_bind.specs.Asks.{same_agg, with_agg}

pub fold_append : {A B : Type 0} (f : B → A → B) (a : B) (xs ys : List A) → fold f a (xs ++ ys) ≡ fold f (fold f a xs) ys
fold_append f a xs ys = sums.fold-append f a xs ys

-- there is an aggregate, once one has been gathered

added : (b : Bool) (aggs : List Agg) (a : Agg) → 0 < length aggs → 0 < length (cond b aggs (aggs ++ a ∷ []))
added true aggs a h = h
added false aggs a h = omega (arith, length-append aggs (a ∷ []))

grows : (xs aggs : List Agg) → 0 < length aggs → 0 < length (fold with_agg aggs xs)
grows [] aggs h = h
grows (x ∷ xs) aggs h = grows xs (with_agg aggs x) (added (list_any (same_agg x) aggs) aggs x h)

pub some_gathered : (xs : List Agg) → 0 < length xs → 0 < length (fold with_agg [] xs)
some_gathered [] h = h
some_gathered (x ∷ xs) h = grows xs (x ∷ []) (omega arith)

-- one more item

pub gathered_more : {X : Type 0} (give : X → List Agg) (xs : List X) (i : ℕ) (x : X) (start now next : List Agg) → i < length xs → x ≡ get_or xs i x
    → now ≡ fold with_agg start (flat_map give (take i xs)) → next ≡ fold with_agg now (give x) → next ≡ fold with_agg start (flat_map give (take (i + 1) xs))
gathered_more give xs i x start now next h e before step =
    let cut : take (i + 1) xs ≡ take i xs ++ x ∷ [] = rw (take_more xs i x h) (ap (λ y. take i xs ++ y ∷ []) (sym e)) in
    step ∙ rw (before, cut, concats.flat_map-append give (take i xs) (x ∷ []), append-nil (give x), fold_append with_agg start (flat_map give (take i xs)) (give x)) refl
