-- Places that are found, and lists with one item more.
use Rattle.std.proofs.Common.{◌≡◌, ◌∙◌, ◌+◌, ◌++◌, ◌∷◌, [], ℕ, Bool, cond, List, Option, Some, None, ap, arith, length, refl, sym, inl, inr, ltb}
use Rattle.std.specs.Prelude.{not, option_to_list, unwrap_or}
use Rattle.std.specs.List.{cons_option, filter_map, position_or_len, range_with_len}
use Rattle.std.proofs.lemmas.Bool.{cases_lt, le-ltb, lt-ltb}
use Rattle.std.proofs.lemmas.List.{map-id}
use Rattle.std.proofs.lemmas.List.Elements.{filter_map-append}
use Rattle.std.proofs.lemmas.List.Sums.{prefix_len-le-length}
use Rattle.std.proofs.lemmas.List.FromFn.{map-range_with_len_more}

-- a place that is found, or the length
pub place_or_len : {X : Type 0} (t : X → Bool) (xs : List X) → unwrap_or (cond (ltb (position_or_len t xs) (length xs)) (Some (position_or_len t xs)) None) (length xs) ≡ position_or_len t xs
place_or_len t xs = elim (cases_lt (position_or_len t xs) (length xs)) [
  | inl lt ↦ ap (λ b. unwrap_or (cond b (Some (position_or_len t xs)) None) (length xs)) (lt-ltb (position_or_len t xs) (length xs) lt)
  | inr le ↦ ap (λ b. unwrap_or (cond b (Some (position_or_len t xs)) None) (length xs)) (le-ltb (position_or_len t xs) (length xs) le) ∙ omega (arith, le, prefix_len-le-length (λ x. not (t x)) xs)
]

pub range_more : (n : ℕ) → range_with_len 0 (n + 1) ≡ range_with_len 0 n ++ n ∷ []
range_more n =
    sym (map-id (range_with_len 0 (n + 1))) ∙ map-range_with_len_more (λ x. x) 0 n n (omega arith)
    ∙ ap (λ (xs : List ℕ). xs ++ n ∷ []) (map-id (range_with_len 0 n))

pub kept_more : {X Y : Type 0} (h : X → Option Y) (xs : List X) (x : X) → filter_map h (xs ++ x ∷ []) ≡ filter_map h xs ++ option_to_list (h x)
kept_more {Y = Y} h xs x = filter_map-append h xs (x ∷ []) ∙ ap (λ (ys : List Y). filter_map h xs ++ ys) (one (h x)) where
  one : (o : Option Y) → cons_option o [] ≡ option_to_list o
  one None = refl
  one (Some y) = refl
