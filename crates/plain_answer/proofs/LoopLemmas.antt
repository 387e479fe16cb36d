-- One more item of a list, for loops that go over one.
use Rattle.std.proofs.Common.{◌≡◌, ℕ, ◌+◌, ◌<◌, ◌≤◌, arith, Bool, true, false, cond, List, [], ◌∷◌, ◌++◌, length, get_or, take, map, filter, Some, None, refl, sym, ap, ◌∙◌}
use Rattle.std.specs.declared.option.Option.{Option}
use Rattle.std.specs.List.{All, AllByRecursion, filter_map, cons_option}
use Rattle.std.specs.Option.{option_to_list}
use Rattle.std.proofs.lemmas.List.{append-nil, map-append, take_more}
use Rattle.std.proofs.lemmas.List.Elements.{All-cons, All-nil, filter-append, filter_map-append}
use denote.Ref.{Bor}

pub take_one_more : {X : Type 0} (xs : List X) (i : ℕ) (x : X) → i < length xs → x ≡ get_or xs i x → take (i + 1) xs ≡ take i xs ++ x ∷ []
take_one_more xs i x here at = take_more xs i x here ∙ ap (λ y. take i xs ++ y ∷ []) (sym at)

pub map_more : {X Y : Type 0} (f : X → Y) (xs : List X) (i : ℕ) (x : X) → i < length xs → x ≡ get_or xs i x → map f (take (i + 1) xs) ≡ map f (take i xs) ++ f x ∷ []
map_more f xs i x here at = ap (map f) (take_one_more xs i x here at) ∙ map-append f (take i xs) (x ∷ [])

pub length-filter : {X : Type 0} (p : X → Bool) (xs : List X) → length (filter p xs) ≤ length xs
length-filter p [] = omega arith
length-filter p (x ∷ xs) = by (p x) (length-filter p xs)
  where
    by : (b : Bool) → length (filter p xs) ≤ length xs → length (cond b (x ∷ filter p xs) (filter p xs)) ≤ length (x ∷ xs)
    by true more = omega arith
    by false more = omega arith

-- what holds of each item, one after another
pub all_listed : {X : Type 0} (P : X → Type 0) (xs : List X) → AllByRecursion P xs → All P xs
all_listed P [] h = All-nil P
all_listed P (x ∷ xs) h = All-cons P x xs h.0 (all_listed P xs h.1)

-- a value that is no Some is None
pub none_from : {X : Type 0} (o : Option X) → ((x : X) → o ≡ Some x → ⊥) → o ≡ None
none_from None other = refl
none_from (Some x) other = absurd (other x refl)

module _ {X : Type 0} where
  abbrev now : Bor X → X
  now r = r.now

  pub map_more_now : {Y : Type 0} (f : X → Y) (rs : List (Bor X)) (i : ℕ) (r : Bor X) → i < length rs → r ≡ get_or rs i r
      → map f (map (λ r. r.now) (take (i + 1) rs)) ≡ map f (map (λ r. r.now) (take i rs)) ++ f r.now ∷ []
  map_more_now f rs i r here at = ap (map f) (map_more now rs i r here at) ∙ map-append f (map now (take i rs)) (r.now ∷ [])

  pub filter_more_now : (p : X → Bool) (rs : List (Bor X)) (i : ℕ) (r : Bor X) → i < length rs → r ≡ get_or rs i r
      → filter p (map (λ r. r.now) (take (i + 1) rs)) ≡ filter p (map (λ r. r.now) (take i rs)) ++ cond (p r.now) (r.now ∷ []) []
  filter_more_now p rs i r here at = ap (filter p) (map_more now rs i r here at) ∙ filter-append p (map now (take i rs)) (r.now ∷ [])

  pub filter_map_more_now : {Y : Type 0} (h : X → Option Y) (rs : List (Bor X)) (i : ℕ) (r : Bor X) → i < length rs → r ≡ get_or rs i r
      → filter_map h (map (λ r. r.now) (take (i + 1) rs)) ≡ filter_map h (map (λ r. r.now) (take i rs)) ++ option_to_list (h r.now)
  filter_map_more_now {Y} h rs i r here at =
      ap (filter_map h) (map_more now rs i r here at) ∙ filter_map-append h (map now (take i rs)) (r.now ∷ []) ∙ ap (λ l. filter_map h (map now (take i rs)) ++ l) (one (h r.now))
    where
      one : (o : Option Y) → cons_option o [] ≡ option_to_list o
      one None = refl
      one (Some y) = refl

  pub filter_map_more_some : {Y : Type 0} (h : X → Option Y) (rs : List (Bor X)) (i : ℕ) (r : Bor X) (y : Y) → i < length rs → r ≡ get_or rs i r → h r.now ≡ Some y
      → filter_map h (map (λ r. r.now) (take (i + 1) rs)) ≡ filter_map h (map (λ r. r.now) (take i rs)) ++ y ∷ []
  filter_map_more_some h rs i r y here at some = filter_map_more_now h rs i r here at ∙ ap (λ o. filter_map h (map now (take i rs)) ++ option_to_list o) some

  pub filter_map_more_none : {Y : Type 0} (h : X → Option Y) (rs : List (Bor X)) (i : ℕ) (r : Bor X) → i < length rs → r ≡ get_or rs i r → h r.now ≡ None
      → filter_map h (map (λ r. r.now) (take (i + 1) rs)) ≡ filter_map h (map (λ r. r.now) (take i rs))
  filter_map_more_none h rs i r here at none = filter_map_more_now h rs i r here at ∙ ap (λ o. filter_map h (map now (take i rs)) ++ option_to_list o) none ∙ append-nil _
