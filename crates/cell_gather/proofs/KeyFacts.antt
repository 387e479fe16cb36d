-- Parts of keys.
use Rattle.std.proofs.Common.{◌≡◌, ◌+◌, ◌∙◌, ℕ, List, [], ◌∷◌, map, length, Bool, true, false, cond, refl, sym, ap, arith, zero-add}
use mathlib.Core.Bool.{true≢false}
use Rattle.std.specs.Prelude.{count_by, sum_by}
use Rattle.std.specs.List.{filter}
use Rattle.std.proofs.lemmas.List.{length-map}
use Rattle.std.proofs.lemmas.List.Sums.{sum_by-cons}
use Rattle.agg_group.specs.declared.mask.Mask.{Mask}
use Rattle.agg_group.specs.Mask.{IsWithin, count_of, has}
use Rattle.agg_group.specs.Sets.{dimensions}
use Rattle.cell_gather.specs.Keys.{dims_of, kept_numbers, part_of}

count-cons : {X : Type 0} (p : X → Bool) (x : X) (xs : List X) → count_by p (x ∷ xs) ≡ cond (p x) 1 0 + count_by p xs
count-cons p x xs = sum_by-cons (λ y. cond (p y) 1 0) x xs

length-kept : (keeps : List Bool) (key : List ℕ) → length keeps ≡ length key → length (kept_numbers keeps key) ≡ count_by (λ b. b) keeps
length-kept [] key e = refl
length-kept (keep ∷ keeps) [] e = absurd (omega arith)
length-kept (true ∷ keeps) (id ∷ key) e = let rest = length-kept keeps key (omega arith) in let one = count-cons (λ b. b) true keeps in omega arith
length-kept (false ∷ keeps) (id ∷ key) e = let rest = length-kept keeps key (omega arith) in let one = count-cons (λ b. b) false keeps in omega arith

module _ {X : Type 0} (p q : X → Bool) where
  count-map : (xs : List X) → count_by (λ b. b) (map p xs) ≡ count_by p xs
  count-map [] = refl
  count-map (x ∷ xs) = count-cons (λ b. b) (p x) (map p xs) ∙ ap (λ n. cond (p x) 1 0 + n) (count-map xs) ∙ sym (count-cons p x xs)

  length-filter : (xs : List X) → length (filter q xs) ≡ count_by q xs
  length-filter [] = refl
  length-filter (x ∷ xs) = by (q x) (length-filter xs) ∙ sym (count-cons q x xs)
    where
      by : (b : Bool) → length (filter q xs) ≡ count_by q xs → length (cond b (x ∷ filter q xs) (filter q xs)) ≡ cond b 1 0 + count_by q xs
      by true h = omega arith
      by false h = omega arith

  count-filter : ((x : X) → p x ≡ true → q x ≡ true) → (xs : List X) → count_by p (filter q xs) ≡ count_by p xs
  count-filter within [] = refl
  count-filter within (x ∷ xs) = by (q x) (p x) refl refl (count-filter within xs) ∙ sym (count-cons p x xs)
    where
      by : (a b : Bool) → q x ≡ a → p x ≡ b → count_by p (filter q xs) ≡ count_by p xs → count_by p (cond a (x ∷ filter q xs) (filter q xs)) ≡ cond (p x) 1 0 + count_by p xs
      by true b e f h = count-cons p x (filter q xs) ∙ ap (λ n. cond (p x) 1 0 + n) h
      by false true e f h = absurd (true≢false (sym (within x f) ∙ e))
      by false false e f h = h ∙ sym (ap (λ c. cond c 1 0 + count_by p xs) f ∙ zero-add (count_by p xs))

-- a key of a mask has as many numbers in the part of a smaller one as that has dimensions
pub length-part : (whole part : Mask) (key : List ℕ) → IsWithin part whole → length key ≡ count_of whole → length (part_of whole part key) ≡ count_of part
unfolding count_of dims_of
length-part whole part key within size =
    let ds = filter (has whole) (dimensions 64) in
    let long : length (map (has part) ds) ≡ length key = length-map ds (has part) ∙ length-filter (has part) (has whole) (dimensions 64) ∙ sym size in
    length-kept (map (has part) ds) key long ∙ count-map (has part) (has whole) ds ∙ count-filter (has part) (has whole) within (dimensions 64)

kept_all : (p : ℕ → Bool) (ds : List ℕ) (key : List ℕ) → length (filter p ds) ≡ length key → kept_numbers (map p (filter p ds)) key ≡ key
kept_all p [] [] e = refl
kept_all p [] (id ∷ key) e = absurd (omega arith)
kept_all p (d ∷ ds) key e = by (p d) refl key e (kept_all p ds)
  where
    by : (b : Bool) → p d ≡ b → (key : List ℕ) → length (cond b (d ∷ filter p ds) (filter p ds)) ≡ length key
        → ((key : List ℕ) → length (filter p ds) ≡ length key → kept_numbers (map p (filter p ds)) key ≡ key)
        → kept_numbers (map p (cond b (d ∷ filter p ds) (filter p ds))) key ≡ key
    by true f [] e rest = absurd (omega arith)
    by true f (id ∷ key) e rest = ap (λ b. kept_numbers (b ∷ map p (filter p ds)) (id ∷ key)) f ∙ ap (λ l. id ∷ l) (rest key (omega arith))
    by false f key e rest = rest key e

-- the part of a key that is of all its dimensions is the key
pub whole_part : (mask : Mask) (key : List ℕ) → length key ≡ count_of mask → part_of mask mask key ≡ key
unfolding count_of dims_of
whole_part mask key size = kept_all (has mask) (dimensions 64) key (length-filter (has mask) (has mask) (dimensions 64) ∙ sym size)
