-- The laws of sets of items.
use Rattle.std.proofs.Common.{◌≡◌, ◌++◌, ◌∙◌, ℕ, List, [], ◌∷◌, Bool, true, false, ◌||◌, refl, sym, ap, arith, length-append}
use mathlib.Core.HLevel.{Σ_prop_path}
use base.Stored.{coded_via}
use Rattle.std.specs.BTreeSet.{insert_key}
use Rattle.std.specs.Cmp.{nat_cmp_total}
use Rattle.std.specs.Coded.{Coded, coded×, coded_list, coded_ℕ}
use Rattle.std.specs.FinMap.{nat_cmp-IsAntisymmetric}
use Rattle.std.specs.List.{list_any}
use Rattle.std.specs.List.Sorted.{IsStrictlySortedBy, IsStrictlySortedBy-prop}
use Rattle.std.specs.Ordering.{eq_by_cmp, nat_cmp}
use Rattle.std.proofs.lemmas.List.Folds.{list_any-append}
use Rattle.measure_laws.specs.Ids.{Ids, different, ids_of, merged_ids, rises-different}
use Rattle.measure_laws.specs.Measures.{MeasureLaws}
use Rattle.measure_laws.specs.RisingFacts.{any-insert_key, rises-insert_key, same_rising}

pub same_ids : (a b : Ids) → a.items ≡ b.items → a.ids ≡ b.ids → a ≡ b
same_ids a b p q =
    let pairs : ◌≡◌ {A = (xs : List ℕ) × IsStrictlySortedBy nat_cmp xs} (a.ids, a.rising) (b.ids, b.rising) = Σ_prop_path (λ xs. IsStrictlySortedBy-prop nat_cmp xs) q in
    λ i. record { items = p i; ids = (pairs i).0; rising = (pairs i).1 }

pub ids_code : Coded Ids
ids_code = coded_via (coded× coded_ℕ (coded_list coded_ℕ)) (λ s. (s.items, s.ids)) (λ a b e. same_ids a b (ap (λ p. p.0) e) (ap (λ p. p.1) e))

module _ (t : ℕ → Bool) where
  pub any-different : (xs : List ℕ) → list_any t (different xs) ≡ list_any t xs
  any-different [] = refl
  any-different (x ∷ xs) = any-insert_key nat_cmp_total nat_cmp-IsAntisymmetric t (different xs) x ∙ ap (λ b. t x || b) (any-different xs)

  or_assoc : (a b c : Bool) → ((a || b) || c) ≡ (a || (b || c))
  or_assoc true b c = refl
  or_assoc false b c = refl

  or_comm : (a b : Bool) → (a || b) ≡ (b || a)
  or_comm true true = refl
  or_comm true false = refl
  or_comm false true = refl
  or_comm false false = refl

  any-joined : (xs ys : List ℕ) → list_any t (different (xs ++ ys)) ≡ (list_any t xs || list_any t ys)
  any-joined xs ys = any-different (xs ++ ys) ∙ list_any-append t xs ys

  any_assoc : (a b c : List ℕ) → list_any t (different (different (a ++ b) ++ c)) ≡ list_any t (different (a ++ different (b ++ c)))
  any_assoc a b c =
      any-joined (different (a ++ b)) c ∙ ap (λ x. x || list_any t c) (any-joined a b)
      ∙ or_assoc (list_any t a) (list_any t b) (list_any t c)
      ∙ sym (any-joined a (different (b ++ c)) ∙ ap (λ x. list_any t a || x) (any-joined b c))

  any_comm : (a b : List ℕ) → list_any t (different (a ++ b)) ≡ list_any t (different (b ++ a))
  any_comm a b = any-joined a b ∙ or_comm (list_any t a) (list_any t b) ∙ sym (any-joined b a)

  any_of_parts : (xs ys : List ℕ) → list_any t (different (xs ++ ys)) ≡ list_any t (different (different xs ++ different ys))
  any_of_parts xs ys =
      any-joined xs ys ∙ sym (any-joined (different xs) (different ys) ∙ ap (λ x. x || list_any t (different ys)) (any-different xs) ∙ ap (λ x. list_any t xs || x) (any-different ys))

  any_push : (xs : List ℕ) (x : ℕ) → list_any t (different (xs ++ x ∷ [])) ≡ list_any t (insert_key nat_cmp (different xs) x)
  any_push xs x =
      any-joined xs (x ∷ []) ∙ or_comm (list_any t xs) (t x || false) ∙ or_assoc (t x) false (list_any t xs)
      ∙ sym (any-insert_key nat_cmp_total nat_cmp-IsAntisymmetric t (different xs) x ∙ ap (λ b. t x || b) (any-different xs))

pub same : (xs ys : List ℕ) → IsStrictlySortedBy nat_cmp xs → IsStrictlySortedBy nat_cmp ys → ((q : ℕ) → list_any (eq_by_cmp nat_cmp q) xs ≡ list_any (eq_by_cmp nat_cmp q) ys) → xs ≡ ys
same xs ys up_xs up_ys members = same_rising nat_cmp_total nat_cmp-IsAntisymmetric xs ys up_xs up_ys members

-- lists with the same members have the same different numbers
same_different : (xs ys : List ℕ) → ((t : ℕ → Bool) → list_any t (different xs) ≡ list_any t (different ys)) → different xs ≡ different ys
same_different xs ys members = same (different xs) (different ys) (rises-different xs) (rises-different ys) (λ q. members (eq_by_cmp nat_cmp q))

-- one more item is put in its place
pub different-push : (xs : List ℕ) (x : ℕ) → different (xs ++ x ∷ []) ≡ insert_key nat_cmp (different xs) x
different-push xs x = same _ _ (rises-different (xs ++ x ∷ [])) (rises-insert_key nat_cmp_total (different xs) x (rises-different xs)) (λ q. any_push (eq_by_cmp nat_cmp q) xs x)

-- the numbers of a rising list are different
pub different-rising : (xs : List ℕ) → IsStrictlySortedBy nat_cmp xs → different xs ≡ xs
different-rising xs up = same _ _ (rises-different xs) up (λ q. any-different (eq_by_cmp nat_cmp q) xs)

pub ids_laws : MeasureLaws (λ (s : Ids). s.items) ids_of merged_ids
ids_laws = record {
  associative = λ a b c. same_ids _ _ (omega arith) (same_different (different (a.ids ++ b.ids) ++ c.ids) (a.ids ++ different (b.ids ++ c.ids)) (λ t. any_assoc t a.ids b.ids c.ids));
  commutative = λ a b. same_ids _ _ (omega arith) (same_different (a.ids ++ b.ids) (b.ids ++ a.ids) (λ t. any_comm t a.ids b.ids));
  neutral = λ a. same_ids _ _ (omega arith) (different-rising a.ids a.rising);
  joined = λ xs ys. same_ids (ids_of (xs ++ ys)) (merged_ids (ids_of xs) (ids_of ys)) (length-append xs ys) (same_different (xs ++ ys) (different xs ++ different ys) (λ t. any_of_parts t xs ys));
  counted = λ xs. refl;
  counts_add = λ a b. refl;
}
