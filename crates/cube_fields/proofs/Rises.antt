-- Lists that rise strictly: the test and the definition.
use Rattle.std.proofs.Common.{◌≡◌, Bool, true, false, cond, List, [], ◌∷◌, refl, ap, sym, ◌∙◌}
use Rattle.std.specs.Prelude.{ℕ, map}
use Rattle.std.specs.Cmp.{IsTotalOrder}
use Rattle.std.specs.List.{AllByRecursion}
use Rattle.std.specs.List.Sorted.{IsStrictlySortedBy}
use Rattle.std.specs.Ordering.{is_lt}
use Rattle.std.specs.declared.cmp.Ordering.{Ordering}
use Rattle.std.specs.declared.cmp.Ordering.TheVariants.{Less, Equal, Greater}
use Rattle.byte_frame.specs.Spelling.{rises}
use Rattle.cell_store.specs.declared.cell.Cell.{Cell}
use Rattle.cell_store.specs.Cells.{key_cmp}
use Rattle.cube_fields.specs.Orders.{before}
use Rattle.cube_fields.specs.Reading.{key_before}

is_less : (o : Ordering) → is_lt o ≡ true → o ≡ Less
is_less Less e = refl
is_less Equal e = absurd cc
is_less Greater e = absurd cc

two : (a b : Bool) → cond a b false ≡ true → (a ≡ true) × (b ≡ true)
two true b e = (refl, e)
two false b e = absurd cc

module _ {K : Type 0} {cmp : K → K → Ordering} (order : IsTotalOrder cmp) where
  below_all : (x y : K) (ys : List K) → cmp x y ≡ Less → AllByRecursion (λ z. cmp y z ≡ Less) ys → AllByRecursion (λ z. cmp x z ≡ Less) ys
  below_all x y [] h all = tt
  below_all x y (z ∷ ys) h all = (order.trans x y z h all.0, below_all x y ys h all.1)

  pub sorted : (xs : List K) → rises (before cmp) xs ≡ true → IsStrictlySortedBy cmp xs
  unfolding IsStrictlySortedBy
  sorted [] e = tt
  sorted (x ∷ []) e = (tt, tt)
  sorted (x ∷ y ∷ ys) e =
      let g = two (before cmp x y) (rises (before cmp) (y ∷ ys)) e in
      let rest = sorted (y ∷ ys) g.1 in
      let less = is_less (cmp x y) g.0 in
      ((less, below_all x y ys less rest.0), rest)

  pub rising : (xs : List K) → IsStrictlySortedBy cmp xs → rises (before cmp) xs ≡ true
  unfolding IsStrictlySortedBy
  rising [] h = refl
  rising (x ∷ []) h = refl
  rising (x ∷ y ∷ ys) h = rw h.0.0 (rising (y ∷ ys) h.1)

-- the keys of rows
keys_rise : (rows : List (List ℕ × List Cell)) → rises key_before rows ≡ rises (before key_cmp) (map (λ row. row.0) rows)
keys_rise [] = refl
keys_rise (x ∷ []) = refl
keys_rise (x ∷ y ∷ ys) = ap (λ (b : Bool). cond (before key_cmp x.0 y.0) b false) (keys_rise (y ∷ ys))

pub keys_sorted : IsTotalOrder key_cmp → (rows : List (List ℕ × List Cell)) → rises key_before rows ≡ true → IsStrictlySortedBy key_cmp (map (λ row. row.0) rows)
keys_sorted order rows e = sorted order (map (λ row. row.0) rows) (sym (keys_rise rows) ∙ e)

pub keys_rising : IsTotalOrder key_cmp → (rows : List (List ℕ × List Cell)) → IsStrictlySortedBy key_cmp (map (λ row. row.0) rows) → rises key_before rows ≡ true
keys_rising order rows h = keys_rise rows ∙ rising order (map (λ row. row.0) rows) h
