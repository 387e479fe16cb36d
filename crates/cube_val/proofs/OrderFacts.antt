-- Only equal values and equal rows tie in their orders.
use Rattle.std.proofs.Common.{◌≡◌, List, ap, refl, sym}
use Rattle.std.specs.FinMap.{slice_cmp-IsAntisymmetric}
use mathlib.Core.Bool.{true≢false, true}
use Rattle.std.specs.declared.cmp.Ordering.{Ordering}
use Rattle.std.specs.declared.cmp.Ordering.TheVariants.{Less, Equal, Greater}
use Rattle.std.specs.Ordering.{eq_by_cmp, is_eq, ordering_then}
use Rattle.std.specs.Cmp.{tied_itself}
use Rattle.std.proofs.lemmas.Map.Lookups.{exact_bytes, exact_signed}
use Rattle.cube_val.specs.declared.val.Val.{Val}
use Rattle.cube_val.specs.declared.val.Val.TheVariants.{Null, Int, Text}
use Rattle.cube_val.specs.Order.{row_cmp, val_cmp}
use Rattle.cube_val.specs.OrderLaws.{val_cmp_total}

not_equal : {A : Type 0} → Less ≡ Equal → A
not_equal e = absurd (true≢false (sym (ap is_eq e)))

not_above : {A : Type 0} → Greater ≡ Equal → A
not_above e = absurd (true≢false (sym (ap is_eq e)))

first_equal : (a : Ordering) → ordering_then a Equal ≡ Equal → a ≡ Equal
first_equal Less e = not_equal e
first_equal Equal e = refl
first_equal Greater e = not_above e

pub val_cmp_exact : (x y : Val) → val_cmp x y ≡ Equal → x ≡ y
val_cmp_exact Null Null e = refl
val_cmp_exact Null (Int n) e = not_equal e
val_cmp_exact Null (Text t) e = not_equal e
val_cmp_exact (Int n) Null e = not_above e
val_cmp_exact (Int n) (Int m) e = ap Int (exact_signed n m (first_equal _ e))
val_cmp_exact (Int n) (Text t) e = not_equal e
val_cmp_exact (Text t) Null e = not_above e
val_cmp_exact (Text t) (Int n) e = not_above e
val_cmp_exact (Text t) (Text u) e = ap Text (exact_bytes t u e)

tie_from_eq : (o : Ordering) → is_eq o ≡ true → o ≡ Equal
tie_from_eq Less e = cc
tie_from_eq Equal e = refl
tie_from_eq Greater e = cc

-- `==` on values is equality
pub val_eq_exact : (x y : Val) → eq_by_cmp val_cmp x y ≡ true → x ≡ y
val_eq_exact x y e = val_cmp_exact x y (tie_from_eq (val_cmp x y) e)

pub val_cmp_same : (x : Val) → val_cmp x x ≡ Equal
val_cmp_same x = tied_itself val_cmp_total x

pub val_eq_same : (x y : Val) → x ≡ y → eq_by_cmp val_cmp x y ≡ true
val_eq_same x y same = rw (same, val_cmp_same y) refl

pub row_cmp_exact : (v w : List Val) → row_cmp v w ≡ Equal → v ≡ w
row_cmp_exact = slice_cmp-IsAntisymmetric val_cmp_exact
