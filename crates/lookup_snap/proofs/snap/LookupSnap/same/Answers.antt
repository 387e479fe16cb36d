use Rattle.std.proofs.Common.{◌≡◌, ◌&&◌, List, Bool, true, false, ap, refl}
use Rattle.std.specs.Bool.{Decides}
use Rattle.std.specs.Ordering.{eq_by_cmp, is_eq}
use Rattle.std.specs.declared.cmp.Ordering.{Ordering}
use Rattle.std.specs.declared.cmp.Ordering.TheVariants.{Less, Equal, Greater}
use Rattle.std.proofs.lemmas.Cmp.{tied_itself}
use Rattle.std.proofs.lemmas.Slice.Eq.{slice_eq-Decides}
use Rattle.cube_val.proofs.OrderFacts.{row_cmp_exact}
use Rattle.cube_val.specs.Order.{row_cmp}
use Rattle.cube_val.specs.OrderLaws.{row_cmp_total}
use Rattle.cube_val.specs.declared.val.Val.{Val}
use Rattle.lookup_snap.proofs.snap.LookupSnap.same.Goals as goal

equal_from_is_eq : (o : Ordering) → is_eq o ≡ true → o ≡ Equal
equal_from_is_eq Less h = cc h
equal_from_is_eq Equal h = refl
equal_from_is_eq Greater h = cc h

same_row : (a b : List Val) → eq_by_cmp row_cmp a b ≡ true → a ≡ b
same_row a b e = row_cmp_exact a b (equal_from_is_eq (row_cmp a b) e)

row_itself : (a : List Val) → eq_by_cmp row_cmp a a ≡ true
row_itself a = ap is_eq (tied_itself row_cmp_total a)

both_true : (s t : Bool) → (s && t) ≡ true → (s ≡ true) × (t ≡ true)
both_true true true h = (refl, refl)
both_true true false h = cc h
both_true false t h = cc h

entry_decides : (a b : List Val × List Val) → Decides (eq_by_cmp row_cmp a.0 b.0 && eq_by_cmp row_cmp a.1 b.1) (a ≡ b)
entry_decides a b = (
  λ e.
      let both = both_true (eq_by_cmp row_cmp a.0 b.0) (eq_by_cmp row_cmp a.1 b.1) e in
      rw (same_row a.0 b.0 both.0, same_row a.1 b.1 both.1) refl,
  λ same. rw (same, row_itself b.0, row_itself b.1) refl,
)

pub returns : goal.returns
returns c =
    let told = slice_eq-Decides entry_decides c.self.inside.entries.items c.other.inside.entries.items c.eq.result c.eq.ensures in
    rw (c.self.view_is, c.other.view_is) at told
