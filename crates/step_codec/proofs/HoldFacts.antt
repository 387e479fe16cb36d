-- Values in dictionaries.
use Rattle.std.proofs.Common.{◌≡◌, ◌≤◌, ◌<◌, ◌+◌, ℕ, Bool, true, false, cond, List, [], ◌∷◌, drop, length, Option, Some, None, refl, sym, ap, ◌∙◌, get_or, arith, inl, inr}
use Rattle.std.specs.Prelude.{◌↔◌, Contains, IfSome, IsNone, is_some, min, slice_get}
use Rattle.std.specs.Cmp.{eq_by_cmp_equiv}
use Rattle.std.specs.Ordering.{eq_by_cmp, is_eq}
use Rattle.std.specs.declared.cmp.Ordering.{Ordering}
use Rattle.std.specs.declared.cmp.Ordering.TheVariants.{Less, Equal, Greater}
use Rattle.std.proofs.lemmas.Bool.{cases_lt}
use Rattle.std.proofs.lemmas.List.{drop_all, get_or_default}
use Rattle.std.proofs.lemmas.Map.Views.{Contains-from_any, list_any-from_Contains}
use Rattle.std.proofs.lemmas.Option.{get_or_from_slice_get, slice_get_within}
use Rattle.byte_frame.proofs.Loop.{left_is}
use Rattle.cube_val.specs.declared.val.Val.{Val}
use Rattle.cube_val.specs.Order.{val_cmp}
use Rattle.cube_val.specs.OrderLaws.{val_cmp_total}
use Rattle.cube_val.proofs.OrderFacts.{val_cmp_exact}
use Rattle.table_reader.specs.Keys.{val_at}
use Rattle.step_codec.specs.Bodies.{holds, is_in}
use Rattle.step_codec.specs.declared.layout.DictColumn.{DictColumn}

is_equal : (o : Ordering) → is_eq o ≡ true → o ≡ Equal
is_equal Less e = absurd cc
is_equal Equal e = refl
is_equal Greater e = absurd cc

there_is : (dict : List Val) (v : Val) → Contains dict v → is_in dict v ≡ true
there_is dict v h = list_any-from_Contains (eq_by_cmp_equiv val_cmp_total) v dict h

is_there : (dict : List Val) (v : Val) → is_in dict v ≡ true → Contains dict v
is_there dict v e = Contains-from_any {eq = eq_by_cmp val_cmp} (λ x y h. val_cmp_exact x y (is_equal (val_cmp x y) h)) v dict e

pub found_is : (o : Option ℕ) (dict : List Val) (v : Val) → IfSome o (λ id. slice_get dict id ≡ Some v) → (IsNone o ↔ ¬ (Contains dict v)) → is_some o ≡ is_in dict v
found_is (Some id) dict v found absent = sym (there_is dict v (id, slice_get_within dict id v found, get_or_from_slice_get dict id v v found))
found_is None dict v found absent = by (is_in dict v) refl where
  by : (b : Bool) → is_in dict v ≡ b → false ≡ is_in dict v
  by false e = sym e
  by true e = absurd (absent.0 refl (is_there dict v e))

holds_more : (columns : List DictColumn) (dicts : List (List Val)) (row : List Val) (i : ℕ) (z : DictColumn) (d : List Val) → i < length columns → slice_get dicts i ≡ Some d
    → holds (drop i columns) (drop i dicts) row ≡ cond (is_in d (val_at row (get_or columns i z).place)) (holds (drop (i + 1) columns) (drop (i + 1) dicts) row) false
holds_more columns dicts row i z d lt at =
    rw (left_is columns i (get_or columns i z) lt (get_or_default columns i z (get_or columns i z) lt), left_is dicts i d (slice_get_within dicts i d at) (sym (get_or_from_slice_get dicts i d d at))) refl

module _ (columns : List DictColumn) (dicts : List (List Val)) (row vals : List Val) (i : ℕ) (z : DictColumn) (d : List Val) (b : Bool) (lt : i < length columns) (at : slice_get dicts i ≡ Some d) (same : vals ≡ row) (is : b ≡ is_in d (val_at vals (get_or columns i z).place)) where
  held : b ≡ is_in d (val_at row (get_or columns i z).place)
  held = is ∙ ap (λ (r : List Val). is_in d (val_at r (get_or columns i z).place)) same

  pub holds_not : b ≡ false → holds (drop i columns) (drop i dicts) row ≡ false
  holds_not e =
      holds_more columns dicts row i z d lt at
      ∙ ap (λ (x : Bool). cond x (holds (drop (i + 1) columns) (drop (i + 1) dicts) row) false) (sym held ∙ e)

  pub holds_so : b ≡ true → holds (drop i columns) (drop i dicts) row ≡ holds (drop (i + 1) columns) (drop (i + 1) dicts) row
  holds_so e =
      holds_more columns dicts row i z d lt at
      ∙ ap (λ (x : Bool). cond x (holds (drop (i + 1) columns) (drop (i + 1) dicts) row) false) (sym held ∙ e)

no_dicts : (columns : List DictColumn) (row : List Val) → holds columns [] row ≡ true
no_dicts [] row = refl
no_dicts (c ∷ columns) row = refl

pub holds_end : (columns : List DictColumn) (dicts : List (List Val)) (row : List Val) (i : ℕ) → min (length columns) (length dicts) ≤ i → holds (drop i columns) (drop i dicts) row ≡ true
holds_end columns dicts row i h = elim (cases_lt i (length columns)) [
  | inr le ↦ rw (drop_all i columns le) refl
  | inl lt ↦ rw (drop_all i dicts (omega (arith, h, lt))) (no_dicts (drop i columns) row)
]
