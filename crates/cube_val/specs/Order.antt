-- The order of values: null first, then numbers by size, then texts by their bytes. Rows are ordered by their first difference.
use Rattle.std.specs.Prelude.{ℕ, ℤ, pos, List, []}
use Rattle.std.specs.declared.cmp.Ordering.{Ordering}
use Rattle.std.specs.Ordering.{nat_cmp, int_cmp, on, then_cmp}
use Rattle.std.specs.Cmp.Lexicographic.{slice_cmp}
use Rattle.cube_val.specs.declared.val.Val.{Val}
use Rattle.cube_val.specs.declared.val.Val.TheVariants.{Null, Int, Text}

abbrev pub kind_of : Val → ℕ
kind_of Null = 0
kind_of (Int n) = 1
kind_of (Text t) = 2

abbrev pub number_of : Val → ℤ
number_of Null = pos 0
number_of (Int n) = n
number_of (Text t) = pos 0

abbrev pub bytes_of : Val → List ℕ
bytes_of Null = []
bytes_of (Int n) = []
bytes_of (Text t) = t

abbrev pub val_cmp : Val → Val → Ordering
val_cmp = then_cmp (on kind_of nat_cmp) (then_cmp (on number_of int_cmp) (on bytes_of (slice_cmp nat_cmp)))

abbrev pub row_cmp : List Val → List Val → Ordering
row_cmp = slice_cmp val_cmp
