-- Values of answers, and their order: null first, then numbers by size, then texts by their bytes.
use Rattle.std.specs.Prelude.{ℕ, ℤ, pos, ◌*ℤ◌, Bool, true, false, List, []}
use Rattle.std.specs.declared.cmp.Ordering.{Ordering}
use Rattle.std.specs.Ordering.{nat_cmp, int_cmp, on, then_cmp}
use Rattle.std.specs.Cmp.Lexicographic.{slice_cmp}
use Rattle.cube_val.specs.declared.val.ColType.{ColType}
use Rattle.cube_val.specs.declared.val.ColType.TheVariants as ty
use Rattle.cube_val.specs.declared.val.Val.{Val}
use Rattle.cube_val.specs.declared.val.Val.TheVariants as val
use Rattle.plain_answer.specs.declared.answer.OutVal.{OutVal}
use Rattle.plain_answer.specs.declared.answer.OutVal.TheVariants.{Null, Whole, Units, Text}

-- a number of a column of the type, as it is shown: a decimal with its four decimals
abbrev pub shown_number : ColType → ℤ → OutVal
shown_number ty.Decimal n = Units n
shown_number t n = Whole n

-- a value of a column of the type, as it is shown
abbrev pub shown : ColType → Val → OutVal
shown t val.Null = Null
shown t (val.Int n) = shown_number t n
shown t (val.Text text) = Text text

abbrev pub is_null : OutVal → Bool
is_null Null = true
is_null (Whole n) = false
is_null (Units n) = false
is_null (Text t) = false

-- a whole number in units of 1/10000
abbrev pub in_units : ℤ → ℤ
in_units n = n *ℤ pos 10000

abbrev pub kind_of : OutVal → ℕ
kind_of Null = 0
kind_of (Whole n) = 1
kind_of (Units n) = 1
kind_of (Text t) = 2

abbrev pub units_of : OutVal → ℤ
units_of Null = pos 0
units_of (Whole n) = in_units n
units_of (Units n) = n
units_of (Text t) = pos 0

abbrev pub bytes_of : OutVal → List ℕ
bytes_of Null = []
bytes_of (Whole n) = []
bytes_of (Units n) = []
bytes_of (Text t) = t

abbrev pub out_cmp : OutVal → OutVal → Ordering
out_cmp = then_cmp (on kind_of nat_cmp) (then_cmp (on units_of int_cmp) (on bytes_of (slice_cmp nat_cmp)))
