-- What holds of all values.
use Rattle.std.specs.Prelude.{◌≡◌, ◌≢◌, ◌↔◌, ℕ, true, List}
use Rattle.std.specs.declared.cmp.Ordering.TheVariants.{Equal}
use Rattle.std.specs.Ordering.{eq_by_cmp}
use Rattle.cube_val.specs.declared.val.ColType.{ColType}
use Rattle.cube_val.specs.declared.val.Val.{Val}
use Rattle.cube_val.specs.declared.val.Val.TheVariants.{Text}
use Rattle.cube_val.specs.Order.{row_cmp, val_cmp}
use Rattle.cube_val.specs.Texts.{null_text}
use Rattle.cube_val.specs.Values.{FitsType, IsValue, Writes, text_of}

-- values that tie in the order are equal
abbrev pub OnlyEqualTie : Type 0
OnlyEqualTie = (v w : Val) → val_cmp v w ≡ Equal → v ≡ w

-- rows that tie in the order are equal
abbrev pub OnlyEqualRowsTie : Type 0
OnlyEqualRowsTie = (v w : List Val) → row_cmp v w ≡ Equal → v ≡ w

-- `==` tells exactly whether two values are equal
abbrev pub EqualityIsExact : Type 0
EqualityIsExact = (v w : Val) → (eq_by_cmp val_cmp v w ≡ true) ↔ (v ≡ w)

-- bytes write at most one value
abbrev pub TextsHaveOneValue : Type 0
TextsHaveOneValue = (ty : ColType) (bytes : List ℕ) (v w : Val) → Writes ty bytes v → Writes ty bytes w → v ≡ w

-- the printed text of a value writes it, but for the text that stands for a null
abbrev pub PrintedIsRead : Type 0
PrintedIsRead = (ty : ColType) (v : Val) → IsValue v → FitsType ty v → v ≢ Text null_text → Writes ty (text_of ty v) v
