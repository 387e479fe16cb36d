-- What calls on bytes answer, by the reader that they follow.
use Rattle.std.specs.Prelude.{◌≡◌, ℕ, List, Option, Some, None, Result, Ok, Err}
use Rattle.byte_frame.specs.declared.fault.ReadError.{ReadError}
use Rattle.byte_frame.specs.declared.fault.ReadError.TheVariants.{Malformed, Memory}

-- malformed bytes are those that the reader gives nothing of; memory may be wanted at any
abbrev pub Fails : {Y : Type 0} → ReadError → Option Y → Type 0
Fails Malformed read = read ≡ None
Fails Memory read = Unit {0}

-- the answer, as `view` shows it, is what the reader gives, unless memory was wanted
abbrev pub Gives : {X Y : Type 0} → (X → Y) → Result X ReadError → Option Y → Type 0
Gives view (Ok x) read = read ≡ Some (view x)
Gives view (Err e) read = Fails e read

-- the answer, as `view` shows it, is what the reader gives of the old bytes, and the new ones are left; where it gives nothing, all are left
abbrev pub Shows : {X Y : Type 0} → (X → Y) → Option X → List ℕ → List ℕ → Option (Y × List ℕ) → Type 0
Shows view (Some x) new old read = read ≡ Some (view x, new)
Shows view None new old read = (read ≡ None) × (new ≡ old)
