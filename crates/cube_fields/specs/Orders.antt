-- Orders as tests.
use Rattle.std.specs.Prelude.{Bool}
use Rattle.std.specs.Ordering.{is_lt}
use Rattle.std.specs.declared.cmp.Ordering.{Ordering}

-- the one comes before the other
abbrev pub before : {K : Type 0} → (K → K → Ordering) → K → K → Bool
before cmp a b = is_lt (cmp a b)
