-- Tests of keys at eight places at once.
use Rattle.std.specs.Prelude.{◌≡◌, ◌<◌, ◌+◌, ℕ, Bool, List, filter, if◌then◌else◌}
use Rattle.std.specs.Int.{bit_at}
use Rattle.std.specs.List.{range_with_len}
use Rattle.cell_store.specs.Columns.{key_at}
use Rattle.cell_store.specs.Selects.{passes}
use Rattle.cell_store.specs.declared.select.IdTest.{IdTest}

-- a lane for each of the eight places from a place on, lowest bit first: 1 where the place passes the test, and else 0
abbrev pub AreLanes : (ℕ → Bool) → ℕ → ℕ → Type 0
AreLanes test at lanes = (k : ℕ) → k < 8 → bit_at lanes k ≡ (if test (at + k) then 1 else 0)

-- the places below a number at which the keys in columns pass tests, rising
abbrev pub passing_below : List IdTest → List (List ℕ) → ℕ → List ℕ
passing_below tests columns count = filter (λ place. passes tests (key_at columns place)) (range_with_len 0 count)
