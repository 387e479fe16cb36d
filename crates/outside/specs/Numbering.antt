-- Calls that are numbered from 1.
use Rattle.std.specs.Prelude.{◌+◌, ◌-◌, ◌^◌, ℕ, min, List, Contains}

-- the numbers of the calls that fail, and how many calls were made
pub record Numbering : Type 0 where
  pub failing : List ℕ
  pub made : ℕ

-- the number of the next call, which stops at the greatest number of a u64, far above every number that can be listed
abbrev pub next_number : Numbering → ℕ
next_number calls = min (calls.made + 1) (2 ^ 64 - 1)

-- the calls after one more
abbrev pub after_call : Numbering → Numbering
after_call calls = record calls { made = next_number calls }

-- the next call is one that fails
abbrev pub NextFails : Numbering → Type 0
NextFails calls = Contains calls.failing (next_number calls)
