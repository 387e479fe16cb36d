use Rattle.std.proofs.Common.{◌≡◌, ◌<◌, ℕ, get_or}
use Rattle.cell_store.specs.Columns.{key_at, lists_of}
use Rattle.cell_store.proofs.columns.read_key.Given as goal

abbrev pub invariant-loop-d : goal.invariant-loop-d
invariant-loop-d l = (k : ℕ) → k < l.d → get_or l.key k 0 ≡ get_or (key_at (lists_of l.columns) l.place) k 0
