use Rattle.std.proofs.Common.{◌≡◌, ◌<◌, ℕ, [], take, get_or}
use Rattle.std.specs.List.{list_any}
use Rattle.std.specs.BTreeSet.{contains}
use Rattle.cube_val.specs.Order.{row_cmp}
use Rattle.table_reader.specs.Keys.{Repeats}
use Rattle.table_reader.proofs.KeyFacts.{is_keyed_by}
use Rattle.table_reader.proofs.key.repeated_key.Given as goal

abbrev pub invariant-loop-i : goal.invariant-loop-i
invariant-loop-i l = ((q : _) → contains row_cmp l.keys q ≡ list_any (is_keyed_by l.places q) (take l.i l.rows))
    × ((k : ℕ) → k < l.i → Repeats l.places (take k l.rows) (get_or l.rows k []) → ⊥)
