-- What is read so far, and then the items that are left, is the whole reading.
use Rattle.std.proofs.Common.{◌≡◌, ◌++◌, drop}
use Rattle.std.specs.Prelude.{Ok}
use Rattle.serde_json.specs.View.{items_view}
use Rattle.descriptor_json.specs.Readings.{after, items_at}
use Rattle.descriptor_json.proofs.reading.read_items.Given as goal

abbrev pub invariant-loop-i : goal.invariant-loop-i
invariant-loop-i g l = after (items_at g.T.Shaped.shape l.place l.i (items_view (drop l.i l.items))) (λ rest. Ok (l.read ++ rest)) ≡ items_at g.T.Shaped.shape l.place 0 (items_view l.items)
