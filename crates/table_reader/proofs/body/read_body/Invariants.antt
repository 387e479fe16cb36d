use Rattle.std.proofs.Common.{◌≡◌, ◌∷◌, [], List, ℕ, length}
use Rattle.std.specs.List.{AllZip}
use Rattle.table_reader.specs.Digests.{digests_of}
use Rattle.table_reader.specs.Reads.{HasRead}
use Rattle.table_reader.specs.Rows.{IsRowOf}
use Rattle.table_reader.proofs.body.read_body.Given as goal

abbrev pub invariant-loop-turn : goal.invariant-loop-turn
invariant-loop-turn l = (length l.rows.items ≡ l.turn)
    × ((bytes : List ℕ) (header : List (List ℕ)) → HasRead bytes (header ∷ []) l.fn.reader
    → (done : List (List (List ℕ))) × HasRead bytes (header ∷ done) l.reader × AllZip (IsRowOf l.columns l.width) done l.rows.items)
    × (l.digests.items ≡ digests_of l.key l.rows.items)
