-- What holds of all logs.
use Rattle.std.specs.Prelude.{◌≡◌, ℕ, List}
use Rattle.entry_log.specs.Kept.{IsStill}
use Rattle.entry_log.specs.Logs.{HasEntries, IsLog}

-- bytes are a log of one list of bodies at most, with one gate
abbrev pub LogsAreOne : Type 0
LogsAreOne = (bytes : List ℕ) (one other : List (List ℕ)) (gate place : ℕ) → IsLog bytes one gate → IsLog bytes other place → (one ≡ other) × (gate ≡ place)

-- where bytes still have the entries that the file has, a log of them is one of these entries
abbrev pub OpeningAgainIsOpeningOnce : Type 0
OpeningAgainIsOpeningOnce = (file left : List ℕ) (bodies other : List (List ℕ)) → HasEntries file bodies → IsStill file left → HasEntries left other → other ≡ bodies
