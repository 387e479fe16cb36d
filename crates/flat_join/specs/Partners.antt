-- Matches that are found by snapshots of lookups.
use Rattle.std.specs.Prelude.{◌≡◌, List, Option, find, map, zip}
use Rattle.std.specs.List.{AllZip}
use Rattle.cube_val.specs.declared.form.JoinStep.{JoinStep}
use Rattle.cube_val.specs.declared.val.Val.{Val}
use Rattle.flat_join.specs.Joins.{is_match}
use Rattle.lookup_snap.specs.Snaps.{value_in}
use Rattle.table_reader.specs.Keys.{key_of}

-- what a snapshot is seen as
abbrev pub Entries : Type 0
Entries = List (List Val × List Val)

-- the snapshot finds for each key the row that a search through all rows of the join's lookup finds
abbrev pub IsServed : JoinStep × List (List Val) → Entries → Type 0
IsServed pair snap = (key : List Val) → value_in snap key ≡ find (λ row. is_match (key_of pair.0.primary row) key) pair.1

-- each lookup has its snapshot
abbrev pub AreServed : List JoinStep → List (List (List Val)) → List Entries → Type 0
AreServed joins lookups snaps = AllZip IsServed (zip joins lookups) snaps

-- what a fact row matches, found by snapshots
abbrev pub found_in : List JoinStep → List Entries → List Val → List (Option (List Val))
found_in joins snaps fact = map (λ (pair : JoinStep × Entries). value_in pair.1 (key_of pair.0.foreign fact)) (zip joins snaps)
