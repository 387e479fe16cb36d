use Rattle.std.proofs.Common.{◌≡◌, ◌∷◌, take, map}
use Rattle.cube_desc.specs.Resolve.{table_of, lookup_of}
use Rattle.cube_desc.proofs.resolve.table_descs.Given as goal

abbrev pub invariant-loop-lookup : goal.invariant-loop-lookup
invariant-loop-lookup l = l.tables ≡ table_of l.raw l.raw.fact_table ∷ map (lookup_of l.raw) (take l.lookup-index l.lookup-items)
