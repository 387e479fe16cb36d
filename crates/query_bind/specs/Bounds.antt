-- What a query is over a cube, and the contrary.
use Rattle.std.specs.Prelude.{◌≡◌, ◌<◌, ℕ, None, length, IsTrue}
use Rattle.agg_group.specs.Mask.{has}
use Rattle.agg_group.specs.Sets.{is_among}
use Rattle.agg_group.specs.declared.mask.Mask.{Mask}
use Rattle.cube_desc.specs.Cube.{Cube}
use Rattle.sql_reader.specs.declared.tree.Query.{Query}
use Rattle.query_names.specs.Faults.{fault_of}
use Rattle.query_bind.specs.declared.bound_query.Bound.{Bound}
use Rattle.query_bind.specs.Asks.{ask_of}
use Rattle.query_bind.specs.Needs.{needed_bits}

-- a query without a fault, as an ask of the joined rows, with the set of rowkey columns that it needs
pub record IsBound (c : Cube) (q : Query) (b : Bound) : Type 0 where
  pub faultless : fault_of c q ≡ None
  pub ask : b.ask ≡ ask_of c q
  pub needed : (d : ℕ) → has b.needed d ≡ is_among d (needed_bits c q)

-- the set has rowkey columns alone
abbrev pub IsWithinRowkey : Cube → Mask → Type 0
IsWithinRowkey c mask = (d : ℕ) → IsTrue (has mask d) → d < length c.rowkey
