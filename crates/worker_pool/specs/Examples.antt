-- Small pools, of hands that are numbers and queries that are numbers.
use Rattle.std.specs.Prelude.{ℕ, [], ◌∷◌}
use Rattle.worker_pool.specs.Pools.{PoolModel, in_flight_of}
use Rattle.worker_pool.specs.declared.piece.Piece.TheVariants.{Query}

-- three hands that are free
abbrev pub all_free : PoolModel ℕ ℕ
all_free = record { free = 1 ∷ 2 ∷ 3 ∷ []; in_flight = [] }

-- the second is away with a query
abbrev pub second_away : PoolModel ℕ ℕ
second_away = record { free = 1 ∷ 3 ∷ []; in_flight = in_flight_of 2 (Query 40) ∷ [] }

-- it came back as another number
abbrev pub second_back : PoolModel ℕ ℕ
second_back = record { free = 1 ∷ 3 ∷ 5 ∷ []; in_flight = [] }
