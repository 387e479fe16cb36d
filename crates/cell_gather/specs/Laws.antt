-- The law that all cuboids rest on.
use Rattle.std.specs.Prelude.{◌≡◌, ℕ, List}
use Rattle.std.specs.List.{flat_map}
use Rattle.cell_gather.specs.Gathers.{RowMeasure, aggregated, forms_of, gathered}

-- gathering the aggregates of lists of rows by a part of their keys gives the aggregate of all their rows by that part
abbrev pub GatherOfCells : Type 0 → Type 0
GatherOfCells R =
    (measures : List (RowMeasure R)) (key : R → List ℕ) (part : List ℕ → List ℕ) (lists : List (List R))
    → gathered (forms_of measures) part (flat_map (aggregated measures key) lists) ≡ aggregated measures (λ row. part (key row)) (flat_map (λ rows. rows) lists)
