-- Segments of months, told apart by their jobs and without their parts, and the rows of a small source.
use Rattle.std.specs.Prelude.{ℕ, pos, List, [], ◌∷◌, codes}
use Rattle.cube_val.specs.declared.val.Val.{Val}
use Rattle.cube_val.specs.declared.val.Val.TheVariants.{Int, Text}
use Rattle.range_list.specs.Ranges.{Interval}
use Rattle.range_list.specs.Examples.{january}
use Rattle.segment_store.specs.Sources.{Source}
use Rattle.segment_store.specs.declared.parts.SegmentParts.{SegmentParts}

abbrev pub of_job : ℕ → Interval → SegmentParts
of_job job range = record { range = range; job = job; origin = []; kept = []; dicts = []; lookups = []; tables = [] }

-- a sale: its date, its region and its seller
abbrev pub sale : Val → ℕ → List Val
sale date seller = date ∷ Text (codes "EU") ∷ Int (pos seller) ∷ []

-- a source of sales whose joined rows are their regions and sellers
abbrev pub source_of : List (List Val) → Source
source_of sales = record { plan = record { partition = 0; joins = []; wide = record { table = 0; column = 1 } ∷ record { table = 0; column = 2 } ∷ [] }; tables = sales ∷ []; range = january }
