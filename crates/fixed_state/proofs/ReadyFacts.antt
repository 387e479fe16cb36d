-- The rows of a ready set, segment by segment.
use Rattle.std.proofs.Common.{◌≡◌, List, [], ◌∷◌, ◌++◌, map, refl, ap, ◌∙◌}
use Rattle.std.proofs.lemmas.List.Folds.{flat_map-map}
use Rattle.std.specs.List.{AllByRecursion, flat_map}
use Rattle.fixed_cube.specs.Cells.{Cell, base_of}
use Rattle.fixed_cube.specs.Cube.{FitsSnapshot, fact_rows, rows_of}
use Rattle.fixed_cube.specs.Rows.{HasNumber}
use Rattle.fixed_cube.proofs.BaseFacts.{joined_fits, numbers_here}
use Rattle.run_history.specs.Cubes.{Rows, Snapshot}
use Rattle.run_history.specs.Sets.{ReadySet, Segment}
use Rattle.fixed_state.specs.Ready.{AreCellsOf, base_of_segment}

-- the rows of each segment
abbrev pub row_lists : ReadySet → List Rows
row_lists set = map (λ (segment : Segment). flat_map rows_of segment.origin) set

all_append : {X : Type 0} (P : X → Type 0) (xs ys : List X) → AllByRecursion P xs → AllByRecursion P ys → AllByRecursion P (xs ++ ys)
all_append P [] ys h k = k
all_append P (x ∷ xs) ys h k = (h.0, all_append P xs ys h.1 k)

origin_numbers : (origin : List Snapshot) → AllByRecursion FitsSnapshot origin → AllByRecursion HasNumber (flat_map rows_of origin)
origin_numbers [] h = tt
origin_numbers (snapshot ∷ origin) h =
    all_append HasNumber (rows_of snapshot) (flat_map rows_of origin) (numbers_here (rows_of snapshot) (joined_fits snapshot.range (fact_rows snapshot) h.0.1).1) (origin_numbers origin h.1)

pub set_numbers : (set : ReadySet) → AllByRecursion (λ segment. AllByRecursion FitsSnapshot segment.origin) set → AllByRecursion (AllByRecursion HasNumber) (row_lists set)
set_numbers [] h = tt
set_numbers (segment ∷ set) h = (origin_numbers segment.origin h.0, set_numbers set h.1)

base_lists : (set : ReadySet) → map base_of (row_lists set) ≡ map base_of_segment set
base_lists [] = refl
base_lists (segment ∷ set) = ap (λ (cells : List (List Cell)). base_of_segment segment ∷ cells) (base_lists set)

pub set_bases : (set : ReadySet) (cells : List (List Cell)) → AreCellsOf set cells → map base_of (row_lists set) ≡ cells
set_bases set cells h = base_lists set ∙ h.bases

pub set_rows : (set : ReadySet) → flat_map (λ (rows : Rows). rows) (row_lists set) ≡ flat_map (λ (segment : Segment). flat_map rows_of segment.origin) set
set_rows set = flat_map-map (λ (rows : Rows). rows) (λ (segment : Segment). flat_map rows_of segment.origin) set
