-- The text of `cuboids`.
use Rattle.std.specs.Prelude.{ℕ, List, [], ◌∷◌, ◌++◌, Option, Some, None, codes, drop, if◌then◌else◌, slice_get}
use Rattle.std.specs.Fmt.{decimal}
use Rattle.std.specs.List.{flat_map, range_with_len}
use Rattle.std.specs.Option.{option_map_or}
use Rattle.agg_group.specs.declared.mask.Mask.{Mask}
use Rattle.agg_group.specs.Mask.{count_of, has, mask_at}
use Rattle.cube_desc.specs.Cube.{Cube}
use Rattle.cube_desc.specs.declared.desc.TableDesc.{TableDesc}
use Rattle.cube_val.specs.declared.form.WideCol.{WideCol}
use Rattle.cuboid_tree.specs.Tree.{parent_of, places}

-- the name of a table, and of a column of it
abbrev pub table_name : List TableDesc → WideCol → List ℕ
table_name tables w = option_map_or (λ t. t.name) (slice_get tables w.table) []

abbrev pub column_name : List TableDesc → WideCol → List ℕ
column_name tables w = option_map_or (λ t. option_map_or (λ k. k.name) (slice_get t.cols w.column) []) (slice_get tables w.table) []

-- `TABLE.COLUMN`
abbrev pub full_name : List TableDesc → WideCol → List ℕ
full_name tables w = table_name tables w ++ 46 ∷ column_name tables w

-- the name of a dimension's column, after a space
abbrev pub spaced_name : Cube → ℕ → List ℕ
spaced_name c d = 32 ∷ option_map_or (full_name c.tables) (slice_get c.rowkey d) []

abbrev pub spaced_if_in : Cube → Mask → ℕ → List ℕ
spaced_if_in c m d = if has m d then spaced_name c d else []

-- the names of the columns of a mask's dimensions, in the order of the rowkey, parted by a space
abbrev pub columns_text : Cube → Mask → List ℕ
columns_text c m = drop 1 (flat_map (spaced_if_in c m) (range_with_len 0 64))

-- the number of a mask, and nothing for no mask
abbrev pub number_text : List Mask → Option ℕ → List ℕ
number_text masks None = []
number_text masks (Some p) = decimal (mask_at masks p).0

-- the line of a cuboid: its mask, how many dimensions it has, its parent's mask, and its columns
abbrev pub cuboid_line : Cube → ℕ → List ℕ
cuboid_line c i =
    let m = mask_at c.masks i in
    decimal m.0 ++ 44 ∷ (decimal (count_of m) ++ 44 ∷ (number_text c.masks (parent_of c.masks i) ++ 44 ∷ (columns_text c m ++ 10 ∷ [])))

-- the text of `cuboids`: a header, and a line for each built mask, rising
abbrev pub cuboids_text : Cube → List ℕ
cuboids_text c = codes "mask,dimensions,parent,columns\n" ++ flat_map (cuboid_line c) (places c.masks)
