-- A cube of sales by day, region and category, and the sales of a month.
use Rattle.std.specs.Prelude.{ℕ, ℤ, List, [], ◌∷◌, Option, Some, None, codes, map, option_to_list, pos}
use Rattle.agg_group.specs.declared.mask.Mask.{Mask}
use Rattle.cell_store.specs.Cells.{CellRows, items_of}
use Rattle.cell_store.specs.declared.cell.Cell.{Cell}
use Rattle.cell_store.specs.declared.cell.Cell.TheVariants.{Sum, Min, Max, Distinct}
use Rattle.cube_desc.specs.Cube.{Cube}
use Rattle.cube_desc.specs.declared.desc.MeasureDesc.{MeasureDesc}
use Rattle.cube_val.specs.declared.form.ColDesc.{ColDesc}
use Rattle.cube_val.specs.declared.form.WideCol.{WideCol}
use Rattle.cube_val.specs.declared.val.ColType.{ColType}
use Rattle.cube_val.specs.declared.val.ColType.TheVariants as ty
use Rattle.cube_val.specs.declared.val.Val.{Val}
use Rattle.cube_val.specs.declared.val.Val.TheVariants.{Int, Text}
use Rattle.measure_laws.specs.declared.measure.MeasureForm.{MeasureForm}
use Rattle.measure_laws.specs.declared.measure.MeasureForm.TheVariants as measure
use Rattle.range_list.specs.Ranges.{Interval}
use Rattle.step_compute.specs.Values.{base_value, layer_value}

-- ---- the cube

abbrev pub fact : ℕ → WideCol
fact column = record { table = 0; column = column }

abbrev pub column : List ℕ → ColType → ColDesc
column name t = record { name = name; ty = t }

abbrev pub measured_as : List ℕ → MeasureForm → Option ℕ → MeasureDesc
measured_as name form of = record { name = name; form = form; column = of }

abbrev pub mask : ℕ → Mask
mask number = record { 0 = number }

-- the day, the region, the category, the seller and the price of each sale; all cuboids of the first three are built
abbrev pub sales_cube : Cube
sales_cube = record {
  name = codes "SALES_CUBE";
  tables = record {
    name = codes "SALES";
    cols = column (codes "DT") ty.Date ∷ column (codes "REGION") ty.Text ∷ column (codes "CAT") ty.Text ∷ column (codes "SELLER") ty.Int ∷ column (codes "PRICE") ty.Decimal ∷ [];
  } ∷ [];
  measures = measured_as (codes "CNT") measure.Count None ∷ measured_as (codes "GMV") measure.Sum (Some 4) ∷ measured_as (codes "LOW") measure.Min (Some 4)
      ∷ measured_as (codes "HIGH") measure.Max (Some 4) ∷ measured_as (codes "SELLERS") measure.Distinct (Some 3) ∷ [];
  rowkey = fact 0 ∷ fact 1 ∷ fact 2 ∷ [];
  derived = [];
  groups = [];
  masks = map mask (1 ∷ 2 ∷ 3 ∷ 4 ∷ 5 ∷ 6 ∷ 7 ∷ []);
  plan = record { partition = 0; joins = []; wide = fact 0 ∷ fact 1 ∷ fact 2 ∷ fact 4 ∷ fact 3 ∷ [] };
}

-- ---- the sales

abbrev pub sale : List ℕ → List ℕ → List ℕ → ℕ → ℕ → List Val
sale day region category seller price = Text day ∷ Text region ∷ Text category ∷ Int (pos seller) ∷ Int (pos price) ∷ []

-- of January three, and one of February
abbrev pub sales : List (List Val)
sales =
    sale (codes "2012-01-01") (codes "EU") (codes "toys") 7 100_000 ∷ sale (codes "2012-01-01") (codes "EU") (codes "toys") 8 55_000
    ∷ sale (codes "2012-01-15") (codes "US") (codes "toys") 7 10_000 ∷ sale (codes "2012-02-01") (codes "EU") (codes "books") 8 22_500 ∷ []

abbrev pub january : Interval
january = record { start = 734868; end = 734899 }

-- the day, the region, the category, the price and the seller
abbrev pub flat_sale : List ℕ → List ℕ → ℕ → ℕ → List Val
flat_sale day region price seller = Text day ∷ Text region ∷ Text (codes "toys") ∷ Int (pos price) ∷ Int (pos seller) ∷ []

abbrev pub january_rows : List (List Val)
january_rows =
    flat_sale (codes "2012-01-01") (codes "EU") 100_000 7 ∷ flat_sale (codes "2012-01-01") (codes "EU") 55_000 8 ∷ flat_sale (codes "2012-01-15") (codes "US") 10_000 7 ∷ []

-- the days, the regions, the categories and the sellers of January
abbrev pub january_dicts : List (List Val)
january_dicts =
    (Text (codes "2012-01-01") ∷ Text (codes "2012-01-15") ∷ []) ∷ (Text (codes "EU") ∷ Text (codes "US") ∷ []) ∷ (Text (codes "toys") ∷ [])
    ∷ (Int (pos 7) ∷ Int (pos 8) ∷ []) ∷ []

-- ---- cuboids

-- the sum, the extreme or the numbers that a cell has; of every other how many items it is of
abbrev pub cell_numbers : Cell → List ℤ
cell_numbers (Sum s) = s.total ∷ []
cell_numbers (Min m) = option_to_list m.value
cell_numbers (Max m) = option_to_list m.value
cell_numbers (Distinct d) = map pos d.ids
cell_numbers c = pos (items_of c) ∷ []

-- the mask, and for each row its key and the numbers of its cells
abbrev pub numbers : CellRows → ℕ × List (List ℕ × List (List ℤ))
numbers t = (t.mask.0, map (λ (row : List ℕ × List Cell). (row.0, map cell_numbers row.1)) t.rows)

abbrev pub january_base : CellRows
january_base = base_value sales_cube january_rows january_dicts

abbrev pub january_pairs : List CellRows
january_pairs = layer_value sales_cube.masks 2 (january_base ∷ [])

-- the cells of the two sales in Europe, and of the one in America: how many there are, how many prices and sellers are known, the
-- sum, the least and the greatest of the prices, and the sellers
abbrev pub of_europe : List (List ℤ)
of_europe = (pos 2 ∷ []) ∷ (pos 2 ∷ []) ∷ (pos 2 ∷ []) ∷ (pos 155_000 ∷ []) ∷ (pos 55_000 ∷ []) ∷ (pos 100_000 ∷ []) ∷ (pos 0 ∷ pos 1 ∷ []) ∷ []

abbrev pub of_america : List (List ℤ)
of_america = (pos 1 ∷ []) ∷ (pos 1 ∷ []) ∷ (pos 1 ∷ []) ∷ (pos 10_000 ∷ []) ∷ (pos 10_000 ∷ []) ∷ (pos 10_000 ∷ []) ∷ (pos 0 ∷ []) ∷ []
