-- What holds of the numbers of every cube.
use Rattle.std.specs.Prelude.{◌≡◌, ◌≤◌, ◌<◌, ◌⊎◌, ⊤, ℕ, suc, List, [], ◌++◌, map, Option, Some, None, option_map, option_to_list, length, slice_get, All, Contains}
use Rattle.std.specs.List.{flat_map}
use Rattle.agg_group.specs.Built.{AreOf, built_masks}
use Rattle.agg_group.specs.Faults as group
use Rattle.agg_group.specs.Limits.{most_dimensions, most_cuboids}
use Rattle.cube_val.specs.declared.val.ColType.{ColType}
use Rattle.cube_val.specs.declared.val.ColType.TheVariants as ty
use Rattle.cube_val.specs.declared.form.ColDesc.{ColDesc}
use Rattle.cube_val.specs.declared.form.WideCol.{WideCol}
use Rattle.cube_val.specs.declared.form.JoinStep.{JoinStep}
use Rattle.measure_laws.specs.declared.measure.MeasureForm.{MeasureForm}
use Rattle.measure_laws.specs.declared.kinds.ItemKind.{ItemKind}
use Rattle.measure_laws.specs.declared.kinds.ItemKind.TheVariants.{Rows, Numbers, Ids}
use Rattle.measure_laws.specs.Kinds.{item_kind}
use Rattle.cube_desc.specs.declared.desc.TableDesc.{TableDesc}
use Rattle.cube_desc.specs.declared.desc.MeasureDesc.{MeasureDesc}
use Rattle.cube_desc.specs.declared.desc.DerivedDesc.{DerivedDesc}
use Rattle.cube_desc.specs.Cube.{Cube}
use Rattle.cube_desc.specs.Forms.{cols_of}
use Rattle.cube_desc.specs.Meaning.{desc_of}
use Rattle.cube_desc.specs.Resolve.{firsts, wide_derived, wide_fact}

-- ---- tables and columns

-- the columns of the table with a number
abbrev pub columns_at : List TableDesc → ℕ → List ColDesc
columns_at tables t = cols_of (slice_get tables t)

-- the type of a column
abbrev pub type_at : List ColDesc → ℕ → Option ColType
type_at cols i = option_map (λ col. col.ty) (slice_get cols i)

-- the table is there, and has the column
abbrev pub IsThere : List TableDesc → WideCol → Type 0
IsThere tables w = (w.table < length tables) × (w.column < length (columns_at tables w.table))

-- ---- joins

-- a join of a fact table with a lookup, of these columns: 1 to 4 pairs of columns that are there, each of one type
pub record IsJoinOf (fact lookup : List ColDesc) (j : JoinStep) : Type 0 where
  pub pairs : length j.foreign ≡ length j.primary
  pub some : 0 < length j.primary
  pub few : length j.primary ≤ 4
  pub foreign : All (λ i. i < length fact) j.foreign
  pub primary : All (λ i. i < length lookup) j.primary
  pub types : map (type_at fact) j.foreign ≡ map (type_at lookup) j.primary

abbrev pub foreign_of : Option JoinStep → List ℕ
foreign_of None = []
foreign_of (Some j) = j.foreign

-- ---- dimensions and measures

-- a derived column is there, and the rowkey has the foreign key of its lookup
pub record IsDerivedOf (c : Cube) (d : DerivedDesc) : Type 0 where
  pub there : IsThere c.tables (wide_derived d)
  pub keyed : All (λ i. Contains c.rowkey (wide_fact i)) (foreign_of (slice_get c.plan.joins d.lookup))

-- a column of numbers
abbrev pub IsOfNumbers : List ColDesc → ℕ → Type 0
IsOfNumbers cols i = (type_at cols i ≡ Some ty.Int) ⊎ (type_at cols i ≡ Some ty.Decimal)

-- what a measure of such items is of: one of rows of no column, one of numbers of a column of numbers, and one of different
-- values of any column; a descriptor asks for no count of known values
abbrev pub IsOfItems : List ColDesc → ItemKind → Option ℕ → Type 0
IsOfItems cols Rows None = ⊤
IsOfItems cols Numbers (Some i) = IsOfNumbers cols i
IsOfItems cols Ids (Some i) = i < length cols
IsOfItems cols kind column = ⊥

abbrev pub IsMeasureOf : List ColDesc → MeasureForm → Option ℕ → Type 0
IsMeasureOf cols form column = IsOfItems cols (item_kind form) column

-- the fact table's columns that measures are of, each once
abbrev pub measured_columns : List MeasureDesc → List ℕ
measured_columns measures = firsts [] (flat_map (λ m. option_to_list m.column) measures)

-- ---- the cube

pub record IsSound (c : Cube) : Type 0 where
  -- a fact table, and a lookup for each join
  pub tables : length c.tables ≡ suc (length c.plan.joins)
  pub joined : (i : ℕ) (j : JoinStep) → slice_get c.plan.joins i ≡ Some j → IsJoinOf (columns_at c.tables 0) (columns_at c.tables (suc i)) j
  pub partition : type_at (columns_at c.tables 0) c.plan.partition ≡ Some ty.Date
  pub rowkey : All (IsThere c.tables) c.rowkey
  pub derived : All (IsDerivedOf c) c.derived
  pub measures : All (λ m. IsMeasureOf (columns_at c.tables 0) m.form m.column) c.measures
  -- the columns of a joined row
  pub wide : c.plan.wide ≡ c.rowkey ++ map wide_derived c.derived ++ map wide_fact (measured_columns c.measures)
  pub there : All (IsThere c.tables) c.plan.wide
  -- the groups are of the rowkey's dimensions, and their lists have no fault
  pub included : AreOf (length c.rowkey) c.groups
  pub groups : All group.IsSound c.groups
  pub masks : c.masks ≡ built_masks (length c.rowkey) c.groups
  -- how many there are
  pub some_dimensions : 0 < length c.rowkey
  pub few_dimensions : length c.rowkey ≤ most_dimensions
  pub few_lookups : length c.plan.joins ≤ 8
  pub few_measures : length c.measures ≤ 16
  pub few_groups : length c.groups ≤ 8
  pub few_masks : length c.masks ≤ most_cuboids

-- the cube that bytes describe is sound
abbrev pub DescriptorsAreSound : Type 0
DescriptorsAreSound = (bytes : List ℕ) (c : Cube) → desc_of bytes ≡ Some c → IsSound c
