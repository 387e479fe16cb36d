-- The descriptor with numbers for names. Where a name isn't there 0 stands for it, and where a word is none the last of its kind; the
-- checks leave no such name and no such word.
use Rattle.std.specs.Prelude.{ℕ, suc, List, [], ◌∷◌, ◌++◌, map, Option, Some, None, unwrap_or, codes, bytes_eq, if◌then◌else◌, option_to_list, ◌==◌}
use Rattle.std.specs.List.{flat_map, list_any, position}
use Rattle.cube_val.specs.declared.val.ColType.{ColType}
use Rattle.cube_val.specs.declared.val.ColType.TheVariants as ty
use Rattle.cube_val.specs.declared.form.ColDesc.{ColDesc}
use Rattle.cube_val.specs.declared.form.WideCol.{WideCol}
use Rattle.cube_val.specs.declared.form.JoinStep.{JoinStep}
use Rattle.cube_val.specs.declared.form.JoinPlan.{JoinPlan}
use Rattle.measure_laws.specs.declared.measure.MeasureForm.{MeasureForm}
use Rattle.measure_laws.specs.declared.measure.MeasureForm.TheVariants as form
use Rattle.measure_laws.specs.Kinds.{form_of_word}
use Rattle.descriptor_json.specs.declared.raw.RawName.{RawName}
use Rattle.descriptor_json.specs.declared.raw.RawColumn.{RawColumn}
use Rattle.descriptor_json.specs.declared.raw.RawLookup.{RawLookup}
use Rattle.descriptor_json.specs.declared.raw.RawNamed.{RawNamed}
use Rattle.descriptor_json.specs.declared.raw.RawNamed.TheVariants.{Column, Derived}
use Rattle.descriptor_json.specs.declared.raw.RawDimension.{RawDimension}
use Rattle.descriptor_json.specs.declared.raw.RawMeasure.{RawMeasure}
use Rattle.descriptor_json.specs.declared.raw.RawDesc.{RawDesc}
use Rattle.desc_checks.specs.Names.{table_part, column_part}
use Rattle.desc_checks.specs.Tables.{columns_of, fact_columns}
use Rattle.desc_checks.specs.Columns.{takes_column}
use Rattle.cube_desc.specs.declared.desc.TableDesc.{TableDesc}
use Rattle.cube_desc.specs.declared.desc.MeasureDesc.{MeasureDesc}
use Rattle.cube_desc.specs.declared.desc.DerivedDesc.{DerivedDesc}
use Rattle.cube_desc.specs.Cube.{Cube}
use Rattle.cube_desc.specs.Groups.{groups_of, masks_of}

-- ---- tables and columns

-- the type that a word is, if it is one
abbrev pub type_of_word : List ℕ → Option ColType
type_of_word s =
    if bytes_eq s (codes "int") then Some ty.Int else (if bytes_eq s (codes "decimal") then Some ty.Decimal
    else (if bytes_eq s (codes "text") then Some ty.Text else (if bytes_eq s (codes "date") then Some ty.Date else None)))

-- .. Date where it is none
abbrev pub type_named : List ℕ → ColType
type_named s = unwrap_or (type_of_word s) ty.Date

abbrev pub column_of : RawColumn → ColDesc
column_of c = record { name = c.name.text; ty = type_named c.kind.text }

abbrev pub table_of : RawDesc → RawName → TableDesc
table_of r name = record { name = name.text; cols = map column_of (columns_of r name.text) }

abbrev pub lookup_of : RawDesc → RawLookup → TableDesc
lookup_of r l = table_of r l.table

-- the fact table first, then the lookups
abbrev pub tables_of : RawDesc → List TableDesc
tables_of r = table_of r r.fact_table ∷ map (lookup_of r) r.lookups.items

-- the place of a column among the columns
abbrev pub column_place : List RawColumn → List ℕ → ℕ
column_place cs name = unwrap_or (position (λ c. bytes_eq c.name.text name) cs) 0

abbrev pub lookup_place : RawDesc → List ℕ → ℕ
lookup_place r name = unwrap_or (position (λ l. bytes_eq l.table.text name) r.lookups.items) 0

-- the number of a table: 0 for the fact table, 1 for the first lookup
abbrev pub table_number : RawDesc → List ℕ → ℕ
table_number r name = if bytes_eq r.fact_table.text name then 0 else suc (lookup_place r name)

abbrev pub wide_of : RawDesc → List ℕ → List ℕ → WideCol
wide_of r table column = record { table = table_number r table; column = column_place (columns_of r table) column }

-- ---- dimensions

abbrev pub rowkey_column : RawDesc → RawName → WideCol
rowkey_column r t = wide_of r (table_part t.text) (column_part t.text)

abbrev pub rowkey_of : RawDesc → List WideCol
rowkey_of r = map (rowkey_column r) r.rowkey.items

abbrev pub derived_column : RawDesc → List ℕ → RawName → DerivedDesc
derived_column r table t = record { lookup = lookup_place r table; column = column_place (columns_of r table) t.text }

abbrev pub derived_named : RawDesc → List ℕ → RawNamed → List DerivedDesc
derived_named r table (Column t) = []
derived_named r table (Derived ts) = map (derived_column r table) ts

abbrev pub dimension_derived : RawDesc → RawDimension → List DerivedDesc
dimension_derived r d = derived_named r d.table.text d.named

abbrev pub derived_of : RawDesc → List DerivedDesc
derived_of r = flat_map (dimension_derived r) r.dimensions

-- ---- measures

-- the form that a function's word names; Distinct where it names none
abbrev pub form_named : List ℕ → MeasureForm
form_named s = unwrap_or (form_of_word s) form.Distinct

abbrev pub measured_column : RawDesc → RawMeasure → Option ℕ
measured_column r m = if takes_column m then Some (column_place (fact_columns r) m.function.parameter.value.text) else None

abbrev pub measure_of : RawDesc → RawMeasure → MeasureDesc
measure_of r m = record { name = m.name.text; form = form_named m.function.expression.text; column = measured_column r m }

abbrev pub measures_of : RawDesc → List MeasureDesc
measures_of r = map (measure_of r) r.measures.items

-- each number where it comes first, after those that came before
abbrev pub firsts : List ℕ → List ℕ → List ℕ
firsts before [] = []
firsts before (n ∷ ns) = if list_any (λ b. b == n) before then firsts before ns else n ∷ firsts (before ++ n ∷ []) ns

-- the fact table's columns that measures name, each once
abbrev pub measure_columns : RawDesc → List ℕ
measure_columns r = firsts [] (flat_map (λ m. option_to_list (measured_column r m)) r.measures.items)

-- ---- the plan

abbrev pub join_of : RawDesc → RawLookup → JoinStep
join_of r l = record {
  inner = bytes_eq l.join.kind.text (codes "inner");
  foreign = map (λ t. column_place (fact_columns r) t.text) l.join.foreign;
  primary = map (λ t. column_place (columns_of r l.table.text) t.text) l.join.primary;
}

-- a derived column and a column of the fact table, as columns of a joined row
abbrev pub wide_derived : DerivedDesc → WideCol
wide_derived d = record { table = suc d.lookup; column = d.column }

abbrev pub wide_fact : ℕ → WideCol
wide_fact column = record { table = 0; column = column }

-- the columns of the rowkey, the derived ones, and those that measures name
abbrev pub wide_columns : RawDesc → List WideCol
wide_columns r = rowkey_of r ++ flat_map (λ d. map wide_derived (dimension_derived r d)) r.dimensions ++ map wide_fact (measure_columns r)

abbrev pub plan_of : RawDesc → JoinPlan
plan_of r = record {
  partition = column_place (fact_columns r) r.partition.text;
  joins = map (join_of r) r.lookups.items;
  wide = wide_columns r;
}

abbrev pub cube_of : RawDesc → Cube
cube_of r = record {
  name = r.name.text;
  tables = tables_of r;
  measures = measures_of r;
  rowkey = rowkey_of r;
  derived = derived_of r;
  groups = groups_of r;
  masks = masks_of r;
  plan = plan_of r;
}
