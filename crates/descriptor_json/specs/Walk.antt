-- The walk over a descriptor: each object's keys in order, one line a key.
use Rattle.std.specs.Prelude.{[], None, is_some, Ok, Err, codes, Bool, true, false}
use Rattle.serde_json.specs.Data.{Data}
use Rattle.serde_json.specs.Find.{get}
use Rattle.descriptor_json.specs.Readings.{Reader, after, object_at, word_at, name_at, number_at, member_at, member_or, list_at, placed_at, optional_at}
use Rattle.descriptor_json.specs.declared.raw.RawColumn.{RawColumn}
use Rattle.descriptor_json.specs.declared.raw.RawTable.{RawTable}
use Rattle.descriptor_json.specs.declared.raw.RawJoin.{RawJoin}
use Rattle.descriptor_json.specs.declared.raw.RawLookup.{RawLookup}
use Rattle.descriptor_json.specs.declared.raw.RawNamed.TheVariants as named
use Rattle.descriptor_json.specs.declared.raw.RawDimension.{RawDimension}
use Rattle.descriptor_json.specs.declared.raw.RawParameter.{RawParameter}
use Rattle.descriptor_json.specs.declared.raw.RawFunction.{RawFunction}
use Rattle.descriptor_json.specs.declared.raw.RawMeasure.{RawMeasure}
use Rattle.descriptor_json.specs.declared.raw.RawRule.{RawRule}
use Rattle.descriptor_json.specs.declared.raw.RawGroup.{RawGroup}
use Rattle.descriptor_json.specs.declared.raw.RawDesc.{RawDesc}
use Rattle.descriptor_json.specs.declared.whole.RawTables.{RawTables}
use Rattle.descriptor_json.specs.declared.whole.RawColumns.{RawColumns}
use Rattle.descriptor_json.specs.declared.whole.RawGroups.{RawGroups}

abbrev pub column_at : Reader RawColumn
column_at p d = object_at p d
    (after (member_at name_at (codes "name") p d) (λ name.
    after (member_at word_at (codes "type") p d) (λ kind.
    Ok (record { place = p; name = name; kind = kind }))))

abbrev pub table_at : Reader RawTable
table_at p d = object_at p d
    (after (member_at name_at (codes "name") p d) (λ name.
    after (member_at (placed_at column_at) (codes "columns") p d) (λ columns.
    Ok (record { place = p; name = name; columns = columns }))))

abbrev pub join_at : Reader RawJoin
join_at p d = object_at p d
    (after (member_at word_at (codes "type") p d) (λ kind.
    after (member_at (list_at name_at) (codes "primary_key") p d) (λ primary.
    after (member_at (list_at name_at) (codes "foreign_key") p d) (λ foreign.
    Ok (record { place = p; kind = kind; primary = primary; foreign = foreign })))))

abbrev pub lookup_at : Reader RawLookup
lookup_at p d = object_at p d
    (after (member_at name_at (codes "table") p d) (λ table.
    after (member_at join_at (codes "join") p d) (λ join.
    Ok (record { place = p; table = table; join = join }))))

-- whether a dimension has the key `column`, and the key `derived`
abbrev pub has_column : Data → Bool
has_column d = is_some (get (codes "column") d)

abbrev pub has_derived : Data → Bool
has_derived d = is_some (get (codes "derived") d)

-- a dimension with one of the two keys; with both or neither it is wrong itself, before its keys
abbrev pub dimension_with : Bool → Bool → Reader RawDimension
dimension_with true false p d =
    after (member_at name_at (codes "table") p d) (λ table.
    after (member_at name_at (codes "column") p d) (λ column.
    Ok (record { place = p; table = table; named = named.Column column })))
dimension_with false true p d =
    after (member_at name_at (codes "table") p d) (λ table.
    after (member_at (list_at name_at) (codes "derived") p d) (λ columns.
    Ok (record { place = p; table = table; named = named.Derived columns })))
dimension_with true true p d = Err p
dimension_with false false p d = Err p

abbrev pub dimension_at : Reader RawDimension
dimension_at p d = object_at p d (dimension_with (has_column d) (has_derived d) p d)

abbrev pub parameter_at : Reader RawParameter
parameter_at p d = object_at p d
    (after (member_at word_at (codes "type") p d) (λ kind.
    after (member_at name_at (codes "value") p d) (λ value.
    Ok (record { kind = kind; value = value }))))

abbrev pub function_at : Reader RawFunction
function_at p d = object_at p d
    (after (member_at word_at (codes "expression") p d) (λ expression.
    after (member_at parameter_at (codes "parameter") p d) (λ parameter.
    Ok (record { expression = expression; parameter = parameter }))))

abbrev pub measure_at : Reader RawMeasure
measure_at p d = object_at p d
    (after (member_at name_at (codes "name") p d) (λ name.
    after (member_at function_at (codes "function") p d) (λ function.
    Ok (record { place = p; name = name; function = function }))))

abbrev pub rule_at : Reader RawRule
rule_at p d = object_at p d
    (after (member_or (list_at name_at) [] (codes "mandatory_dims") p d) (λ mandatory.
    after (member_or (list_at (list_at name_at)) [] (codes "hierarchy_dims") p d) (λ hierarchies.
    after (member_or (list_at (list_at name_at)) [] (codes "joint_dims") p d) (λ joints.
    after (member_or number_at None (codes "dim_cap") p d) (λ cap.
    Ok (record { mandatory = mandatory; hierarchies = hierarchies; joints = joints; cap = cap }))))))

abbrev pub no_rule : RawRule
no_rule = record { mandatory = []; hierarchies = []; joints = []; cap = None }

abbrev pub group_at : Reader RawGroup
group_at p d = object_at p d
    (after (member_at (list_at name_at) (codes "includes") p d) (λ includes.
    after (member_or rule_at no_rule (codes "select_rule") p d) (λ rule.
    Ok (record { place = p; includes = includes; rule = rule }))))

-- the cube's name, its tables, and which of them are the fact table and lookups
abbrev pub tables_at : Reader RawTables
tables_at p d =
    after (member_at name_at (codes "name") p d) (λ name.
    after (member_at (list_at table_at) (codes "tables") p d) (λ tables.
    after (member_at name_at (codes "fact_table") p d) (λ fact_table.
    after (optional_at lookup_at (codes "lookups") p d) (λ lookups.
    Ok (record { name = name; tables = tables; fact_table = fact_table; lookups = lookups })))))

-- the columns that it counts by, and what it measures
abbrev pub columns_at : Reader RawColumns
columns_at p d =
    after (member_at name_at (codes "partition_date_column") p d) (λ partition.
    after (member_at (list_at dimension_at) (codes "dimensions") p d) (λ dimensions.
    after (member_at (placed_at measure_at) (codes "measures") p d) (λ measures.
    Ok (record { partition = partition; dimensions = dimensions; measures = measures }))))

-- its rowkey, and its aggregation groups
abbrev pub groups_at : Reader RawGroups
groups_at p d =
    after (member_at (placed_at name_at) (codes "rowkey") p d) (λ rowkey.
    after (optional_at group_at (codes "aggregation_groups") p d) (λ groups.
    Ok (record { rowkey = rowkey; groups = groups })))

-- the whole descriptor, at the place of the whole text
abbrev pub desc_at : Reader RawDesc
desc_at p d = object_at p d
    (after (tables_at p d) (λ of_tables.
    after (columns_at p d) (λ of_columns.
    after (groups_at p d) (λ of_groups.
    Ok (record {
      name = of_tables.name;
      tables = of_tables.tables;
      fact_table = of_tables.fact_table;
      lookups = of_tables.lookups;
      partition = of_columns.partition;
      dimensions = of_columns.dimensions;
      measures = of_columns.measures;
      rowkey = of_groups.rowkey;
      groups = of_groups.groups;
    })))))
