-- The faults of a descriptor whose shape is right, in the order of the checks.
use Rattle.std.specs.Prelude.{List, ◌++◌, map}
use Rattle.descriptor_json.specs.Places.{JsonPointer}
use Rattle.descriptor_json.specs.declared.raw.RawDesc.{RawDesc}
use Rattle.desc_checks.specs.declared.kind.DescFault.{DescFault}
use Rattle.desc_checks.specs.declared.kind.DescKind.{DescKind}
use Rattle.desc_checks.specs.declared.kind.DescKind.TheVariants as kind
use Rattle.desc_checks.specs.Limits.{too_many}
use Rattle.desc_checks.specs.Names.{bad_names}
use Rattle.desc_checks.specs.Repeats.{twice}
use Rattle.desc_checks.specs.Types.{bad_types}
use Rattle.desc_checks.specs.Tables.{no_tables}
use Rattle.desc_checks.specs.Columns.{no_columns}
use Rattle.desc_checks.specs.Joins.{bad_joins, bad_partition}
use Rattle.desc_checks.specs.Dimensions.{bad_dimensions, bad_rowkey}
use Rattle.desc_checks.specs.Measures.{bad_measures}

-- a fault of this kind at each of the places
abbrev pub each : DescKind → List JsonPointer → List DescFault
each k places = map (λ p. record { kind = k; place = p }) places

-- faults of texts by themselves
abbrev pub faults_of_texts : RawDesc → List DescFault
faults_of_texts r =
    each kind.TooMany (too_many r)
    ++ each kind.BadName (bad_names r)
    ++ each kind.Twice (twice r)

-- faults of what the texts name
abbrev pub faults_of_names : RawDesc → List DescFault
faults_of_names r =
    each kind.BadType (bad_types r)
    ++ each kind.NoTable (no_tables r)
    ++ each kind.NoColumn (no_columns r)

-- faults of what the named things are used for
abbrev pub faults_of_uses : RawDesc → List DescFault
faults_of_uses r =
    each kind.BadJoin (bad_joins r)
    ++ each kind.BadPartition (bad_partition r)
    ++ each kind.BadDimension (bad_dimensions r)
    ++ each kind.BadMeasure (bad_measures r)
    ++ each kind.BadRowkey (bad_rowkey r)

abbrev pub faults : RawDesc → List DescFault
faults r = faults_of_texts r ++ faults_of_names r ++ faults_of_uses r
