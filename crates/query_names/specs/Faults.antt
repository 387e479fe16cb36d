-- The fault of a query over a cube: the first kind that has a failing place, at the least of them.
use Rattle.std.specs.Prelude.{ℕ, List, Option, Some, None}
use Rattle.std.specs.Option.{option_or}
use Rattle.cube_desc.specs.Cube.{Cube}
use Rattle.sql_reader.specs.declared.tree.Query.{Query}
use Rattle.query_faults.specs.declared.bind.BindFault.{BindFault}
use Rattle.query_faults.specs.declared.bind.BindKind.{BindKind}
use Rattle.query_faults.specs.declared.bind.BindKind.TheVariants as kind
use Rattle.query_names.specs.Least.{least}
use Rattle.query_names.specs.Names.{no_tables, no_columns}
use Rattle.query_names.specs.Uses.{not_dimensions, no_measures, not_grouped_terms}
use Rattle.query_names.specs.Joins.{joins_missing, joins_not_in_model}
use Rattle.query_names.specs.Types.{type_clashes}

abbrev pub fault_from : BindKind → Option ℕ → Option BindFault
fault_from k None = None
fault_from k (Some place) = Some (record { place = place; kind = k })

-- a fault of this kind at the least of the places
abbrev pub fault_at : BindKind → List ℕ → Option BindFault
fault_at k places = fault_from k (least places)

-- names that stand for nothing, and columns that are no dimensions
abbrev pub fault_of_names : Cube → Query → Option BindFault
fault_of_names c q =
    option_or (fault_at kind.NoTable (no_tables c q))
    (option_or (fault_at kind.NoColumn (no_columns c q)) (fault_at kind.NotDimension (not_dimensions c q)))

-- aggregates and joins that the cube hasn't
abbrev pub fault_of_model : Cube → Query → Option BindFault
fault_of_model c q =
    option_or (fault_at kind.NoMeasure (no_measures c q))
    (option_or (fault_at kind.JoinMissing (joins_missing c q)) (fault_at kind.JoinNotInModel (joins_not_in_model c q)))

-- literals of another type, and columns outside GROUP BY
abbrev pub fault_of_types : Cube → Query → Option BindFault
fault_of_types c q = option_or (fault_at kind.TypeClash (type_clashes c q)) (fault_at kind.NotGrouped (not_grouped_terms c q))

-- the first fault, in the order of the kinds
abbrev pub fault_of : Cube → Query → Option BindFault
fault_of c q = option_or (fault_of_names c q) (option_or (fault_of_model c q) (fault_of_types c q))
