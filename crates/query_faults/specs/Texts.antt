-- The printed words of kinds of fault.
use Rattle.std.specs.Prelude.{ℕ, List, codes}
use Rattle.query_faults.specs.declared.bind.BindKind.{BindKind}
use Rattle.query_faults.specs.declared.bind.BindKind.TheVariants as bind
use Rattle.query_faults.specs.declared.sql.SqlKind.{SqlKind}
use Rattle.query_faults.specs.declared.sql.SqlKind.TheVariants as sql

abbrev pub sql_kind_text : SqlKind → List ℕ
sql_kind_text sql.TooLong = codes "TooLong"
sql_kind_text sql.BadToken = codes "BadToken"
sql_kind_text sql.BadNumber = codes "BadNumber"
sql_kind_text sql.TooDeep = codes "TooDeep"
sql_kind_text sql.Unexpected = codes "Unexpected"

abbrev pub bind_kind_text : BindKind → List ℕ
bind_kind_text bind.NoTable = codes "NoTable"
bind_kind_text bind.NoColumn = codes "NoColumn"
bind_kind_text bind.NotDimension = codes "NotDimension"
bind_kind_text bind.NoMeasure = codes "NoMeasure"
bind_kind_text bind.JoinMissing = codes "JoinMissing"
bind_kind_text bind.JoinNotInModel = codes "JoinNotInModel"
bind_kind_text bind.TypeClash = codes "TypeClash"
bind_kind_text bind.NotGrouped = codes "NotGrouped"
