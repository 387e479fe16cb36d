-- The names over the columns of an answer.
use Rattle.std.specs.Prelude.{ℕ, List, [], ◌++◌, codes, Option, Some, None, unwrap_or}
use Rattle.sql_reader.specs.declared.tree.ColRef.{ColRef}
use Rattle.sql_reader.specs.declared.tree.Item.{Item}
use Rattle.sql_reader.specs.declared.tree.AggWord.{AggWord}
use Rattle.sql_reader.specs.declared.tree.AggWord.TheVariants as word
use Rattle.sql_reader.specs.declared.tree.SqlTerm.{SqlTerm}
use Rattle.sql_reader.specs.declared.tree.SqlTerm.TheVariants.{Col, Agg}

-- what stands before the column's name
abbrev pub opening : AggWord → List ℕ
opening word.CountRows = codes "COUNT(*"
opening word.CountColumn = codes "COUNT("
opening word.CountDistinct = codes "COUNT(DISTINCT "
opening word.Sum = codes "SUM("
opening word.Min = codes "MIN("
opening word.Max = codes "MAX("
opening word.Avg = codes "AVG("

-- the bare name of a column, in upper case as every name is
abbrev pub bare_name : Option ColRef → List ℕ
bare_name None = []
bare_name (Some r) = r.column.text

abbrev pub title_of : SqlTerm → List ℕ
title_of (Col r) = r.column.text
title_of (Agg place w column) = opening w ++ bare_name column ++ codes ")"

-- the alias, else the bare name of the column, else the aggregate
abbrev pub name_of : Item → List ℕ
name_of item = unwrap_or item.alias (title_of item.term)
