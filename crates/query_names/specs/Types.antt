-- Literals, and the types that they are compared with.
use Rattle.std.specs.Prelude.{ℕ, List, ◌++◌, is_some, Bool, true, false}
use Rattle.calendar.specs.Dates.{day_of}
use Rattle.cube_val.specs.declared.val.ColType.{ColType}
use Rattle.cube_val.specs.declared.val.ColType.TheVariants as ty
use Rattle.cube_desc.specs.Cube.{Cube}
use Rattle.sql_reader.specs.declared.tree.SqlLit.{SqlLit}
use Rattle.sql_reader.specs.declared.tree.SqlLitKind.{SqlLitKind}
use Rattle.sql_reader.specs.declared.tree.SqlLitKind.TheVariants.{Number, Text, Date}
use Rattle.sql_reader.specs.declared.tree.SqlTerm.{SqlTerm}
use Rattle.sql_reader.specs.declared.tree.SqlTerm.TheVariants.{Col, Agg}
use Rattle.sql_reader.specs.declared.tree.Query.{Query}
use Rattle.query_names.specs.Least.{unless}
use Rattle.query_names.specs.Parts.{of_pairs}
use Rattle.query_names.specs.Resolve.{column_type}

-- the type of a term: every aggregate is a number
abbrev pub term_type : Cube → Query → SqlTerm → ColType
term_type c q (Col r) = column_type c q r
term_type c q (Agg place word column) = ty.Int

abbrev pub is_day : List ℕ → Bool
is_day text = is_some (day_of text)

-- numbers stand at numbers, texts at texts; at dates texts or DATE that are days
abbrev pub fits_type : ColType → SqlLitKind → Bool
fits_type ty.Int (Number n) = true
fits_type ty.Int (Text t) = false
fits_type ty.Int (Date t) = false
fits_type ty.Decimal (Number n) = true
fits_type ty.Decimal (Text t) = false
fits_type ty.Decimal (Date t) = false
fits_type ty.Text (Number n) = false
fits_type ty.Text (Text t) = true
fits_type ty.Text (Date t) = false
fits_type ty.Date (Number n) = false
fits_type ty.Date (Text t) = is_day t
fits_type ty.Date (Date t) = is_day t

abbrev pub type_clash : Cube → Query → SqlTerm × SqlLit → List ℕ
type_clash c q pair = unless (fits_type (term_type c q pair.0) pair.1.kind) pair.1.place

abbrev pub type_clashes : Cube → Query → List ℕ
type_clashes c q = of_pairs (type_clash c q) q.filter ++ of_pairs (type_clash c q) q.having
