-- What holds of every text.
use Rattle.std.specs.Prelude.{◌≡◌, ℕ, List}
use Rattle.query_faults.specs.declared.sql.SqlFault.{SqlFault}
use Rattle.sql_reader.specs.declared.tree.Query.{Query}
use Rattle.sql_reader.specs.Sql.{IsFault, IsSql}

-- a text spells one query at most
abbrev pub OneQuery : Type 0
OneQuery = (text : List ℕ) (q r : Query) → IsSql text q → IsSql text r → q ≡ r

-- a text has one first fault at most
abbrev pub OneFault : Type 0
OneFault = (text : List ℕ) (f g : SqlFault) → IsFault text f → IsFault text g → f ≡ g

-- a query has no fault
abbrev pub NotBoth : Type 0
NotBoth = (text : List ℕ) (q : Query) (f : SqlFault) → IsSql text q → IsFault text f → ⊥
