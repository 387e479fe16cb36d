-- What a text is: a query, or a text with a first fault.
use Rattle.std.specs.Prelude.{◌≡◌, ℕ, ◌<◌, ◌≤◌, ◌⊎◌, List, [], ◌∷◌, ◌++◌, length, Option, Some, None, Result, Ok, Err}
use Rattle.query_faults.specs.declared.sql.SqlFault.{SqlFault}
use Rattle.query_faults.specs.declared.sql.SqlKind.TheVariants.{TooLong, BadNumber, TooDeep, Unexpected}
use Rattle.sql_tokens.specs.declared.token.Token.{Token}
use Rattle.sql_tokens.specs.Cuts.{AreTokens}
use Rattle.sql_reader.specs.declared.tree.Query.{Query}
use Rattle.sql_reader.specs.declared.stop.Bar.TheVariants as bars
use Rattle.sql_reader.specs.declared.sql.SqlRefusal.{SqlRefusal}
use Rattle.sql_reader.specs.declared.sql.SqlRefusal.TheVariants as refusals
use Rattle.sql_reader.specs.Whole.{BeginsWithin, IsBarred, IsQuery, IsUnexpected}

-- how many parentheses and NOT of a condition may be open at once
abbrev pub most_open : ℕ
most_open = 64

-- how many bytes a text may have
abbrev pub most_bytes : ℕ
most_bytes = 10_000

-- the text isn't too long, and its tokens, to its end, spell the query
pub record IsSql (text : List ℕ) (q : Query) : Type 0 where
  pub short : length text ≤ most_bytes
  pub tokens : List Token
  pub cut : AreTokens text tokens None
  pub spelled : IsQuery most_open q tokens

-- the query, or want of memory
abbrev pub GivesSql : Result Query SqlRefusal → Query → Type 0
GivesSql (Ok x) q = x ≡ q
GivesSql (Err refusals.Memory) q = Unit {0}
GivesSql (Err (refusals.Fault f)) q = ⊥

-- Why no query goes on behind the tokens of front: the next token is of no query there, or of none within the limits; or no token
-- starts there; or the text ends there and is no query.
abbrev pub IsWhy : SqlFault → List Token → List Token → Option SqlFault → ℕ → Type 0
IsWhy f front (t ∷ rest) bad end =
    (f.place ≡ t.place)
    × (((f.kind ≡ Unexpected) × IsUnexpected front (t ∷ rest))
    ⊎ (((f.kind ≡ TooDeep) × IsBarred bars.TooDeep most_open front (t ∷ rest))
    ⊎ ((f.kind ≡ BadNumber) × IsBarred bars.BadNumber most_open front (t ∷ rest))))
IsWhy f front [] (Some b) end = f ≡ b
IsWhy f front [] None end = (f.place ≡ end) × (f.kind ≡ Unexpected) × IsUnexpected front []

-- The fault with the least place: a query within the limits begins with the tokens up to each one before it.
pub record IsLeastFault (text : List ℕ) (f : SqlFault) : Type 0 where
  pub tokens : List Token
  pub bad : Option SqlFault
  pub cut : AreTokens text tokens bad
  pub front : List Token
  pub rest : List Token
  pub parts : tokens ≡ front ++ rest
  pub before : (a b : List Token) → a ++ b ≡ front → BeginsWithin most_open a
  pub why : IsWhy f front rest bad (length text)

-- too many bytes, or else the fault with the least place
abbrev pub IsFault : List ℕ → SqlFault → Type 0
IsFault text f = ((most_bytes < length text) × (f ≡ record { place = 0; kind = TooLong })) ⊎ ((length text ≤ most_bytes) × IsLeastFault text f)
