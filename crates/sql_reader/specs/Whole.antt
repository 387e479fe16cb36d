-- What all tokens of a text are: a query, or a list with a first fault.
use Rattle.std.specs.Prelude.{◌≡◌, ℕ, Bool, true, false, List, [], ◌∷◌, ◌++◌, length, Result, Ok}
use Rattle.sql_tokens.specs.declared.token.Token.{Token}
use Rattle.sql_reader.specs.declared.tree.Query.{Query}
use Rattle.sql_reader.specs.declared.stop.Stop.{Stop}
use Rattle.sql_reader.specs.declared.stop.Stop.TheVariants.{Unexpected, Barred}
use Rattle.sql_reader.specs.declared.stop.Bar.{Bar}
use Rattle.sql_reader.specs.Kinds.{among, bar_of}
use Rattle.sql_reader.specs.Grammar.{query}
use Rattle.sql_reader.specs.Readers.{◌>>=◌, stuck}
use Rattle.sql_reader.specs.Parsers.{read_query}

-- the tokens spell the query, in which at most depth parentheses and NOT are open at once
abbrev pub IsQuery : ℕ → Query → List Token → Type 0
IsQuery depth q ts = (query depth false).spells q ts

-- the tokens spell the query but for its limits: any depth, any number behind LIMIT
abbrev pub IsLoosely : Query → List Token → Type 0
IsLoosely q ts = (depth : ℕ) × (query depth true).spells q ts

-- but for these limits a query begins with the tokens
abbrev pub BeginsQuery : List Token → Type 0
BeginsQuery ts = (depth : ℕ) × (query depth true).begins ts

-- a query within the limits does
abbrev pub BeginsWithin : ℕ → List Token → Type 0
BeginsWithin depth ts = (query depth false).begins ts

-- Behind front no query goes on with the next token, or no token is there and front is no query.
abbrev pub IsUnexpected : List Token → List Token → Type 0
IsUnexpected front [] = (q : Query) → IsLoosely q front → ⊥
IsUnexpected front (t ∷ rest) = BeginsQuery (front ++ t ∷ []) → ⊥

-- Behind front a query goes on with the next token, but none within the limits, for this reason.
abbrev pub IsBarred : Bar → ℕ → List Token → List Token → Type 0
IsBarred w depth front [] = ⊥
IsBarred w depth front (t ∷ rest) = (among (bar_of w) t.kind ≡ true) × BeginsQuery (front ++ t ∷ []) × (BeginsWithin depth (front ++ t ∷ []) → ⊥)

abbrev pub IsOfKind : ℕ → Stop → List Token → List Token → Type 0
IsOfKind depth (Unexpected n) front rest = IsUnexpected front rest × (length rest ≡ n)
IsOfKind depth (Barred w n) front rest = IsBarred w depth front rest × (length rest ≡ n)

-- the first fault: a query of this depth begins with the tokens up to each one before it
pub record IsFirstStop (depth : ℕ) (ts : List Token) (f : Stop) : Type 0 where
  pub front : List Token
  pub rest : List Token
  pub parts : ts ≡ front ++ rest
  pub before : (a b : List Token) → a ++ b ≡ front → BeginsWithin depth a
  pub fault : IsOfKind depth f front rest

-- all of the tokens
abbrev pub ended : {A : Type 0} → A → List Token → Result A Stop
ended x [] = Ok x
ended x (t ∷ ts) = stuck (t ∷ ts)

unfoldable pub read_whole : ℕ → Bool → List Token → Result Query Stop
read_whole depth loose ts = do
  x ← read_query depth loose ts
  ended x.0 x.1
