-- What holds of the tokens of every text.
use Rattle.std.specs.Prelude.{◌≡◌, ℕ, suc, ◌≤◌, Bool, false, ◌==◌, List, [], ◌∷◌, ◌++◌, length, Option, Some, None}
use Rattle.query_faults.specs.declared.sql.SqlFault.{SqlFault}
use Rattle.sql_tokens.specs.declared.token.Token.{Token}
use Rattle.sql_tokens.specs.Cuts.{AreTokens}
use Rattle.sql_tokens.specs.Quotes.{doubled, text_behind}

-- a text has one list of tokens, and one fault at most
abbrev pub TokensAreUnique : Type 0
TokensAreUnique = (text : List ℕ) (ts us : List Token) (fault other : Option SqlFault) → AreTokens text ts fault → AreTokens text us other → (ts ≡ us) × (fault ≡ other)

-- where the tokens stop: at the fault, or at the end
abbrev pub stop_of : Option SqlFault → ℕ → ℕ
stop_of None end = end
stop_of (Some fault) end = fault.place

-- the places are at least this one, each is greater than the one before it, and the stop is greater than all of them
abbrev pub Rise : ℕ → List Token → ℕ → Type 0
Rise least [] stop = least ≤ stop
Rise least (t ∷ ts) stop = (least ≤ t.place) × Rise (suc t.place) ts stop

-- the places of a text's tokens rise, up to the fault or the end
abbrev pub PlacesRise : Type 0
PlacesRise = (text : List ℕ) (ts : List Token) (fault : Option SqlFault) → AreTokens text ts fault → Rise 0 ts (stop_of fault (length text))

abbrev pub is_quote_first : List ℕ → Bool
is_quote_first [] = false
is_quote_first (b ∷ bs) = b == 39

-- what is written with each quote doubled, before a quote that no other one follows, is read back
abbrev pub DoubledIsRead : Type 0
DoubledIsRead = (text rest : List ℕ) → is_quote_first rest ≡ false → text_behind false (doubled text ++ 39 ∷ rest) ≡ Some text

-- and what is read was written so
abbrev pub ReadIsDoubled : Type 0
ReadIsDoubled = (bytes text : List ℕ) → text_behind false bytes ≡ Some text → (rest : List ℕ) × (bytes ≡ doubled text ++ 39 ∷ rest) × (is_quote_first rest ≡ false)
