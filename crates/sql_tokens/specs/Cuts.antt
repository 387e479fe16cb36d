-- The tokens of a text.
use Rattle.std.specs.Prelude.{◌≡◌, ℕ, ◌+◌, Bool, ◌||◌, ◌==◌, List, [], ◌∷◌, drop, Option, Some, None}
use Rattle.std.specs.List.{prefix_len}
use Rattle.query_faults.specs.declared.sql.SqlFault.{SqlFault}
use Rattle.sql_tokens.specs.declared.lexeme.Lexeme.{Lexeme}
use Rattle.sql_tokens.specs.declared.lexeme.Lexeme.TheVariants as lexeme
use Rattle.sql_tokens.specs.declared.token.Token.{Token}
use Rattle.sql_tokens.specs.Lexemes.{next_at}

-- a space or a tab
abbrev pub is_blank : ℕ → Bool
is_blank b = b == 32 || b == 9

-- how many blanks stand in front
abbrev pub gap : List ℕ → ℕ
gap text = prefix_len is_blank text

-- the text behind them
abbrev pub skip : List ℕ → List ℕ
skip text = drop (gap text) text

-- A text whose first byte has the place p gives these tokens, and then this rest is left, whose first byte has the place q.
abbrev pub Cuts : ℕ → List ℕ → List Token → ℕ → List ℕ → Type 0
Cuts p text [] q rest = (p ≡ q) × (text ≡ rest)
Cuts p text (t ∷ ts) q rest = (len : ℕ) × (next_at (skip text) ≡ lexeme.Token t.kind t.payload len) × (t.place ≡ p + gap text) × Cuts (p + gap text + len) (drop len (skip text)) ts q rest

-- at this place the text is at its end, or there is this fault, since no token starts there
abbrev pub IsStop : Option SqlFault → ℕ → Lexeme → Type 0
IsStop None place next = next ≡ lexeme.End
IsStop (Some fault) place next = (next ≡ lexeme.Bad fault.kind) × (fault.place ≡ place)

-- all tokens of a text, up to its end, or up to the first byte at which none starts, which is then the fault
pub record AreTokens (text : List ℕ) (ts : List Token) (fault : Option SqlFault) : Type 0 where
  pub at : ℕ
  pub rest : List ℕ
  pub cut : Cuts 0 text ts at rest
  pub stop : IsStop fault (at + gap rest) (next_at (skip rest))
