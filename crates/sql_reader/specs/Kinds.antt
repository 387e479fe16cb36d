-- Short sets of kinds of token.
use Rattle.std.specs.Prelude.{Bool, true, false, not, ◌&&◌, ◌||◌, List, [], ◌∷◌}
use Rattle.sql_tokens.specs.declared.kind.Kind.{Kind}
use Rattle.sql_tokens.specs.declared.kind.Kind.TheVariants as k
use Rattle.sql_tokens.specs.declared.token.Token.{Token}
pub use Rattle.sql_tokens.specs.Kinds.{number_of, same}
use Rattle.sql_reader.specs.declared.stop.Bar.{Bar}
use Rattle.sql_reader.specs.declared.stop.Bar.TheVariants as bars

-- whether the set has it
abbrev pub among : List Kind → Kind → Bool
among [] k = false
among (x ∷ xs) k = same k x || among xs k

-- whether the first token is of the set
abbrev pub heads : List Kind → List Token → Bool
heads ks [] = false
heads ks (t ∷ ts) = among ks t.kind

abbrev pub apart : List Kind → List Kind → Bool
apart [] ys = true
apart (x ∷ xs) ys = not (among ys x) && apart xs ys

abbrev pub within : List Kind → List Kind → Bool
within [] ys = true
within (x ∷ xs) ys = among ys x && within xs ys

-- the tokens at which a reader gives up for this reason
abbrev pub bar_of : Bar → List Kind
bar_of bars.TooDeep = k.Not ∷ k.Open ∷ []
bar_of bars.BadNumber = k.Number ∷ []
