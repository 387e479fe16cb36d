use Rattle.std.proofs.Common.{◌≡◌, [], ◌∷◌, length}
use Rattle.sql_tokens.specs.declared.kind.Kind.TheVariants as k
use Rattle.sql_reader.specs.Readers.{read_many}
use Rattle.sql_reader.specs.Grammar.{push}
use Rattle.sql_reader.specs.Parsers.{read_after, read_key, read_keys}
use Rattle.sql_reader.proofs.Loops.{gathered}
use Rattle.sql_reader.proofs.order.keys.Given as goal

abbrev pub invariant-more : goal.invariant-more
invariant-more l = gathered push l.keys (read_many (k.Comma ∷ []) (read_after k.Comma read_key) l.rest) ≡ read_keys l.tokens

abbrev pub decreases-more : goal.decreases-more
decreases-more l = length l.rest
