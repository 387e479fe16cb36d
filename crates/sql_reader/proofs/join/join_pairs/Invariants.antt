use Rattle.std.proofs.Common.{◌≡◌, [], ◌∷◌, length}
use Rattle.sql_tokens.specs.declared.kind.Kind.TheVariants as k
use Rattle.sql_reader.specs.Readers.{read_many}
use Rattle.sql_reader.specs.Grammar.{push}
use Rattle.sql_reader.specs.Parsers.{read_after, read_join_pair, read_join_pairs}
use Rattle.sql_reader.proofs.Loops.{gathered}
use Rattle.sql_reader.proofs.join.join_pairs.Given as goal

abbrev pub invariant-more : goal.invariant-more
invariant-more l = gathered push l.pairs (read_many (k.And ∷ []) (read_after k.And read_join_pair) l.rest) ≡ read_join_pairs l.tokens

abbrev pub decreases-more : goal.decreases-more
decreases-more l = length l.rest
