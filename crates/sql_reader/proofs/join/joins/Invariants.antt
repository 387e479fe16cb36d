use Rattle.std.proofs.Common.{◌≡◌, [], ◌∷◌, length}
use Rattle.sql_tokens.specs.declared.kind.Kind.TheVariants as k
use Rattle.sql_reader.specs.Readers.{read_many}
use Rattle.sql_reader.specs.Parsers.{read_join, read_joins}
use Rattle.sql_reader.proofs.Loops.{appended}
use Rattle.sql_reader.proofs.join.joins.Given as goal

abbrev pub invariant-more : goal.invariant-more
invariant-more l = appended l.joins (read_many (k.Inner ∷ k.Left ∷ k.Join ∷ []) read_join l.rest) ≡ read_joins l.tokens

abbrev pub decreases-more : goal.decreases-more
decreases-more l = length l.rest
