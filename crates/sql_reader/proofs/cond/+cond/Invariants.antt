use Rattle.std.proofs.Common.{◌≡◌, [], ◌∷◌, length, ◌+◌, ◌*◌}
use Rattle.sql_tokens.specs.declared.kind.Kind.TheVariants as k
use Rattle.sql_reader.specs.declared.tree.SqlCond.TheVariants as conds
use Rattle.sql_reader.specs.Readers.{read_many}
use Rattle.sql_reader.specs.Parsers.{read_after, read_conj, read_disj, read_neg}
use Rattle.sql_reader.proofs.Loops.{gathered}
use Rattle.sql_reader.proofs.cond.+cond.Given as goal

abbrev pub decreases-conj : goal.decreases-conj
decreases-conj l = 6 * l.depth + 2

abbrev pub decreases-disj : goal.decreases-disj
decreases-disj l = 6 * l.depth + 4

abbrev pub decreases-neg : goal.decreases-neg
decreases-neg l = 6 * l.depth

abbrev pub decreases-and_neg : goal.decreases-and_neg
decreases-and_neg l = 6 * l.depth + 1

abbrev pub decreases-or_conj : goal.decreases-or_conj
decreases-or_conj l = 6 * l.depth + 3

abbrev pub decreases-not_neg : goal.decreases-not_neg
decreases-not_neg l = 6 * l.depth + 5

abbrev pub decreases-nested : goal.decreases-nested
decreases-nested l = 6 * l.depth + 5

abbrev pub invariant-conj-ands : goal.invariant-conj-ands
invariant-conj-ands l = gathered conds.And l.all (read_many (k.And ∷ []) (read_after k.And (read_neg l.depth)) l.rest) ≡ read_conj (read_neg l.depth) l.tokens

abbrev pub decreases-conj-ands : goal.decreases-conj-ands
decreases-conj-ands l = length l.rest

abbrev pub invariant-disj-ors : goal.invariant-disj-ors
invariant-disj-ors l = gathered conds.Or l.all (read_many (k.Or ∷ []) (read_after k.Or (read_conj (read_neg l.depth))) l.rest) ≡ read_disj (read_neg l.depth) l.tokens

abbrev pub decreases-disj-ors : goal.decreases-disj-ors
decreases-disj-ors l = length l.rest
