use Rattle.std.proofs.Common.{sym}
use Rattle.sql_tokens.specs.declared.kind.Kind.TheVariants as k
use Rattle.sql_reader.specs.Grammar.{push}
use Rattle.sql_reader.proofs.Levels.{d_lit}
use Rattle.sql_reader.proofs.Loops.{goes_on, less}
use Rattle.sql_reader.proofs.literal.lit_list.Goals as goal

pub more-smaller : goal.more-smaller
more-smaller c = less d_lit.exact k.Comma c.more.rest.now _ _ _ _ c.in_ok-after.ensures c.in_ok-next.ensures

pub more-preserved : goal.more-preserved
more-preserved c = rw c.in_ok-push-2.ensures.ok (goes_on d_lit.exact k.Comma push c.more.lits c.more.rest.now _ _ _ _ _ (sym c.more-test.ensures) c.in_ok-after.ensures c.in_ok-next.ensures c.more.invariant)
