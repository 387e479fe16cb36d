use Rattle.std.proofs.Common.{arith}
use Rattle.sql_tokens.proofs.QuoteFacts.{longer_byte, longer_quote}
use Rattle.sql_tokens.proofs.quote.take_in.Goals as goal

pub returns-then-after_quote-clause-longer : goal.returns-then-after_quote-clause-longer
returns-then-after_quote-clause-longer c =
    rw (c.in_ok-push.ensures.items, c.if-after_quote.true) (omega (arith, longer_quote c.args.text.now.items))

pub returns-clause-longer : goal.returns-clause-longer
returns-clause-longer c =
    rw (c.in_ok-push-2.ensures.items, c.if-after_quote.false) (omega (arith, longer_byte c.args.text.now.items c.args.byte c.if-byte-eq-QUOTE.false))
