use Rattle.std.proofs.Common.{ap, Err}
use Rattle.sql_tokens.proofs.QuoteFacts.{text_token, no_text_token}
use Rattle.sql_tokens.proofs.quote.text_lexeme.Goals as goal

pub returns-in-Ok : goal.returns-in-Ok
returns-in-Ok c = text_token c.args.text.now c.in-Ok.text c.args.len c.in-Ok.ensures.ok c.in-Ok.ensures.is_text c.requires

pub returns-in-Err-BadValue : goal.returns-in-Err-BadValue
returns-in-Err-BadValue c = no_text_token c.args.text.now (c.in-Err-BadValue.ensures.bad_value (ap Err c.in-Err-BadValue.field-0-is))
