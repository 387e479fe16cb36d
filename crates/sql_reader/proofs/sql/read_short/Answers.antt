use Rattle.std.proofs.Common.{List, subst, sym}
use Rattle.sql_tokens.specs.declared.token.Token.{Token}
use Rattle.sql_tokens.specs.Cuts.{AreTokens}
use Rattle.sql_reader.proofs.Least.{answer_found, answer_only, answer_fault}
use Rattle.sql_reader.proofs.sql.read_short.Goals as goal

pub returns : goal.returns
returns c =
    let cut = subst (λ (w : List Token). AreTokens c.args.text.now w c.in_ok-lexed.lexed.fault) (sym c.as_slice-tokens.ensures) c.in_ok-lexed.ensures in
    rw c.answer.ensures (record {
      found = answer_found c.args.text.now c.as_slice-tokens.result.now c.in_ok-lexed.lexed.fault c.read_tokens-read.result c.requires cut c.read_tokens-read.ensures.found;
      only = answer_only c.args.text.now c.as_slice-tokens.result.now c.in_ok-lexed.lexed.fault c.read_tokens-read.result cut c.read_tokens-read.ensures.only;
      fault = answer_fault c.args.text.now c.as_slice-tokens.result.now c.in_ok-lexed.lexed.fault c.read_tokens-read.result cut c.read_tokens-read.ensures.found c.read_tokens-read.ensures.fault;
    })
