use Rattle.sql_reader.specs.declared.query.TheConstants.{DEPTH}
use Rattle.sql_reader.proofs.Whole.{told_found, told_only, told_fault}
use Rattle.sql_reader.proofs.query.read_tokens.Goals as goal

pub returns : goal.returns
returns c = record {
  found = told_found DEPTH c.args.tokens.now c.whole.result c.whole.ensures;
  only = told_only DEPTH c.args.tokens.now c.whole.result c.whole.ensures;
  fault = told_fault DEPTH c.args.tokens.now c.whole.result c.whole.ensures;
}
