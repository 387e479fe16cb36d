use Rattle.query_names.proofs.KeyLemmas.{key_of_bare}
use Rattle.query_names.proofs.scope.key_term.Goals as goal

pub returns-in-None : goal.returns-in-None
returns-in-None c = key_of_bare c.args.query.now c.in-Col.column c.args.term.now _ _ _ c.in-Col.is c.in-None.is c.item_called.ensures c.as_slice.ensures c.term_or.ensures
