use Rattle.dim_dictionary.proofs.DictLemmas.{keeps_order}
use Rattle.dim_dictionary.proofs.laws.numbers_keep_order.Goals as goal

pub returns : goal.returns
returns c = keeps_order
