use Rattle.std.proofs.Common.{◌∙◌, eqb}
use Rattle.std.proofs.lemmas.List.Filters.{dedup_is}
use Rattle.measure_laws.proofs.Unions.{ordered_is}
use Rattle.measure_laws.proofs.id_set.in_order.Goals as goal

pub returns : goal.returns
returns c =
    let sorted = c.sort_unstable.new.self.items in
    dedup_is eqb sorted c.dedup.new.self.items c.dedup.ensures.filtered ∙ ordered_is c.args.ids.items sorted c.sort_unstable.ensures.permutation c.sort_unstable.ensures.sorted
