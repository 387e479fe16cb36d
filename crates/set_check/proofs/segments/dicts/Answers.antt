use Rattle.std.proofs.Common.{[], arith, subst, sym}
use Rattle.aggregation.proofs.GroupFacts.{rises-distinct}
use Rattle.cube_val.proofs.OrderFacts.{val_cmp_exact}
use Rattle.cube_val.specs.OrderLaws.{val_cmp_total}
use Rattle.dim_dictionary.specs.Dictionaries.{IsDictionary}
use Rattle.set_check.proofs.segments.dicts.Goals as goal

pub of-requires : goal.of-requires
of-requires c =
    let none : IsDictionary [] = record { rising = rises-distinct val_cmp_total val_cmp_exact []; few = omega arith } in
    subst IsDictionary (sym c.new.ensures.items) none
