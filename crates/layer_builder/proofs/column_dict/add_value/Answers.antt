use Rattle.std.proofs.Common.{inr, refl}
use Rattle.layer_builder.proofs.column_dict.add_value.Goals as goal

pub returns-in-Some : goal.returns-in-Some
returns-in-Some c =
    let within = rw c.deref.ensures.value at c.in-Some.ensures.within in
    let there = rw c.deref.ensures.value at c.in-Some.ensures.there in
    inr (refl, (c.in-Some._place, within, there))
