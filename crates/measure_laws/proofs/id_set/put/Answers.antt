use Rattle.std.proofs.Common.{◌≡◌, ◌∙◌, sym}
use Rattle.std.specs.Cmp.{nat_cmp_total}
use Rattle.std.specs.FinMap.{nat_cmp-IsAntisymmetric}
use Rattle.std.specs.List.{insert}
use Rattle.measure_laws.specs.RisingFacts.{insert_at_place, insert_key-present, searchable}
use Rattle.measure_laws.proofs.id_set.put.Goals as goal

pub returns-in-Err-clause-items : goal.returns-in-Err-clause-items
returns-in-Err-clause-items c =
    let xs = c.args.ids.now.items in
    let found = rw c.deref.ensures.value at c.in-Err.ensures.position in
    let within = rw c.deref.ensures.value at c.in-Err.ensures.bound in
    let split = found (searchable nat_cmp_total xs c.args.id c.requires.rising) in
    let items : c.insert.new.self.items ≡ insert xs c.in-Err.place c.args.id = rw c.unwrap.ensures at c.insert.ensures.items in
    items ∙ insert_at_place nat_cmp_total xs c.in-Err.place c.args.id within split.0 split.1

pub returns-in-Ok-clause-items : goal.returns-in-Ok-clause-items
returns-in-Ok-clause-items c =
    let xs = c.args.ids.now.items in
    let at = rw c.deref.ensures.value at c.in-Ok.ensures.ok in
    let within = rw c.deref.ensures.value at c.in-Ok.ensures.bound in
    sym (insert_key-present nat_cmp_total nat_cmp-IsAntisymmetric xs c.in-Ok._place c.args.id c.requires.rising within at)
