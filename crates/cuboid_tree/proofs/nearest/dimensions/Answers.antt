use Rattle.std.proofs.Common.{◌≡◌, ◌∙◌, ap, arith}
use Rattle.agg_group.specs.Mask.{count_of}
use Rattle.cuboid_tree.proofs.Linked.{few_dimensions}
use Rattle.cuboid_tree.proofs.nearest.dimensions.Goals as goal

pub returns-clause-count : goal.returns-clause-count
returns-clause-count c = c.count.ensures ∙ ap (λ n. count_of (record { 0 = n })) c.number_at.ensures

pub returns-clause-few : goal.returns-clause-few
returns-clause-few c =
    let e : c.count.result ≡ count_of (record { 0 = c.number_at.result }) = c.count.ensures in
    omega (arith, e, few_dimensions (record { 0 = c.number_at.result }))

pub returns-clause-fits : goal.returns-clause-fits
returns-clause-fits c = omega (arith, c.number_at.type_inv, c.number_at.ensures)
