-- The orders of values and of rows are total.
use Rattle.std.proofs.Common.{rules}
use Rattle.std.specs.Cmp.{IsTotalOrder}
use Rattle.std.specs.Cmp.Lexicographic.{lists_total}
use Rattle.std.specs.Cmp.Rules.{comparing}
use Rattle.cube_val.specs.Order.{row_cmp, val_cmp}

pub val_cmp_total : IsTotalOrder val_cmp
val_cmp_total = search (comparing, rules)

pub row_cmp_total : IsTotalOrder row_cmp
row_cmp_total = lists_total val_cmp_total
