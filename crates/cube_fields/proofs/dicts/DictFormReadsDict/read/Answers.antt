use Rattle.std.proofs.Common.{◌≡◌, ◌<◌, ◌^◌, true, rules, arith}
use Rattle.byte_frame.specs.Spelling.{rises}
use Rattle.cube_val.specs.Order.{val_cmp}
use Rattle.cube_fields.specs.Orders.{before}
use Rattle.cube_fields.proofs.ExactDicts.{is_dictionary}
use Rattle.cube_fields.proofs.dicts.DictFormReadsDict.read.Goals as goal

pub of-requires : goal.of-requires
of-requires c =
    let up : rises (before val_cmp) c.in-Ok.values.items ≡ true = search rules in
    let small : c.args.self.now.limit < 2 ^ 32 = search (arith, rules) in
    is_dictionary c.args.self.now c.args.r.now c.in-Ok.values.items c.read_list.new.r small c.in-Ok.ensures up
