use Rattle.std.proofs.Common.{◌∙◌, subst}
use Rattle.range_list.specs.Ranges.{IsApart}
use Rattle.segment_store.proofs.Lists.{insert_last}
use Rattle.segment_store.proofs.ready_set.add_last.Goals as goal

pub returns : goal.returns
returns c =
    let ok = c.in_ok-insert.ensures in
    ok.inserted ∙ insert_last c.args.ranges.now c.args.range c.in_ok-insert.field-0 ok.place c.requires (subst IsApart ok.inserted ok.apart)
