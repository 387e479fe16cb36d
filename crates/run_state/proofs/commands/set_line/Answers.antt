use Rattle.std.proofs.Common.{arith}
use Rattle.run_state.proofs.Lists.{rising_more}
use Rattle.run_state.proofs.commands.set_line.Goals as goal

pub invariant_of-state : goal.invariant_of-state
invariant_of-state g c =
    let o = c.args.state.now in
    record { places = o.places; rising = rising_more 0 _ _ _ o.rising (omega arith); waiting_listed = o.waiting_listed; asked_listed = o.asked_listed }
