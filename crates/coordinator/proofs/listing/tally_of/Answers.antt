use Rattle.coordinator.proofs.Tallies.{tally_is}
use Rattle.coordinator.proofs.listing.tally_of.Goals as goal

pub returns : goal.returns
returns c =
    tally_is c.args.jobs.now c.finished_in.result c.in_error_in.result c.stopped_in.result c.discarded_in.result c.finished_in.ensures c.in_error_in.ensures c.stopped_in.ensures c.discarded_in.ensures
