use Rattle.std.proofs.Common.{◌∙◌, rules, tests}
use Rattle.std.proofs.lemmas.Iterator.{YieldsList-from_slice}
use Rattle.std.proofs.lemmas.Iterator.Consumers.{YieldsList-at, YieldsList-from_filter, count_from_yields_List}
use Rattle.std.proofs.lemmas.List.Sums.{length-filter}
use Rattle.run_transcript.specs.Entries.{is_discarded}
use Rattle.job_board.specs.Ledger.{BoardJob}
use Rattle.coordinator.proofs.listing.discarded_in.Goals as goal

pub returns : goal.returns
returns c =
    count_from_yields_List c.filter.result _ c.count.ensures.ran
    (YieldsList-from_filter _ (λ (entry : BoardJob). is_discarded entry.job.state) (YieldsList-at c.filter.ensures.source (YieldsList-from_slice c.args.jobs.now c.iter.ensures.rest)) c.filter.ensures.closure
    (λ x b q k. search (rules, tests)))
    ∙ length-filter (λ (entry : BoardJob). is_discarded entry.job.state) c.args.jobs.now
