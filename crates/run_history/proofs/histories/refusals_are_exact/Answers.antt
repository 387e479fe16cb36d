use Rattle.run_history.proofs.Refusals.{full_exactly, least_overlap, swap_fits}
use Rattle.run_history.proofs.histories.refusals_are_exact.Goals as goal

pub returns-clause-full : goal.returns-clause-full
returns-clause-full g c = λ cube w i. full_exactly cube w i

pub returns-clause-least : goal.returns-clause-least
returns-clause-least g c = λ cube w i range job h. least_overlap cube w i range job h

pub returns-clause-swap : goal.returns-clause-swap
returns-clause-swap g c = λ cube w i job s at live. swap_fits cube w i job s at live
