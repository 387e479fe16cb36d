use Rattle.run_history.proofs.Queries.{queries_world, take_lawful}
use Rattle.run_history.proofs.histories.versions_are_lawful.Goals as goal

pub returns-clause-queries : goal.returns-clause-queries
returns-clause-queries g c = λ cube workers initial turns legal fresh. queries_world cube workers initial turns legal fresh

pub returns-clause-at_take : goal.returns-clause-at_take
returns-clause-at_take g c = λ w h line q e. take_lawful w h line q e
