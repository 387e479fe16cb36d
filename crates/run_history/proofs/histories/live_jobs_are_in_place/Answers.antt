use Rattle.std.proofs.Common.{subst}
use Rattle.job_machine.specs.declared.state.JobKind.{JobKind}
use Rattle.run_history.specs.Invariants.{IsInPlace}
use Rattle.run_history.proofs.histories.live_jobs_are_in_place.Goals as goal

pub returns-clause-build : goal.returns-clause-build
returns-clause-build g c = λ cube w i job s at live kind. subst (λ (k : JobKind). IsInPlace cube k s.range w.ready) kind (i.in_place job s at live)

pub returns-clause-refresh : goal.returns-clause-refresh
returns-clause-refresh g c = λ cube w i job s at live kind. subst (λ (k : JobKind). IsInPlace cube k s.range w.ready) kind (i.in_place job s at live)

pub returns-clause-merge : goal.returns-clause-merge
returns-clause-merge g c = λ cube w i job s at live kind. subst (λ (k : JobKind). IsInPlace cube k s.range w.ready) kind (i.in_place job s at live)
