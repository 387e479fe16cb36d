use Rattle.std.proofs.Common.{◌≡◌, Some, set, slice_get, refl, ap}
use Rattle.std.proofs.lemmas.Option.{slice_get_read}
use Rattle.job_machine.specs.Job.{JobRecord}
use Rattle.run_state.proofs.steps.fail_at.Goals as goal

pub returns : goal.returns
returns g c =
    let there : slice_get c.args.jobs.now.items c.args.place ≡ Some c.index_mut-entry.result.now = slice_get_read c.args.jobs.now.items _ c.args.place c.index_mut-entry.result.now refl c.requires c.index_mut-entry.ensures.value in
    record { entry = c.index_mut-entry.result.now; at = there; now = ap (λ (j : JobRecord). set c.args.jobs.now.items c.args.place (record c.index_mut-entry.result.now { job = j })) c.step_failed.ensures.job }
