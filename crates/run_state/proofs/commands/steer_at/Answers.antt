use Rattle.std.proofs.Common.{◌≡◌, Some, slice_get, refl}
use Rattle.std.proofs.lemmas.Option.{slice_get_read}
use Rattle.run_state.proofs.commands.steer_at.Goals as goal

pub returns-clause-answer : goal.returns-clause-answer
returns-clause-answer g c =
    let there : slice_get c.args.jobs.now.items c.args.place ≡ Some c.index_mut-entry.result.now = slice_get_read c.args.jobs.now.items _ c.args.place c.index_mut-entry.result.now refl c.requires c.index_mut-entry.ensures.value in
    rw there c.steer_job-answer.ensures.answer

pub returns-clause-job : goal.returns-clause-job
returns-clause-job g c =
    let there : slice_get c.args.jobs.now.items c.args.place ≡ Some c.index_mut-entry.result.now = slice_get_read c.args.jobs.now.items _ c.args.place c.index_mut-entry.result.now refl c.requires c.index_mut-entry.ensures.value in
    record { entry = c.index_mut-entry.result.now; next = record { job = c.steer_job-answer.new.job; range = c.index_mut-entry.result.now.range; tables = c.index_mut-entry.result.now.tables; products = c.let_go.new.products }; at = there; now = refl; job = c.steer_job-answer.ensures.job; range = refl; tables = refl; products = c.let_go.ensures }
