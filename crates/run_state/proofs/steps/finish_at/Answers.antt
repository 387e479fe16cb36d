use Rattle.std.proofs.Common.{◌≡◌, Some, slice_get, refl}
use Rattle.std.proofs.lemmas.Option.{slice_get_read}
use Rattle.run_state.proofs.steps.finish_at.Goals as goal

pub returns : goal.returns
returns g c =
    let there : slice_get c.args.jobs.now.items c.args.place ≡ Some c.index_mut-entry.result.now = slice_get_read c.args.jobs.now.items _ c.args.place c.index_mut-entry.result.now refl c.requires c.index_mut-entry.ensures.value in
    record { entry = c.index_mut-entry.result.now; next = record { job = c.step_ok.new.self; range = c.index_mut-entry.result.now.range; tables = c.index_mut-entry.result.now.tables; products = c.clear.new.self }; at = there; now = refl; job = c.step_ok.ensures.job; range = refl; tables = refl; products = c.clear.ensures.items }
