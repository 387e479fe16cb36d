use Rattle.std.proofs.Common.{◌≡◌, Some, slice_get, refl}
use Rattle.std.proofs.lemmas.Option.{slice_get_read}
use Rattle.run_state.specs.States.{submitted_of}
use Rattle.run_state.specs.declared.parts.JobEntry.{JobEntry}
use Rattle.run_state.proofs.Lists.{map_set_same, on_err}
use Rattle.std.proofs.Common.{length-set}
use Rattle.run_state.proofs.steps.advance_at.Goals as goal

pub returns-clause-ok : goal.returns-clause-ok
returns-clause-ok g c =
    let there : slice_get c.args.jobs.now.items c.args.place ≡ Some c.index_mut-entry.result.now = slice_get_read c.args.jobs.now.items _ c.args.place c.index_mut-entry.result.now refl c.requires c.index_mut-entry.ensures.value in
    record { entry = c.index_mut-entry.result.now; next = record { job = c.step_ok.new.self; range = c.index_mut-entry.result.now.range; tables = c.index_mut-entry.result.now.tables; products = c.keep_product.new.products }; at = there; now = refl; job = c.step_ok.ensures.job; range = refl; tables = refl; products = c.in_ok-keep_product.ensures.ok }

pub returns-in_err-keep_product-clause-err : goal.returns-in_err-keep_product-clause-err
returns-in_err-keep_product-clause-err g c =
    let there : slice_get c.args.jobs.now.items c.args.place ≡ Some c.index_mut-entry.result.now = slice_get_read c.args.jobs.now.items _ c.args.place c.index_mut-entry.result.now refl c.requires c.index_mut-entry.ensures.value in
    on_err c.from_residual.result _ (record {
      submitted = λ rows. map_set_same (submitted_of rows) c.args.jobs.now.items c.args.place c.index_mut-entry.result.now _ there refl;
      products = map_set_same (λ (e : JobEntry _ _). e.products.items) c.args.jobs.now.items c.args.place c.index_mut-entry.result.now _ there c.in_err-keep_product.ensures.err;
      count = length-set c.args.jobs.now.items c.args.place _;
    })
