use Rattle.std.proofs.Common.{◌≡◌, List, Option, Some, slice_get, refl, ap, ◌∙◌}
use Rattle.std.proofs.lemmas.Option.{slice_get_read}
use Rattle.job_machine.specs.Job.{Act, JobRecord, next}
use Rattle.run_history.specs.Cubes.{Rows}
use Rattle.run_state.specs.States.{snapshot_of}
use Rattle.run_state.proofs.Turns.{with_tables}
use Rattle.run_state.proofs.steps.claim_at.Goals as goal

pub returns-clause-job : goal.returns-clause-job
returns-clause-job g c =
    let there : slice_get c.args.jobs.now.items c.args.place ≡ Some c.index_mut-entry.result.now = slice_get_read c.args.jobs.now.items _ c.args.place c.index_mut-entry.result.now refl c.requires.place c.index_mut-entry.ensures.value in
    record {
      entry = c.index_mut-entry.result.now;
      next = record { job = c.claim.new.self; range = c.index_mut-entry.result.now.range; tables = c.first_tables.new.tables; products = c.index_mut-entry.result.now.products };
      at = there;
      now = refl;
      claimed = ap (λ (j : JobRecord). with_tables j c.index_mut-entry.result.now.range (snapshot_of g.T.TableHandle.rows c.first_tables.new.tables)) c.claim.ensures ∙ ap (λ (t : Option (List Rows)). with_tables (next Act.Claim c.index_mut-entry.result.now.job) c.index_mut-entry.result.now.range t) c.in_ok-first_tables.ensures.ok;
      products = refl;
    }
