use Rattle.std.proofs.Common.{◌≡◌, ◌+◌, ◌-◌, ◌<◌, refl, sym, ap, ◌∙◌, arith}
use Rattle.run_history.specs.Steps.{without_claim}
use Rattle.run_history.specs.World.{job_of}
use Rattle.run_state.specs.States.{submitted_of}
use Rattle.run_state.proofs.Turns.{same_world, job_of_entry, failed_kept, current_within, current_entry, changed_count, changed_products}
use Rattle.run_state.proofs.Ends.{failed_world}
use Rattle.run_state.proofs.steps.end_failed.Goals as goal

pub overflow_sub-place : goal.overflow_sub-place
overflow_sub-place g c = let within = current_within c.args.state.now.jobs.items c.args.job c.args.attempt c.requires in let pos : 0 < c.args.job = within.0 in omega arith

pub fail_at-requires : goal.fail_at-requires
fail_at-requires g c = let within = current_within c.args.state.now.jobs.items c.args.job c.args.attempt c.requires in within.1

pub returns-clause-state : goal.returns-clause-state
returns-clause-state g c = λ w outcome fails i.
    let ch = c.fail_at.ensures in
    let within = current_within c.args.state.now.jobs.items c.args.job c.args.attempt c.requires in
    let back : c.args.job - 1 + 1 ≡ c.args.job = let pos : 0 < c.args.job = within.0 in omega arith in
    let current = current_entry c.args.state.now.jobs.items c.args.job (c.args.job - 1) c.args.attempt ch.entry back ch.at c.requires in
    let there = job_of_entry g.T.TableHandle.rows g.R.ReadyHandle.ready_set w c.args.state.now i c.args.job ch.entry within.0 ch.at in
    same_world g.T.TableHandle.rows g.R.ReadyHandle.ready_set _ _ _ (failed_world (record w { steps = without_claim c.args.job c.args.attempt w.steps }) c.args.job c.args.attempt outcome (submitted_of g.T.TableHandle.rows ch.entry) (job_of w c.args.job) there fails current) (record {
      workers = i.workers;
      line = i.line;
      loaded = i.loaded;
      jobs = failed_kept g.T.TableHandle.rows g.R.ReadyHandle.ready_set w c.args.state.now i c.args.job c.fail_at.new.jobs.items c.args.attempt ch current;
      queue = i.queue;
      steps = ap (without_claim c.args.job c.args.attempt) i.steps ∙ sym c.remove_claim.ensures;
      version = i.version;
      ready = i.ready;
      waiting = i.waiting;
      asked = i.asked;
      accepted = i.accepted;
      answered = i.answered;
    })

pub invariant_of-state : goal.invariant_of-state
invariant_of-state g c =
    let count = changed_count g.T.TableHandle.rows c.args.state.now.jobs.items c.fail_at.new.jobs.items (c.args.job - 1) _ c.fail_at.ensures in
    record { places = omega (arith, count, c.args.state.now.places); rising = c.args.state.now.rising; waiting_listed = c.args.state.now.waiting_listed; asked_listed = c.args.state.now.asked_listed }

pub returns-clause-kept : goal.returns-clause-kept
returns-clause-kept g c = record { products = changed_products g.T.TableHandle.rows c.args.state.now.jobs.items c.fail_at.new.jobs.items (c.args.job - 1) _ c.fail_at.ensures; ready = refl }
