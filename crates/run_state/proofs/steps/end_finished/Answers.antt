use Rattle.std.proofs.Common.{◌≡◌, ◌+◌, ◌-◌, ◌<◌, [], true, sym, ap, ◌∙◌, arith}
use Rattle.job_machine.specs.Job.{Act, after_end, ended_ok, next as next_job}
use Rattle.run_history.specs.Steps.{without_claim}
use Rattle.run_history.specs.World.{job_of}
use Rattle.run_state.specs.States.{submitted_of}
use Rattle.run_state.proofs.Turns.{same_world, job_of_entry, ended_kept, current_within, current_entry, last_entry, moved_count, moved_products, finished_job, swapped_ready, swapped_version}
use Rattle.run_state.proofs.Ends.{finished_world}
use Rattle.run_state.proofs.steps.end_finished.Goals as goal

pub overflow_sub-place : goal.overflow_sub-place
overflow_sub-place g c = let within = current_within c.args.state.now.jobs.items c.args.job c.args.attempt c.requires.current in let pos : 0 < c.args.job = within.0 in omega arith

pub finish_at-requires : goal.finish_at-requires
finish_at-requires g c = let within = current_within c.args.state.now.jobs.items c.args.job c.args.attempt c.requires.current in within.1

pub returns-clause-state : goal.returns-clause-state
returns-clause-state g c = λ w i.
    let ch = c.finish_at.ensures in
    let within = current_within c.args.state.now.jobs.items c.args.job c.args.attempt c.requires.current in
    let back : c.args.job - 1 + 1 ≡ c.args.job = let pos : 0 < c.args.job = within.0 in omega arith in
    let current = current_entry c.args.state.now.jobs.items c.args.job (c.args.job - 1) c.args.attempt ch.entry back ch.at c.requires.current in
    let last = last_entry c.args.state.now.jobs.items c.args.job (c.args.job - 1) true ch.entry back ch.at c.requires.last in
    let there = job_of_entry g.T.TableHandle.rows g.R.ReadyHandle.ready_set w c.args.state.now i c.args.job ch.entry within.0 ch.at in
    let made = submitted_of g.T.TableHandle.rows ch.entry in
    let claims = without_claim c.args.job c.args.attempt w.steps in
    let set = g.R.ReadyHandle.ready_set c.args.next in
    let swapped = c.requires.swapped w i made there in
    same_world g.T.TableHandle.rows g.R.ReadyHandle.ready_set _ _ _ (finished_world (record w { steps = claims }) c.args.job c.args.attempt made (job_of w c.args.job) there current last) (record {
      workers = i.workers;
      line = i.line;
      loaded = i.loaded;
      jobs = ended_kept g.T.TableHandle.rows g.R.ReadyHandle.ready_set w c.args.state.now i c.args.job c.finish_at.new.jobs.items c.args.attempt _ (next_job Act.Finish ch.entry.job) ch (finished_job ch.entry.job c.args.attempt current last);
      queue = i.queue;
      steps = ap (without_claim c.args.job c.args.attempt) i.steps ∙ sym c.remove_claim.ensures;
      version = swapped_version g.T.TableHandle.rows g.R.ReadyHandle.ready_set w c.args.state.now i set claims c.args.job made swapped;
      ready = swapped_ready g.T.TableHandle.rows g.R.ReadyHandle.ready_set w c.args.state.now i set claims c.args.job made swapped;
      waiting = i.waiting;
      asked = i.asked;
      accepted = i.accepted;
      answered = i.answered;
    })

pub returns-clause-products : goal.returns-clause-products
returns-clause-products g c = moved_products g.T.TableHandle.rows c.args.state.now.jobs.items c.finish_at.new.jobs.items (c.args.job - 1) (λ job. after_end (ended_ok job c.args.attempt) job) (λ products. []) c.finish_at.ensures

pub invariant_of-state : goal.invariant_of-state
invariant_of-state g c =
    let count = moved_count g.T.TableHandle.rows c.args.state.now.jobs.items c.finish_at.new.jobs.items (c.args.job - 1) (λ job. after_end (ended_ok job c.args.attempt) job) (λ products. []) c.finish_at.ensures in
    record { places = omega (arith, count, c.args.state.now.places); rising = c.args.state.now.rising; waiting_listed = c.args.state.now.waiting_listed; asked_listed = c.args.state.now.asked_listed }
