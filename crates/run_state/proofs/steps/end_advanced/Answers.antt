use Rattle.std.proofs.Common.{◌≡◌, ◌==◌, ℕ, ◌+◌, ◌-◌, ◌<◌, ◌++◌, [], ◌∷◌, List, false, length, map, set, sym, ap, ◌∙◌, arith}
use Rattle.job_machine.specs.Job.{Act, next, after_end, ended_ok}
use Rattle.run_history.specs.Steps.{without_claim}
use Rattle.run_history.specs.World.{job_of}
use Rattle.run_state.specs.States.{submitted_of}
use Rattle.run_state.specs.declared.parts.JobEntry.{JobEntry}
use Rattle.run_state.proofs.Turns.{same_world, job_of_entry, ended_kept, current_within, current_entry, last_entry, moved_count, moved_products, ended_read, advanced_job, resting_absent, current_rests}
use Rattle.run_state.proofs.Ends.{advanced_world}
use Rattle.run_state.proofs.Lists.{on_err}
use Rattle.run_state.proofs.steps.end_advanced.Goals as goal

pub overflow_sub-place : goal.overflow_sub-place
overflow_sub-place g c = let within = current_within c.args.state.now.jobs.items c.args.job c.args.attempt c.requires.current in let pos : 0 < c.args.job = within.0 in omega arith

pub advance_at-requires : goal.advance_at-requires
advance_at-requires g c = let within = current_within c.args.state.now.jobs.items c.args.job c.args.attempt c.requires.current in within.1

pub push_back-requires-clause-below : goal.push_back-requires-clause-below
push_back-requires-clause-below g c = let within = current_within c.args.state.now.jobs.items c.args.job c.args.attempt c.requires.current in let lt : c.args.job - 1 < length c.args.state.now.jobs.items = within.1 in omega (arith, c.args.state.now.places)

pub push_back-requires-clause-absent : goal.push_back-requires-clause-absent
push_back-requires-clause-absent g c =
    let ch = c.in_ok-advance_at.ensures.ok in
    let within = current_within c.args.state.now.jobs.items c.args.job c.args.attempt c.requires.current in
    let back : c.args.job - 1 + 1 ≡ c.args.job = let pos : 0 < c.args.job = within.0 in omega arith in
    let current = current_entry c.args.state.now.jobs.items c.args.job (c.args.job - 1) c.args.attempt ch.entry back ch.at c.requires.current in
    resting_absent c.args.state.now c.args.job (c.args.job - 1) ch.entry c.requires.queued back ch.at (current_rests ch.entry.job.state ch.entry.job.in_flight (ch.entry.job.attempt == c.args.attempt) current)

pub returns-clause-state : goal.returns-clause-state
returns-clause-state g c = λ w i.
    let ch = c.in_ok-advance_at.ensures.ok in
    let within = current_within c.args.state.now.jobs.items c.args.job c.args.attempt c.requires.current in
    let back : c.args.job - 1 + 1 ≡ c.args.job = let pos : 0 < c.args.job = within.0 in omega arith in
    let current = current_entry c.args.state.now.jobs.items c.args.job (c.args.job - 1) c.args.attempt ch.entry back ch.at c.requires.current in
    let last = last_entry c.args.state.now.jobs.items c.args.job (c.args.job - 1) false ch.entry back ch.at c.requires.more in
    let there = job_of_entry g.T.TableHandle.rows g.R.ReadyHandle.ready_set w c.args.state.now i c.args.job ch.entry within.0 ch.at in
    same_world g.T.TableHandle.rows g.R.ReadyHandle.ready_set _ _ _ (advanced_world (record w { steps = without_claim c.args.job c.args.attempt w.steps }) c.args.job c.args.attempt (submitted_of g.T.TableHandle.rows ch.entry) (job_of w c.args.job) there current last) (record {
      workers = i.workers;
      line = i.line;
      loaded = i.loaded;
      jobs = ended_kept g.T.TableHandle.rows g.R.ReadyHandle.ready_set w c.args.state.now i c.args.job c.advance_at.new.jobs.items c.args.attempt _ (next Act.Advance ch.entry.job) ch (advanced_job ch.entry.job c.args.attempt current last);
      queue = ap (λ (q : List ℕ). q ++ c.args.job ∷ []) i.queue ∙ sym c.push_back.ensures.items;
      steps = ap (without_claim c.args.job c.args.attempt) i.steps ∙ sym c.remove_claim.ensures;
      version = i.version;
      ready = i.ready;
      waiting = i.waiting;
      asked = i.asked;
      accepted = i.accepted;
      answered = i.answered;
    })

pub returns-clause-products : goal.returns-clause-products
returns-clause-products g c =
    let ch = c.in_ok-advance_at.ensures.ok in
    moved_products g.T.TableHandle.rows c.args.state.now.jobs.items c.advance_at.new.jobs.items (c.args.job - 1) (λ job. after_end (ended_ok job c.args.attempt) job) _ ch
    ∙ ap (λ l. set (map (λ (e : JobEntry _ _). e.products.items) c.args.state.now.jobs.items) (c.args.job - 1) (l ++ c.args.product ∷ [])) (sym (ended_read g.T.TableHandle.rows c.args.state.now.jobs.items c.advance_at.new.jobs.items (c.args.job - 1) c.args.attempt _ ch))

pub invariant_of-state-2 : goal.invariant_of-state-2
invariant_of-state-2 g c =
    let count = moved_count g.T.TableHandle.rows c.args.state.now.jobs.items c.advance_at.new.jobs.items (c.args.job - 1) (λ job. after_end (ended_ok job c.args.attempt) job) _ c.in_ok-advance_at.ensures.ok in
    record { places = omega (arith, count, c.push_back.ensures.capacity, c.args.state.now.places); rising = c.args.state.now.rising; waiting_listed = c.args.state.now.waiting_listed; asked_listed = c.args.state.now.asked_listed }

pub returns-in_err-advance_at-clause-err : goal.returns-in_err-advance_at-clause-err
returns-in_err-advance_at-clause-err g c =
    on_err c.from_residual.result _ (λ w i. record {
      workers = i.workers;
      line = i.line;
      loaded = i.loaded;
      jobs = i.jobs ∙ sym (c.in_err-advance_at.ensures.err.submitted g.T.TableHandle.rows);
      queue = i.queue;
      steps = i.steps;
      version = i.version;
      ready = i.ready;
      waiting = i.waiting;
      asked = i.asked;
      accepted = i.accepted;
      answered = i.answered;
    })

pub invariant_of-state : goal.invariant_of-state
invariant_of-state g c =
    let count = c.in_err-advance_at.ensures.err.count in
    record { places = omega (arith, count, c.args.state.now.places); rising = c.args.state.now.rising; waiting_listed = c.args.state.now.waiting_listed; asked_listed = c.args.state.now.asked_listed }
