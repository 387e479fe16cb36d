use Rattle.std.proofs.Common.{ℕ, ◌+◌, ◌-◌, ◌<◌, ◌++◌, [], ◌∷◌, List, length, map, drop, refl, sym, ap, ◌∙◌, arith}
use Rattle.std.proofs.lemmas.List.{map-append}
use Rattle.run_history.specs.Steps.{claimed}
use Rattle.run_state.specs.States.{claim_of, rows_in_force}
use Rattle.run_state.specs.declared.parts.JobEntry.{JobEntry}
use Rattle.std.proofs.lemmas.Option.{slice_get_within}
use Rattle.run_state.proofs.Lists.{all_at}
use Rattle.run_state.proofs.Turns.{claimable_there, has_first, same_world, job_of_entry, claimed_kept, claimed_count, claimed_products}
use Rattle.run_state.proofs.steps.claim.Goals as goal

pub overflow_sub-place : goal.overflow_sub-place
overflow_sub-place g c =
    let f = claimable_there c.args.state.now c.args.job c.requires.queued (has_first c.args.state.now.queue.items c.args.job c.requires.first) in
    let pos : 0 < c.args.job = f.1 in omega arith

pub claim_at-requires-clause-place : goal.claim_at-requires-clause-place
claim_at-requires-clause-place g c =
    let f = claimable_there c.args.state.now c.args.job c.requires.queued (has_first c.args.state.now.queue.items c.args.job c.requires.first) in
    slice_get_within c.args.state.now.jobs.items (c.args.job - 1) f.0 f.2

pub claim_at-requires-clause-claimable : goal.claim_at-requires-clause-claimable
claim_at-requires-clause-claimable g c =
    let f = claimable_there c.args.state.now c.args.job c.requires.queued (has_first c.args.state.now.queue.items c.args.job c.requires.first) in
    rw f.2 f.3

pub claim_at-requires-clause-attempt : goal.claim_at-requires-clause-attempt
claim_at-requires-clause-attempt g c = all_at (λ (entry : JobEntry _ _). entry.job.attempt + 1 < 4294967296) c.args.state.now.jobs.items (c.args.job - 1) c.requires.attempts

pub returns-clause-attempt : goal.returns-clause-attempt
returns-clause-attempt g c = λ w i.
    let ch = c.in_ok-attempt.ensures.job in
    let f = claimable_there c.args.state.now c.args.job c.requires.queued (has_first c.args.state.now.queue.items c.args.job c.requires.first) in
    rw (job_of_entry g.T.TableHandle.rows g.R.ReadyHandle.ready_set w c.args.state.now i c.args.job ch.entry f.1 ch.at) (rw ch.at at c.in_ok-attempt.ensures.attempt)

pub returns-clause-state : goal.returns-clause-state
returns-clause-state g c = λ w i.
    let ch = c.in_ok-attempt.ensures.job in
    let f = claimable_there c.args.state.now c.args.job c.requires.queued (has_first c.args.state.now.queue.items c.args.job c.requires.first) in
    let there = job_of_entry g.T.TableHandle.rows g.R.ReadyHandle.ready_set w c.args.state.now i c.args.job ch.entry f.1 ch.at in
    same_world g.T.TableHandle.rows g.R.ReadyHandle.ready_set _ _ _ (ap (claimed w c.args.job c.in_ok-attempt.attempt) there) (record {
      workers = i.workers;
      line = i.line;
      loaded = i.loaded;
      jobs = claimed_kept g.T.TableHandle.rows g.R.ReadyHandle.ready_set w c.args.state.now i c.args.job c.claim_at.new.jobs.items _ ch (ap (rows_in_force g.T.TableHandle.rows) c.deref.ensures.value);
      queue = ap (drop 1) i.queue ∙ sym c.pop_front.ensures.items;
      steps = ap (λ (l : List (ℕ × ℕ)). l ++ (c.args.job, c.in_ok-attempt.attempt) ∷ []) (i.steps ∙ ap (map claim_of) (sym c.in_ok-reserve.ensures.items)) ∙ (sym (map-append claim_of c.reserve.new.self.items _) ∙ ap (map claim_of) (sym c.put.ensures));
      version = i.version;
      ready = i.ready;
      waiting = i.waiting;
      asked = i.asked;
      accepted = i.accepted;
      answered = i.answered;
    })

pub invariant_of-state-2 : goal.invariant_of-state-2
invariant_of-state-2 g c =
    let ch = c.in_ok-attempt.ensures.job in
    let count = claimed_count g.T.TableHandle.rows c.args.state.now.jobs.items c.claim_at.new.jobs.items (c.args.job - 1) _ ch in
    record { places = omega (arith, count, c.pop_front.ensures.capacity, c.args.state.now.places); rising = c.args.state.now.rising; waiting_listed = c.args.state.now.waiting_listed; asked_listed = c.args.state.now.asked_listed }

pub returns-clause-kept : goal.returns-clause-kept
returns-clause-kept g c = record { products = claimed_products g.T.TableHandle.rows c.args.state.now.jobs.items c.claim_at.new.jobs.items (c.args.job - 1) _ c.in_ok-attempt.ensures.job; ready = refl }
