use Rattle.std.proofs.Common.{refl, arith}
use Rattle.run_state.proofs.Lists.{rising_more}
use Rattle.run_state.proofs.Turns.{dropped_ready, dropped_version}
use Rattle.run_state.proofs.commands.drop_ready.Goals as goal

pub returns-clause-state : goal.returns-clause-state
returns-clause-state g c = λ w range i e. record {
  workers = i.workers;
  line = refl;
  loaded = i.loaded;
  jobs = i.jobs;
  queue = i.queue;
  steps = i.steps;
  version = dropped_version g.T.TableHandle.rows g.R.ReadyHandle.ready_set w c.args.state.now i (g.R.ReadyHandle.ready_set c.args.next) range e;
  ready = dropped_ready g.T.TableHandle.rows g.R.ReadyHandle.ready_set w c.args.state.now i (g.R.ReadyHandle.ready_set c.args.next) range e;
  waiting = i.waiting;
  asked = i.asked;
  accepted = i.accepted;
  answered = i.answered;
}

pub invariant_of-state : goal.invariant_of-state
invariant_of-state g c =
    let o = c.args.state.now in
    record { places = o.places; rising = rising_more 0 _ _ _ o.rising (omega arith); waiting_listed = o.waiting_listed; asked_listed = o.asked_listed }
