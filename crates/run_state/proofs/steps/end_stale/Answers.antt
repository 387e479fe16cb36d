use Rattle.std.proofs.Common.{sym, ap, ◌∙◌}
use Rattle.run_history.specs.Steps.{without_claim}
use Rattle.run_state.proofs.Turns.{same_world, stale_step}
use Rattle.run_state.proofs.steps.end_stale.Goals as goal

pub returns-clause-state : goal.returns-clause-state
returns-clause-state g c = λ w outcome i.
    same_world g.T.TableHandle.rows g.R.ReadyHandle.ready_set _ _ _ (stale_step g.T.TableHandle.rows g.R.ReadyHandle.ready_set w c.args.state.now i c.args.job (record w { steps = without_claim c.args.job c.args.attempt w.steps }) c.args.attempt outcome c.requires) (record {
      workers = i.workers;
      line = i.line;
      loaded = i.loaded;
      jobs = i.jobs;
      queue = i.queue;
      steps = ap (without_claim c.args.job c.args.attempt) i.steps ∙ sym c.remove_claim.ensures;
      version = i.version;
      ready = i.ready;
      waiting = i.waiting;
      asked = i.asked;
      accepted = i.accepted;
      answered = i.answered;
    })
