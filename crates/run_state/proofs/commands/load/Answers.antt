use Rattle.std.proofs.Common.{List, Option, Some, set, refl, sym, ap, ◌∙◌, arith}
use Rattle.std.specs.Prelude.{option_map}
use Rattle.std.proofs.lemmas.List.{map-set}
use Rattle.run_history.specs.Cubes.{Rows}
use Rattle.run_state.proofs.Lists.{rising_more}
use Rattle.run_state.proofs.commands.load.Goals as goal

pub returns-clause-state : goal.returns-clause-state
returns-clause-state g c = λ w i. record {
  workers = i.workers;
  line = refl;
  loaded = ap (λ (l : List (Option Rows)). set l c.args.table (Some (g.T.TableHandle.rows c.args.rows))) i.loaded ∙ sym (map-set (option_map g.T.TableHandle.rows) c.args.state.now.loaded.items c.args.table (Some c.args.rows));
  jobs = i.jobs;
  queue = i.queue;
  steps = i.steps;
  version = i.version;
  ready = i.ready;
  waiting = i.waiting;
  asked = i.asked;
  accepted = i.accepted;
  answered = i.answered;
}

pub invariant_of-state : goal.invariant_of-state
invariant_of-state g c = record { places = c.args.state.now.places; rising = rising_more 0 _ _ _ c.args.state.now.rising (omega arith); waiting_listed = c.args.state.now.waiting_listed; asked_listed = c.args.state.now.asked_listed }
