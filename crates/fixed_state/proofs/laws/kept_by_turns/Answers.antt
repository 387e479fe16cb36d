use Rattle.std.specs.Prelude.{◌==◌, find}
use Rattle.run_history.specs.World.{job_of}
use Rattle.std.proofs.Common.{refl}
use Rattle.fixed_state.proofs.Events.{kept_ask, kept_claimed, kept_line, kept_load, kept_query_end, kept_steer, kept_submit, kept_taken}
use Rattle.fixed_state.proofs.laws.kept_by_turns.Goals as goal

pub returns-clause-noted : goal.returns-clause-noted
returns-clause-noted g c = λ w products cells k line. kept_line g.H.Honest.honest w products cells k line

pub returns-clause-loaded : goal.returns-clause-loaded
returns-clause-loaded g c = λ w products cells k line table rows there fits. kept_load g.H.Honest.honest w products cells k line table rows there fits

pub returns-clause-submitted : goal.returns-clause-submitted
returns-clause-submitted g c = λ w products cells k line range days. kept_submit g.H.Honest.honest w products cells k line range days

pub returns-clause-steered : goal.returns-clause-steered
returns-clause-steered g c = λ w products cells k line job control. kept_steer g.H.Honest.honest w products cells k line job control

pub returns-clause-asked : goal.returns-clause-asked
returns-clause-asked g c = λ w products cells k line session. kept_ask g.H.Honest.honest w products cells k line session

pub returns-clause-claimed : goal.returns-clause-claimed
returns-clause-claimed g c = λ w products cells k job attempt. kept_claimed g.H.Honest.honest w products cells k job attempt (job_of w job) refl

pub returns-clause-taken : goal.returns-clause-taken
returns-clause-taken g c = λ w products cells k line. kept_taken g.H.Honest.honest w products cells k line (find (λ q. q.line == line) w.waiting) refl

pub returns-clause-answered : goal.returns-clause-answered
returns-clause-answered g c = λ w products cells k line out. kept_query_end g.H.Honest.honest w products cells k line out (find (λ q. q.waiting.line == line) w.asked)
