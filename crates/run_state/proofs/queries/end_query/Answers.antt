use Rattle.std.proofs.Common.{◌≡◌, ◌==◌, List, true, not, map, sym, ap, ◌∙◌, subst}
use Rattle.std.specs.Prelude.{find, filter}
use Rattle.run_history.specs.Steps.{query_ended}
use Rattle.run_state.specs.States.{answered_in, in_flight_of}
use Rattle.run_state.specs.Orderly.{AreListed, has_session}
use Rattle.run_state.specs.declared.parts.QueryInFlight.{QueryInFlight}
use Rattle.std.specs.Prelude.{IfSome}
use Rattle.run_state.proofs.Lists.{flight_found, listed_if, listed_kept, filter_map, answered_alike}
use Rattle.run_state.proofs.Turns.{same_world}
use Rattle.run_state.proofs.queries.end_query.Goals as goal

pub note_answer-requires : goal.note_answer-requires
note_answer-requires g c = subst (λ (qs : List QueryInFlight). IfSome (find (λ q. q.line == c.args.line) qs) (λ q. has_session c.args.state.now.sessions.items q.session ≡ true)) (sym c.deref.ensures.value) (listed_if c.args.state.now.sessions.items c.args.state.now.asked.items (λ q. q.line == c.args.line) c.args.state.now.asked_listed)

pub returns-clause-state : goal.returns-clause-state
returns-clause-state g c = λ w i.
    let f = flight_found w.asked c.args.state.now.asked.items c.args.line i.asked c.requires in
    let kept = ap (find (λ (q : QueryInFlight). q.line == c.args.line)) c.deref.ensures.value ∙ f.kept in
    same_world g.T.TableHandle.rows g.R.ReadyHandle.ready_set _ _ _ (ap (query_ended w c.args.line c.args.out) f.world) (record {
      workers = i.workers;
      line = i.line;
      loaded = i.loaded;
      jobs = i.jobs;
      queue = i.queue;
      steps = i.steps;
      version = i.version;
      ready = i.ready;
      waiting = i.waiting;
      asked = filter_map in_flight_of (λ (x : QueryInFlight). not (x.line == c.args.line)) w.asked ∙ (ap (filter (λ (x : QueryInFlight). not (x.line == c.args.line))) i.asked ∙ sym c.drop_query.ensures);
      accepted = i.accepted;
      answered = λ session. answered_alike c.args.out f.query.waiting.session w.answered (answered_in c.args.state.now.sessions.items) session (i.answered session) ∙ sym (c.note_answer.ensures.answers (in_flight_of f.query) kept session);
    })

pub invariant_of-state : goal.invariant_of-state
invariant_of-state g c = record { places = c.args.state.now.places; rising = c.args.state.now.rising; waiting_listed = c.note_answer.ensures.others _ c.args.state.now.waiting_listed; asked_listed = subst (λ (qs : List QueryInFlight). AreListed c.note_answer.new.sessions.items (map (λ q. q.session) qs)) (sym c.drop_query.ensures) (listed_kept c.note_answer.new.sessions.items c.args.state.now.asked.items (λ q. not (q.line == c.args.line)) (c.note_answer.ensures.others _ c.args.state.now.asked_listed)) }
