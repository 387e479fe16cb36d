use Rattle.std.proofs.Common.{ℕ, ◌+◌, ◌++◌, [], ◌∷◌, map, refl, sym, ap, ◌∙◌, subst}
use Rattle.std.proofs.lemmas.List.{map-append}
use Rattle.run_state.specs.States.{waiting_of}
use Rattle.run_state.specs.Orderly.{AreListed, AreRising}
use Rattle.run_state.specs.declared.parts.WaitingQuery.{WaitingQuery}
use Rattle.run_state.proofs.Lists.{rising_push, listed_push, waits}
use Rattle.run_state.proofs.queries.ask.Goals as goal

pub returns-clause-state : goal.returns-clause-state
returns-clause-state g c = λ w i. record {
  workers = i.workers;
  line = refl;
  loaded = i.loaded;
  jobs = i.jobs;
  queue = i.queue;
  steps = i.steps;
  version = i.version;
  ready = i.ready;
  waiting = ap (λ (n : ℕ). w.waiting ++ waits c.args.line c.args.session c.args.query n ∷ []) (i.version ∙ sym c.version-at_command.ensures) ∙ (ap (λ l. l ++ waits c.args.line c.args.session c.args.query c.version-at_command.result ∷ []) i.waiting ∙ sym (ap (map waiting_of) c.in_ok-push.ensures.items ∙ map-append waiting_of c.args.state.now.waiting.items _));
  asked = i.asked;
  accepted = ap (λ (n : ℕ). n + 1) i.accepted;
  answered = λ session. i.answered session ∙ sym (c.list_session.ensures.answers session);
}

pub invariant_of-state-2 : goal.invariant_of-state-2
invariant_of-state-2 g c = record { places = c.args.state.now.places; rising = subst (AreRising 0 c.args.line) (sym (ap (map (λ (q : WaitingQuery _). q.line)) c.in_ok-push.ensures.items ∙ map-append (λ (q : WaitingQuery _). q.line) c.args.state.now.waiting.items _)) (rising_push 0 c.args.state.now.line c.args.line _ c.args.state.now.rising c.requires.above); waiting_listed = subst (AreListed c.list_session.new.sessions.items) (sym (ap (map (λ (q : WaitingQuery _). q.session)) c.in_ok-push.ensures.items ∙ map-append (λ (q : WaitingQuery _). q.session) c.args.state.now.waiting.items _)) (listed_push c.list_session.new.sessions.items _ c.args.session (c.list_session.ensures.others _ c.args.state.now.waiting_listed) c.in_ok-list_session.ensures.listed); asked_listed = c.list_session.ensures.others _ c.args.state.now.asked_listed }
