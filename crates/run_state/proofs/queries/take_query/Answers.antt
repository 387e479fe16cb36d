use Rattle.std.proofs.Common.{◌==◌, ℕ, ◌++◌, [], ◌∷◌, List, not, length, map, refl, sym, ap, ◌∙◌, subst}
use Rattle.std.specs.Prelude.{find, filter}
use Rattle.std.proofs.lemmas.List.{map-append}
use Rattle.std.proofs.lemmas.Option.{slice_get_read}
use Rattle.run_history.specs.Steps.{query_taken}
use Rattle.run_history.specs.World.{Waiting}
use Rattle.run_state.specs.States.{in_flight_of, waiting_of}
use Rattle.run_state.specs.Orderly.{AreListed, AreRising}
use Rattle.run_state.specs.declared.parts.QueryInFlight.{QueryInFlight}
use Rattle.run_state.specs.declared.parts.WaitingQuery.{WaitingQuery}
use Rattle.run_state.proofs.Lists.{query_found, query_out, rising_without, listed_without, listed_at, listed_push, flies}
use Rattle.run_state.proofs.Turns.{same_world}
use Rattle.run_state.proofs.queries.take_query.Goals as goal

pub returns-clause-state : goal.returns-clause-state
returns-clause-state g c = λ w i.
    let there = slice_get_read c.args.state.now.waiting.items _ c.args.place c.remove-query.result refl c.requires c.remove-query.ensures.value in
    same_world g.T.TableHandle.rows g.R.ReadyHandle.ready_set _ _ _ (ap (query_taken w c.remove-query.result.line) (ap (find (λ (other : Waiting _). other.line == c.remove-query.result.line)) i.waiting ∙ query_found 0 c.args.state.now.line c.args.state.now.waiting.items c.args.place c.remove-query.result c.args.state.now.rising there)) (record {
      workers = i.workers;
      line = i.line;
      loaded = i.loaded;
      jobs = i.jobs;
      queue = i.queue;
      steps = i.steps;
      version = i.version;
      ready = i.ready;
      waiting = ap (filter (λ (other : Waiting _). not (other.line == c.remove-query.result.line))) i.waiting ∙ (query_out 0 c.args.state.now.line c.args.state.now.waiting.items c.args.place c.remove-query.result c.args.state.now.rising there ∙ ap (map waiting_of) (sym c.remove-query.ensures.items));
      asked = map-append in_flight_of w.asked _ ∙ (ap (λ (l : List QueryInFlight). l ++ flies c.remove-query.result (length w.past) ∷ []) (i.asked ∙ sym c.in_ok-reserve.ensures.items) ∙ (ap (λ (n : ℕ). c.reserve.new.self.items ++ flies c.remove-query.result n ∷ []) (i.version ∙ sym c.version-at_take.ensures) ∙ sym c.put.ensures));
      accepted = i.accepted;
      answered = i.answered;
    })

pub invariant_of-state-2 : goal.invariant_of-state-2
invariant_of-state-2 g c =
    let there = slice_get_read c.args.state.now.waiting.items _ c.args.place c.remove-query.result refl c.requires c.remove-query.ensures.value in
    record { places = c.args.state.now.places; rising = subst (λ qs. AreRising 0 c.args.state.now.line (map (λ (q : WaitingQuery _). q.line) qs)) (sym c.remove-query.ensures.items) (rising_without 0 c.args.state.now.line c.args.state.now.waiting.items c.args.place c.remove-query.result c.args.state.now.rising there); waiting_listed = subst (λ qs. AreListed c.args.state.now.sessions.items (map (λ (q : WaitingQuery _). q.session) qs)) (sym c.remove-query.ensures.items) (listed_without c.args.state.now.sessions.items c.args.state.now.waiting.items c.args.place c.remove-query.result c.args.state.now.waiting_listed there); asked_listed = subst (λ qs. AreListed c.args.state.now.sessions.items qs) (sym (ap (map (λ (q : QueryInFlight). q.session)) (c.put.ensures ∙ ap (λ (l : List QueryInFlight). l ++ flies c.remove-query.result c.version-at_take.result ∷ []) c.in_ok-reserve.ensures.items) ∙ map-append (λ (q : QueryInFlight). q.session) c.args.state.now.asked.items _)) (listed_push c.args.state.now.sessions.items _ c.remove-query.result.session c.args.state.now.asked_listed (listed_at c.args.state.now.sessions.items c.args.state.now.waiting.items c.args.place c.remove-query.result c.args.state.now.waiting_listed there)) }
