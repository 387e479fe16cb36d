use Rattle.std.proofs.Common.{◌≡◌, ℕ, ◌+◌, ◌++◌, [], ◌∷◌, List, None, length, map, refl, sym, ap, ◌∙◌, arith, length-append}
use Rattle.std.proofs.lemmas.List.{map-append, length-map}
use Rattle.job_machine.specs.Job.{JobRecord, new_job}
use Rattle.job_list.specs.JobList.{has}
use Rattle.run_state.specs.States.{submitted_of}
use Rattle.run_state.specs.declared.parts.JobEntry.{JobEntry}
use Rattle.run_state.proofs.Lists.{rising_more}
use Rattle.run_state.proofs.Turns.{jobs_pushed, next_absent, with_tables}
use Rattle.run_state.proofs.commands.submit.Goals as goal

pub push_back-requires-clause-absent : goal.push_back-requires-clause-absent
push_back-requires-clause-absent g c =
    let n : c.len.result ≡ length c.args.state.now.jobs.items = omega (arith, c.len.ensures, c.args.state.now.jobs.ok.0) in
    ap (λ (q : List ℕ). has q (c.len.result + 1)) c.in_ok-reserve.ensures.items
    ∙ (ap (λ (m : ℕ). has c.args.state.now.queue.items (m + 1)) n ∙ next_absent c.args.state.now c.requires.queued)

pub returns-clause-state : goal.returns-clause-state
returns-clause-state g c = λ w i.
    let n : c.len.result ≡ length c.args.state.now.jobs.items = omega (arith, c.len.ensures, c.args.state.now.jobs.ok.0) in
    let count : length w.jobs ≡ length c.args.state.now.jobs.items = ap length i.jobs ∙ length-map c.args.state.now.jobs.items (submitted_of g.T.TableHandle.rows) in
    record {
      workers = i.workers;
      line = refl;
      loaded = i.loaded;
      jobs = jobs_pushed g.T.TableHandle.rows w.jobs c.args.state.now.jobs.items c.push.new.self.items _ c.args.kind c.args.steps c.args.range i.jobs c.in_ok-push.ensures.items (ap (λ (j : JobRecord). with_tables j c.args.range None) (c.new.ensures ∙ ap (λ (m : ℕ). new_job (m + 1) c.args.kind c.args.steps) n));
      queue = sym (c.push_back.ensures.items ∙ (ap (λ (q : List ℕ). q ++ (c.len.result + 1) ∷ []) (c.in_ok-reserve.ensures.items ∙ sym i.queue) ∙ ap (λ (m : ℕ). w.queue ++ (m + 1) ∷ []) (n ∙ sym count)));
      steps = i.steps;
      version = i.version;
      ready = i.ready;
      waiting = i.waiting;
      asked = i.asked;
      accepted = i.accepted;
      answered = i.answered;
    }

pub returns-clause-products : goal.returns-clause-products
returns-clause-products g c =
    ap (map (λ (e : JobEntry _ _). e.products.items)) c.in_ok-push.ensures.items
    ∙ (map-append (λ (e : JobEntry _ _). e.products.items) c.args.state.now.jobs.items _ ∙ ap (λ l. map (λ (e : JobEntry _ _). e.products.items) c.args.state.now.jobs.items ++ l ∷ []) c.new-2.ensures.items)

pub invariant_of-state-2 : goal.invariant_of-state-2
invariant_of-state-2 g c =
    let n : c.len.result ≡ length c.args.state.now.jobs.items = omega (arith, c.len.ensures, c.args.state.now.jobs.ok.0) in
    let more : length c.push.new.self.items ≡ length c.args.state.now.jobs.items + 1 = ap length c.in_ok-push.ensures.items ∙ length-append c.args.state.now.jobs.items _ in
    record { places = omega (arith, more, n, c.push_back.ensures.capacity, c.in_ok-reserve.ensures.reserved); rising = rising_more 0 _ _ _ c.args.state.now.rising (omega arith); waiting_listed = c.args.state.now.waiting_listed; asked_listed = c.args.state.now.asked_listed }
