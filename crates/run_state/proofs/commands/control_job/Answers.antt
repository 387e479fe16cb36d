use Rattle.std.proofs.Common.{◌≡◌, refl, sym, ap, ◌∙◌, arith}
use Rattle.job_machine.specs.Job.{next}
use Rattle.run_history.specs.Steps.{steered_queue}
use Rattle.run_history.specs.Verdicts.{act_of}
use Rattle.run_state.specs.Answers.{products_left, refusal_of, steered_job}
use Rattle.run_state.specs.Orders.{products_of}
use Rattle.run_state.specs.States.{submitted_of}
use Rattle.run_state.proofs.Lists.{rising_more}
use Rattle.run_state.proofs.Turns.{moved_at, moved_count, moved_products, same_world}
use Rattle.run_state.proofs.Steers.{job_at_place, moved_kept, products_moved, refused_world, same_job, steered_err, steered_ok, steered_refused, steered_world, unmoved_jobs}
use Rattle.run_state.proofs.commands.control_job.Goals as goal

pub invariant_of-state : goal.invariant_of-state
invariant_of-state g c = record { places = c.args.state.now.places; rising = rising_more 0 _ _ _ c.args.state.now.rising (omega arith); waiting_listed = c.args.state.now.waiting_listed; asked_listed = c.args.state.now.asked_listed }

pub returns-in_default-clause-products : goal.returns-in_default-clause-products
returns-in_default-clause-products g c = sym (steered_refused c.args.control _ c.args.job (products_of c.args.state.now))

pub returns-then-is_ok-clause-answer : goal.returns-then-is_ok-clause-answer
returns-then-is_ok-clause-answer g c = λ w i.
    let ch = c.steer_at-answer.ensures.job in
    let back = c.in-Some.ensures.some.0 in
    let answer : c.steer_at-answer.result ≡ steered_job c.args.control ch.entry.job = rw ch.at at c.steer_at-answer.ensures.answer in
    let there = job_at_place g.T.TableHandle.rows g.R.ReadyHandle.ready_set w c.args.state.now i c.args.job c.in-Some.place back c.steer_at-answer.new.jobs.items (next (act_of c.args.control)) (products_left c.args.control (refusal_of c.steer_at-answer.result)) ch in
    rw there answer

pub returns-then-is_ok-clause-state : goal.returns-then-is_ok-clause-state
returns-then-is_ok-clause-state g c = λ w i.
    let ch = c.steer_at-answer.ensures.job in
    let back = c.in-Some.ensures.some.0 in
    let answer : c.steer_at-answer.result ≡ steered_job c.args.control ch.entry.job = rw ch.at at c.steer_at-answer.ensures.answer in
    let there = job_at_place g.T.TableHandle.rows g.R.ReadyHandle.ready_set w c.args.state.now i c.args.job c.in-Some.place back c.steer_at-answer.new.jobs.items (next (act_of c.args.control)) (products_left c.args.control (refusal_of c.steer_at-answer.result)) ch in
    let ok = steered_ok c.args.control ch.entry.job c.steer_at-answer.result answer (sym c.is_ok.ensures.value ∙ c.if-is_ok.true) in
    same_world g.T.TableHandle.rows g.R.ReadyHandle.ready_set _ _ _ (steered_world w c.args.line c.args.job c.args.control (submitted_of g.T.TableHandle.rows ch.entry) there ok.0 ok.1) (record {
      workers = i.workers;
      line = refl;
      loaded = i.loaded;
      jobs = moved_kept g.T.TableHandle.rows g.R.ReadyHandle.ready_set w c.args.state.now i c.args.job c.in-Some.place back c.steer_at-answer.new.jobs.items (next (act_of c.args.control)) (products_left c.args.control (refusal_of c.steer_at-answer.result)) ch;
      queue = ap (steered_queue c.args.control c.args.job) i.queue ∙ sym c.requeue.ensures.items;
      steps = i.steps;
      version = i.version;
      ready = i.ready;
      waiting = i.waiting;
      asked = i.asked;
      accepted = i.accepted;
      answered = i.answered;
    })

pub returns-then-is_ok-clause-products : goal.returns-then-is_ok-clause-products
returns-then-is_ok-clause-products g c =
    let ch = c.steer_at-answer.ensures.job in
    moved_products g.T.TableHandle.rows c.args.state.now.jobs.items c.steer_at-answer.new.jobs.items c.in-Some.place (next (act_of c.args.control)) (products_left c.args.control (refusal_of c.steer_at-answer.result)) ch
    ∙ products_moved c.args.control (refusal_of c.steer_at-answer.result) c.args.job c.in-Some.place (products_of c.args.state.now) ch.entry.products.items c.in-Some.ensures.some.0
    (moved_at g.T.TableHandle.rows c.args.state.now.jobs.items c.steer_at-answer.new.jobs.items c.in-Some.place (next (act_of c.args.control)) (products_left c.args.control (refusal_of c.steer_at-answer.result)) ch)

pub returns-else-is_ok-clause-answer : goal.returns-else-is_ok-clause-answer
returns-else-is_ok-clause-answer g c = λ w i.
    let ch = c.steer_at-answer.ensures.job in
    let back = c.in-Some.ensures.some.0 in
    let answer : c.steer_at-answer.result ≡ steered_job c.args.control ch.entry.job = rw ch.at at c.steer_at-answer.ensures.answer in
    let there = job_at_place g.T.TableHandle.rows g.R.ReadyHandle.ready_set w c.args.state.now i c.args.job c.in-Some.place back c.steer_at-answer.new.jobs.items (next (act_of c.args.control)) (products_left c.args.control (refusal_of c.steer_at-answer.result)) ch in
    rw there answer

pub returns-else-is_ok-clause-state : goal.returns-else-is_ok-clause-state
returns-else-is_ok-clause-state g c = λ w i.
    let ch = c.steer_at-answer.ensures.job in
    let back = c.in-Some.ensures.some.0 in
    let answer : c.steer_at-answer.result ≡ steered_job c.args.control ch.entry.job = rw ch.at at c.steer_at-answer.ensures.answer in
    let there = job_at_place g.T.TableHandle.rows g.R.ReadyHandle.ready_set w c.args.state.now i c.args.job c.in-Some.place back c.steer_at-answer.new.jobs.items (next (act_of c.args.control)) (products_left c.args.control (refusal_of c.steer_at-answer.result)) ch in
    let err = steered_err c.args.control ch.entry.job c.steer_at-answer.result answer (sym c.is_ok.ensures.value ∙ c.if-is_ok.false) in
    same_world g.T.TableHandle.rows g.R.ReadyHandle.ready_set _ _ _ (refused_world w c.args.line c.args.job c.args.control (submitted_of g.T.TableHandle.rows ch.entry) there err) (record {
      workers = i.workers;
      line = refl;
      loaded = i.loaded;
      jobs = unmoved_jobs g.T.TableHandle.rows g.R.ReadyHandle.ready_set w c.args.state.now i c.args.job c.in-Some.place back c.steer_at-answer.new.jobs.items (next (act_of c.args.control)) (products_left c.args.control (refusal_of c.steer_at-answer.result)) ch (same_job (act_of c.args.control) ch.entry.job err);
      queue = i.queue;
      steps = i.steps;
      version = i.version;
      ready = i.ready;
      waiting = i.waiting;
      asked = i.asked;
      accepted = i.accepted;
      answered = i.answered;
    })

pub returns-else-is_ok-clause-products : goal.returns-else-is_ok-clause-products
returns-else-is_ok-clause-products g c =
    let ch = c.steer_at-answer.ensures.job in
    moved_products g.T.TableHandle.rows c.args.state.now.jobs.items c.steer_at-answer.new.jobs.items c.in-Some.place (next (act_of c.args.control)) (products_left c.args.control (refusal_of c.steer_at-answer.result)) ch
    ∙ products_moved c.args.control (refusal_of c.steer_at-answer.result) c.args.job c.in-Some.place (products_of c.args.state.now) ch.entry.products.items c.in-Some.ensures.some.0
    (moved_at g.T.TableHandle.rows c.args.state.now.jobs.items c.steer_at-answer.new.jobs.items c.in-Some.place (next (act_of c.args.control)) (products_left c.args.control (refusal_of c.steer_at-answer.result)) ch)

pub invariant_of-state-then-is_ok : goal.invariant_of-state-then-is_ok
invariant_of-state-then-is_ok g c =
    let count = moved_count g.T.TableHandle.rows c.args.state.now.jobs.items c.steer_at-answer.new.jobs.items c.in-Some.place (next (act_of c.args.control)) (products_left c.args.control (refusal_of c.steer_at-answer.result)) c.steer_at-answer.ensures.job in
    record { places = omega (arith, count, c.requeue.ensures.capacity, c.args.state.now.places); rising = rising_more 0 _ _ _ c.args.state.now.rising (omega arith); waiting_listed = c.args.state.now.waiting_listed; asked_listed = c.args.state.now.asked_listed }

pub invariant_of-state-else-is_ok : goal.invariant_of-state-else-is_ok
invariant_of-state-else-is_ok g c =
    let count = moved_count g.T.TableHandle.rows c.args.state.now.jobs.items c.steer_at-answer.new.jobs.items c.in-Some.place (next (act_of c.args.control)) (products_left c.args.control (refusal_of c.steer_at-answer.result)) c.steer_at-answer.ensures.job in
    record { places = omega (arith, count, c.args.state.now.places); rising = rising_more 0 _ _ _ c.args.state.now.rising (omega arith); waiting_listed = c.args.state.now.waiting_listed; asked_listed = c.args.state.now.asked_listed }
