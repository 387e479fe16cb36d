use Rattle.std.proofs.Common.{◌≡◌, ap, sym, subst, ◌∙◌}
use Rattle.std.specs.Prelude.{codes}
use Rattle.std.specs.String.{string_bytes}
use Rattle.command_line.specs.Forms.{HasForm}
use Rattle.command_line.specs.Values.{value_in, value_of}
use Rattle.command_line.specs.Words.{Say, bytes_of_words, run, fold, cuboids, step}
use Rattle.command_line.specs.declared.form.Form.TheVariants as form
use Rattle.command_line.proofs.ProgramFacts.{cuboids_found, demo_found, fold_found, found, is_there, run_found, same_value, step_found, workers_found}
use Rattle.command_line.proofs.read.order_in.Goals as goal

pub owned-requires : goal.owned-requires
owned-requires c =
    let words = bytes_of_words c.args.words.now in
    let h : HasForm form.Run words = rw c.in-Run.is at c.requires.form in
    is_there _ h.0 (ap (λ f. value_in f (codes "path")) c.requires.matches ∙ (run_found words h.0 h.1 h.2).0)

pub returns-in_ok-owned-in-Run : goal.returns-in_ok-owned-in-Run
returns-in_ok-owned-in-Run c =
    let words = bytes_of_words c.args.words.now in
    let h : HasForm form.Run words = rw c.in-Run.is at c.requires.form in
    let there = ap (λ f. value_in f (codes "path")) c.requires.matches ∙ (run_found words h.0 h.1 h.2).0 in
    let path = same_value _ h.0 _ there c.in_ok-owned-in-Run.ensures in
    let value : value_of c.args.matches.now (codes "workers") ≡ found words (codes "workers") = ap (λ f. value_in f (codes "workers")) c.requires.matches in
    let workers = workers_found words h.0 h.1 c.workers_of.result h.2 (λ e. c.workers_of.ensures.none (value ∙ e)) (λ n few e. c.workers_of.ensures.some n few (value ∙ e)) in
    subst (λ p. Say words (run p c.workers_of.result)) path (subst (λ w. Say words (run h.0 w)) (sym workers) h.2)

pub returns-in-Demo : goal.returns-in-Demo
returns-in-Demo c =
    let words = bytes_of_words c.args.words.now in
    let h : HasForm form.Demo words = rw c.in-Demo.is at c.requires.form in
    let s = h.2 in
    let there = demo_found words h.0 h.1 s.0 s.1 s.2 s.3 s.4.0 in
    let number = c.number_of.ensures s.0 h.0 (ap (λ f. value_in f (codes "number")) c.requires.matches ∙ there.0) s.3 in
    let rows = c.number_of-in-Demo.ensures s.1 h.1 (ap (λ f. value_in f (codes "rows")) c.requires.matches ∙ there.1) s.4.0 in
    (s.0, s.1, s.2, rw number s.3, rw rows s.4)

pub owned-requires-in-Fold : goal.owned-requires-in-Fold
owned-requires-in-Fold c =
    let words = bytes_of_words c.args.words.now in
    let h : HasForm form.Fold words = rw c.in-Fold.is at c.requires.form in
    is_there _ h.0 (ap (λ f. value_in f (codes "path")) c.requires.matches ∙ (fold_found words h.0 h.1).0)

pub returns-in_ok-owned-in-Fold : goal.returns-in_ok-owned-in-Fold
returns-in_ok-owned-in-Fold c =
    let words = bytes_of_words c.args.words.now in
    let h : HasForm form.Fold words = rw c.in-Fold.is at c.requires.form in
    let there = ap (λ f. value_in f (codes "path")) c.requires.matches ∙ (fold_found words h.0 h.1).0 in
    subst (λ p. Say words (fold p)) (same_value _ h.0 _ there c.in_ok-owned-in-Fold.ensures) h.1

pub owned-requires-in-Cuboids : goal.owned-requires-in-Cuboids
owned-requires-in-Cuboids c =
    let words = bytes_of_words c.args.words.now in
    let h : HasForm form.Cuboids words = rw c.in-Cuboids.is at c.requires.form in
    is_there _ h.0 (ap (λ f. value_in f (codes "path")) c.requires.matches ∙ (cuboids_found words h.0 h.1).0)

pub returns-in_ok-owned-in-Cuboids : goal.returns-in_ok-owned-in-Cuboids
returns-in_ok-owned-in-Cuboids c =
    let words = bytes_of_words c.args.words.now in
    let h : HasForm form.Cuboids words = rw c.in-Cuboids.is at c.requires.form in
    let there = ap (λ f. value_in f (codes "path")) c.requires.matches ∙ (cuboids_found words h.0 h.1).0 in
    subst (λ p. Say words (cuboids p)) (same_value _ h.0 _ there c.in_ok-owned-in-Cuboids.ensures) h.1

pub owned-requires-in-Step : goal.owned-requires-in-Step
owned-requires-in-Step c =
    let words = bytes_of_words c.args.words.now in
    let h : HasForm form.Step words = rw c.in-Step.is at c.requires.form in
    is_there _ h.0 (ap (λ f. value_in f (codes "task")) c.requires.matches ∙ (step_found words h.0 h.1 h.2 h.3).0)

pub owned-requires-in-Step-2 : goal.owned-requires-in-Step-2
owned-requires-in-Step-2 c =
    let words = bytes_of_words c.args.words.now in
    let h : HasForm form.Step words = rw c.in-Step.is at c.requires.form in
    is_there _ h.1 (ap (λ f. value_in f (codes "product")) c.requires.matches ∙ (step_found words h.0 h.1 h.2 h.3).1)

pub owned-requires-in-Step-3 : goal.owned-requires-in-Step-3
owned-requires-in-Step-3 c =
    let words = bytes_of_words c.args.words.now in
    let h : HasForm form.Step words = rw c.in-Step.is at c.requires.form in
    is_there _ h.2 (ap (λ f. value_in f (codes "stop")) c.requires.matches ∙ (step_found words h.0 h.1 h.2 h.3).2)

pub returns-in_ok-owned-in-Step-3 : goal.returns-in_ok-owned-in-Step-3
returns-in_ok-owned-in-Step-3 c =
    let words = bytes_of_words c.args.words.now in
    let h : HasForm form.Step words = rw c.in-Step.is at c.requires.form in
    let there = step_found words h.0 h.1 h.2 h.3 in
    let task = same_value _ h.0 _ (ap (λ f. value_in f (codes "task")) c.requires.matches ∙ there.0) c.in_ok-owned-in-Step.ensures in
    let product = same_value _ h.1 _ (ap (λ f. value_in f (codes "product")) c.requires.matches ∙ there.1) c.in_ok-owned-in-Step-2.ensures in
    let stop = same_value _ h.2 _ (ap (λ f. value_in f (codes "stop")) c.requires.matches ∙ there.2) c.in_ok-owned-in-Step-3.ensures in
    subst (λ s. Say words (step (string_bytes c.in_ok-owned-in-Step.field-0) (string_bytes c.in_ok-owned-in-Step-2.field-0) s)) stop
    (subst (λ p. Say words (step (string_bytes c.in_ok-owned-in-Step.field-0) p h.2)) product (subst (λ t. Say words (step t h.1 h.2)) task h.3))
