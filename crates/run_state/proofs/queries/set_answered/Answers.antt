use Rattle.std.proofs.Common.{◌≡◌, ◌==◌, Some, None, true, false, sym, ap, ◌∙◌}
use Rattle.std.specs.Prelude.{position}
use Rattle.run_state.specs.declared.parts.Session.{Session}
use Rattle.std.proofs.lemmas.List.Quantifiers.{position-Some}
use Rattle.std.proofs.lemmas.Bool.{eqb-true}
use Rattle.run_state.proofs.Lists.{answered_set, listed_set, none_there, place_none}
use Rattle.run_state.proofs.queries.set_answered.Goals as goal

pub returns-in-Some-clause-answers : goal.returns-in-Some-clause-answers
returns-in-Some-clause-answers c = λ other.
    let found : position (λ (s : Session). s.session == c.args.session) c.args.sessions.now.items ≡ Some c.in-Some.place = ap (position (λ (s : Session). s.session == c.args.session)) (sym c.deref.ensures.value) ∙ (sym c.place_of_session.ensures ∙ c.in-Some.is) in
    let d : Session = record { session = c.args.session; answered = c.args.version } in
    let f = position-Some (λ (s : Session). s.session == c.args.session) c.args.sessions.now.items c.in-Some.place d found in
    answered_set c.args.sessions.now.items c.in-Some.place c.args.session c.args.version other d f.0 f.1 f.2

pub returns-in-Some-clause-others : goal.returns-in-Some-clause-others
returns-in-Some-clause-others c = λ listed h.
    let found : position (λ (s : Session). s.session == c.args.session) c.args.sessions.now.items ≡ Some c.in-Some.place = ap (position (λ (s : Session). s.session == c.args.session)) (sym c.deref.ensures.value) ∙ (sym c.place_of_session.ensures ∙ c.in-Some.is) in
    let d : Session = record { session = c.args.session; answered = c.args.version } in
    let f = position-Some (λ (s : Session). s.session == c.args.session) c.args.sessions.now.items c.in-Some.place d found in
    listed_set c.args.sessions.now.items c.in-Some.place d d listed f.0 (sym (eqb-true _ c.args.session f.1)) h

pub returns-in_default-clause-answers : goal.returns-in_default-clause-answers
returns-in_default-clause-answers c = λ other.
    let none : position (λ (s : Session). s.session == c.args.session) c.args.sessions.now.items ≡ None = ap (position (λ (s : Session). s.session == c.args.session)) (sym c.deref.ensures.value) ∙ (sym c.place_of_session.ensures ∙ c.in_default.is) in
    let clash : true ≡ false = sym c.requires ∙ place_none c.args.sessions.now.items c.args.session (none_there _ _ none) in
    cc
