use Rattle.std.proofs.Common.{◌≡◌, Some, None, map, sym, ap, ◌∙◌}
use Rattle.std.specs.Prelude.{position}
use Rattle.run_state.specs.States.{claim_of}
use Rattle.run_state.specs.declared.parts.Claim.{Claim}
use Rattle.std.proofs.lemmas.List.Quantifiers.{position-Some}
use Rattle.run_state.proofs.Lists.{claim_absent, claim_out, is_it, none_there}
use Rattle.run_state.proofs.steps.remove_claim.Goals as goal

pub returns-in-Some : goal.returns-in-Some
returns-in-Some c =
    let p = is_it c.args.job c.args.attempt in
    let found : position (is_it c.args.job c.args.attempt) c.args.steps.now.items ≡ Some c.in-Some.place = ap (position (is_it c.args.job c.args.attempt)) (sym c.deref.ensures.value) ∙ (sym c.place_of_claim.ensures ∙ c.in-Some.is) in
    let f = λ (d : Claim). position-Some (is_it c.args.job c.args.attempt) c.args.steps.now.items c.in-Some.place d found in
    ap (map claim_of) c.remove.ensures.items ∙ sym (claim_out c.args.job c.args.attempt c.args.steps.now.items c.in-Some.place c.remove.result (f c.remove.result).0 (f c.remove.result).1 (f c.remove.result).2)

pub returns-in_default : goal.returns-in_default
returns-in_default c =
    let none : position (is_it c.args.job c.args.attempt) c.args.steps.now.items ≡ None = ap (position (is_it c.args.job c.args.attempt)) (sym c.deref.ensures.value) ∙ (sym c.place_of_claim.ensures ∙ c.in_default.is) in
    sym (claim_absent c.args.job c.args.attempt c.args.steps.now.items (none_there _ _ none))
